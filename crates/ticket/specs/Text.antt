-- The text of a ticket, from its numbers and its rules. Assumes nothing.
use Rattle.std.specs.Prelude.{ℕ, cond, List, [], ◌++◌, Some, None, codes, decimal, Option}
use Rattle.std.specs.List.{flat_map}
use Rattle.std.specs.Fmt.{signed_decimal}
use Rattle.rules.specs.declared.Body.{Body}
use Rattle.rules.specs.declared.Body.TheVariants.{Options, Gap, Faces}
use Rattle.rules.specs.declared.Rule.{Rule}
use Rattle.sets.specs.Masks.{number_of}
use Rattle.sets.specs.Members.{members}
use Rattle.ticket.specs.declared.reader.Header.{Header}

-- a comma and the number, for each member of a set, rising
abbrev pub set_text : ℕ → List ℕ
set_text s = flat_map (λ n. codes "," ++ decimal n) (members s)

-- `-` where there is no head
abbrev pub head_text : Option ℕ → List ℕ
head_text None = codes "-"
head_text (Some n) = decimal n

-- a rule's key, its owner and what it says
abbrev pub body_text : (owner : ℕ) → Body → List ℕ
body_text owner (Options head s) = codes "h=" ++ (decimal owner ++ (codes "," ++ (head_text head ++ set_text (number_of s.members))))
body_text owner (Gap a b w) = codes "g=" ++ (decimal owner ++ (codes "," ++ (decimal a ++ (codes "," ++ (decimal b ++ (codes "," ++ signed_decimal w))))))
body_text owner (Faces odd s) = codes "f=" ++ (decimal owner ++ (codes "," ++ (cond odd (codes "1") (codes "0") ++ set_text (number_of s.members))))

-- a blank rule has no text
abbrev pub rule_text : (owner : ℕ) → Option Body → List ℕ
rule_text owner None = []
rule_text owner (Some b) = body_text owner b

-- byte 10 ends each line
abbrev pub line_text : Rule → List ℕ
line_text r = rule_text r.owner r.body ++ codes "\n"

-- the four header lines
abbrev pub header_text : Header → List ℕ
header_text h = codes "ticket=1\n" ++ (codes "requests=" ++ (decimal h.requests ++ (codes "\nchecks=" ++ (decimal h.checks ++ (codes "\nrules=" ++ (decimal h.rules ++ codes "\n"))))))

-- the whole text
abbrev pub text_of : Header → List Rule → List ℕ
text_of h rs = header_text h ++ (flat_map line_text rs ++ codes "end=ticket\n")
