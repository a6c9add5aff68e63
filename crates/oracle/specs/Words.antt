-- What the refusals of the calls of an oracle mean, in words. Assumes nothing.
use Rattle.std.specs.Prelude.{ℕ, List, ◌++◌, codes, decimal}
use Rattle.oracle.specs.declared.CheckRefusal.{CheckRefusal}
use Rattle.oracle.specs.declared.CheckRefusal.TheVariants.{Outside, Spent}
use Rattle.oracle.specs.declared.GrantRefusal.{GrantRefusal}
use Rattle.oracle.specs.declared.GrantRefusal.TheVariants.{Over}

-- why a check is refused; the label is that of whoever counts the checks
abbrev pub check_words : CheckRefusal → List ℕ
check_words Outside = codes "the set has a request above the width (OUTSIDE)"
check_words (Spent label) =
    codes "no check is left at label " ++ (decimal label ++ codes " (SPENT)")

-- why a grant is refused
abbrev pub grant_words : GrantRefusal → List ℕ
grant_words Over = codes "more than 1,000,000 checks cannot be granted at once (OVER)"
