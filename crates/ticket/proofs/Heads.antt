-- Heads and sets of a rule, and the values that they are written by. Assumes nothing.
use Rattle.std.proofs.Common.{◌≡◌, ℕ, ◌≤◌, leb, List, ◌++◌, map, length, Some, None, codes, decimal, Option, sym, refl, ap, ◌∙◌, subst, arith}
use Rattle.std.proofs.lemmas.Bool.{and_parts, and_from, leb-true, le-leb}
use Rattle.std.specs.List.{flat_map}
use Rattle.sets.specs.Members.{none, added_all, members}
use Rattle.ticket.specs.Ruled.{head_of}
use Rattle.ticket.specs.Text.{set_text, head_text}
use Rattle.ticket.specs.Tickets.{SetOf, HeadInRange}
use Rattle.rules.specs.Limits.{last_option}
use Rattle.fields.specs.declared.layout.Column.{Column}
use Rattle.fields.specs.declared.layout.Style.TheVariants.{Head}
use Rattle.fields.specs.declared.value.Value.{Value}
use Rattle.fields.specs.declared.value.Value.TheVariants.{Dash, Plain, Signed}
use Rattle.fields.proofs.Commas.{tailed}
use Rattle.fields.proofs.Placed.{Fits}
use Rattle.ticket.proofs.Risen.{members_tailed}
use Rattle.sets.proofs.Rising.{Rising, members_added, added_small}
use Rattle.fields.proofs.Spelling.{spelled}

-- HEADS

abbrev pub head_value : Option ℕ → Value
head_value None = Dash
head_value (Some n) = Plain n

abbrev pub head_column : Column
head_column = record { style = Head; low = 0; high = last_option }

pub head_fits : (v : Value) → Fits head_column v → (o : Option ℕ) × (v ≡ head_value o) × HeadInRange o
head_fits Dash fits = (None, refl, tt)
head_fits (Plain n) fits = (Some n, refl, leb-true n last_option (and_parts (leb 0 n) (leb n last_option) fits.1).1)
head_fits (Signed z) fits = absurd fits.0

pub fits_head : (o : Option ℕ) → HeadInRange o → Fits head_column (head_value o)
fits_head None range = (tt, refl)
fits_head (Some n) range = (omega arith, and_from (leb 0 n) (leb n last_option) (le-leb 0 n (omega arith)) (le-leb n last_option range))

pub head_again : (o : Option ℕ) → head_of (head_value o) ≡ o
head_again None = refl
head_again (Some n) = refl

pub head_spelled : (o : Option ℕ) → head_text o ≡ spelled (head_value o)
head_spelled None = refl
head_spelled (Some n) = refl

-- SETS

-- rising numbers, so many, make a set in range
pub set_in_range : (least : ℕ) (ns : List ℕ) → Rising 0 ns → least ≤ length ns → length ns ≤ 8 → SetOf least 8 (added_all none ns)
set_in_range least ns r low high =
    let same : ns ≡ members (added_all none ns) = sym (members_added ns r) in
    (added_small ns r, subst (λ (ms : List ℕ). least ≤ length ms) same low, subst (λ (ms : List ℕ). length ms ≤ 8) same high)

-- the text of the set that they make
pub set_text_added : (ns : List ℕ) → Rising 0 ns → set_text (added_all none ns) ≡ tailed (map spelled (map Plain ns))
set_text_added ns r = ap (flat_map (λ n. codes "," ++ decimal n)) (members_added ns r) ∙ members_tailed ns
