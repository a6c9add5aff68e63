-- What may stand on a ticket is what the oracles take for a rule: no rule that is read counts as blank. Assumes nothing.
use Rattle.std.specs.Prelude.{◌≡◌, ℕ, ◌^◌, ◌<◌, ◌≤◌, true, ◌⊎◌, List, Ok}
use Rattle.std.specs.List.{AllByRecursion}
use Rattle.sets.specs.Masks.{number_of}
use Rattle.sets.specs.Members.{places}
use Rattle.sets.specs.Requests.{widest, names}
use Rattle.rules.specs.Force.{body_valid, in_force}
use Rattle.rules.specs.declared.Body.{Body}
use Rattle.rules.specs.declared.Body.TheVariants.{Options, Gap, Faces}
use Rattle.rules.specs.declared.Rule.{Rule}
use Rattle.ticket.specs.Reading.{reading}
use Rattle.ticket.specs.Tickets.{BodyInRange, RuleInRange}
use Rattle.ticket.specs.declared.reader.Header.{Header}

-- what a rule line may say, the oracles take for what some rule line can say
abbrev pub RangeIsValid : Type 0
RangeIsValid = (b : Body) → BodyInRange b → body_valid b ≡ true

-- the set of a body, if it has one, is of numbers from 0 to 31
abbrev pub InPlaces : Body → Type 0
InPlaces (Options head s) = number_of s.members < 2 ^ places
InPlaces (Gap a b w) = Unit {0}
InPlaces (Faces odd s) = number_of s.members < 2 ^ places

-- and what they take for it, a rule line may say
abbrev pub ValidIsRange : Type 0
ValidIsRange = (b : Body) → InPlaces b → body_valid b ≡ true → BodyInRange b

-- if the rule is the house's, or that of a request in the set, all that it says is in force for the set
abbrev pub Counts : (s : ℕ) → Rule → Type 0
Counts s r = (r.owner ≡ 0) ⊎ (names s r.owner ≡ true) → in_force s r ≡ r.body

-- so it is with every rule in range
abbrev pub InRangeCounts : Type 0
InRangeCounts = (requests s : ℕ) (r : Rule) → requests ≤ widest → RuleInRange requests r → Counts s r

-- and with every rule that is read
abbrev pub ReadCounts : Type 0
ReadCounts = (text : List ℕ) (room s : ℕ) (h : Header) (rs : List Rule) → reading text room ≡ Ok (h, rs) → AllByRecursion (Counts s) rs

-- all of these
abbrev pub EveryRuleCounts : Type 0
EveryRuleCounts = RangeIsValid × ValidIsRange × InRangeCounts × ReadCounts
