-- How the least options that serve are found: from none on, each rule whose set is on turns its head on. Assumes nothing.
-- These are steps of a search, which only private functions promise; what it finds is said in words of choices, in specs/Found.antt.
use Rattle.std.specs.Prelude.{ℕ, zero, suc, Bool, false, cond, ◌||◌, List, [], ◌∷◌, Some, None, Option, ◌==◌}
use Rattle.sets.specs.Masks.{number_of}
use Rattle.sets.specs.Members.{none, added}
use Rattle.sets.specs.Requests.{part}
use Rattle.rules.specs.declared.Body.{Body}
use Rattle.rules.specs.declared.Body.TheVariants.{Options, Gap, Faces}

-- the options with the head on, if there is one
abbrev pub with_head : Option ℕ → ℕ → ℕ
with_head None on = on
with_head (Some h) on = added on h

-- a rule whose set is on turns its head on
abbrev pub turned : Body → ℕ → ℕ
turned (Options head s) on = cond (part (number_of s.members) on) (with_head head on) on
turned (Gap a b w) on = on
turned (Faces odd s) on = on

-- what is not said turns nothing on
abbrev pub turned_if : Option Body → ℕ → ℕ
turned_if None on = on
turned_if (Some b) on = turned b on

-- every rule in turn
abbrev pub sweep : List Body → ℕ → ℕ
sweep [] on = on
sweep (b ∷ bs) on = sweep bs (turned b on)

-- sweeps until one changes nothing, so many at most
abbrev pub spread : (turns : ℕ) → List Body → ℕ → ℕ
spread zero bs on = on
spread (suc turns) bs on = cond (sweep bs on == on) on (spread turns bs (sweep bs on))

-- each sweep but the last turns one of 32 options on
abbrev pub most_sweeps : ℕ
most_sweeps = 33

-- a headless rule does not allow all of its set to be on
abbrev pub bars : Body → ℕ → Bool
bars (Options None s) on = part (number_of s.members) on
bars (Options (Some h) s) on = false
bars (Gap a b w) on = false
bars (Faces odd s) on = false

-- the same of what a rule may say
abbrev pub bars_if : Option Body → ℕ → Bool
bars_if None on = false
bars_if (Some b) on = bars b on

-- whether some rule does not allow what is on
abbrev pub barred : List Body → ℕ → Bool
barred [] on = false
barred (b ∷ bs) on = bars b on || barred bs on

-- these options, unless some rule does not allow them
abbrev pub unless_barred : List Body → ℕ → Option ℕ
unless_barred bs on = cond (barred bs on) None (Some on)

-- the least options that serve; none where no options serve
abbrev pub least : List Body → Option ℕ
least bs = unless_barred bs (spread most_sweeps bs none)
