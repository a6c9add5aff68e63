-- The least places of the marks that meet the gaps, found in rounds. Assumes nothing.
-- These are steps of a search, which only private functions promise; what it finds is said in words of choices, in specs/Found.antt.
use Rattle.std.specs.Prelude.{ℕ, zero, suc, Bool, false, cond, ◌||◌, List, [], ◌∷◌, replicate, ℤ, pos, ◌-ℤ◌, ◌≤ℤ◌, Some, None, Option, int_lt, slice_set}
use Rattle.rules.specs.Choices.{place}
use Rattle.rules.specs.Limits.{last_mark}
use Rattle.rules.specs.declared.Body.{Body}
use Rattle.rules.specs.declared.Body.TheVariants.{Options, Gap, Faces}

-- how many marks there are
abbrev pub marks : ℕ
marks = suc last_mark

-- no mark lies below nought, and none above n
abbrev pub Between : (n : ℕ) → List ℤ → Type 0
Between n ps = (i : ℕ) → (pos 0 ≤ℤ place ps i) × (place ps i ≤ℤ pos n)

-- whether a rule lifts mark b, which then lies below mark a less w; other kinds lift nothing
abbrev pub lifts : Body → (old new : List ℤ) → Bool
lifts (Options head s) old new = false
lifts (Gap a b w) old new = int_lt (place new b) (place old a -ℤ w)
lifts (Faces odd s) old new = false

-- whether a rule lifts a mark from where it lies
abbrev pub moves : List Body → List ℤ → Bool
moves [] ps = false
moves (b ∷ bs) ps = lifts b ps ps || moves bs ps

-- mark b goes up to this place, if it lies below
abbrev pub lifted : (b : ℕ) (to : ℤ) → List ℤ → List ℤ
lifted b to ps = cond (int_lt (place ps b) to) (slice_set ps b to) ps

-- one rule lifts mark b to mark a less w, by the old places
abbrev pub raised : Body → (old new : List ℤ) → List ℤ
raised (Options head s) old new = new
raised (Gap a b w) old new = lifted b (place old a -ℤ w) new
raised (Faces odd s) old new = new

-- every rule in turn, by the old places
abbrev pub raised_all : List Body → (old new : List ℤ) → List ℤ
raised_all [] old new = new
raised_all (b ∷ bs) old new = raised_all bs old (raised b old new)

-- rounds until the marks rest, so many at most; none if the last round still moves one
abbrev pub rounds : (turns : ℕ) → List Body → List ℤ → Option (List ℤ)
rounds zero bs ps = None
rounds (suc turns) bs ps = cond (moves bs ps) (rounds turns bs (raised_all bs ps ps)) (Some ps)

-- all marks lie at nought
abbrev pub all_nought : List ℤ
all_nought = replicate marks (pos 0)

-- as many rounds as there are marks, from nought on
unfoldable pub lowest : List Body → Option (List ℤ)
lowest bs = rounds marks bs all_nought
