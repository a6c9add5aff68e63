-- What an oracle means. Assumes nothing.
use Rattle.std.specs.Prelude.{◌≡◌, ℕ, ◌≤◌, Bool, true, Some, None, Option}
use Rattle.sets.specs.Requests.{widest, Within, Part}

-- how many requests there are, which sets of them are fit, how many checks are left (none where
-- they are endless), and the label of whoever counts them
pub record Meaning : Type 0 where
  pub width : ℕ
  pub fit : ℕ → Bool
  pub allowance : Option ℕ
  pub label : ℕ

-- the most checks that can be counted
abbrev pub limit : ℕ
limit = 1000000

-- the greatest label
abbrev pub last_label : ℕ
last_label = 255

-- an allowance that is counted is at most the limit
abbrev pub Counted : Option ℕ → Type 0
Counted None = Unit {0}
Counted (Some n) = n ≤ limit

-- the law of the verdict: every part of a fit set is fit
abbrev pub Downward : (width : ℕ) → (ℕ → Bool) → Type 0
Downward width fit = (t s : ℕ) → Within width s → Part t s → fit s ≡ true → fit t ≡ true

-- what holds of every oracle
pub record Lawful (m : Meaning) : Type 0 where
  pub narrow : m.width ≤ widest
  pub counted : Counted m.allowance
  pub labelled : m.label ≤ last_label
  pub downward : Downward m.width m.fit

-- what every call keeps: the width, and the verdict on every set within it
pub record Kept (m n : Meaning) : Type 0 where
  pub width : n.width ≡ m.width
  pub fit : (s : ℕ) → Within m.width s → n.fit s ≡ m.fit s

-- what a refusal leaves: the whole meaning
pub record Unchanged (m n : Meaning) : Type 0 where
  pub kept : Kept m n
  pub allowance : n.allowance ≡ m.allowance
  pub label : n.label ≡ m.label
