-- What the layers mean, from what the oracles below them mean. Assumes nothing.
use Rattle.std.specs.Prelude.{ℕ, min, Bool, true, false, cond, ◌&&◌, List, Some, None, Option}
use Rattle.std.specs.List.{list_any}
use Rattle.sets.specs.Requests.{part}
use Rattle.oracle.specs.Asking.{nought}
use Rattle.oracle.specs.Meaning.{Meaning}

-- the smaller of two allowances; an endless one is the largest
abbrev pub lesser : Option ℕ → Option ℕ → Option ℕ
lesser None b = b
lesser (Some a) None = Some a
lesser (Some a) (Some b) = Some (min a b)

-- Both: fit if both sides call it fit; the label is the left's if the left has nought, otherwise
-- the right's
abbrev pub both : Meaning → Meaning → Meaning
both l r = record {
  width = min l.width r.width;
  fit = λ s. l.fit s && r.fit s;
  allowance = lesser l.allowance r.allowance;
  label = cond (nought l.allowance) l.label r.label;
}

-- Quota: a number of its own above what is below; the label is its own if its number is nought,
-- otherwise that below
abbrev pub quota : (number label : ℕ) → Meaning → Meaning
quota number label m = record {
  width = m.width;
  fit = m.fit;
  allowance = lesser (Some number) m.allowance;
  label = cond (nought (Some number)) label m.label;
}

-- whether a set is part of one of those kept
abbrev pub under_one : ℕ → List ℕ → Bool
under_one s ks = list_any (λ k. part s k) ks

-- whether a set contains one of those kept
abbrev pub over_one : ℕ → List ℕ → Bool
over_one s ks = list_any (λ k. part k s) ks

-- what the kept sets say of a set, if they decide
abbrev pub known : (fits unfits : List ℕ) → ℕ → Option Bool
known fits unfits s =
    cond (under_one s fits) (Some true) (cond (over_one s unfits) (Some false) None)

-- the verdict, if one is decided, and otherwise the one below
abbrev pub or_below : Option Bool → Bool → Bool
or_below (Some v) w = v
or_below None w = w

-- Cover: a part of a kept fit set is fit; otherwise a set that contains a kept unfit set is unfit;
-- otherwise the verdict below
abbrev pub cover : (fits unfits : List ℕ) → Meaning → Meaning
cover fits unfits m = record {
  width = m.width;
  fit = λ s. or_below (known fits unfits s) (m.fit s);
  allowance = m.allowance;
  label = m.label;
}
