-- Facts about each body of a list, and about its gaps. Assumes nothing.
use Rattle.std.proofs.Common.{ℕ, ◌<◌, ◌≤◌, ◌&&◌, leb, List, [], ◌∷◌, ℤ, nat_abs, arith}
use Rattle.std.proofs.lemmas.Bool.{and_parts, leb-true}
use Rattle.rules.specs.Choices.{Every}
use Rattle.rules.specs.Limits.{last_mark, widest_gap}
use Rattle.rules.specs.Rounds.{marks}
use Rattle.rules.specs.declared.Body.{Body}
use Rattle.rules.specs.declared.Body.TheVariants.{Options, Gap, Faces}
use Rattle.rules.proofs.Saying.{Valid}

-- what a gap keeps to
abbrev pub Fair : (a b : ℕ) → ℤ → Type 0
Fair a b w = (a < marks) × (b < marks) × (nat_abs w ≤ widest_gap)

pub fair : (a b : ℕ) (w : ℤ) → Valid (Gap a b w) → Fair a b w
fair a b w v =
    let p = and_parts (leb a last_mark && leb b last_mark) (leb (nat_abs w) widest_gap) v in
    let q = and_parts (leb a last_mark) (leb b last_mark) p.0 in
    (omega (arith, leb-true a last_mark q.0), omega (arith, leb-true b last_mark q.1), leb-true (nat_abs w) widest_gap p.1)

-- a fact about the gaps alone
abbrev pub OfGap : (ℕ → ℕ → ℤ → Type 0) → Body → Type 0
OfGap P (Options head s) = Unit {0}
OfGap P (Gap a b w) = P a b w
OfGap P (Faces odd s) = Unit {0}

-- what holds of every gap that keeps to it
pub gaps_all :
    {R : ℕ → ℕ → ℤ → Type 0} → ((a b : ℕ) (w : ℤ) → Fair a b w → R a b w) → (bs : List Body) → Every Valid bs → Every (OfGap R) bs
gaps_all f [] v = tt
gaps_all f (Options head s ∷ bs) v = (tt, gaps_all f bs v.1)
gaps_all f (Gap a b w ∷ bs) v = (f a b w (fair a b w v.0), gaps_all f bs v.1)
gaps_all f (Faces odd s ∷ bs) v = (tt, gaps_all f bs v.1)

-- two facts about each gap give a third
pub gaps_give :
    {P Q R : ℕ → ℕ → ℤ → Type 0} → ((a b : ℕ) (w : ℤ) → Fair a b w → P a b w → Q a b w → R a b w)
    → (bs : List Body) → Every Valid bs → Every (OfGap P) bs → Every (OfGap Q) bs → Every (OfGap R) bs
gaps_give f [] v p q = tt
gaps_give f (Options head s ∷ bs) v p q = (tt, gaps_give f bs v.1 p.1 q.1)
gaps_give f (Gap a b w ∷ bs) v p q = (f a b w (fair a b w v.0) p.0 q.0, gaps_give f bs v.1 p.1 q.1)
gaps_give f (Faces odd s ∷ bs) v p q = (tt, gaps_give f bs v.1 p.1 q.1)
