-- The depth of a halving is enough, and what bills add up to. Assumes nothing.
use Rattle.std.proofs.Common.{ℕ, ◌^◌, ◌≤◌, cond, leb, [], ◌∷◌, arith}
use Rattle.std.proofs.lemmas.Bool.{cond_both, leb-true}
use Rattle.listing.specs.Bill.{bill, DepthIsEnough, BillSplits, BillsAre, BillLaws}
use Rattle.listing.specs.declared.lines.Line.TheVariants.{Conflict, Relaxation}

-- a depth that is enough for widths up to a most, or else one that is
enough_or : (width most here deeper : ℕ) → (width ≤ most → width ≤ 2 ^ here) → width ≤ 2 ^ deeper → width ≤ 2 ^ cond (leb width most) here deeper
enough_or width most here deeper f rest =
    cond_both (leb width most) here deeper (λ d. width ≤ 2 ^ d) (λ e. f (leb-true width most e)) (λ more. rest)

depth_is_enough : DepthIsEnough
depth_is_enough width small =
    enough_or width 1 0 _ (λ h. h)
    (enough_or width 2 1 _ (λ h. h)
    (enough_or width 4 2 _ (λ h. h) (enough_or width 8 3 _ (λ h. h) (enough_or width 16 4 5 (λ h. h) small))))

bill_splits : BillSplits
unfolding bill
bill_splits d j k some = omega arith

pub bills_are : BillsAre
unfolding bill
bills_are d [] = omega arith
bills_are d (Conflict c ∷ xs) = omega (arith, bills_are d xs)
bills_are d (Relaxation r ∷ xs) = bills_are d xs

pub bill_laws : BillLaws
bill_laws = (depth_is_enough, bill_splits, bills_are)
