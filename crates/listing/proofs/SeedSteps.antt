-- The steps of the search of a seed, by the sets that the code makes, and what the search tells. Assumes nothing.
use Rattle.std.proofs.Common.{◌≡◌, ℕ, ◌+◌, ◌<◌, ◌≤◌, false, List, Some, None, sym, ap, ◌∙◌, subst, arith}
use lib.Bits.{bit_and, bit_or}
use Rattle.std.proofs.lemmas.Bool.{false_from_ne_true}
use Rattle.sets.specs.Members.{none, added_from, minus}
use Rattle.sets.specs.Requests.{widest, names}
use Rattle.sets.specs.declared.Members.{Members}
use Rattle.sets.proofs.Naming.{set_adds}
use Rattle.listing.specs.Orders.{keeps_more}
use Rattle.listing.specs.Seed.{as_set, seed_set}
use Rattle.listing.specs.Settling.{IsBetween, IsSought}
use Rattle.listing.specs.declared.lines.Line.{Line}
use Rattle.listing.proofs.Orders.{order_laws}
use Rattle.listing.specs.Deciding.{IsBest}
use Rattle.listing.specs.Lines.{NothingLeft}
use Rattle.listing.proofs.SeedBest.{wider_between, apart, kept_best, left_best, last_best}
use Rattle.listing.proofs.SettleBits.{OneMore, freed_one, united_one}

-- request r is decided: it is taken from the free requests, and added to those that are kept
module _ (width : ℕ) (lines : List Line) (r free kept best : ℕ) (h : IsBest width lines r free kept best) (some : 0 < r) (few : r ≤ width)
    (narrow : width ≤ widest) (one less more : ℕ) (is_one : one ≡ added_from 1 none r) (is_less : less ≡ minus free one) (is_more : more ≡ bit_or kept one) where
  without : OneMore less free r
  without =
      subst (λ n. OneMore n free r) (sym (is_less ∙ ap (minus free) is_one)) (freed_one free r some (omega arith) ((h.left r).1 (omega arith, few)))

  with : OneMore kept more r
  with =
      let away : names kept r ≡ false = false_from_ne_true (names kept r) (λ k. let low : r < r = h.low r k in omega arith) in
      subst (λ n. OneMore kept n r) (sym (is_more ∙ ap (bit_or kept) is_one)) (united_one kept r some (omega arith) away)

  pub step_apart : bit_and more less ≡ none
  step_apart = apart width lines r free kept best h less without more with

  pub step_between : IsBetween more less (added_from 1 best r)
  step_between =
      let adds = set_adds best r some (omega arith) in
      wider_between width lines r free kept best h less without more with (added_from 1 best r) adds.0 adds.1

  -- if something is found with it, that is the next set in best; if nothing is, the set in best stays
  pub step_found : (kept_next better next : ℕ) → kept_next ≡ more → next ≡ better → IsSought lines more less better
      → IsBest width lines (r + 1) less kept_next next
  step_found kept_next better next e f s =
      subst (λ k. IsBest width lines (r + 1) less k next) (sym e)
      (subst (IsBest width lines (r + 1) less more) (sym f) (kept_best width lines r free kept best h less without more with better s))

  pub step_none : (kept_next next : ℕ) → kept_next ≡ kept → next ≡ best → ((t : ℕ) → IsSought lines more less t → ⊥)
      → IsBest width lines (r + 1) less kept_next next
  step_none kept_next next e f nothing =
      subst (λ k. IsBest width lines (r + 1) less k next) (sym e)
      (subst (IsBest width lines (r + 1) less kept) (sym f) (left_best width lines r free kept best h less without more with nothing))

-- once all requests are decided, the set in best is the seed
pub told_seed : (width : ℕ) (lines : List Line) (r free kept : ℕ) (best : Members 1) → IsBest width lines r free kept best.bits → width < r
    → Some best ≡ seed_set width lines
told_seed width lines r free kept best h end =
    sym (ap as_set ((order_laws.1 (keeps_more width) width lines best.bits (order_laws.0 width)).1 (last_best width lines r free kept best.bits h end)))

-- and where nothing is left there is none
pub told_none : (width : ℕ) (lines : List Line) → NothingLeft width lines → None ≡ seed_set width lines
told_none width lines nothing = sym (ap as_set ((order_laws.2 (keeps_more width) width lines (order_laws.0 width)).1 nothing))
