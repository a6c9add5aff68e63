-- That nothing unexplored goes before a set: at first, after a further line, and after a seed. Assumes nothing.
use Rattle.std.proofs.Common.{◌≡◌, ℕ, Bool, true, false, List, [], ◌∷◌, ◌++◌, Option, Some, None, sym, ap, ◌∙◌, inl, inr}
use Rattle.std.proofs.lemmas.Bool.{true≢false, false_from_ne_true, cases_eq}
use Rattle.std.specs.Prelude.{cond, nat_lt, length}
use Rattle.sets.specs.Requests.{everyone, Within}
use Rattle.sets.specs.Sets.{bits_of, set_of}
use Rattle.sets.specs.declared.Members.{Members}
use Rattle.sets.proofs.Weights.{set_laws}
use Rattle.listing.specs.Lines.{IsUnexplored, explored, most_lines}
use Rattle.listing.specs.Listed.{with_one}
use Rattle.listing.specs.Orders.{IsOrder, IsForemost, NothingBefore, keeps_more}
use Rattle.listing.specs.Seed.{as_set, seed_of, seed_set}
use Rattle.listing.specs.declared.lines.Line.{Line}
use Rattle.listing.proofs.Falling.{left_before}
use Rattle.listing.proofs.Orders.{order_laws}
use Rattle.listing.proofs.SettleBits.{request_some}

module _ (width : ℕ) (before : ℕ → ℕ → Bool) (order : IsOrder width before) where
  -- no set goes before itself
  not_itself : (s : ℕ) → before s s ≡ false
  not_itself s = false_from_ne_true (before s s) (λ e. true≢false (sym e ∙ order.one_way s s e))

  -- the set of all requests goes before each other
  pub nothing_at_first : (lines : List Line) → NothingBefore before width lines (everyone width)
  nothing_at_first lines s left =
      elim (cases_eq s (everyone width)) [
        | inl same ↦ ap (before s) (sym same) ∙ not_itself s
        | inr other ↦
            let inside = set_laws.3 width s left.0 in
            let part = set_laws.2 s (everyone width) (λ q held. (set_laws.5 width q).1 (request_some s q held, inside q held)) in
            order.one_way (everyone width) s (order.whole_first s (everyone width) (set_laws.4 width (everyone width) (λ q held. ((set_laws.5 width q).0 held).1)) (part, other))
      ]

  -- and the foremost unexplored one goes before each other unexplored one
  nothing_before_foremost : (lines : List Line) (t : ℕ) → IsForemost before (IsUnexplored width lines) t → NothingBefore before width lines t
  nothing_before_foremost lines t foremost s left =
      elim (cases_eq s t) [
        | inl same ↦ ap (before s) (sym same) ∙ not_itself s
        | inr other ↦ order.one_way t s (foremost.1 s left other)
      ]

-- a further line explores no less
pub nothing_still : (before : ℕ → ℕ → Bool) (width : ℕ) (lines : List Line) (x : Line) (t : ℕ) → NothingBefore before width lines t
    → NothingBefore before width (with_one lines x) t
nothing_still before width lines x t led s left =
    let told : (b : Bool) → IsUnexplored width (cond b (lines ++ x ∷ []) lines) s → before s t ≡ false =
    λ b. elim b as (λ k. IsUnexplored width (cond k (lines ++ x ∷ []) lines) s → before s t ≡ false) [
      | true ↦ λ left. led s (left.0, (left_before lines (x ∷ []) s left.1).0)
      | false ↦ λ left. led s left
    ]
    in told (nat_lt (length lines) most_lines) left

-- while top is not explored, it is the seed
pub seed_stays : (width : ℕ) (lines : List Line) (top : Members 1) → Within width top.bits → NothingBefore (keeps_more width) width lines top.bits
    → explored lines top.bits ≡ false → Some top ≡ seed_set width lines
seed_stays width lines top inside led left =
    let order = order_laws.0 width in
    sym (ap as_set ((order_laws.1 (keeps_more width) width lines top.bits order).1 (
      (inside, left),
      λ t found other. elim (order.total top.bits t inside found.0 (λ e. other (sym e))) [ inl e ↦ e | inr e ↦ absurd (true≢false (sym e ∙ led t found)) ],
    )))

-- so nothing goes before the seed
told_bits : (found : Option ℕ) (best : Members 1) → Some best ≡ as_set found → found ≡ Some best.bits
told_bits None best e = absurd (cc)
told_bits (Some s) best e = let same : best ≡ set_of s = cc in ap (λ m. Some (bits_of m)) (sym same)

pub seed_foremost : (width : ℕ) (lines : List Line) (best : Members 1) → Some best ≡ seed_set width lines
    → IsForemost (keeps_more width) (IsUnexplored width lines) best.bits
seed_foremost width lines best e =
    (order_laws.1 (keeps_more width) width lines best.bits (order_laws.0 width)).0 (told_bits (seed_of width lines) best e)

pub nothing_before_seed : (width : ℕ) (lines : List Line) (best : Members 1) → Some best ≡ seed_set width lines
    → NothingBefore (keeps_more width) width lines best.bits
nothing_before_seed width lines best e =
    nothing_before_foremost width (keeps_more width) (order_laws.0 width) lines best.bits (seed_foremost width lines best e)
