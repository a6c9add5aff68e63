use Rattle.std.proofs.Common.{◌≡◌, ◌≢◌, ◌^◌, ◌<◌, false, true, length, arith, rules, refl, sym, ◌∙◌, subst}
use Rattle.std.proofs.lemmas.Bool.{eqb-true, eqb-false, true≢false}
use Rattle.sets.specs.Members.{none, added_from, minus}
use Rattle.sets.proofs.Weights.{part_names}
use Rattle.listing.specs.Settling.{Settles, SettledWhere}
use Rattle.listing.proofs.SettleCases.{less_members, less_smaller, found_with, none_with, told_without, decided}
use Rattle.listing.proofs.SettleEnds.{shortest_cut, shortest_part, empty_conflict, empty_drop, all_settles, none_settles}
use Rattle.listing.proofs.settle.+settle.Goals as goal
use Rattle.listing.proofs.settle.+settle.Goals.{settle-then-is_empty-3, settle-else-is_empty-3}

pub settle-returns-then-is_empty : goal.settle-returns-then-is_empty
settle-returns-then-is_empty t c =
    empty_drop c.args.free.bits c.in-None-Some.drop.bits c.args.conflicts.now c.args.drops.now c.in-None-Some.ensures
    (eqb-true c.in-None-Some.drop.bits none (sym c.is_empty.ensures ∙ c.if-is_empty.true))

pub settle-returns-else-is_empty : goal.settle-returns-else-is_empty
settle-returns-else-is_empty t c =
    let some = eqb-false c.in-None-Some.drop.bits none (sym c.is_empty.ensures ∙ c.if-is_empty.false) in
    let none_there : length c.args.conflicts.now ≡ 0 = search rules in
    all_settles c.args.free.bits c.args.conflicts.now c.args.drops.now none_there
    (shortest_cut c.args.free.bits c.in-None-Some.drop.bits c.args.drops.now c.in-None-Some.ensures some)

pub settle-returns-else-is_empty-2 : goal.settle-returns-else-is_empty-2
settle-returns-else-is_empty-2 t c =
    let some = eqb-false c.in-Some-None.conflict.bits none (sym c.is_empty-in-Some-None.ensures ∙ c.if-is_empty-2.false) in
    subst (λ n. Settles c.args.free.bits c.args.conflicts.now c.args.drops.now n) (sym c.empty.ensures)
    (none_settles c.args.free.bits c.args.conflicts.now c.args.drops.now c.in-Some-None.ensures'
    (shortest_cut c.args.free.bits c.in-Some-None.conflict.bits c.args.conflicts.now c.in-Some-None.ensures some))

pub settle-returns-then-is_empty-4 : goal.settle-returns-then-is_empty-4
settle-returns-then-is_empty-4 t c =
    elim c.if-is_empty-3.branch [
      | settle-then-is_empty-3 w ↦
          empty_conflict c.args.free.bits c.in-Some-Some.conflict.bits c.args.conflicts.now c.args.drops.now c.in-Some-Some.ensures
          (eqb-true c.in-Some-Some.conflict.bits none (sym c.is_empty-in-Some-Some.ensures ∙ w.if-is_empty-3.true))
      | settle-else-is_empty-3 w ↦
          empty_drop c.args.free.bits c.in-Some-Some.drop.bits c.args.conflicts.now c.args.drops.now c.in-Some-Some.ensures'
          (eqb-true c.in-Some-Some.drop.bits none (sym w.is_empty-else-is_empty-3.ensures ∙ sym w.value-is ∙ c.if-is_empty-4.true))
    ]

pub settle-branch-free-requires : goal.settle-branch-free-requires
settle-branch-free-requires t c =
    let conflict_some : c.in-Some-Some.conflict.bits ≢ none =
    elim c.if-is_empty-3.branch [
      | settle-then-is_empty-3 w ↦ absurd (true≢false (sym w.if-is_empty-3.true ∙ sym w.value-is ∙ c.if-is_empty-4.false))
      | settle-else-is_empty-3 w ↦ eqb-false c.in-Some-Some.conflict.bits none (sym c.is_empty-in-Some-Some.ensures ∙ w.if-is_empty-3.false)
    ]
    in
    let drop_some : c.in-Some-Some.drop.bits ≢ none =
    elim c.if-is_empty-3.branch [
      | settle-then-is_empty-3 w ↦ absurd (true≢false (sym w.if-is_empty-3.true ∙ sym w.value-is ∙ c.if-is_empty-4.false))
      | settle-else-is_empty-3 w ↦ eqb-false c.in-Some-Some.drop.bits none (sym w.is_empty-else-is_empty-3.ensures ∙ sym w.value-is ∙ c.if-is_empty-4.false)
    ]
    in (
      omega arith,
      (
        (shortest_part c.args.free.bits c.in-Some-Some.conflict.bits c.args.conflicts.now c.in-Some-Some.ensures, conflict_some),
        ((shortest_part c.args.free.bits c.in-Some-Some.drop.bits c.args.drops.now c.in-Some-Some.ensures', drop_some), (omega arith, omega arith)),
      ),
    )

pub branch-with-requires : goal.branch-with-requires
branch-with-requires t c =
    (omega arith, (part_names c.args.drop.bits c.args.free.bits c.requires.drop.0 c.commonest-request.result c.commonest-request.ensures, (omega arith, omega arith)))

pub branch-without-requires : goal.branch-without-requires
branch-without-requires t c =
    (omega arith, (part_names c.args.drop.bits c.args.free.bits c.requires.drop.0 c.commonest-request.result c.commonest-request.ensures, (omega arith, omega arith)))

pub branch-without-requires-else-len : goal.branch-without-requires-else-len
branch-without-requires-else-len t c = (
  omega arith,
  (
    part_names c.args.conflict.bits c.args.free.bits c.requires.conflict.0 c.commonest-request-else-len.result c.commonest-request-else-len.ensures,
    (omega arith, omega arith),
  ),
)

pub branch-with-requires-in-None-without : goal.branch-with-requires-in-None-without
branch-with-requires-in-None-without t c = (
  omega arith,
  (
    part_names c.args.conflict.bits c.args.free.bits c.requires.conflict.0 c.commonest-request-else-len.result c.commonest-request-else-len.ensures,
    (omega arith, omega arith),
  ),
)

pub branch-returns-in-None : goal.branch-returns-in-None
branch-returns-in-None t c =
    decided false c.args.free.bits c.commonest-request.result c.args.conflicts.now c.args.drops.now c.without.result c.in-None.ensures c.without.ensures

pub with-settle-requires : goal.with-settle-requires
with-settle-requires t c =
    let n = c.args.free.bits in
    let small : n < 2 ^ 32 = search rules in
    (omega (arith, less_smaller n c.less_one.result.bits c.args.request small c.requires.request c.less_one.ensures), (omega arith, (c.as_slice.ensures.fits, omega (arith, c.in-Some.ensures.cases.1, less_members n c.less_one.result.bits c.args.request small c.requires.request c.less_one.ensures))))

pub with-returns-in_err-found : goal.with-returns-in_err-found
with-returns-in_err-found t c =
    let n = c.args.free.bits in
    let small : n < 2 ^ 32 = search rules in
    subst (λ found. SettledWhere c.args.request true n c.args.conflicts.now c.args.drops.now found) (sym c.from_residual.ensures)
    (none_with n c.less_one.result.bits c.args.request small c.requires.request c.less_one.ensures c.args.conflicts.now c.args.drops.now c.as_slice.result.now
    (c.as_slice.ensures.value ∙ c.lacking.ensures) c.in_err-found.ensures)

pub with-returns : goal.with-returns
with-returns t c =
    let n = c.args.free.bits in
    let small : n < 2 ^ 32 = search rules in
    subst (λ found. Settles n c.args.conflicts.now c.args.drops.now found) (sym c.with.ensures)
    (found_with n c.less_one.result.bits c.args.request small c.requires.request c.less_one.ensures c.args.conflicts.now c.args.drops.now c.as_slice.result.now
    c.in_ok-found.found.bits (c.as_slice.ensures.value ∙ c.lacking.ensures) c.in_ok-found.ensures)

pub without-settle-requires : goal.without-settle-requires
without-settle-requires t c =
    let n = c.args.free.bits in
    let small : n < 2 ^ 32 = search rules in
    (omega (arith, less_smaller n c.less_one.result.bits c.args.request small c.requires.request c.less_one.ensures), (c.as_slice.ensures.fits, (omega arith, omega (arith, c.in-Some.ensures.cases.1, less_members n c.less_one.result.bits c.args.request small c.requires.request c.less_one.ensures))))

pub without-returns : goal.without-returns
without-returns t c =
    let n = c.args.free.bits in
    let small : n < 2 ^ 32 = search rules in
    told_without n c.less_one.result.bits c.args.request small c.requires.request c.less_one.ensures c.args.conflicts.now c.args.drops.now c.as_slice.result.now
    c.settle.result (c.as_slice.ensures.value ∙ c.lacking.ensures) c.settle.ensures

pub with-unreachable-requires : goal.with-unreachable-requires
with-unreachable-requires t c =
    let n = c.args.free.bits in
    let small : n < 2 ^ 32 = search rules in
    let none_left : length c.args.levels.now ≡ 0 = c.in_default.ensures.cases in
    omega (arith, none_left, less_members n (minus n (added_from 1 none c.args.request)) c.args.request small c.requires.request refl)

pub without-unreachable-requires : goal.without-unreachable-requires
without-unreachable-requires t c =
    let n = c.args.free.bits in
    let small : n < 2 ^ 32 = search rules in
    let none_left : length c.args.levels.now ≡ 0 = c.in_default.ensures.cases in
    omega (arith, none_left, less_members n (minus n (added_from 1 none c.args.request)) c.args.request small c.requires.request refl)
