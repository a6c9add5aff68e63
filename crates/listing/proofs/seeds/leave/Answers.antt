use Rattle.std.proofs.Common.{◌≡◌, ℕ, ◌-◌, ◌<◌, ◌↔◌, true, false, sym, ap, ◌∙◌, subst, arith}
use Rattle.sets.specs.Members.{added_from}
use Rattle.sets.specs.Requests.{names}
use Rattle.sets.specs.Sets.{bits_of}
use Rattle.sets.proofs.Naming.{set_adds}
use Rattle.listing.proofs.SettleBits.{OneMore}
use Rattle.listing.proofs.SeedBack.{IsBack, back_first, back_last, gone_lacking, back_next, keeps_lacking, taken_out, keeps_less, back_apart, gone_having, left_at}
use Rattle.listing.proofs.seeds.leave.Goals as goal
use Rattle.listing.proofs.seeds.leave.Goals.{then-contains+in_default, else-contains}

pub loop-after-init : goal.loop-after-init
loop-after-init c =
    subst (IsBack c.args.width c.args.lines.now c.args.top.bits 0 c.args.top.bits) (sym c.empty-free.ensures)
    (back_first c.args.width c.args.lines.now c.args.top.bits c.requires.inside c.requires.gone)

pub find-requires-clause-apart : goal.find-requires-clause-apart
find-requires-clause-apart c =
    let width : ℕ = c.args.width in
    let lines = c.args.lines.now in
    let top : ℕ = c.args.top.bits in
    let after : ℕ = c.loop-after.after in
    let r : ℕ = c.args.width - c.loop-after.after in
    let kept : ℕ = c.loop-after.kept.bits in
    let free : ℕ = c.loop-after.free.bits in
    let has : names top r ≡ true = sym c.contains.ensures ∙ c.if-contains.true in
    let less : ℕ = c.minus-kept.result.bits in
    let without : OneMore less kept r =
    taken_out width lines top after r kept free c.requires.led c.loop-after.invariant (omega arith) (omega arith) c.with.result.bits less c.requires.narrow has
    (c.with.ensures ∙ ap (λ n. added_from 1 n r) c.empty.ensures) c.minus-kept.ensures
    in
    back_apart width lines top after r kept free c.requires.led c.loop-after.invariant (omega arith) (omega arith) less has without

pub returns-in-Some : goal.returns-in-Some
returns-in-Some c =
    let width : ℕ = c.args.width in
    let lines = c.args.lines.now in
    let top : ℕ = c.args.top.bits in
    let after : ℕ = c.loop-after.after in
    let r : ℕ = c.args.width - c.loop-after.after in
    let kept : ℕ = c.loop-after.kept.bits in
    let free : ℕ = c.loop-after.free.bits in
    let has : names top r ≡ true = sym c.contains.ensures ∙ c.if-contains.true in
    let less : ℕ = c.minus-kept.result.bits in
    let without : OneMore less kept r =
    taken_out width lines top after r kept free c.requires.led c.loop-after.invariant (omega arith) (omega arith) c.with.result.bits less c.requires.narrow has
    (c.with.ensures ∙ ap (λ n. added_from 1 n r) c.empty.ensures) c.minus-kept.ensures
    in
    (omega arith, left_at width lines top after r kept free c.requires.led c.loop-after.invariant (omega arith) (omega arith) less has without c.in-Some.best.bits c.in-Some.ensures)

pub loop-after-preserved : goal.loop-after-preserved
loop-after-preserved c =
    let width : ℕ = c.args.width in
    let lines = c.args.lines.now in
    let top : ℕ = c.args.top.bits in
    let after : ℕ = c.loop-after.after in
    let r : ℕ = c.args.width - c.loop-after.after in
    let kept : ℕ = c.loop-after.kept.bits in
    let free : ℕ = c.loop-after.free.bits in
    let more : ℕ = c.with-free.result.bits in
    let adds = set_adds free r (omega arith) (omega arith) in
    let there : names more r ≡ true = ap (λ n. names n r) c.with-free.ensures ∙ adds.0 in
    elim c.if-contains.branch [
      | then-contains+in_default w ↦
          let has : names top r ≡ true = sym c.contains.ensures ∙ w.if-contains.true in
          let less : ℕ = w.minus-kept.result.bits in
          let without : OneMore less kept r =
          taken_out width lines top after r kept free c.requires.led c.loop-after.invariant (omega arith) (omega arith) w.with.result.bits less c.requires.narrow has
          (w.with.ensures ∙ ap (λ n. added_from 1 n r) w.empty.ensures) w.minus-kept.ensures
          in
          back_next width lines top after r kept free c.requires.led c.loop-after.invariant (omega arith) (omega arith) c.if-contains.kept.bits more
          (λ q. subst (λ k. (names k q ≡ true) ↔ ((names top q ≡ true) × (q < r))) (sym (ap bits_of w.kept-is)) (keeps_less width lines top after r kept free c.requires.led c.loop-after.invariant (omega arith) (omega arith) less has without q))
          there (λ q other. ap (λ n. names n q) c.with-free.ensures ∙ adds.1 q other)
          (gone_having width lines top after r kept free c.requires.led c.loop-after.invariant (omega arith) (omega arith) less has without w.in_default.ensures)
      | else-contains w ↦
          let lacks : names top r ≡ false = sym c.contains.ensures ∙ w.if-contains.false in
          back_next width lines top after r kept free c.requires.led c.loop-after.invariant (omega arith) (omega arith) c.if-contains.kept.bits more
          (λ q. subst (λ k. (names k q ≡ true) ↔ ((names top q ≡ true) × (q < r))) (sym (ap bits_of w.kept-is)) (keeps_lacking width lines top after r kept free c.requires.led c.loop-after.invariant (omega arith) (omega arith) lacks q))
          there (λ q other. ap (λ n. names n q) c.with-free.ensures ∙ adds.1 q other)
          (gone_lacking width lines top after r kept free c.requires.led c.loop-after.invariant (omega arith) (omega arith) lacks)
    ]

pub returns : goal.returns
returns c =
    back_last c.args.width c.args.lines.now c.args.top.bits c.loop-after.after c.loop-after.kept.bits c.loop-after.free.bits c.loop-after.invariant (omega arith)
