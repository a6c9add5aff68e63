use Rattle.std.proofs.Common.{ℕ, Bool, List, ◌++◌, ◌∷◌, [], ◌≡◌, inl, inr, sym, subst, ◌∙◌, None, Some, ◌+◌, ap, arith}
use Rattle.listing.specs.Searches.{lines_in}
use Rattle.listing.specs.Sound.{IsSound}
use Rattle.listing.specs.Steps.{Open, State}
use Rattle.listing.proofs.RunParts.{held}
use Rattle.explainer.specs.Opened.{open_of}
use Rattle.explainer.specs.declared.progress.OpenHalving.{OpenHalving}
use Rattle.explainer.specs.declared.progress.Progress.{Progress}
use Rattle.explainer.specs.Preferring.{preferring}
use Rattle.explainer.proofs.Preferred.{preferring_orders}
use Rattle.explainer.proofs.Progressing.{with_room, checks_most, open_sound, open_room, unfit_sound, line_sound, line_room, IsLed}
use Rattle.explainer.proofs.progress.Progress.answered.Goals as goal
use Rattle.explainer.proofs.progress.Progress.answered.Goals.{in-true-false, in-false-true}

-- an open halving, as the steps have it
abbrev as_open : OpenHalving → Open
as_open o = record { seed = o.seed.bits; answers = o.answers.items }

-- the state after the answer, with a halving of these answers open
abbrev with_open : Progress → (seed : ℕ) → List Bool → State
with_open p seed answers = held (lines_in p.search) (p.checks + 1) (Some (record { seed = seed; answers = answers }))

pub overflow_add-self : goal.overflow_add-self
overflow_add-self c = let p = c.args.self.now in omega (arith, checks_most p)

pub push-requires : goal.push-requires
push-requires c =
    let p = c.args.self.now in
    (omega arith, open_room preferring preferring_orders p c.args.set.bits c.args.fit c.requires (as_open c.in-Some.open) (ap open_of c.in-Some.is))

pub invariant_of-self : goal.invariant_of-self
invariant_of-self c =
    let p = c.args.self.now in
    let sound = open_sound preferring preferring_orders p c.args.set.bits c.args.fit c.requires (as_open c.in-Some.open) (ap open_of c.in-Some.is) in
    record { sound = subst (λ xs. IsSound p.search.width (with_open p c.in-Some.open.seed.bits xs)) (sym c.push.ensures.items) sound }

pub invariant_of-self-in-false-false : goal.invariant_of-self-in-false-false
invariant_of-self-in-false-false c =
    let p = c.args.self.now in
    let sound =
    unfit_sound preferring preferring_orders p c.args.set.bits c.args.fit c.requires c.in-false-false.is-0 (ap open_of c.in_default.is) c.in-false-false.is-1
    in record { sound = subst (λ xs. IsSound p.search.width (with_open p c.args.set.bits xs)) (sym c.new.ensures) sound }

pub invariant_of-self-2 : goal.invariant_of-self-2
invariant_of-self-2 c =
    let p = c.args.self.now in
    let shut : open_of p.halving ≡ None = ap open_of c.in_default.is in
    let led : IsLed p.checks c.args.set.bits c.args.fit c.if-is_first.line =
    elim c.if-is_first.branch [
      | in-true-false w ↦ inl (w.in-true-false.is-0, w.in-true-false.is-1, sym w.line-is)
      | in-false-true w ↦ inr (w.in-false-true.is-0, w.in-false-true.is-1, sym w.line-is)
    ]
    in
    let room = line_room preferring preferring_orders p c.args.set.bits c.args.fit c.requires c.if-is_first.line shut led in
    let sound = line_sound preferring preferring_orders p c.args.set.bits c.args.fit c.requires c.if-is_first.line shut led in
    let lines = c.list.ensures.lines ∙ with_room (lines_in p.search) c.if-is_first.line room in
    let listed : IsSound p.search.width (held (lines_in c.list.new.self) (p.checks + 1) (open_of p.halving)) =
    subst (λ xs. IsSound p.search.width (held xs (p.checks + 1) (open_of p.halving))) (sym lines)
    (subst (λ h. IsSound p.search.width (held (lines_in p.search ++ c.if-is_first.line ∷ []) (p.checks + 1) h)) (sym shut) sound)
    in record { sound = subst (λ w. IsSound w (held (lines_in c.list.new.self) (p.checks + 1) (open_of p.halving))) (sym c.list.ensures.width) listed }
