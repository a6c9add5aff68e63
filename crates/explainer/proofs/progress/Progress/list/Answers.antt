use Rattle.std.proofs.Common.{sym, subst, ◌∙◌, None}
use Rattle.listing.specs.Searches.{lines_in}
use Rattle.listing.specs.Sound.{IsSound}
use Rattle.explainer.specs.Opened.{state_from}
use Rattle.explainer.specs.Preferring.{preferring}
use Rattle.explainer.proofs.Preferred.{preferring_orders}
use Rattle.explainer.proofs.Progressing.{with_room, list_sound, list_room}
use Rattle.explainer.proofs.progress.Progress.list.Goals as goal

pub invariant_of-self : goal.invariant_of-self
invariant_of-self c =
    let p = c.args.self.now in
    let room = list_room preferring preferring_orders p c.args.line c.requires in
    let lines = c.list.ensures.lines ∙ with_room (lines_in p.search) c.args.line room in
    let listed : IsSound p.search.width (state_from (lines_in c.list.new.self) p.checks None) =
    subst (λ xs. IsSound p.search.width (state_from xs p.checks None)) (sym lines) (list_sound preferring preferring_orders p c.args.line c.requires)
    in record { sound = subst (λ w. IsSound w (state_from (lines_in c.list.new.self) p.checks None)) (sym c.list.ensures.width) listed }
