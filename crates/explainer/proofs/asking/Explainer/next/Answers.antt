use Rattle.std.proofs.Common.{Some, None, refl, ap, ◌∙◌}
use Rattle.sets.specs.Sets.{bits_of}
use Rattle.listing.specs.Steps.{check, lists, all, full, with_line}
use Rattle.explainer.specs.Holding.{move_of}
use Rattle.explainer.specs.Preferring.{preferring}
use Rattle.explainer.proofs.NextCode.{due_check, due_list, due_all, due_full, led_to, line_told, fewer_left, ends_so, lists_so, goes_so, goes_further}
use Rattle.explainer.proofs.NextNumbers.{err_tells}
use Rattle.explainer.proofs.Preferred.{preferring_orders}
use Rattle.explainer.proofs.asking.Explainer.next.Goals as goal

-- no check was due
pub returns-in-All : goal.returns-in-All
returns-in-All g c =
    let a = c.loop-line.self in
    let same = c.due.ensures.same in
    let is = due_all (move_of preferring a.progress) c.in-All.ensures.due in
    c.loop-line.invariant.goes_on _ _ (ends_so preferring g.O.Oracle.check_leads a all _ _ is (refl, refl, same.1) same.0)

pub returns-in-Full : goal.returns-in-Full
returns-in-Full g c =
    let a = c.loop-line.self in
    let same = c.due.ensures.same in
    let is = due_full (move_of preferring a.progress) c.in-Full.ensures.due in
    c.loop-line.invariant.goes_on _ _ (ends_so preferring g.O.Oracle.check_leads a full _ _ is (refl, refl, same.1) same.0)

pub returns-in-List : goal.returns-in-List
returns-in-List g c =
    let a = c.loop-line.self in
    let x = c.in-List.line in
    let same = c.due.ensures.same in
    let is = due_list (move_of preferring a.progress) x c.in-List.ensures.due in
    c.loop-line.invariant.goes_on _ _
    (ends_so preferring g.O.Oracle.check_leads a (lists x) _ _ is
    (refl, refl, c.list.ensures.state ∙ ap (λ st. with_line st x) same.1) (c.list.ensures.width ∙ same.0))

-- the check was refused
pub returns-in_err-verdict-in-Check : goal.returns-in_err-verdict-in-Check
returns-in_err-verdict-in-Check g c =
    let a = c.loop-line.self in
    let e = c.in_err-verdict-in-Check.field-0.0 in
    let same = c.due.ensures.same in
    let is = due_check (move_of preferring a.progress) c.in-Check.set c.in-Check.ensures.due in
    let told = err_tells c.from_residual.result e c.from_residual.ensures.1 in
    c.loop-line.invariant.goes_on _ _
    (ends_so preferring g.O.Oracle.check_leads a (check (bits_of c.in-Check.set)) _ _ is
    ((e, c.in_err-verdict-in-Check.ensures, told), same.1) same.0)

-- the check was answered, and the answer listed a line
pub returns-in-Some : goal.returns-in-Some
returns-in-Some g c =
    let a = c.loop-line.self in
    let fit = c.in_ok-verdict-in-Check.verdict.fit in
    let same = c.due.ensures.same in
    let is = due_check (move_of preferring a.progress) c.in-Check.set c.in-Check.ensures.due in
    let led = led_to preferring a.progress c.due.new.self c.answered.new.self fit same c.answered.ensures.state in
    let line_is = line_told preferring a.progress c.due.new.self fit (Some c.in-Some.line) same c.in-Some.ensures.line in
    c.loop-line.invariant.goes_on _ _
    (lists_so preferring g.O.Oracle.check_leads a _ (bits_of c.in-Check.set) fit is c.in_ok-verdict-in-Check.ensures
    (c.answered.ensures.width ∙ same.0) led c.in-Some.line line_is)

-- the check was answered, and the answer, which listed no line, taken
pub loop-line-smaller : goal.loop-line-smaller
loop-line-smaller g c =
    let p = c.loop-line.self.progress in
    let fit = c.in_ok-verdict-in-Check.verdict.fit in
    let same = c.due.ensures.same in
    let is = due_check (move_of preferring p) c.in-Check.set c.in-Check.ensures.due in
    let led = led_to preferring p c.due.new.self c.answered.new.self fit same c.answered.ensures.state in
    let line_is = line_told preferring p c.due.new.self fit None same c.in_default.ensures.line in
    fewer_left preferring preferring_orders p c.answered.new.self (bits_of c.in-Check.set) fit is led line_is

pub loop-line-preserved : goal.loop-line-preserved
loop-line-preserved g c =
    let a = c.loop-line.self in
    let fit = c.in_ok-verdict-in-Check.verdict.fit in
    let same = c.due.ensures.same in
    let is = due_check (move_of preferring a.progress) c.in-Check.set c.in-Check.ensures.due in
    let led = led_to preferring a.progress c.due.new.self c.answered.new.self fit same c.answered.ensures.state in
    let line_is = line_told preferring a.progress c.due.new.self fit None same c.in_default.ensures.line in
    goes_further preferring g.O.Oracle.check_leads _ a _ c.loop-line.invariant
    (goes_so preferring g.O.Oracle.check_leads a _ (bits_of c.in-Check.set) fit is c.in_ok-verdict-in-Check.ensures
    (c.answered.ensures.width ∙ same.0) led line_is)
