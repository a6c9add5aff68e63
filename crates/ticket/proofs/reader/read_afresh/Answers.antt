use Rattle.std.proofs.Common.{◌≡◌, ℕ, List, [], ◌++◌, length, drop, replicate, Ok, Err, Result, sym, ap, ◌∙◌, subst, MatchResult}
use Rattle.std.proofs.lemmas.List.{drop-replicate}
use Rattle.rules.specs.Blank.{blank}
use Rattle.rules.specs.declared.Rule.{Rule}
use Rattle.ticket.specs.Reading.{reading, answer, rules_read, padded}
use Rattle.ticket.specs.declared.fault.TicketFault.{TicketFault}
use Rattle.ticket.specs.declared.reader.Header.{Header}
use Rattle.ticket.proofs.Exactness.{exact}
use Rattle.ticket.proofs.FirstRefused.{read_by_first}
use Rattle.ticket.specs.Refuses.{RefusesByFirst}
use Rattle.fields.proofs.FirstFlaw.{flaw_laws}
use Rattle.ticket.proofs.reader.read_afresh.Goals as goal

-- what was read into a list that was blank before, and is `after` now
module _ (text : List ℕ) (room : ℕ) (before after : List Rule) (long : length before ≡ room) (was : before ≡ replicate room blank) where
  written : (h : Header) (rs : List Rule) → reading text (length before) ≡ Ok (h, rs) → rs ++ drop (length rs) before ≡ padded room (rules_read (reading text room))
  written h rs read =
      ap (λ l. rs ++ drop (length rs) l) was
      ∙ ap (λ l. rs ++ l) (drop-replicate (length rs) room blank)
      ∙ ap (λ r. padded room (rules_read r)) (sym read)
      ∙ ap (λ n. padded room (rules_read (reading text n))) long

  settled :
      (r : Result Header TicketFault)
      → MatchResult r (λ h. (rs : List Rule) × (reading text (length before) ≡ Ok (h, rs)) × (after ≡ rs ++ drop (length rs) before)) (λ e. reading text (length before) ≡ Err e)
      → (r ≡ answer (reading text room)) × MatchResult r (λ _. after ≡ padded room (rules_read (reading text room))) (λ _. rules_read (reading text room) ≡ [])
  settled (Ok h) (rs, read, now) = (sym (ap answer read) ∙ ap (λ n. answer (reading text n)) long, now ∙ written h rs read)
  settled (Err e) read = (sym (ap answer read) ∙ ap (λ n. answer (reading text n)) long, ap (λ n. rules_read (reading text n)) (sym long) ∙ ap rules_read read)

pub returns : goal.returns
returns c =
    let n = length c.args.rules.now in
    let was : c.fill.new.self ≡ replicate n blank = c.fill.ensures.after (λ _ same. same) ∙ ap (replicate n) c.blank.ensures in
    let p = settled c.args.text.now n c.fill.new.self c.read_all.new.rules c.fill.ensures.len was c.read_all.result c.read_all.ensures in
    record {
      answer = p.0;
      list = p.1;
      exact = exact c.args.text.now n;
      first =
          subst (RefusesByFirst c.args.text.now n) (sym p.0)
          (read_by_first flaw_laws c.args.text.now n).0;
    }
