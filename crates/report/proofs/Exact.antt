-- The lines of a ticket's listing in terms of choices, and the text that is answered to a ticket.
-- Assumes nothing.
use Rattle.std.proofs.Common.{◌≡◌, ℕ, ◌≤◌, ◌↔◌, Bool, false, List, length, take, get_or, Ok, Err}
use Rattle.std.proofs.Common.{Result, inl, inr, refl, sym, ap, ◌∙◌, subst, length-take, arith}
use Rattle.std.specs.List.{All}
use Rattle.std.proofs.lemmas.Bool.{cases_Bool, false≢true, ltb-true}
use Rattle.std.proofs.lemmas.List.Elements.{All-contains, All-weaker}
use Rattle.std.proofs.lemmas.Option.{IfSome_then}
use Rattle.std.proofs.Math.Seq.{take-append_seam}
use Rattle.sets.specs.Requests.{widest, keep}
use Rattle.sets.specs.Sets.{bits_of}
use Rattle.oracle.specs.Meaning.{Lawful, Downward}
use Rattle.fields.specs.Limits.{most_rules}
use Rattle.rules.specs.declared.Kind.TheVariants as kind
use Rattle.rules.specs.declared.Rule.{Rule}
use Rattle.rules.proofs.FacesDecided.{faces_decided}
use Rattle.rules.proofs.Fewer.{rule_lawful}
use Rattle.rules.proofs.GapsDecided.{gaps_decided}
use Rattle.rules.proofs.OptionsDecided.{options_decided}
use Rattle.layers.specs.Laws.{both_lawful}
use Rattle.layers.specs.Layered.{both}
use Rattle.faces.specs.Verdict as faces
use Rattle.gaps.specs.Verdict as gaps
use Rattle.options.specs.Verdict as options
use Rattle.listing.specs.Bill.{bound}
use Rattle.listing.specs.Lines.{conflict, relaxation, IsDue, IsWhole}
use Rattle.listing.specs.Listings.{Falls, UnlistedFollow, first_conflict}
use Rattle.listing.specs.Orders.{keeps_more}
use Rattle.listing.specs.Words.{IsMinimal, IsMaximal, IsPreferred}
use Rattle.listing.specs.declared.lines.Line.{Line}
use Rattle.listing.specs.declared.lines.Line.TheVariants.{Conflict, Relaxation}
use Rattle.ticket.specs.Reading.{reading, answer, rules_read, padded}
use Rattle.ticket.specs.Tickets.{Ticket, Exact}
use Rattle.ticket.specs.declared.fault.TicketFault.{TicketFault}
use Rattle.ticket.specs.declared.reader.Header.{Header}
use Rattle.report.specs.Answered.{text_told, AnswersRead, IsAnswered}
use Rattle.report.specs.Conflicts.{Unfit, IsMinimalConflict, IsMaximalRelaxation}
use Rattle.report.specs.Conflicts.{IsPreferredConflict}
use Rattle.report.specs.Ends.{Finished, listing_of}
use Rattle.report.specs.Exactly.{IsReport, IsAnswer, IsReportOf}
use Rattle.report.specs.Explained.{accepted_text, refused_text, text_of, explained}
use Rattle.report.specs.Piles.{rules_meaning}
use Rattle.report.specs.Told.{TellsOne, TellsAll, IsFull, KeepsMore, MissingKeepLess}
use Rattle.report.specs.declared.explained.Answer.TheVariants as of_ticket
use Rattle.report.specs.declared.texts.Report.{Report}
use Rattle.report.proofs.Listings.{IsFilled, EndsBy, IsFinished, finished_is}
use Rattle.report.proofs.Piled.{all_fit, fit_all}

-- the oracles over the rules are lawful
pub rules_lawful : (width : ℕ) (rules : List Rule) → width ≤ widest
    → Lawful (rules_meaning width rules)
rules_lawful width rules narrow =
    both_lawful (options.meant width rules)
    (both (gaps.meant width rules) (faces.meant width rules))
    (rule_lawful kind.Options options_decided rules width narrow)
    (both_lawful (gaps.meant width rules) (faces.meant width rules)
    (rule_lawful kind.Gaps gaps_decided rules width narrow)
    (rule_lawful kind.Faces faces_decided rules width narrow))

-- of two relaxations the one that goes first keeps more
keeps_then : (width : ℕ) (x y : Line) → Falls (keeps_more width) x y → KeepsMore width x y
keeps_then width (Conflict c) y falls = tt
keeps_then width (Relaxation r) (Conflict c) falls = tt
keeps_then width (Relaxation r) (Relaxation q) falls =
    ltb-true (keep width (bits_of q)) (keep width (bits_of r)) falls

module _ (rules : List Rule) (width : ℕ) where
  -- their verdict is unfit exactly where no choice does
  unfit_then : (s : ℕ) → (rules_meaning width rules).fit s ≡ false → Unfit rules s
  unfit_then s unfit some = absurd (false≢true (sym unfit ∙ fit_all rules s some))

  then_unfit : (s : ℕ) → Unfit rules s → (rules_meaning width rules).fit s ≡ false
  then_unfit s none =
      elim (cases_Bool ((rules_meaning width rules).fit s)) [
        | inl fit ↦ absurd (none (all_fit rules s fit))
        | inr unfit ↦ unfit
      ]

  -- so a minimal conflict is a set for which none does, and some for each proper part
  conflict_then : (s : ℕ) → IsMinimal width (rules_meaning width rules).fit s
      → IsMinimalConflict rules width s
  conflict_then s m = (m.0.0, unfit_then s m.0.1, λ t less. all_fit rules t (m.1 t less))

  then_conflict : (s : ℕ) → IsMinimalConflict rules width s
      → IsMinimal width (rules_meaning width rules).fit s
  then_conflict s m = ((m.0, then_unfit s m.1), λ t less. fit_all rules t (m.2 t less))

  -- and a maximal relaxation one for which some does, and none for each larger set
  relaxation_then : (s : ℕ) → IsMaximal width (rules_meaning width rules).fit s
      → IsMaximalRelaxation rules width s
  relaxation_then s m =
      (m.0.0, all_fit rules s m.0.1, λ t near more. unfit_then t (m.1 t near more))

  then_relaxation : (s : ℕ) → IsMaximalRelaxation rules width s
      → IsMaximal width (rules_meaning width rules).fit s
  then_relaxation s m = ((m.0, fit_all rules s m.1), λ t near more. then_unfit t (m.2 t near more))

  -- the preferred conflict is the one of least blame weight of all for which none does
  preferred_then : (s : ℕ) → IsPreferred width (rules_meaning width rules).fit s
      → IsPreferredConflict rules width s
  preferred_then s p = (
    p.0.0,
    unfit_then s p.0.1,
    λ t small none other. p.1 t (small, then_unfit t none) other,
  )

  -- a line that is due tells of such a set
  tells_one : (x : Line) → IsDue width (rules_meaning width rules).fit x → TellsOne rules width x
  tells_one (Conflict c) due = conflict_then (bits_of c) due
  tells_one (Relaxation r) due = relaxation_then (bits_of r) due

  -- and due lines tell of all exactly where they are whole
  tells_all : (ls : List Line) → All (IsDue width (rules_meaning width rules).fit) ls
      → IsWhole width (rules_meaning width rules).fit ls ↔ TellsAll rules width ls
  tells_all ls due = (
    λ whole s. (
      (
        λ c. conflict_then s
            (All-contains (IsDue width (rules_meaning width rules).fit) ls (conflict s) due c),
        λ minimal. whole.0 s (then_conflict s minimal),
      ),
      (
        λ c. relaxation_then s
            (All-contains (IsDue width (rules_meaning width rules).fit) ls (relaxation s) due c),
        λ maximal. whole.1 s (then_relaxation s maximal),
      ),
    ),
    λ all. (
      λ s minimal. (all s).0.1 (conflict_then s minimal),
      λ s maximal. (all s).1.1 (relaxation_then s maximal),
    ),
  )

  -- so they are 512 and not all exactly where they are filled
  no_room_is : (ls : List Line) → All (IsDue width (rules_meaning width rules).fit) ls
      → IsFilled width (rules_meaning width rules).fit ls ↔ IsFull rules width ls
  no_room_is ls due = (
    λ filled. (filled.0, λ all. filled.1 ((tells_all ls due).1 all)),
    λ no. (no.0, λ whole. no.1 ((tells_all ls due).0 whole)),
  )

  -- each maximal relaxation that is missing comes after the listed ones, so it keeps less
  missing_less : (ls : List Line)
      → UnlistedFollow (keeps_more width) width (rules_meaning width rules).fit ls
      → MissingKeepLess rules width ls
  missing_less ls follow m r maximal missing there =
      keeps_then width (relaxation r) (relaxation m)
      (All-contains (λ x. Falls (keeps_more width) x (relaxation m)) ls (relaxation r)
      (follow m (then_relaxation m maximal) missing) there)

-- the text of a listing is the report of the ticket, which has 32 requests at most
pub is_report : (h : Header) (rules : List Rule) → h.requests ≤ widest
    → IsReport h rules (accepted_text h rules)
is_report h rules narrow =
    let fit : ℕ → Bool = (rules_meaning h.requests rules).fit in
    let done : Finished = listing_of rules h.requests h.checks in
    let downward : Downward h.requests fit =
    subst (λ w. Downward w fit) (omega arith) (rules_lawful h.requests rules narrow).downward in
    let lines : List Line = done.state.lines in
    let is : IsFinished h.requests fit h.checks done =
    finished_is h.requests narrow fit downward h.checks in
    let by : EndsBy h.requests fit done.ended lines = is.by_lines in
    let tells : IsWhole h.requests fit lines ↔ TellsAll rules h.requests lines =
    tells_all rules h.requests lines is.listing.due in
    let no_room : IsFilled h.requests fit lines ↔ IsFull rules h.requests lines =
    no_room_is rules h.requests lines is.listing.due in record {
      lines = lines;
      checks = done.state.checks;
      bound = bound h.requests lines;
      ended = done.ended;
      text_is = refl;
      few = is.listing.few;
      once = is.listing.once;
      each =
          All-weaker (IsDue h.requests fit) (TellsOne rules h.requests) (tells_one rules h.requests)
          lines is.listing.due;
      preferred =
          IfSome_then (first_conflict lines) is.listing.preferred (preferred_then rules h.requests);
      falling = λ i j d low high.
          keeps_then h.requests (get_or lines i d) (get_or lines j d)
          (is.listing.fall i j d low high);
      missing = missing_less rules h.requests lines is.listing.follow;
      all = (λ e. tells.0 (by.whole.0 e), λ all. by.whole.1 (tells.1 all));
      full = (λ e. no_room.0 (by.filled.0 e), λ no. by.filled.1 (no_room.1 no));
      spent = (
        λ e. let no = by.spent.0 e in (λ all. no.0 (tells.1 all), λ full. no.1 (no_room.1 full)),
        λ no. by.spent.1 (λ whole. no.0 (tells.0 whole), λ filled. no.1 (no_room.0 filled)),
      );
      own = by.own;
      few_checks = is.few_checks;
      exhausted = is.exhausted;
      bounded = is.bounded;
      near = is.near;
      paid = is.paid;
      bound_is = refl;
    }

-- so it is with what is read of a ticket
answers_of : (r : Result (Header × List Rule) TicketFault)
    → ((h : Header) (rs : List Rule) → r ≡ Ok (h, rs) → h.requests ≤ widest)
    → IsAnswer r (text_of r)
answers_of (Ok p) narrow = is_report p.0 p.1 (narrow p.0 p.1 refl)
answers_of (Err f) narrow = refl

-- and with the bytes of any
pub is_report_of : (text : List ℕ) → Exact text most_rules → IsReportOf text (explained text)
is_report_of text exact =
    answers_of (reading text most_rules) (λ h rs is. (exact.only h rs is).0.requests)

-- what is answered to a ticket that was read: it keeps to the limits, and its rules are those read
read_then : (r : Result (Header × List Rule) TicketFault) (h : Header) → Ok h ≡ answer r
    → r ≡ Ok (h, rules_read r)
read_then (Ok p) h is = let same : h ≡ p.0 = cc in ap (λ k. Ok (k, p.1)) (sym same)
read_then (Err f) h is = absurd (cc)

pub ticket_read : (text : List ℕ) → Exact text most_rules → (h : Header)
    → Ok h ≡ answer (reading text most_rules)
    → Ticket h (rules_read (reading text most_rules))
ticket_read text exact h is =
    (exact.only h (rules_read (reading text most_rules))
    (read_then (reading text most_rules) h is)).0

-- the list that is left begins with its rules, and the header says how many they are
module _ (text : List ℕ) (left : List Rule) (exact : Exact text most_rules) (h : Header)
    (is : Ok h ≡ answer (reading text most_rules))
    (list : left ≡ padded most_rules (rules_read (reading text most_rules))) where
  pub first_read : take h.rules left ≡ rules_read (reading text most_rules)
  first_read =
      let rs : List Rule = rules_read (reading text most_rules) in
      ap (take h.rules) list
      ∙ ap (λ n. take n (padded most_rules rs)) (ticket_read text exact h is).rules
      ∙ take-append_seam rs _

  pub as_many : h.rules ≡ length (take h.rules left)
  as_many = (ticket_read text exact h is).rules ∙ ap length (sym first_read)

  pub rules_within : h.rules ≤ length left
  rules_within = omega (arith, as_many, length-take h.rules left)

-- what is printed of a refusal that was read is what the bytes are answered with
refused_then : (r : Result (Header × List Rule) TicketFault) (f : TicketFault) → Err f ≡ answer r
    → refused_text f ≡ text_of r
refused_then (Ok p) f is = absurd (cc)
refused_then (Err g) f is = let same : f ≡ g = cc in ap refused_text same

pub refusal_read : (text : List ℕ) (f : TicketFault) → Err f ≡ answer (reading text most_rules)
    → refused_text f ≡ explained text
refusal_read text f is = refused_then (reading text most_rules) f is

-- the report of these rules is what the bytes are answered with
pub text_read : (text : List ℕ) (h : Header) → Ok h ≡ answer (reading text most_rules)
    → accepted_text h (rules_read (reading text most_rules)) ≡ explained text
text_read text h is = ap text_of (sym (read_then (reading text most_rules) h is))

-- so a report of which that text is told answers the ticket
pub answers_report : (text : List ℕ) → Exact text most_rules → (h : Header)
    → Ok h ≡ answer (reading text most_rules) → (r : Report)
    → text_told r ≡ accepted_text h (rules_read (reading text most_rules))
    → IsAnswered text (Ok (of_ticket.Report r))
answers_report text exact h ok r told =
    let all : text_told r ≡ explained text = told ∙ text_read text h ok in
    subst (λ read. AnswersRead read text (Ok (of_ticket.Report r)))
    (sym (read_then (reading text most_rules) h ok))
    (all, subst (IsReportOf text) (sym all) (is_report_of text exact))
