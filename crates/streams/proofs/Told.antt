-- What is answered to bytes, and to the first of them. Assumes nothing.
use Rattle.std.proofs.Common.{◌≡◌, ℕ, ◌≤◌, ◌<◌, true, false, List, ◌++◌, length, take, Option}
use Rattle.std.proofs.Common.{Some, None, IfSome, IfOk, Ok, Err, Result, inl, inr, refl, sym, ap}
use Rattle.std.proofs.Common.{◌∙◌, subst, arith, leb, append-nil}
use Rattle.std.specs.declared.alloc.AllocError.{AllocError}
use Rattle.std.proofs.lemmas.Bool.{lt-leb, cases_lt, false≢true}
use Rattle.std.proofs.lemmas.List.{take_all, take_at, length-take-le}
use Rattle.std.specs.Io.KnownBytes.{Consumes, IsAtEnd}
use Rattle.std.specs.Result.{result_err, is_ok, OnOk, OnErr, MatchResult, IsErrAnd, IfErr}
use Rattle.fields.specs.Limits.{most_rules}
use Rattle.rules.specs.declared.Rule.{Rule}
use Rattle.ticket.specs.Reading.{reading, longest}
use Rattle.ticket.specs.declared.fault.TicketFault.{TicketFault}
use Rattle.ticket.specs.declared.fault.TicketFault.TheVariants.{Long}
use Rattle.ticket.specs.declared.reader.Header.{Header}
use Rattle.report.specs.Answered.{answer_text, AnswersRead, IsAnswered}
use Rattle.report.specs.Exactly.{IsAnswer, IsReportOf}
use Rattle.report.specs.Explained.{text_of, explained}
use Rattle.report.specs.declared.explained.Answer.TheVariants.{Report, Refused}
use Rattle.report.specs.declared.explained.Answer.{Answer}
use Rattle.std.specs.declared.io.Error.{Error}
use Rattle.streams.specs.declared.error.AnswerError.{AnswerError}
use Rattle.streams.specs.declared.error.AnswerError.TheVariants.{Writing}
use Rattle.streams.specs.Faults.{fault_of, fault_told}
use Rattle.streams.specs.Limit.{most_taken, LimitIsEnough}

-- an answer to these bytes: its text, the fault that it tells, and what the text says
pub record IsRight (text : List ℕ) (answer : Answer) : Type 0 where
  pub said : answer_text answer ≡ explained text
  pub fault : fault_told answer ≡ fault_of text
  pub truly : IsReportOf text (explained text)

right_of : (text : List ℕ) (read : Result (Header × List Rule) TicketFault)
    → reading text most_rules ≡ read → (r : Result Answer AllocError) → AnswersRead read text r
    → IfOk r (IsRight text)
right_of text (Ok p) e (Ok (Report report)) h = record {
  said = h.0;
  fault = ap result_err (sym e);
  truly = subst (IsReportOf text) h.0 h.1;
}
right_of text (Ok p) e (Ok (Refused fault)) h = absurd h
right_of text (Ok p) e (Err error) h = tt
right_of text (Err f) e r h =
    subst (λ (r : Result Answer AllocError). IfOk r (IsRight text)) (sym h) (record {
      said = ap text_of (sym e);
      fault = ap result_err (sym e);
      truly = subst (λ read. IsAnswer read (text_of read)) (sym e) refl;
    })

-- what `explain` answers to them is right
pub right : (text lent : List ℕ) (r : Result Answer AllocError) (answer : Answer) → lent ≡ text
    → IsAnswered lent r → r ≡ Ok answer → IsRight text answer
right text lent r answer same h was =
    subst (λ r. IfOk r (IsRight text)) was
    (right_of text (reading text most_rules) refl r (subst (λ l. IsAnswered l r) same h))

long : (xs : List ℕ) (room : ℕ) → longest < length xs → reading xs room ≡ Err Long
long xs room h = let e : leb (length xs) longest ≡ false = lt-leb _ _ h in rw e refl

-- as many bytes as are longer than a ticket are read as all of them
reading_first : (n room : ℕ) (xs : List ℕ) → longest < n
    → reading (take n xs) room ≡ reading xs room
reading_first n room xs h =
    elim (cases_lt n (length xs)) [
      | inl more ↦
          let first = length-take-le n xs (omega (arith, more)) in
          long (take n xs) room (omega (arith, first)) ∙ sym (long xs room (omega (arith, more)))
      | inr few ↦ ap (λ l. reading l room) (take_all n xs few)
    ]

read_first : (xs : List ℕ) → reading (take most_taken xs) most_rules ≡ reading xs most_rules
read_first xs = reading_first most_taken most_rules xs (omega arith)

pub limit_enough : LimitIsEnough
limit_enough xs = ap text_of (sym (read_first xs))

-- what was taken is all, or as much as there is room for
pub first_taken : (n : ℕ) (a b : Option (List ℕ)) (xs : List ℕ) → length xs ≤ n → Consumes a b xs
    → (length xs < n → IsAtEnd b) → IfSome a (λ ticket. xs ≡ take n ticket)
first_taken n None b xs few taken end = tt
first_taken n (Some ticket) None xs few taken end = absurd taken
first_taken n (Some ticket) (Some rest) xs few taken end =
    elim (cases_lt (length xs) n) [
      | inl less ↦
          let all = taken ∙ ap (λ l. xs ++ l) (end less) ∙ append-nil xs in
          sym (ap (take n) all ∙ take_all n xs few)
      | inr more ↦ sym (ap (take n) taken ∙ take_at xs rest n (omega (arith, few, more)))
    ]

first_of_all : (P : Result (Header × List Rule) TicketFault → Type 0) (a : Option (List ℕ))
    (xs : List ℕ) → P (reading xs most_rules) → IfSome a (λ ticket. xs ≡ take most_taken ticket)
    → IfSome a (λ ticket. P (reading ticket most_rules))
first_of_all P None xs h e = tt
first_of_all P (Some ticket) xs h e =
    subst P (ap (λ l. reading l most_rules) e ∙ read_first ticket) h

-- what is said of how the bytes taken are read holds of all
pub of_all : (P : Result (Header × List Rule) TicketFault → Type 0) (a b : Option (List ℕ))
    (xs : List ℕ) → length xs ≤ most_taken → Consumes a b xs
    → (length xs < most_taken → IsAtEnd b)
    → P (reading xs most_rules) → IfSome a (λ ticket. P (reading ticket most_rules))
of_all P a b xs few taken end h =
    first_of_all P a xs h (first_taken most_taken a b xs few taken end)

pub at_ok : {T E : Type 0} (r : Result T E) (P : Type 0) → is_ok r ≡ true → OnOk r P → P
at_ok (Ok x) P e h = h
at_ok (Err x) P e h = absurd (false≢true e)

pub at_err : {T E : Type 0} (r : Result T E) (P : Type 0) → is_ok r ≡ false → OnErr r P → P
at_err (Ok x) P e h = absurd (false≢true (sym e))
at_err (Err x) P e h = h

-- an error that a failed write was turned into
pub at_writing : {T : Type 0} (r : Result T Error) (s : Result T AnswerError)
    (P : AnswerError → Type 0)
    → MatchResult r (λ x. s ≡ Ok x) (λ e. IsErrAnd s (λ d. d ≡ Writing e)) → (d : AnswerError)
    → s ≡ Err d → ((e : Error) → P (Writing e)) → P d
at_writing (Ok x) s P cases d was h = absurd (false≢true (sym (ap is_ok was) ∙ ap is_ok cases))
at_writing {T} (Err e) s P cases d was h =
    let why : d ≡ Writing e =
    subst (λ (s : Result T AnswerError). IsErrAnd s (λ d. d ≡ Writing e)) was cases in
    subst P (sym why) (h e)

-- and one that was passed on
pub if_err : {T : Type 0} (r : Result T AnswerError) (P : AnswerError → Type 0) (e : AnswerError)
    → IsErrAnd r (λ d. d ≡ e) → P e → IfErr r P
if_err (Ok x) P e h p = tt
if_err (Err d) P e h p = subst P (sym h) p
