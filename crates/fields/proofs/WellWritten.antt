-- What `well_written` tests, and that `decimal` writes it. Assumes nothing.
use Rattle.std.proofs.Common.{◌≡◌, ℕ, zero, suc, ◌^◌, ◌<◌, ◌≤◌, Bool, true, not, ◌&&◌, ◌||◌, eqb, ltb, leb, List, length, get_or, Some, None, decimal, sym, ap, ◌∙◌, inl, inr, arith, rules}
use Rattle.std.proofs.lemmas.Fmt.{decimal_digit, decimal_nonempty, digits_decimal, first_decimal, length-decimal-le}
use Rattle.std.proofs.lemmas.Str.Parse.{IsNumeralModel, numerals_by_fold, tells_all_ascii_digits}
use Rattle.std.proofs.lemmas.Bool.{and_from, and_parts, cases_Bool, cases_eq, cond-false, cond-true, eq-eqb, eqb-false, eqb-true, le-leb, leb-true, lt-ltb, ltb-true, ne_eqb, not_from_false, not-true, or_cases, or_left, or_right}
use Rattle.std.specs.Str.{all_ascii_digits}
use Rattle.fields.proofs.Outcomes.{none_no_some}
use Rattle.fields.specs.Numbers.{number_after, well_written, number}

-- `allDigits` and `number_after` are std's decimal numerals
pub own : IsNumeralModel (λ ds. all_ascii_digits ds ≡ true) (number_after 0)
own = numerals_by_fold _ tells_all_ascii_digits number_after (search rules)

-- what `well_written` tests, as facts
pub record WellWritten (ds : List ℕ) : Type 0 where
  pub some : 0 < length ds
  pub short : length ds ≤ 7
  pub lead : get_or ds 0 0 ≡ 48 → length ds ≡ 1
  pub digits : all_ascii_digits ds ≡ true

-- no 0 before others
abbrev led : List ℕ → Bool
led ds = not (eqb (get_or ds 0 0) 48) || eqb (length ds) 1

pub written_from : (ds : List ℕ) → well_written ds ≡ true → WellWritten ds
written_from ds w =
    let front = and_parts (ltb 0 (length ds) && leb (length ds) 7 && led ds) (all_ascii_digits ds) w in
    let sized = and_parts (ltb 0 (length ds) && leb (length ds) 7) (led ds) front.0 in
    let long = and_parts (ltb 0 (length ds)) (leb (length ds) 7) sized.0 in
    record {
      some = ltb-true 0 (length ds) long.0;
      short = leb-true (length ds) 7 long.1;
      lead = λ nought. elim (or_cases (not (eqb (get_or ds 0 0) 48)) (eqb (length ds) 1) sized.1) [
        | inl other ↦ absurd (eqb-false (get_or ds 0 0) 48 (not-true (eqb (get_or ds 0 0) 48) other) nought)
        | inr alone ↦ eqb-true (length ds) 1 alone
      ];
      digits = front.1;
    }

pub written_well : (ds : List ℕ) → WellWritten ds → well_written ds ≡ true
written_well ds w =
    let lead : led ds ≡ true = elim (cases_eq (get_or ds 0 0) 48) [
      | inl nought ↦ or_right (not (eqb (get_or ds 0 0) 48)) (eqb (length ds) 1) (eq-eqb (length ds) 1 (w.lead nought))
      | inr other ↦ or_left (not (eqb (get_or ds 0 0) 48)) (eqb (length ds) 1) (not_from_false (eqb (get_or ds 0 0) 48) (ne_eqb (get_or ds 0 0) 48 other))
    ] in
    and_from (ltb 0 (length ds) && leb (length ds) 7 && led ds) (all_ascii_digits ds)
    (and_from (ltb 0 (length ds) && leb (length ds) 7) (led ds)
    (and_from (ltb 0 (length ds)) (leb (length ds) 7) (lt-ltb 0 (length ds) w.some) (le-leb (length ds) 7 w.short))
    lead)
    w.digits

-- what is read as a number is well written, and the number is its digits' value
pub number_some : (ds : List ℕ) (n : ℕ) → number ds ≡ Some n → WellWritten ds × (number_after 0 ds ≡ n)
number_some ds n e = elim (cases_Bool (well_written ds)) [
  | inl well ↦ (written_from ds well, let s : Some (number_after 0 ds) ≡ Some n = sym (cond-true (well_written ds) (Some (number_after 0 ds)) None well) ∙ e in cc)
  | inr ill ↦ absurd (none_no_some _ (sym (cond-false (well_written ds) (Some (number_after 0 ds)) None ill) ∙ e))
]

-- a number but 0 begins with no 0
lead_decimal : (n : ℕ) → n < 2 ^ 64 → get_or (decimal n) 0 0 ≡ 48 → length (decimal n) ≡ 1
lead_decimal zero small nought = ap length (decimal_digit 0 (omega arith))
lead_decimal (suc n) small nought = absurd (omega (arith, first_decimal (suc n) (omega arith) small))

-- a number below 10 million is well written
pub written_decimal : (n : ℕ) → n < 10000000 → WellWritten (decimal n)
written_decimal n small = record {
  some = decimal_nonempty n (omega arith);
  short = length-decimal-le 7 n (omega arith) (omega arith) (omega arith);
  lead = lead_decimal n (omega arith);
  digits = digits_decimal own n (omega arith);
}
