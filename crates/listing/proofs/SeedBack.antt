-- Where the seed leaves the last one: the requests are gone through from the last on back. Assumes nothing.
use Rattle.std.proofs.Common.{◌≡◌, ◌≢◌, ℕ, zero, suc, ◌+◌, ◌<◌, ◌≤◌, ◌↔◌, true, false, ◌⊎◌, List, sym, ap, ◌∙◌, subst, inl, inr, arith}
use lib.Bits.{bit_and, bit_or}
use Rattle.std.proofs.lemmas.Bool.{cases_Bool, cases_lt, cases_eq, cases_order, true≢false, false_from_ne_true, true_from_ne_false, lt-ltb}
use Rattle.sets.specs.Members.{none, added_from, minus}
use Rattle.sets.specs.Requests.{widest, names, Within, keep}
use Rattle.sets.proofs.Weights.{part_names, names_past, set_laws, empty_names}
use Rattle.listing.specs.Lines.{IsUnexplored, NothingLeft, explored}
use Rattle.listing.specs.Orders.{keeps_more, NothingBefore}
use Rattle.listing.specs.Settling.{IsSought}
use Rattle.listing.specs.Deciding.{SameBelow, LeadsAt, LeadsBelow, IsBest}
use Rattle.listing.specs.declared.lines.Line.{Line}
use Rattle.listing.proofs.SeedBest.{same_tests}
use Rattle.listing.proofs.SeedWeights.{leads_keeps}
use Rattle.listing.proofs.SettleBits.{either_named, named_first, named_second, nothing_common, OneMore, still_named, other_named, not_lacked, freed_one}

-- so many of the last requests are gone through: they are free, of the others those of top are kept, and no unexplored set has the same of these as top
pub record IsBack (width : ℕ) (lines : List Line) (top after kept free : ℕ) : Type 0 where
  pub kept_is : (q : ℕ) → (names kept q ≡ true) ↔ ((names top q ≡ true) × (q + after ≤ width))
  pub free_is : (q : ℕ) → (names free q ≡ true) ↔ ((width < q + after) × (q ≤ width))
  pub gone : (t : ℕ) → IsUnexplored width lines t → ((q : ℕ) → q + after ≤ width → names t q ≡ names top q) → ⊥

-- at first none is, since top is explored
pub back_first : (width : ℕ) (lines : List Line) (top : ℕ) → Within width top → explored lines top ≡ true → IsBack width lines top 0 top none
back_first width lines top inside is = record {
  kept_is = λ q. (λ k. let low : q ≤ width = set_laws.3 width top inside q k in (k, omega arith), λ b. b.0);
  free_is = λ q. (λ k. absurd (true≢false (sym k ∙ empty_names q)), λ b. absurd (omega (arith, b.0, b.1)));
  gone =
      λ t found same.
      let equal : t ≡ top =
      set_laws.0 t top (λ q.
      elim (cases_lt width q) [
        | inl past ↦ names_past width t q found.0 past ∙ sym (names_past width top q inside past)
        | inr low ↦ same q (omega arith)
      ])
      in true≢false (sym is ∙ ap (explored lines) (sym equal) ∙ found.1);
}

-- once all are, nothing is unexplored
pub back_last : (width : ℕ) (lines : List Line) (top after kept free : ℕ) → IsBack width lines top after kept free → width ≤ after → NothingLeft width lines
back_last width lines top after kept free h end t found =
    h.gone t found (λ q low. let first : q ≡ 0 = omega arith in ap (names t) first ∙ sym (ap (names top) first))

-- the first of the requests below n where two sets differ, if there is one
first_apart : (n s t : ℕ) → SameBelow n s t ⊎ ((q : ℕ) × (q < n) × SameBelow q s t × (names s q ≢ names t q))
first_apart zero s t = inl (λ q small. absurd (omega arith))
first_apart (suc n) s t = further (first_apart n s t) (cases_Bool (names s n)) (cases_Bool (names t n))
  where
    at_last : SameBelow n s t → names s n ≡ names t n → SameBelow (suc n) s t
    at_last same e q small =
        elim (cases_eq q n) [ inl is ↦ ap (names s) is ∙ e ∙ sym (ap (names t) is) | inr other ↦ same q (omega arith) ]

    further : SameBelow n s t ⊎ ((q : ℕ) × (q < n) × SameBelow q s t × (names s q ≢ names t q)) → (names s n ≡ true) ⊎ (names s n ≡ false)
        → (names t n ≡ true) ⊎ (names t n ≡ false) → SameBelow (suc n) s t ⊎ ((q : ℕ) × (q < suc n) × SameBelow q s t × (names s q ≢ names t q))
    further (inr (q, low, same, apart)) a b = inr (q, omega arith, same, apart)
    further (inl same) (inl a) (inl b) = inl (at_last same (a ∙ sym b))
    further (inl same) (inr a) (inr b) = inl (at_last same (a ∙ sym b))
    further (inl same) (inl a) (inr b) = inr (n, omega arith, same, λ e. true≢false (sym a ∙ e ∙ b))
    further (inl same) (inr a) (inl b) = inr (n, omega arith, same, λ e. true≢false (sym b ∙ sym e ∙ a))

module _ (width : ℕ) (lines : List Line) (top after r kept free : ℕ) (led : NothingBefore (keeps_more width) width lines top)
    (h : IsBack width lines top after kept free) (at : r + after ≡ width) (some : 0 < r) where
  -- no unexplored set leads top
  none_leads : (q t : ℕ) → q ≤ width → LeadsAt q t top → IsUnexplored width lines t → ⊥
  none_leads q t high lead found = true≢false (sym (lt-ltb (keep width top) (keep width t) (leads_keeps width q t top high lead)) ∙ led t found)

  -- none has the same requests as top, up to r
  none_same : (t : ℕ) → IsUnexplored width lines t → SameBelow r t top → names t r ≡ names top r → ⊥
  none_same t found same e =
      h.gone t found (λ q low.
      elim (cases_eq q r) [ inl is ↦ ap (names t) is ∙ e ∙ sym (ap (names top) is) | inr other ↦ same q (omega arith) ])

  -- where top lacks r, none has the same below it
  pub gone_lacking : names top r ≡ false → (t : ℕ) → IsUnexplored width lines t → SameBelow r t top → ⊥
  gone_lacking lacks t found same =
      elim (cases_Bool (names t r)) [
        | inl there ↦ none_leads r t (omega arith) (record { there = there; away = lacks; same = same }) found
        | inr away ↦ none_same t found same (away ∙ sym lacks)
      ]

  -- then r is free too
  pub back_next : (less more : ℕ) → ((q : ℕ) → (names less q ≡ true) ↔ ((names top q ≡ true) × (q < r))) → names more r ≡ true
      → ((q : ℕ) → (q ≢ r) → names more q ≡ names free q) → ((t : ℕ) → IsUnexplored width lines t → SameBelow r t top → ⊥)
      → IsBack width lines top (after + 1) less more
  back_next less more keeps there others none = record {
    kept_is =
        λ q. (λ k. let b = (keeps q).0 k in (b.0, omega (arith, b.1)), λ b. (keeps q).1 (b.0, omega (arith, b.1)));
    free_is =
        λ q.
        elim (cases_eq q r) [
          | inl is ↦ (λ k. (omega arith, omega arith), λ b. ap (names more) is ∙ there)
          | inr other ↦ (
            λ k. let b = (h.free_is q).0 (sym (others q other) ∙ k) in (omega (arith, b.0), b.1),
            λ b. others q other ∙ (h.free_is q).1 (omega (arith, b.0, other), b.1),
          )
        ];
    gone = λ t found same. none t found (λ q small. same q (omega arith));
  }

  pub keeps_lacking : names top r ≡ false → (q : ℕ) → (names kept q ≡ true) ↔ ((names top q ≡ true) × (q < r))
  keeps_lacking lacks q = (
    λ k.
        let b = (h.kept_is q).0 k in
        let other : q ≢ r = not_lacked top q r b.0 lacks in
        (b.0, omega (arith, b.1, other)),
    λ b. (h.kept_is q).1 (b.0, omega (arith, b.1)),
  )

  -- where top has r, that is left out
  pub taken_out : (one less : ℕ) → width ≤ widest → names top r ≡ true → one ≡ added_from 1 none r → less ≡ minus kept one → OneMore less kept r
  taken_out one less narrow has is_one is_less =
      subst (λ n. OneMore n kept r) (sym (is_less ∙ ap (minus kept) is_one)) (freed_one kept r some (omega arith) ((h.kept_is r).1 (has, omega arith)))

  module _ (less : ℕ) (has : names top r ≡ true) (without : OneMore less kept r) where
    pub keeps_less : (q : ℕ) → (names less q ≡ true) ↔ ((names top q ≡ true) × (q < r))
    keeps_less q = (
      λ k.
          let b = (h.kept_is q).0 (still_named less kept r q without k) in
          let other : q ≢ r = not_lacked less q r k without.lacks in
          (b.0, omega (arith, b.1, other)),
      λ b. other_named less kept r q without (omega (arith, b.1)) ((h.kept_is q).1 (b.0, omega (arith, b.1))),
    )

    -- nothing that is found has a request twice over
    pub back_apart : bit_and less free ≡ none
    back_apart = nothing_common less free (λ q k f. omega (arith, ((keeps_less q).0 k).1, ((h.free_is q).0 f).0))

    pub gone_having : ((t : ℕ) → IsSought lines less free t → ⊥) → (t : ℕ) → IsUnexplored width lines t → SameBelow r t top → ⊥
    gone_having nothing t found same =
        elim (cases_Bool (names t r)) [
          | inl there ↦ none_same t found same (there ∙ sym has)
          | inr away ↦
              nothing t (
                record {
                  above = set_laws.2 less t (λ q k. let b = (keeps_less q).0 k in same q b.1 ∙ b.0);
                  below =
                      set_laws.2 t (bit_or less free) (λ q held.
                      elim (cases_order q r) [
                        | inl e ↦ absurd (true≢false (sym held ∙ ap (names t) e ∙ away))
                        | inr apart ↦ elim apart [
                          | inl small ↦ named_first less free q ((keeps_less q).1 (sym (same q small) ∙ held, small))
                          | inr past ↦ named_second less free q ((h.free_is q).1 (omega arith, set_laws.3 width t found.0 q held))
                        ]
                      ]);
                },
                found.1,
              )
        ]

    either_side : (best q : ℕ) → IsSought lines less free best → names best q ≡ true → ((names less q ≡ true) × (q < r)) ⊎ ((r < q) × (q ≤ width))
    either_side best q s held =
        elim (either_named less free q (part_names best (bit_or less free) s.0.below q held)) [
          | inl k ↦ inl (k, ((keeps_less q).0 k).1)
          | inr f ↦ let b = (h.free_is q).0 f in inr (omega (arith, b.0), b.1)
        ]

    -- each unexplored set is led by top where top has a request that it lacks: below r, or at r
    less_top : (q : ℕ) → q < r → names less q ≡ names top q
    less_top q small = same_tests (names less q) (names top q) (λ k. ((keeps_less q).0 k).0) (λ k. (keeps_less q).1 (k, small))

    from_apart : (t : ℕ) → IsUnexplored width lines t → SameBelow r t top ⊎ ((q : ℕ) × (q < r) × SameBelow q t top × (names t q ≢ names top q))
        → SameBelow (r + 1) less t ⊎ LeadsBelow (r + 1) less t
    from_apart t found (inl same) =
        elim (cases_Bool (names t r)) [
          | inl there ↦ absurd (none_same t found same (there ∙ sym has))
          | inr away ↦ inl (λ q small.
              elim (cases_eq q r) [
                | inl is ↦ ap (names less) is ∙ without.lacks ∙ sym away ∙ ap (names t) (sym is)
                | inr other ↦ let low : q < r = omega arith in less_top q low ∙ sym (same q low)
              ])
        ]
    from_apart t found (inr (q, low, same, apart)) =
        elim (cases_Bool (names t q)) [
          | inl there ↦
              let lacks : names top q ≡ false = false_from_ne_true (names top q) (λ k. apart (there ∙ sym k)) in
              absurd (none_leads q t (omega arith) (record { there = there; away = lacks; same = same }) found)
          | inr away ↦
              let held : names top q ≡ true = true_from_ne_false (names top q) (λ k. apart (away ∙ sym k)) in
              inr (
                q,
                omega arith,
                record {
                  there = less_top q low ∙ held;
                  away = away;
                  same = λ p small. let deep : p < r = omega arith in less_top p deep ∙ sym (same p small);
                },
              )
        ]

    first_now : (t : ℕ) → IsUnexplored width lines t → SameBelow (r + 1) less t ⊎ LeadsBelow (r + 1) less t
    first_now t found = from_apart t found (first_apart r t top)

    -- an unexplored set that is found is the first one in best
    pub left_at : (best : ℕ) → IsSought lines less free best → IsBest width lines (r + 1) free less best
    left_at best s = record {
      left =
          λ q. (
            λ k. let b = (h.free_is q).0 k in (omega (arith, b.0), b.1),
            λ b. (h.free_is q).1 (omega (arith, b.0), b.1),
          );
      low = λ q k. omega (arith, ((keeps_less q).0 k).1);
      decided =
          λ q small.
          same_tests (names less q) (names best q) (part_names less best s.0.above q) (λ held.
          elim (either_side best q s held) [ inl b ↦ b.0 | inr b ↦ absurd (omega (arith, b.0)) ]);
      unexplored = (
        set_laws.4 width best (λ q held. elim (either_side best q s held) [ inl b ↦ omega (arith, b.1) | inr b ↦ b.1 ]),
        s.1,
      );
      first = first_now;
    }
