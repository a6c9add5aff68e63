-- The set in best while the requests are decided one by one, and that it is the foremost unexplored set once all are. Assumes nothing.
use Rattle.std.proofs.Common.{◌≡◌, ◌≢◌, ℕ, ◌+◌, ◌<◌, ◌≤◌, ◌↔◌, Bool, true, false, ◌⊎◌, List, sym, refl, ap, ◌∙◌, inl, inr, arith}
use lib.Bits.{bit_and, bit_or}
use Rattle.std.proofs.lemmas.Bool.{cases_Bool, cases_lt, cases_eq, cases_order, true≢false, false_from_ne_true, lt-ltb}
use Rattle.sets.specs.Members.{none}
use Rattle.sets.specs.Requests.{names, Part, keep}
use Rattle.sets.proofs.Weights.{part_names, names_past, set_laws}
use Rattle.listing.specs.Lines.{IsUnexplored}
use Rattle.listing.specs.Orders.{keeps_more, IsForemost}
use Rattle.listing.specs.Settling.{IsBetween, IsSought}
use Rattle.listing.specs.declared.lines.Line.{Line}
use Rattle.listing.specs.Deciding.{SameBelow, LeadsBelow, IsBest}
use Rattle.listing.proofs.SeedWeights.{leads_keeps}
use Rattle.listing.proofs.SettleBits.{either_named, named_first, named_second, nothing_common, OneMore, still_named, other_named}

-- tests that follow from one another are the same
pub same_tests : (x y : Bool) → (x ≡ true → y ≡ true) → (y ≡ true → x ≡ true) → x ≡ y
same_tests true y f g = sym (f refl)
same_tests false true f g = g refl
same_tests false false f g = refl

-- when request r is decided, it is no longer free; it may be kept too
module _ (width : ℕ) (lines : List Line) (r free kept best : ℕ) (h : IsBest width lines r free kept best) (less : ℕ) (without : OneMore less free r) where
  left_less : (q : ℕ) → (names less q ≡ true) ↔ ((r + 1 ≤ q) × (q ≤ width))
  left_less q = (
    λ there.
        let bounds = (h.left q).0 (still_named less free r q without there) in
        let other : q ≢ r = λ same. true≢false (sym there ∙ ap (names less) same ∙ without.lacks) in
        (omega (arith, bounds.0, other), bounds.1),
    λ (past, high). other_named less free r q without (omega arith) ((h.left q).1 (omega arith, high)),
  )

  module _ (more : ℕ) (with : OneMore kept more r) where
    low_more : (q : ℕ) → names more q ≡ true → q < r + 1
    low_more q there =
        elim (cases_eq q r) [
          | inl same ↦ omega arith
          | inr other ↦ let low : q < r = h.low q (other_named kept more r q with other there) in omega arith
        ]

    below_more : SameBelow r more kept
    below_more q small = with.others q (omega arith)

    -- a set that agrees with what is kept and has request r lies between what is kept with it and this with the other free ones
    between : (t : ℕ) → SameBelow r kept t → names t r ≡ true → ((q : ℕ) → names t q ≡ true → q ≤ width) → IsBetween more less t
    between t same there inside = record {
      above =
          set_laws.2 more t (λ q m.
          elim (cases_eq q r) [
            | inl e ↦ ap (names t) e ∙ there
            | inr other ↦ let k = other_named kept more r q with other m in sym (same q (h.low q k)) ∙ k
          ]);
      below =
          set_laws.2 t (bit_or more less) (λ q held.
          elim (cases_order q r) [
            | inl e ↦ named_first more less q (ap (names more) e ∙ with.there)
            | inr apart ↦ elim apart [
              | inl small ↦ named_first more less q (still_named kept more r q with (same q small ∙ held))
              | inr past ↦ named_second more less q ((left_less q).1 (omega arith, inside q held))
            ]
          ]);
    }

    -- as does the set in best with it
    pub wider_between : (wider : ℕ) → names wider r ≡ true → ((q : ℕ) → (q ≢ r) → names wider q ≡ names best q) → IsBetween more less wider
    wider_between wider there others =
        between wider (λ q small. h.decided q small ∙ sym (others q (omega arith))) there (λ q held.
        elim (cases_eq q r) [
          | inl same ↦ let high : r ≤ width = ((h.left r).0 without.there).1 in omega arith
          | inr other ↦ set_laws.3 width best h.unexplored.0 q (sym (others q other) ∙ held)
        ])

    -- no other free request is among the decided ones
    pub apart : bit_and more less ≡ none
    apart = nothing_common more less (λ q m l. let low : q < r + 1 = low_more q m in let past : r + 1 ≤ q = ((left_less q).0 l).0 in omega arith)

    -- if an unexplored set is found there, it is the next set in best
    either_side : (q t : ℕ) → Part t (bit_or more less) → names t q ≡ true → (names more q ≡ true) ⊎ ((r + 1 ≤ q) × (q ≤ width))
    either_side q t below held =
        elim (either_named more less q (part_names t (bit_or more less) below q held)) [ inl m ↦ inl m | inr l ↦ inr ((left_less q).0 l) ]

    next_first : (t : ℕ) → SameBelow r kept t ⊎ LeadsBelow r kept t → SameBelow (r + 1) more t ⊎ LeadsBelow (r + 1) more t
    next_first t (inl same) =
        elim (cases_Bool (names t r)) [
          | inl there ↦ inl (λ q small.
              elim (cases_eq q r) [
                | inl e ↦ ap (names more) e ∙ with.there ∙ sym there ∙ ap (names t) (sym e)
                | inr other ↦ with.others q other ∙ same q (omega arith)
              ])
          | inr away ↦ inr (r, omega arith, record { there = with.there; away = away; same = λ q small. below_more q small ∙ same q small })
        ]
    next_first t (inr (q, low, lead)) =
        inr (
          q,
          omega arith,
          record {
            there = below_more q low ∙ lead.there;
            away = lead.away;
            same = λ p small. below_more p (omega arith) ∙ lead.same p small;
          },
        )

    pub kept_best : (better : ℕ) → IsSought lines more less better → IsBest width lines (r + 1) less more better
    kept_best better s = record {
      left = left_less;
      low = low_more;
      decided =
          λ q small.
          same_tests (names more q) (names better q) (part_names more better s.0.above q) (λ held.
          elim (either_side q better s.0.below held) [ inl m ↦ m | inr bounds ↦ absurd (omega (arith, bounds.0)) ]);
      unexplored = (
        set_laws.4 width better (λ q held.
            elim (either_side q better s.0.below held) [
              | inl m ↦
                  let high : r ≤ width = ((h.left r).0 without.there).1 in
                  let low : q < r + 1 = low_more q m in
                  omega arith
              | inr bounds ↦ bounds.1
            ]),
        s.1,
      );
      first = λ t found. next_first t (h.first t found);
    }

    -- if none is, request r is left out
    left_first : ((t : ℕ) → IsSought lines more less t → ⊥) → (t : ℕ) → IsUnexplored width lines t → SameBelow r kept t ⊎ LeadsBelow r kept t
        → SameBelow (r + 1) kept t ⊎ LeadsBelow (r + 1) kept t
    left_first nothing t found (inl same) =
        let away : names t r ≡ false =
        false_from_ne_true (names t r) (λ there. nothing t (between t same there (set_laws.3 width t found.0), found.1))
        in inl (λ q small.
        elim (cases_eq q r) [
          | inl e ↦ ap (names kept) e ∙ with.lacks ∙ sym away ∙ ap (names t) (sym e)
          | inr other ↦ same q (omega arith)
        ])
    left_first nothing t found (inr (q, low, lead)) = inr (q, omega arith, lead)

    best_lacks : ((t : ℕ) → IsSought lines more less t → ⊥) → names best r ≡ false
    best_lacks nothing =
        false_from_ne_true (names best r) (λ there.
        nothing best (between best h.decided there (set_laws.3 width best h.unexplored.0), h.unexplored.1))

    pub left_best : ((t : ℕ) → IsSought lines more less t → ⊥) → IsBest width lines (r + 1) less kept best
    left_best nothing = record {
      left = left_less;
      low = λ q k. let low : q < r = h.low q k in omega arith;
      decided =
          λ q small.
          elim (cases_eq q r) [
            | inl e ↦ ap (names kept) e ∙ with.lacks ∙ sym (best_lacks nothing) ∙ ap (names best) (sym e)
            | inr other ↦ h.decided q (omega arith)
          ];
      unexplored = h.unexplored;
      first = λ t found. left_first nothing t found (h.first t found);
    }

-- once all are decided, the set in best is the foremost
pub last_best : (width : ℕ) (lines : List Line) (r free kept best : ℕ) → IsBest width lines r free kept best → width < r
    → IsForemost (keeps_more width) (IsUnexplored width lines) best
last_best width lines r free kept best h end = (
  h.unexplored,
  λ t found other.
      elim (h.first t found) [
        | inl same ↦
            absurd (other (set_laws.0 t best (λ q.
            elim (cases_lt q r) [
              | inl small ↦ sym (same q small) ∙ h.decided q small
              | inr past ↦ names_past width t q found.0 (omega arith) ∙ sym (names_past width best q h.unexplored.0 (omega arith))
            ])))
        | inr (q, low, lead) ↦
            let held : names best q ≡ true = sym (h.decided q low) ∙ lead.there in
            lt-ltb (keep width t) (keep width best)
            (leads_keeps width q best t (set_laws.3 width best h.unexplored.0 q held) (record {
              there = held;
              away = lead.away;
              same = λ p small. sym (h.decided p (omega arith)) ∙ lead.same p small;
            }))
      ],
)
