-- Keep weight is an order, and in any order the foremost unexplored set is what is told as such. Assumes nothing.
use Rattle.std.proofs.Common.{◌≡◌, ◌≢◌, ℕ, zero, suc, ◌^◌, ◌<◌, Bool, true, not, cond, ◌⊎◌, List, [], ◌∷◌, Option, Some, None, sym, refl, ap, ◌∙◌, subst, inl, inr, arith}
use Rattle.std.specs.List.{filter}
use Rattle.std.proofs.lemmas.Bool.{cond_both, cases_eq, cases_order, ltb-true, lt-ltb, le-ltb, not-true, not_from_false, true≢false}
use Rattle.sets.specs.Requests.{Within, keep}
use Rattle.sets.specs.SetLaws.{PartKeepsLess, KeepTells}
use Rattle.sets.proofs.Weights.{set_laws}
use Rattle.listing.specs.Lines.{explored, IsUnexplored}
use Rattle.listing.specs.OrderLaws.{KeepOrders, ForemostIs, ForemostNone, OrderLaws}
use Rattle.listing.specs.Orders.{IsOrder, keeps_more, IsForemost, sets_below, ahead, first_of, foremost}
use Rattle.listing.specs.declared.lines.Line.{Line}

-- what keep weight tells, from the laws of sets
keeps_less : PartKeepsLess
keeps_less = set_laws.8

keep_tells : KeepTells
keep_tells = set_laws.9

keep_total : (width s t : ℕ) → Within width s → Within width t → (s ≢ t) → (keeps_more width s t ≡ true) ⊎ (keeps_more width t s ≡ true)
keep_total width s t small smaller other =
    elim (cases_order (keep width s) (keep width t)) [
      | inl same ↦ absurd (other (keep_tells width s t small smaller same))
      | inr (inl less) ↦ inr (lt-ltb (keep width s) (keep width t) less)
      | inr (inr more) ↦ inl (lt-ltb (keep width t) (keep width s) more)
    ]

keep_orders : KeepOrders
keep_orders width = record {
  one_way = λ s t e. let less : keep width t < keep width s = ltb-true (keep width t) (keep width s) e in le-ltb (keep width s) (keep width t) (omega arith);
  onward = λ s t u e f.
      let first : keep width t < keep width s = ltb-true (keep width t) (keep width s) e in
      let second : keep width u < keep width t = ltb-true (keep width u) (keep width t) f in
      lt-ltb (keep width u) (keep width s) (omega arith);
  total = keep_total width;
  whole_first = λ t s small part. lt-ltb (keep width t) (keep width s) (keeps_less width t s small part.0 part.1);
}

-- s stands in a list
abbrev In : ℕ → List ℕ → Type 0
In s [] = ⊥
In s (x ∷ xs) = (s ≡ x) ⊎ In s xs

-- a filter keeps what passes, and nothing else
filter_keeps : (p : ℕ → Bool) (xs : List ℕ) (s : ℕ) → In s xs → p s ≡ true → In s (filter p xs)
filter_keeps p [] s there pass = there
filter_keeps p (x ∷ xs) s (inl here) pass =
    cond_both (p x) (x ∷ filter p xs) (filter p xs) (In s) (λ e. inl here) (λ e. absurd (true≢false (sym pass ∙ ap p here ∙ e)))
filter_keeps p (x ∷ xs) s (inr later) pass =
    let rest : In s (filter p xs) = filter_keeps p xs s later pass in
    cond_both (p x) (x ∷ filter p xs) (filter p xs) (In s) (λ e. inr rest) (λ e. rest)

filter_from : (p : ℕ → Bool) (xs : List ℕ) (s : ℕ) → In s (filter p xs) → In s xs × (p s ≡ true)
filter_from p [] s = λ there. absurd there
filter_from p (x ∷ xs) s =
    cond_both (p x) (x ∷ filter p xs) (filter p xs) (λ ys. In s ys → In s (x ∷ xs) × (p s ≡ true))
    (λ pass there. elim there [ inl here ↦ (inl here, ap p here ∙ pass) | inr later ↦ let rest = filter_from p xs s later in (inr rest.0, rest.1) ])
    (λ fail later. let rest = filter_from p xs s later in (inr rest.0, rest.1))

-- the sets below a number are those that are less
below_in : (n s : ℕ) → s < n → In s (sets_below n)
unfolding sets_below
below_in zero s less = absurd (omega arith)
below_in (suc n) s less = elim (cases_eq s n) [ inl here ↦ inl here | inr other ↦ inr (below_in n s (omega arith)) ]

in_below : (n s : ℕ) → In s (sets_below n) → s < n
unfolding sets_below
in_below zero s there = absurd there
in_below (suc n) s (inl here) = omega arith
in_below (suc n) s (inr later) = let less : s < n = in_below n s later in omega arith

-- of some sets one is told as the foremost, or none where there are none
abbrev TellsForemost : (before : ℕ → ℕ → Bool) (P : ℕ → Type 0) → Option ℕ → Type 0
TellsForemost before P None = (s : ℕ) → P s → ⊥
TellsForemost before P (Some s) = IsForemost before P s

-- with one more set in front the foremost is that or the one before
module _ (before : ℕ → ℕ → Bool) (width : ℕ) (order : IsOrder width before) where
  still_foremost : (s t : ℕ) (ss : List ℕ) → Within width s → Within width t → IsForemost before (λ u. In u ss) t
      → IsForemost before (λ u. In u (s ∷ ss)) (cond (before s t) s t)
  still_foremost s t ss small smaller (there, first) =
      cond_both (before s t) s t (IsForemost before (λ u. In u (s ∷ ss)))
      (λ ahead. (
        inl refl,
        λ u among other.
            elim among [
              | inl here ↦ absurd (other here)
              | inr later ↦ elim (cases_eq u t) [ inl same ↦ ap (before s) same ∙ ahead | inr apart ↦ order.onward s t u ahead (first u later apart) ]
            ],
      ))
      (λ behind. (
        inr there,
        λ u among other.
            elim among [
              | inr later ↦ first u later other
              | inl here ↦ elim (order.total s t small smaller (λ e. other (here ∙ e))) [
                | inl ahead ↦ absurd (true≢false (sym ahead ∙ behind))
                | inr after ↦ ap (before t) here ∙ after
              ]
            ],
      ))

  one_more : (s : ℕ) (ss : List ℕ) (o : Option ℕ) → Within width s → ((u : ℕ) → In u ss → Within width u) → TellsForemost before (λ u. In u ss) o
      → TellsForemost before (λ u. In u (s ∷ ss)) (ahead before s o)
  one_more s ss None small within nobody = (inl refl, λ u among other. elim among [ inl here ↦ absurd (other here) | inr later ↦ absurd (nobody u later) ])
  one_more s ss (Some t) small within first = still_foremost s t ss small (within t first.0) first

  first_tells : (ss : List ℕ) → ((u : ℕ) → In u ss → Within width u) → TellsForemost before (λ u. In u ss) (first_of before ss)
  first_tells [] within = λ s there. there
  first_tells (s ∷ ss) within =
      one_more s ss (first_of before ss) (within s (inl refl)) (λ u later. within u (inr later)) (first_tells ss (λ u later. within u (inr later)))

-- the same of any sets that are those of the list
tells_like : (before : ℕ → ℕ → Bool) (P Q : ℕ → Type 0) (o : Option ℕ) → ((s : ℕ) → P s → Q s) → ((s : ℕ) → Q s → P s) → TellsForemost before P o
    → TellsForemost before Q o
tells_like before P Q None to from nobody = λ s there. nobody s (from s there)
tells_like before P Q (Some s) to from first = (to s first.0, λ t there other. first.1 t (from t there) other)

foremost_tells : (before : ℕ → ℕ → Bool) (width : ℕ) (lines : List Line) → IsOrder width before
    → TellsForemost before (IsUnexplored width lines) (foremost before width lines)
unfolding foremost
foremost_tells before width lines order =
    let test : ℕ → Bool = λ s. not (explored lines s) in
    let ss : List ℕ = filter test (sets_below (2 ^ width)) in
    let to : (s : ℕ) → In s ss → IsUnexplored width lines s =
    λ s there. let both = filter_from test (sets_below (2 ^ width)) s there in (in_below (2 ^ width) s both.0, not-true (explored lines s) both.1)
    in
    let from : (s : ℕ) → IsUnexplored width lines s → In s ss =
    λ s unexplored. filter_keeps test (sets_below (2 ^ width)) s (below_in (2 ^ width) s unexplored.0) (not_from_false (explored lines s) unexplored.1)
    in
    tells_like before (λ s. In s ss) (IsUnexplored width lines) (first_of before ss) to from (first_tells before width order ss (λ s there. (to s there).0))

-- there is no more than one foremost set
one_foremost : (before : ℕ → ℕ → Bool) (width : ℕ) (P : ℕ → Type 0) (s t : ℕ) → IsOrder width before → IsForemost before P s → IsForemost before P t → s ≡ t
one_foremost before width P s t order first second =
    elim (cases_eq s t) [
      | inl same ↦ same
      | inr other ↦
          absurd (true≢false (sym (second.1 s first.0 other) ∙ order.one_way s t (first.1 t second.0 (λ e. other (sym e)))))
    ]

told_as : (before : ℕ → ℕ → Bool) (width : ℕ) (P : ℕ → Type 0) (o : Option ℕ) (s : ℕ) → IsOrder width before → TellsForemost before P o → IsForemost before P s
    → o ≡ Some s
told_as before width P None s order nobody first = absurd (nobody s first.0)
told_as before width P (Some t) s order second first = ap Some (one_foremost before width P t s order second first)

foremost_is : ForemostIs
foremost_is before width lines s order = (
  λ e. subst (TellsForemost before (IsUnexplored width lines)) e (foremost_tells before width lines order),
  λ first. told_as before width (IsUnexplored width lines) (foremost before width lines) s order (foremost_tells before width lines order) first,
)

none_told : (before : ℕ → ℕ → Bool) (P : ℕ → Type 0) (o : Option ℕ) → TellsForemost before P o → ((s : ℕ) → P s → ⊥) → o ≡ None
none_told before P None nobody nothing = refl
none_told before P (Some s) first nothing = absurd (nothing s first.0)

foremost_none : ForemostNone
foremost_none before width lines order = (
  λ e. subst (TellsForemost before (IsUnexplored width lines)) e (foremost_tells before width lines order),
  λ nothing. none_told before (IsUnexplored width lines) (foremost before width lines) (foremost_tells before width lines order) nothing,
)

pub order_laws : OrderLaws
order_laws = (keep_orders, foremost_is, foremost_none)
