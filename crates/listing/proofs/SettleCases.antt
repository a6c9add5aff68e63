-- A request of a question is decided both ways: what is found with it, or without it, and what it says that nothing is found. Assumes nothing.
use Rattle.std.proofs.Common.{◌≡◌, ◌≢◌, ℕ, ◌-◌, ◌<◌, ◌≤◌, Bool, true, false, not, ◌⊎◌, List, Option, Some, None, refl, sym, ◌∙◌, subst, inl, inr, arith}
use lib.Bits.{bit_and, and_le_l}
use lib.Count.{ones}
use Rattle.std.proofs.lemmas.Bool.{true≢false, false_from_ne_true}
use Rattle.sets.specs.Members.{none, added_from, minus}
use Rattle.sets.specs.Requests.{widest, names, Within, Part}
use Rattle.sets.specs.declared.Members.{Members}
use Rattle.sets.specs.Sets.{bits_of}
use Rattle.sets.proofs.Naming.{set_adds}
use Rattle.sets.proofs.Halves.{minus_part}
use Rattle.sets.proofs.Parts.{part_below, part_ones}
use Rattle.sets.proofs.Weights.{part_names}
use Rattle.listing.specs.Settling.{lacking_of, Settles, Settled, SettledWhere}
use Rattle.listing.proofs.SettleBits.{request_places, common_not_none, OneMore, added_one, freed_one}
use Rattle.listing.proofs.SettleSteps.{with_settles, settles_with, without_settles, settles_without}

-- a truth value is another or its opposite
same_or_not : (x y : Bool) → (x ≡ y) ⊎ (x ≡ not y)
same_or_not true true = inl refl
same_or_not true false = inr refl
same_or_not false true = inr refl
same_or_not false false = inl refl

-- a request of a set that fits is one that can be taken away
pub freed : (n r : ℕ) → Within widest n → names n r ≡ true → OneMore (minus n (added_from 1 none r)) n r
freed n r small there = let place = request_places n r small there in freed_one n r place.0 place.1 there

-- the free requests without one of them are fewer
apart : (n m : ℕ) → (bit_and n m ≢ none) → n - bit_and n m < n
apart n m some = let low : bit_and n m ≤ n = and_le_l n m in omega (arith, some)

module _ (free less r : ℕ) (small : Within widest free) (there : names free r ≡ true) (is_less : less ≡ minus free (added_from 1 none r)) where
  pub less_smaller : less < free
  less_smaller =
      let place = request_places free r small there in
      let one_there : names (added_from 1 none r) r ≡ true = (set_adds none r place.0 place.1).0 in
      subst (λ n. n < free) (sym is_less) (apart free (added_from 1 none r) (λ e. common_not_none free (added_from 1 none r) r e there one_there))

  -- and have fewer members
  pub less_members : ones less < ones free
  less_members =
      part_ones less free (subst (λ n. Part n free) (sym is_less) (minus_part free (added_from 1 none r)))
      (λ same. omega (arith, less_smaller, same))

  one : OneMore less free r
  one = subst (λ n. OneMore n free r) (sym is_less) (freed free r small there)

  -- what is found with the request, or without it, is found; and where nothing is, there is nothing
  module _ (conflicts drops rest : List (Members 1)) where
    pub found_with : (x : ℕ) → rest ≡ lacking_of r drops → Settles less conflicts rest x → Settles free conflicts drops (added_from 1 x r)
    found_with x e s =
        let place = request_places free r small there in
        let away : names x r ≡ false = false_from_ne_true (names x r) (λ h. true≢false (sym (part_names x less s.inside r h) ∙ one.lacks)) in
        with_settles less free r one conflicts drops x (added_from 1 x r) (added_one x r place.0 place.1 away) (subst (λ l. Settles less conflicts l x) e s)

    pub none_with : rest ≡ lacking_of r drops → ((x : ℕ) → Settles less conflicts rest x → ⊥) → (x : ℕ) → Settles free conflicts drops x → names x r ≡ true → ⊥
    none_with e nothing x s h =
        let fewer : ℕ = minus x (added_from 1 none r) in
        let fits : Within widest x = part_below widest x free s.inside small in
        nothing fewer (subst (λ l. Settles less conflicts l fewer) (sym e) (settles_with less free r one conflicts drops fewer x (freed x r fits h) s))

    pub found_without : (x : ℕ) → rest ≡ lacking_of r conflicts → Settles less rest drops x → Settles free conflicts drops x
    found_without x e s = without_settles less free r one conflicts drops x (subst (λ l. Settles less l drops x) e s)

    pub none_without : rest ≡ lacking_of r conflicts → ((x : ℕ) → Settles less rest drops x → ⊥) → (x : ℕ) → Settles free conflicts drops x → names x r ≡ false → ⊥
    none_without e nothing x s away = nothing x (subst (λ l. Settles less l drops x) (sym e) (settles_without less free r one conflicts drops x away s))

    -- the same of what is found without it, whether it is or not
    pub told_without : (found : Option (Members 1)) → rest ≡ lacking_of r conflicts → Settled less rest drops found → SettledWhere r false free conflicts drops found
    told_without (Some x) e s = found_without (bits_of x) e s
    told_without None e nothing = none_without e nothing

-- with both ways looked at, nothing is left out
pub decided : (there : Bool) (free r : ℕ) (conflicts drops : List (Members 1)) (found : Option (Members 1))
    → ((x : ℕ) → Settles free conflicts drops x → names x r ≡ not there → ⊥) → SettledWhere r there free conflicts drops found
    → Settled free conflicts drops found
decided there free r conflicts drops (Some x) nothing s = s
decided there free r conflicts drops None nothing nor = λ x s. elim (same_or_not (names x r) there) [ inl e ↦ nor x s e | inr e ↦ nothing x s e ]
