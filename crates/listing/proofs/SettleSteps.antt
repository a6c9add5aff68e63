-- What settles a question with a request, or without it, settles it; and how a question ends that has no conflict or no drop left, or an empty one. Assumes nothing.
use Rattle.std.proofs.Common.{◌≡◌, ℕ, Bool, true, false, not, List, [], ◌∷◌, sym, ap, ◌∙◌, subst, inl, inr}
use lib.Bits.{bit_and}
use Rattle.std.specs.List.{All, AllByRecursion, filter}
use Rattle.std.proofs.lemmas.Bool.{cases_eq, cond_both, true≢false, not-true, not-false}
use Rattle.std.proofs.lemmas.List.Elements.{All-from_recursion, recursion_from_All, All-weaker}
use Rattle.sets.specs.Requests.{names, Part}
use Rattle.sets.specs.Sets.{bits_of}
use Rattle.sets.specs.declared.Members.{Members}
use Rattle.sets.proofs.Parts.{part_trans, part_antisym}
use Rattle.sets.proofs.Weights.{part_names, set_laws}
use Rattle.listing.specs.Settling.{lacking_of, Avoids, Meets, Settles}
use Rattle.listing.proofs.SettleBits.{both_named, named_both, nothing_common, common_not_none, OneMore, still_named, other_named, not_lacked}

-- what holds of all that pass a test gives what is to hold of all
passing : {X : Type 0} (test : X → Bool) (P Q : X → Type 0) → ((x : X) → test x ≡ true → P x → Q x) → ((x : X) → test x ≡ false → Q x) → (xs : List X)
    → AllByRecursion P (filter test xs) → AllByRecursion Q xs
passing test P Q pass fail [] h = tt
passing test P Q pass fail (x ∷ xs) h =
    cond_both (test x) (x ∷ filter test xs) (filter test xs) (λ l. AllByRecursion P l → AllByRecursion Q (x ∷ xs))
    (λ there held. (pass x there held.0, passing test P Q pass fail xs held.1))
    (λ away held. (fail x away, passing test P Q pass fail xs held))
    h

-- and what holds of all gives what is to hold of those that pass
passed : {X : Type 0} (test : X → Bool) (P Q : X → Type 0) → ((x : X) → test x ≡ true → Q x → P x) → (xs : List X)
    → AllByRecursion Q xs → AllByRecursion P (filter test xs)
passed test P Q pass [] h = tt
passed test P Q pass (x ∷ xs) h =
    cond_both (test x) (x ∷ filter test xs) (filter test xs) (λ l. AllByRecursion P l) (λ there. (pass x there h.0, passed test P Q pass xs h.1)) (λ away. passed test P Q pass xs h.1)

-- the same of the sets that lack a request
module _ (r : ℕ) (P Q : Members 1 → Type 0) where
  lacking_all : ((s : Members 1) → names (bits_of s) r ≡ false → P s → Q s) → ((s : Members 1) → names (bits_of s) r ≡ true → Q s) → (sets : List (Members 1))
      → All P (lacking_of r sets) → All Q sets
  lacking_all lacks has sets h =
      All-from_recursion Q sets
      (passing (λ s. not (names (bits_of s) r)) P Q (λ s e. lacks s (not-true (names (bits_of s) r) e)) (λ s e. has s (not-false (names (bits_of s) r) e)) sets
      (recursion_from_All P (lacking_of r sets) h))

  all_lacking : ((s : Members 1) → names (bits_of s) r ≡ false → Q s → P s) → (sets : List (Members 1)) → All Q sets → All P (lacking_of r sets)
  all_lacking lacks sets h =
      All-from_recursion P (lacking_of r sets)
      (passed (λ s. not (names (bits_of s) r)) P Q (λ s e. lacks s (not-true (names (bits_of s) r) e)) sets (recursion_from_All Q sets h))

-- what settles a question, from what settles one of which a request is decided
module _ (less free r : ℕ) (one : OneMore less free r) where
  less_part : Part less free
  less_part = set_laws.2 less free (λ q h. still_named less free r q one h)

  -- a conflict lies in a set with the request exactly where it lies, but for the request, in the set without it
  cut_with : (c x y : ℕ) → OneMore x y r → Part (bit_and c free) y → Part (bit_and c less) x
  cut_with c x y more p =
      set_laws.2 (bit_and c less) x (λ q h.
      let both = both_named c less q h in
      other_named x y r q more (not_lacked less q r both.1 one.lacks)
      (part_names (bit_and c free) y p q (named_both c free q both.0 (still_named less free r q one both.1))))

  with_cut : (c x y : ℕ) → OneMore x y r → Part (bit_and c less) x → Part (bit_and c free) y
  with_cut c x y more p =
      set_laws.2 (bit_and c free) y (λ q h.
      let both = both_named c free q h in
      elim (cases_eq q r) [
        | inl same ↦ ap (names y) same ∙ more.there
        | inr other ↦ still_named x y r q more (part_names (bit_and c less) x p q (named_both c less q both.0 (other_named less free r q one other both.1)))
      ])

  pub with_settles : (conflicts drops : List (Members 1)) (x y : ℕ) → OneMore x y r → Settles less conflicts (lacking_of r drops) x → Settles free conflicts drops y
  with_settles conflicts drops x y more s = record {
    inside =
        set_laws.2 y free (λ q h.
        elim (cases_eq q r) [
          | inl same ↦ ap (names free) same ∙ one.there
          | inr other ↦ still_named less free r q one (part_names x less s.inside q (other_named x y r q more other h))
        ]);
    avoids = All-weaker (Avoids less x) (Avoids free y) (λ c no p. no (cut_with (bits_of c) x y more p)) conflicts s.avoids;
    meets =
        lacking_all r (Meets x) (Meets y)
        (λ d away some e. some (nothing_common (bits_of d) x (λ q there too. common_not_none (bits_of d) y q e there (still_named x y r q more too))))
        (λ d there e. common_not_none (bits_of d) y r e there more.there) drops s.meets;
  }

  pub settles_with : (conflicts drops : List (Members 1)) (x y : ℕ) → OneMore x y r → Settles free conflicts drops y → Settles less conflicts (lacking_of r drops) x
  settles_with conflicts drops x y more s = record {
    inside =
        set_laws.2 x less (λ q h.
        other_named less free r q one (not_lacked x q r h more.lacks) (part_names y free s.inside q (still_named x y r q more h)));
    avoids = All-weaker (Avoids free y) (Avoids less x) (λ c no p. no (with_cut (bits_of c) x y more p)) conflicts s.avoids;
    meets =
        all_lacking r (Meets x) (Meets y)
        (λ d away some e.
        some (nothing_common (bits_of d) y (λ q there too.
        common_not_none (bits_of d) x q e there (other_named x y r q more (not_lacked (bits_of d) q r there away) too)))) drops s.meets;
  }

  -- without the request a conflict that lacks it is cut to the same set
  cut_same : (c : ℕ) → names c r ≡ false → bit_and c free ≡ bit_and c less
  cut_same c away =
      part_antisym (bit_and c free) (bit_and c less)
      (set_laws.2 (bit_and c free) (bit_and c less) (λ q h.
      let both = both_named c free q h in
      named_both c less q both.0 (other_named less free r q one (not_lacked c q r both.0 away) both.1)))
      (set_laws.2 (bit_and c less) (bit_and c free) (λ q h.
      let both = both_named c less q h in
      named_both c free q both.0 (still_named less free r q one both.1)))

  pub without_settles : (conflicts drops : List (Members 1)) (x : ℕ) → Settles less (lacking_of r conflicts) drops x → Settles free conflicts drops x
  without_settles conflicts drops x s = record {
    inside = part_trans x less free s.inside less_part;
    avoids =
        lacking_all r (Avoids less x) (Avoids free x)
        (λ c away no p. no (subst (λ k. Part k x) (cut_same (bits_of c) away) p))
        (λ c there p.
        let held : names x r ≡ true = part_names (bit_and (bits_of c) free) x p r (named_both (bits_of c) free r there one.there) in
        true≢false (sym (part_names x less s.inside r held) ∙ one.lacks))
        conflicts s.avoids;
    meets = s.meets;
  }

  pub settles_without : (conflicts drops : List (Members 1)) (x : ℕ) → names x r ≡ false → Settles free conflicts drops x
      → Settles less (lacking_of r conflicts) drops x
  settles_without conflicts drops x lacks s = record {
    inside = set_laws.2 x less (λ q h. other_named less free r q one (not_lacked x q r h lacks) (part_names x free s.inside q h));
    avoids =
        all_lacking r (Avoids less x) (Avoids free x) (λ c away no p. no (subst (λ k. Part k x) (sym (cut_same (bits_of c) away)) p)) conflicts s.avoids;
    meets = s.meets;
  }
