-- The turns of a `for` over the fields of a value with their places. Assumes nothing.
use Rattle.std.proofs.Common.{◌≡◌, ℕ, ◌<◌, ◌≤◌, List, length, get_or, Some, None, Option, Bool, false, Bor, eqb, ap, ◌∙◌, arith}
use Rattle.std.proofs.lemmas.Iterator.{YieldsList}
use Rattle.std.proofs.lemmas.Iterator.Consumers.{YieldsList-at, YieldsList-from_enumerate, YieldsList-turn, YieldsList-end}
use Rattle.std.proofs.lemmas.Iterator.Splits.{YieldsList-from_slice_split}
use Rattle.std.proofs.lemmas.List.FromFn.{length-enumerate_from, get_or-enumerate_from}
use Rattle.std.specs.Fn.{CalledAt, Mut}
use Rattle.std.specs.Iterator.{Yields}
use Rattle.std.specs.Iterator.Adapters.{enumerate_source, enumerate_count, enumerate_steps}
use Rattle.std.specs.List.{enumerate_from}
use Rattle.std.specs.Slice.Iter.{split_rest, split_done, split_callee, split_steps}
use Rattle.std.specs.declared.iter.Enumerate.{Enumerate}
use Rattle.std.specs.declared.slice.Split.{Split}
use Rattle.fields.specs.Cuts.{fields}

-- a walk over the fields, each with its place
abbrev pub Walk : {S : Type 0} → (S → Option (ℕ × Bor (List ℕ)) → S → Type 0) → S → List ℕ → Type 0
Walk steps s value = YieldsList {B = ℕ × List ℕ} steps (λ p. (p.0, p.1.now)) s (enumerate_from 0 (fields value))

-- as `split` and `enumerate` make it, of a closure that tells the commas
pub walk : {F : Type 0} (g : Mut F (Bor ℕ × Unit {0}) Bool) (value : List ℕ) (s : Split ℕ F) (e d : Enumerate (Split ℕ F)) (f : F) → split_rest s ≡ value → split_done s ≡ false → split_callee s ≡ f → enumerate_source e ≡ s
    → enumerate_count e ≡ 0 → d ≡ e → ((b : ℕ) (r : Bool) (q : F) → CalledAt g f b r q → (q ≡ f) × (r ≡ eqb b 44)) → Walk (enumerate_steps (split_steps g)) d value
walk g value s e d f rest done callee source count same tells =
    YieldsList-at same (YieldsList-from_enumerate (YieldsList-at source (YieldsList-from_slice_split g (λ b. eqb b 44) value rest done callee tells)) count)

module _ {S : Type 0} {steps : S → Option (ℕ × Bor (List ℕ)) → S → Type 0} {s : S} (value : List ℕ) (w : Walk steps s value) (before : List (ℕ × Bor (List ℕ))) (t : S) (so_far : Yields steps s before t) where
  -- this turn's field
  pub turn : (r : Option (ℕ × Bor (List ℕ))) (u : S) (p : ℕ × Bor (List ℕ)) → r ≡ Some p → steps t r u → (length before < length (fields value)) × (p.0 ≡ length before) × (p.1.now ≡ get_or (fields value) (length before) p.1.now)
  turn r u p is step =
      let here = YieldsList-turn w before t so_far r u p is step in
      let lt : length before < length (fields value) = omega (arith, here.0, length-enumerate_from 0 (fields value)) in
      let at = here.1 ∙ get_or-enumerate_from 0 (fields value) (length before) (p.0, p.1.now) lt in
      (lt, omega (arith, ap (λ q. q.0) at), ap (λ q. q.1) at)

  -- past the last field
  pub no_turn : (r : Option (ℕ × Bor (List ℕ))) (u : S) → r ≡ None → steps t r u → length (fields value) ≤ length before
  no_turn r u is step = omega (arith, (YieldsList-end w before t so_far r u is step).1, length-enumerate_from 0 (fields value))
