-- What is left of two allowances. Proofs only. Assumes nothing.
use Rattle.std.specs.Prelude.{◌≡◌, ℕ, zero, suc, ◌+◌, min, ◌||◌, ◌⊎◌, Some, None, Option, refl}
use Rattle.std.proofs.Common.{inl, inr, ap, arith}
use Rattle.std.proofs.lemmas.Bool.{cases_lt}
use Rattle.oracle.specs.Asking.{nought, Taken, grown}
use Rattle.oracle.specs.Meaning.{limit}
use Rattle.layers.specs.Layered.{lesser}

-- the smaller allowance is nought if one of them is
pub nought_lesser : (a b : Option ℕ) → nought (lesser a b) ≡ (nought a || nought b)
nought_lesser None b = refl
nought_lesser (Some zero) None = refl
nought_lesser (Some (suc a)) None = refl
nought_lesser (Some zero) (Some b) =
    let e : min zero b ≡ zero = omega arith in ap (λ n. nought (Some n)) e
nought_lesser (Some (suc a)) (Some zero) =
    let e : min (suc a) zero ≡ zero = omega arith in ap (λ n. nought (Some n)) e
nought_lesser (Some (suc a)) (Some (suc b)) =
    let e : min (suc a) (suc b) ≡ suc (min a b) = omega arith in ap (λ n. nought (Some n)) e

-- one of two numbers less by one: their smaller one is the same or less by one
less_one : (a b : ℕ) → (min a b ≡ min a (suc b)) ⊎ (suc (min a b) ≡ min a (suc b))
less_one a b = elim (cases_lt b a) [ inl above ↦ inr (omega arith) | inr below ↦ inl (omega arith) ]

-- where each of two allowances is taken from or not, so is the smaller one
pub taken_lesser : (a a' b b' : Option ℕ) → Taken a a' → Taken b b'
    → Taken (lesser a b) (lesser a' b')
taken_lesser None None b b' ta tb = tb
taken_lesser None (Some a') b b' ta tb = absurd ta
taken_lesser (Some a) None b b' ta tb = absurd ta
taken_lesser (Some a) (Some a') None None ta tb = ta
taken_lesser (Some a) (Some a') None (Some b') ta tb = absurd tb
taken_lesser (Some a) (Some a') (Some b) None ta tb = absurd tb
taken_lesser (Some a) (Some a') (Some b) (Some b') (inl x) (inl y) = inl (omega arith)
taken_lesser (Some a) (Some a') (Some b) (Some b') (inl x) (inr y) =
    elim (less_one a b') [ inl e ↦ inl (omega arith) | inr e ↦ inr (omega arith) ]
taken_lesser (Some a) (Some a') (Some b) (Some b') (inr x) (inl y) =
    elim (less_one b a') [ inl e ↦ inl (omega arith) | inr e ↦ inr (omega arith) ]
taken_lesser (Some a) (Some a') (Some b) (Some b') (inr x) (inr y) = inr (omega arith)

pub taken_none : (a : Option ℕ) → Taken a a
taken_none None = tt
taken_none (Some n) = inl refl

-- to grant to both is to grant to the smaller one
pub grown_lesser : (k : ℕ) (a b : Option ℕ) → lesser (grown k a) (grown k b) ≡ grown k (lesser a b)
grown_lesser k None None = refl
grown_lesser k None (Some b) = refl
grown_lesser k (Some a) None = refl
grown_lesser k (Some a) (Some b) =
    let e : min (min (a + k) limit) (min (b + k) limit) ≡ min (min a b + k) limit = omega arith in ap Some e
