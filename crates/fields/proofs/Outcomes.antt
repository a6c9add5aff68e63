-- What it takes for a step of the reader to give a value. Assumes nothing.
use Rattle.std.proofs.Common.{◌≡◌, ℕ, Bool, true, false, cond, Some, None, Ok, Err, Option, Result, ◌⊎◌, inl, inr, sym, refl, ap, arith}
use Rattle.std.specs.Result.{result_map_both}
use Rattle.fields.specs.Steps.{◌>>=◌, or_fault}
use Rattle.fields.specs.declared.fault.LineFault.{LineFault}

pub err_no_ok : {A E : Type 0} (e : E) (x : A) → Err e ≡ Ok x → ⊥
err_no_ok e x p = let z : ◌≡◌ {A = ℕ} 0 1 = cc in omega arith

pub none_no_some : {A : Type 0} (x : A) → None ≡ Some x → ⊥
none_no_some x p = let z : ◌≡◌ {A = ℕ} 0 1 = cc in omega arith

pub some_no_none : {A : Type 0} (x : A) → Some x ≡ None → ⊥
some_no_none x p = let z : ◌≡◌ {A = ℕ} 0 1 = cc in omega arith

pub then_ok : {A B E : Type 0} (r : Result A E) (next : A → Result B E) (y : B) → (r >>= next) ≡ Ok y → (x : A) × (r ≡ Ok x) × (next x ≡ Ok y)
then_ok (Ok x) next y p = (x, refl, p)
then_ok (Err e) next y p = absurd (err_no_ok e y p)

pub or_fault_ok : {A : Type 0} (e : LineFault) (o : Option A) (x : A) → or_fault e o ≡ Ok x → o ≡ Some x
or_fault_ok e None x p = absurd (err_no_ok e x p)
or_fault_ok e (Some y) x p = cc

pub mapped_ok : {A E D : Type 0} (g : E → D) (r : Result A E) (x : A) → result_map_both (λ y. y) g r ≡ Ok x → r ≡ Ok x
mapped_ok g (Ok y) x p = cc
mapped_ok g (Err e) x p = absurd (err_no_ok (g e) x p)

pub cond_ok : {A E : Type 0} (b : Bool) (r : Result A E) (e : E) (x : A) → cond b r (Err e) ≡ Ok x → (b ≡ true) × (r ≡ Ok x)
cond_ok true r e x p = (refl, p)
cond_ok false r e x p = absurd (err_no_ok e x p)

pub cond_none : (b : Bool) (o : Option ℕ) (i : ℕ) → cond b o (Some i) ≡ None → (b ≡ true) × (o ≡ None)
cond_none true o i p = (refl, p)
cond_none false o i p = absurd (some_no_none i p)

pub same_some : {A : Type 0} (x y : A) → Some x ≡ Some y → x ≡ y
same_some x y p = cc

pub same_ok : {A E : Type 0} (x y : A) → ◌≡◌ {A = Result A E} (Ok x) (Ok y) → x ≡ y
same_ok x y p = cc

pub same_err : {A E : Type 0} (x y : E) → ◌≡◌ {A = Result A E} (Err x) (Err y) → x ≡ y
same_err x y p = cc

pub then_err : {A B E : Type 0} (r : Result A E) (next : A → Result B E) (e : E)
    → (r >>= next) ≡ Err e → (r ≡ Err e) ⊎ ((x : A) × (r ≡ Ok x) × (next x ≡ Err e))
then_err (Ok x) next e p = inr (x, refl, p)
then_err (Err d) next e p = let same : d ≡ e = same_err d e p in inl (ap Err same)

pub mapped_err : {A E D : Type 0} (g : E → D) (r : Result A E) (e : D)
    → result_map_both (λ y. y) g r ≡ Err e → (d : E) × (r ≡ Err d) × (e ≡ g d)
mapped_err g (Ok y) e p = absurd (err_no_ok e y (sym p))
mapped_err g (Err d) e p = (d, refl, sym (same_err (g d) e p))

pub cond_err : {A E : Type 0} (b : Bool) (r : Result A E) (c e : E)
    → cond b r (Err c) ≡ Err e → ((b ≡ false) × (e ≡ c)) ⊎ ((b ≡ true) × (r ≡ Err e))
cond_err true r c e p = inr (refl, p)
cond_err false r c e p = inl (refl, sym (same_err c e p))
