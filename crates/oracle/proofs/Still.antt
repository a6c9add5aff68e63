-- The calls of an endless oracle that no call changes are calls of what it means. Assumes nothing.
use Rattle.std.proofs.Common.{◌≡◌, ℕ, Ok, Err, None, Option, refl, sym, subst}
use Rattle.oracle.specs.Asking.{Leaves, Taken, Grown}
use Rattle.oracle.specs.Calls.{CheckAnswer, GrantAnswer, ChecksMean, GrantsMean, StillChecks, StillGrants}
use Rattle.oracle.specs.Meaning.{Meaning}
use Rattle.oracle.proofs.Checks.{kept, unchanged}

-- an endless allowance stays so
none_taken : (a : Option ℕ) → a ≡ None → Taken a a
none_taken a is = subst (λ x. Taken x x) (sym is) tt

none_grown : (k : ℕ) (a : Option ℕ) → a ≡ None → Grown k a a
none_grown k a is = subst (λ x. Grown k x x) (sym is) refl

-- what either call leaves
after_check : (m : Meaning) (r : CheckAnswer) → m.allowance ≡ None → Leaves Taken r m m
after_check m (Ok v) endless = (kept m, none_taken m.allowance endless)
after_check m (Err e) endless = unchanged m

after_grant : (k : ℕ) (m : Meaning) (r : GrantAnswer) → m.allowance ≡ None → Leaves (Grown k) r m m
after_grant k m (Ok u) endless = (kept m, none_grown k m.allowance endless)
after_grant k m (Err e) endless = unchanged m

module _ {O : Type 0} (meaning : O → Meaning) (endless : (o : O) → (meaning o).allowance ≡ None)
  where
    pub still_checks_mean : ChecksMean meaning (StillChecks meaning)
    still_checks_mean o s r p h =
        (h.0, subst (λ (q : O). Leaves Taken r (meaning o) (meaning q)) (sym h.1) (after_check (meaning o) r (endless o)))

    pub still_grants_mean : GrantsMean meaning StillGrants
    still_grants_mean o k r p h =
        (h.0, subst (λ (q : O). Leaves (Grown k) r (meaning o) (meaning q)) (sym h.1) (after_grant k (meaning o) r (endless o)))
