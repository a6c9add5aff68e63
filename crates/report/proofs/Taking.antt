-- What the checks of a run take from a quota over an oracle whose checks are endless. Assumes
-- nothing.
use Rattle.std.specs.Prelude.{None}
use Rattle.std.proofs.Common.{◌≡◌, ◌+◌, List, [], ◌∷◌, length, Ok, sym, ap, ◌∙◌, arith}
use Rattle.oracle.specs.Asking.{verdict}
use Rattle.oracle.specs.Calls.{Checks}
use Rattle.oracle.specs.Meaning.{Meaning}
use Rattle.layers.specs.AskedLaws.{QuotaTakes}
use Rattle.layers.specs.Calls.{QuotaChecks}
use Rattle.layers.specs.declared.quota.Quota.{Quota}
use Rattle.explainer.specs.Chains.{Told, Chain}

-- the checks of what lies below a quota are endless
abbrev pub IsEndless : {B : Type 0} → (B → Meaning) → Quota B → Type 0
IsEndless meaning q = (meaning q.below).allowance ≡ None

module _ {B : Type 0} (meaning : B → Meaning) (checks : Checks B) (takes : QuotaTakes meaning checks)
  where
    -- a chain takes as many as it is long, leaves the label, and what is endless stays so
    pub chain_takes : (told : List Told) (o p : Quota B) → IsEndless meaning o
        → Chain (QuotaChecks meaning checks) o told p
        → (o.number ≡ p.number + length told) × (p.label ≡ o.label) × IsEndless meaning p
    chain_takes [] o p endless chain = (
      ap (λ (q : Quota B). q.number) (sym chain) ∙ omega arith,
      ap (λ (q : Quota B). q.label) chain,
      ap (λ (q : Quota B). (meaning q.below).allowance) chain ∙ endless,
    )
    chain_takes (x ∷ told) o p endless chain =
        let one = takes o chain.0 x.0 (Ok (verdict x.1)) endless chain.1 in
        let rest = chain_takes told chain.0 p one.1 chain.2 in
        (omega (arith, one.0.0, rest.0), rest.1 ∙ one.0.1, rest.2)
