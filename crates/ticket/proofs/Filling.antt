-- Rule lines, one after the other. Assumes nothing.
use Rattle.std.proofs.Common.{◌≡◌, ℕ, suc, ◌+◌, ◌-◌, ◌<◌, List, [], ◌∷◌, ◌++◌, Ok, Err, Result, sym, refl, ap, ◌∙◌, append_assoc, arith}
use Rattle.rules.specs.declared.Rule.{Rule}
use Rattle.ticket.specs.Lines.{rule_line, rule_lines}
use Rattle.fields.specs.Steps.{◌>>=◌}
use Rattle.fields.specs.declared.fault.LineFault.{LineFault}

-- the first rules, and what the lines after theirs come to
abbrev pub behind : List Rule → Result (List Rule × List ℕ) LineFault → Result (List Rule × List ℕ) LineFault
behind rs (Ok p) = Ok (rs ++ p.0, p.1)
behind rs (Err e) = Err e

abbrev then_lines : (count requests line : ℕ) → Result (Rule × List ℕ) LineFault → Result (List Rule × List ℕ) LineFault
then_lines count requests line r = r >>= λ p. rule_lines count requests line p.1 >>= λ q. Ok (p.0 ∷ q.0, q.1)

behind_more : (rs : List Rule) (r : Rule) (next : Result (List Rule × List ℕ) LineFault) → behind rs (next >>= λ q. Ok (r ∷ q.0, q.1)) ≡ behind (rs ++ r ∷ []) next
behind_more rs r (Ok q) = ap (λ l. Ok (l, q.1)) (sym (append_assoc rs (r ∷ []) q.0))
behind_more rs r (Err e) = refl

-- at rule i of n, whose line is due in the text that is left
pub lines_more :
    (n requests line next : ℕ) (rest after : List ℕ) (rs : List Rule) (r : Rule) (i : ℕ)
    → i < n → rule_line requests line rest ≡ Ok (r, after) → next ≡ line + 1
    → behind (rs ++ r ∷ []) (rule_lines (n - (i + 1)) requests next after) ≡ behind rs (rule_lines (n - i) requests line rest)
lines_more n requests line next rest after rs r i lt good one =
    let more : n - i ≡ suc (n - (i + 1)) = omega arith in
    let same : suc line ≡ next = omega arith in
    sym (
    ap (λ k. behind rs (rule_lines k requests line rest)) more
    ∙ ap (λ o. behind rs (then_lines (n - (i + 1)) requests (suc line) o)) good
    ∙ behind_more rs r (rule_lines (n - (i + 1)) requests (suc line) after)
    ∙ ap (λ l. behind (rs ++ r ∷ []) (rule_lines (n - (i + 1)) requests l after)) same
    )
