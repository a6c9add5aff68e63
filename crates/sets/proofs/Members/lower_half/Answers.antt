use Rattle.std.proofs.Common.{◌≡◌, ◌+◌, ◌/◌, ◌%◌, ◌^◌, ◌<◌, ◌≤◌, count_ones, sym, ap, ◌∙◌, arith, rules}
use Rattle.sets.proofs.Digits.{bit_small}
use Rattle.sets.proofs.Halves.{ones_low_more, lower_at, mask_low, lower_self}
use Rattle.sets.proofs.Members.lower_half.Goals as goal

pub returns-then-count-half : goal.returns-then-count-half
returns-then-count-half g c =
    let n = c.args.self.bits in
    let k = c.loop-k.k in
    let small : n < 2 ^ 32 = search rules in
    let half : c.len-half.result / 2 ≡ count_ones n / 2 = ap (λ m. m / 2) c.len-half.ensures in
    mask_low n k c.loop-k-test.true ∙ sym (lower_at n k small (omega arith) (sym c.loop-k.invariant.0 ∙ c.if-count-half.true ∙ half))

pub loop-k-preserved : goal.loop-k-preserved
loop-k-preserved g c =
    let n = c.args.self.bits in
    let k = c.loop-k.k in
    let more : count_ones (n % 2 ^ (k + 1)) ≡ n / 2 ^ k % 2 + count_ones (n % 2 ^ k) = ap (λ e. count_ones (n % 2 ^ e)) (omega arith) ∙ ones_low_more n k in
    (omega (arith, more, c.loop-k.invariant.0), omega (arith, bit_small n k, c.loop-k.invariant.1, c.if-count-half.false))

pub returns : goal.returns
returns g c =
    let n = c.args.self.bits in
    let k = c.loop-k.k in
    let small : n < 2 ^ 32 = search rules in
    let whole : k ≡ 32 = omega arith in
    let few : count_ones (n % 2 ^ k) ≤ count_ones n / 2 = omega (arith, c.loop-k.invariant.0, c.loop-k.invariant.1, ap (λ m. m / 2) c.len-half.ensures) in
    lower_self n k small whole few
