use Rattle.std.proofs.Common.{◌≡◌, ◌<◌, ◌^◌, ◌∙◌, sym, ap, subst, bit_or, rules, arith}
use lib.Count.{ones-le}
use Rattle.listing.specs.Settling.{conflicts_of, drops_of, Settles, IsSought, Found}
use Rattle.listing.proofs.SeedQuestions.{sought, none_sought}
use Rattle.listing.proofs.seeds.find.Goals as goal

pub returns-in_err-rest : goal.returns-in_err-rest
returns-in_err-rest c =
    let lines = c.args.lines.now in
    let kept = c.args.kept.bits in
    let free = c.args.free.bits in
    let conflicts : c.as_slice.result.now ≡ conflicts_of (bit_or kept free) lines =
    c.as_slice.ensures.value ∙ c.conflicts_within.ensures ∙ ap (λ s. conflicts_of s lines) c.union.ensures
    in
    let drops : c.as_slice-2.result.now ≡ drops_of kept free lines = c.as_slice-2.ensures.value ∙ c.drops_beyond.ensures in
    subst (Found lines kept free) (sym c.from_residual.ensures)
    (none_sought lines kept free c.requires.apart
    (λ x s.
    c.in_err-rest.ensures x
    (subst (λ l. Settles free l c.as_slice-2.result.now x) (sym conflicts) (subst (λ l. Settles free (conflicts_of (bit_or kept free) lines) l x) (sym drops) s))))

pub returns : goal.returns
returns c =
    let lines = c.args.lines.now in
    let kept = c.args.kept.bits in
    let free = c.args.free.bits in
    let rest = c.in_ok-rest.rest.bits in
    let conflicts : c.as_slice.result.now ≡ conflicts_of (bit_or kept free) lines =
    c.as_slice.ensures.value ∙ c.conflicts_within.ensures ∙ ap (λ s. conflicts_of s lines) c.union.ensures
    in
    let drops : c.as_slice-2.result.now ≡ drops_of kept free lines = c.as_slice-2.ensures.value ∙ c.drops_beyond.ensures in
    let settles : Settles free c.as_slice.result.now c.as_slice-2.result.now rest = c.in_ok-rest.ensures in
    subst (IsSought lines kept free) (sym c.union-2.ensures)
    (sought lines kept free rest c.requires.apart
    (subst (λ l. Settles free l (drops_of kept free lines) rest) conflicts (subst (λ l. Settles free c.as_slice.result.now l rest) drops settles)))

pub settle-requires-clause-room : goal.settle-requires-clause-room
settle-requires-clause-room c =
    let small : c.args.free.bits < 2 ^ 32 = search rules in
    omega (arith, ones-le 32 c.args.free.bits small, c.in-Some.ensures.cases.1, c.in-Some-split_first_mut.ensures.cases.1)
