-- A search that is part of the way, and what it finds. Assumes nothing.
use Rattle.std.proofs.Common.{◌≡◌, ℕ, suc, ◌+◌, ◌-◌, ◌*◌, ◌<◌, ◌≤◌, cond, List, ℤ, Some, None, Option, sym, refl, ap, ◌∙◌, inl, inr, arith}
use Rattle.std.proofs.lemmas.Int.{ints}
use Rattle.std.proofs.lemmas.Bool.{cond-true, cond-false, cases_Bool}
use Rattle.rules.specs.Force.{said}
use Rattle.rules.specs.Limits.{widest_gap}
use Rattle.rules.specs.Rounds.{marks, Between, moves, raised_all, rounds, all_nought, lowest}
use Rattle.rules.specs.declared.Body.{Body}
use Rattle.rules.specs.declared.Rule.{Rule}
use Rattle.rules.proofs.GapsDecided.{lowest_serves, lowest_none}
use Rattle.rules.proofs.Raising.{Full, nought, round_full, round_between, round_still, round_rests}
use Rattle.rules.proofs.Saying.{said_valid}
use Rattle.gaps.specs.Verdict.{Found}

-- the rounds that are left end as all of them do, and no mark lies higher than those that are done can take it
pub record Searching (turn : ℕ) (bs : List Body) (ps : List ℤ) : Type 0 where
  pub ends : rounds (marks - turn) bs ps ≡ lowest bs
  pub full : Full ps
  pub low : Between (turn * widest_gap) ps

pub searching_starts : (bs : List Body) → Searching 0 bs all_nought
unfolding lowest
searching_starts bs =
    let e : marks - 0 ≡ marks = refl in
    record { ends = ap (λ n. rounds n bs all_nought) e; full = refl; low = λ i. rw (nought marks i) (omega (arith, ints), omega (arith, ints)) }

-- what the rounds end in is what was to be found
found : (rules : List Rule) (s : ℕ) (o : Option (List ℤ)) → lowest (said s rules) ≡ o → Found rules s o
found rules s None e = lowest_none (said s rules) (said_valid s rules) e
found rules s (Some ps) e = lowest_serves (said s rules) ps e

module _ (turn s : ℕ) (rules : List Rule) (ps : List ℤ) (r : Searching turn (said s rules) ps) where
  -- the first of the rounds that are left
  one_left : turn < marks → rounds (marks - turn) (said s rules) ps
      ≡ cond (moves (said s rules) ps) (rounds (marks - (turn + 1)) (said s rules) (raised_all (said s rules) ps ps)) (Some ps)
  one_left h =
      let e : marks - turn ≡ suc (marks - (turn + 1)) = omega arith in
      ap (λ n. rounds n (said s rules) ps) e

  pub searching_more : turn < marks → (raised_all (said s rules) ps ps ≡ ps → ⊥) → Searching (turn + 1) (said s rules) (raised_all (said s rules) ps ps)
  searching_more h other =
      let bs = said s rules in
      let e : turn * widest_gap + widest_gap ≡ (turn + 1) * widest_gap = omega arith in
      elim (cases_Bool (moves bs ps)) [
        | inl m ↦ record {
          ends = sym (one_left h ∙ cond-true _ _ _ m) ∙ r.ends;
          full = round_full bs ps ps r.full;
          low = rw e at (round_between bs ps (turn * widest_gap) (said_valid s rules) r.full r.low);
        }
        | inr m ↦ absurd (other (round_still bs ps m))
      ]

  pub searching_rests : turn < marks → raised_all (said s rules) ps ps ≡ ps → Found rules s (Some ps)
  searching_rests h same =
      let rests = round_rests (said s rules) ps (said_valid s rules) r.full same in
      found rules s (Some ps) (sym r.ends ∙ one_left h ∙ cond-false _ _ _ rests)

  pub searching_ends : marks ≤ turn → Found rules s None
  searching_ends h =
      let e : marks - turn ≡ 0 = omega arith in
      found rules s None (sym r.ends ∙ ap (λ n. rounds n (said s rules) ps) e)
