-- Sweeps turn options on and none off, until one changes nothing. Assumes nothing.
use Rattle.std.proofs.Common.{◌≡◌, ℕ, zero, suc, ◌+◌, ◌^◌, ◌<◌, ◌≤◌, eqb, List, [], ◌∷◌, Some, None, Option, sym, refl, subst, arith}
use lib.Count.{ones, ones-le}
use Rattle.std.proofs.lemmas.Bool.{cond_both, eqb-true, eqb-false}
use Rattle.sets.specs.Masks.{number_of}
use Rattle.sets.specs.Requests.{Part, part}
use Rattle.rules.specs.Choices.{Choice, HeadOn, Every, MeetsKind}
use Rattle.rules.specs.Propagation.{with_head, turned, sweep, spread}
use Rattle.rules.specs.declared.Body.{Body}
use Rattle.rules.specs.declared.Body.TheVariants.{Options, Gap, Faces}
use Rattle.rules.specs.declared.Kind.TheVariants as kind
use Rattle.sets.proofs.Adding.{added_all_small}
use Rattle.sets.proofs.Parts.{part_refl, part_trans, part_antisym, part_added, added_part, part_true, part_ones}

-- what is on stays on
head_grows : (head : Option ℕ) (on : ℕ) → Part on (with_head head on)
head_grows None on = part_refl on
head_grows (Some h) on = part_added on h

turned_grows : (b : Body) (on : ℕ) → Part on (turned b on)
turned_grows (Options head s) on =
    cond_both (part (number_of s.members) on) (with_head head on) on (Part on) (λ e. head_grows head on) (λ e. part_refl on)
turned_grows (Gap a b w) on = part_refl on
turned_grows (Faces odd s) on = part_refl on

sweep_grows : (bs : List Body) (on : ℕ) → Part on (sweep bs on)
sweep_grows [] on = part_refl on
sweep_grows (b ∷ bs) on = part_trans on (turned b on) (sweep bs (turned b on)) (turned_grows b on) (sweep_grows bs (turned b on))

-- only 32 options can be on
head_small : (head : Option ℕ) (on : ℕ) → on < 2 ^ 32 → with_head head on < 2 ^ 32
head_small None on small = small
head_small (Some h) on small = added_all_small (h ∷ []) on small

turned_small : (b : Body) (on : ℕ) → on < 2 ^ 32 → turned b on < 2 ^ 32
turned_small (Options head s) on small =
    cond_both (part (number_of s.members) on) (with_head head on) on (λ n. n < 2 ^ 32) (λ e. head_small head on small) (λ e. small)
turned_small (Gap a b w) on small = small
turned_small (Faces odd s) on small = small

sweep_small : (bs : List Body) (on : ℕ) → on < 2 ^ 32 → sweep bs on < 2 ^ 32
sweep_small [] on small = small
sweep_small (b ∷ bs) on small = sweep_small bs (turned b on) (turned_small b on small)

-- where a sweep changes nothing, no rule does
abbrev pub Still : ℕ → Body → Type 0
Still on b = turned b on ≡ on

pub sweep_still : (bs : List Body) (on : ℕ) → sweep bs on ≡ on → Every (Still on) bs
sweep_still [] on e = tt
sweep_still (b ∷ bs) on e =
    let P : ℕ → Type 0 = λ n. Part (turned b on) n in
    let still : turned b on ≡ on = part_antisym (turned b on) on (subst P e (sweep_grows bs (turned b on))) (turned_grows b on) in
    let Q : ℕ → Type 0 = λ n. sweep bs n ≡ on in
    (still, sweep_still bs on (subst Q still e))

-- each sweep that changes something turns an option on, so the last of enough changes nothing
pub spread_still : (turns : ℕ) (bs : List Body) (on : ℕ) → on < 2 ^ 32 → 33 ≤ turns + ones on
    → sweep bs (spread turns bs on) ≡ spread turns bs on
spread_still zero bs on small enough = absurd (omega (arith, ones-le 32 on small))
spread_still (suc turns) bs on small enough =
    cond_both (eqb (sweep bs on) on) on (spread turns bs (sweep bs on)) (λ n. sweep bs n ≡ n)
    (λ e. eqb-true (sweep bs on) on e)
    (λ e.
    let more : ones on < ones (sweep bs on) = part_ones on (sweep bs on) (sweep_grows bs on) (λ same. eqb-false (sweep bs on) on e (sym same)) in
    spread_still turns bs (sweep bs on) (sweep_small bs on small) (omega arith))

-- what is turned on is on in every choice that meets the rules
head_needed : (head : Option ℕ) (on all : ℕ) → Part on all → HeadOn head all → Part (with_head head on) all
head_needed None on all p h = p
head_needed (Some h) on all p there = added_part on h all p there

turned_needed : (b : Body) (c : Choice) (on : ℕ) → MeetsKind kind.Options c b → Part on c.on → Part (turned b on) c.on
turned_needed (Options head s) c on meets p =
    let set = number_of s.members in
    cond_both (part set on) (with_head head on) on (λ n. Part n c.on)
    (λ e. head_needed head on c.on p (meets refl (part_trans set on c.on (part_true set on e) p)))
    (λ e. p)
turned_needed (Gap a b w) c on meets p = p
turned_needed (Faces odd s) c on meets p = p

sweep_needed : (bs : List Body) (c : Choice) (on : ℕ) → Every (MeetsKind kind.Options c) bs → Part on c.on → Part (sweep bs on) c.on
sweep_needed [] c on meets p = p
sweep_needed (b ∷ bs) c on meets p = sweep_needed bs c (turned b on) meets.1 (turned_needed b c on meets.0 p)

pub spread_needed : (turns : ℕ) (bs : List Body) (c : Choice) (on : ℕ) → Every (MeetsKind kind.Options c) bs → Part on c.on
    → Part (spread turns bs on) c.on
spread_needed zero bs c on meets p = p
spread_needed (suc turns) bs c on meets p =
    cond_both (eqb (sweep bs on) on) on (spread turns bs (sweep bs on)) (λ n. Part n c.on)
    (λ e. p)
    (λ e. spread_needed turns bs c (sweep bs on) meets (sweep_needed bs c on meets p))
