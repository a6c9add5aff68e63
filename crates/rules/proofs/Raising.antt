-- What a round does to the places of the marks. Assumes nothing.
use Rattle.std.proofs.Common.{◌≡◌, ℕ, zero, suc, ◌+◌, ◌<◌, true, false, cond, List, [], ◌∷◌, length, set, replicate, ℤ, pos, ◌-ℤ◌, ◌≤ℤ◌, sym, refl, ap, ◌∙◌, inl, inr, arith, length-set}
use lib.Signed.{lt_z, ≤ℤ_refl}
use Rattle.std.proofs.lemmas.List.{get_or-set_same, get_or-set_other}
use Rattle.std.proofs.lemmas.Int.{ints}
use Rattle.std.proofs.lemmas.Bool.{cond_both, cond-false, cases_eq, or_parts, or_from}
use Rattle.rules.specs.Choices.{place, Every}
use Rattle.rules.specs.Limits.{widest_gap}
use Rattle.rules.specs.Rounds.{marks, Between, lifts, moves, lifted, raised, raised_all}
use Rattle.rules.specs.declared.Body.{Body}
use Rattle.rules.specs.declared.Body.TheVariants.{Options, Gap, Faces}
use Rattle.rules.proofs.Bodies.{fair, OfGap, gaps_all}
use Rattle.rules.proofs.Saying.{Valid}

-- a list with a place for each mark
abbrev pub Full : List ℤ → Type 0
Full ps = length ps ≡ marks

-- no mark goes down
abbrev pub Up : (old new : List ℤ) → Type 0
Up old new = (i : ℕ) → place old i ≤ℤ place new i

-- no mark lies above z
abbrev pub Under : List ℤ → (ℕ → ℕ) → Type 0
Under ps z = (i : ℕ) → place ps i ≤ℤ pos (z i)

-- the marks at z meet a gap
abbrev pub Serves : (ℕ → ℕ) → ℕ → ℕ → ℤ → Type 0
Serves z a b w = (pos (z a) -ℤ pos (z b)) ≤ℤ w

-- the old place of mark a asks mark b to come no higher than z
abbrev pub Asked : List ℤ → (ℕ → ℕ) → ℕ → ℕ → ℤ → Type 0
Asked old z a b w = (place old a -ℤ w) ≤ℤ pos (z b)

-- mark b has come up to where the old place of mark a asks it to be
abbrev pub Reached : (old new : List ℤ) → ℕ → ℕ → ℤ → Type 0
Reached old new a b w = (place old a -ℤ w) ≤ℤ place new b

-- marks start at nought
pub nought : (n i : ℕ) → place (replicate n (pos 0)) i ≡ pos 0
nought zero i = refl
nought (suc n) zero = refl
nought (suc n) (suc i) = nought n i

-- the lifted mark lies at the higher of the two places, and the others where they lay
lifted_here : (b : ℕ) (to : ℤ) (ps : List ℤ) → b < length ps → place (lifted b to ps) b ≡ cond (lt_z (place ps b) to) to (place ps b)
lifted_here b to ps h =
    elim (lt_z (place ps b) to) as (λ v. place (cond v (set ps b to) ps) b ≡ cond v to (place ps b))
    [ true ↦ get_or-set_same ps b to (pos 0) h | false ↦ refl ]

lifted_other : (b : ℕ) (to : ℤ) (ps : List ℤ) (i : ℕ) → (i ≡ b → ⊥) → place (lifted b to ps) i ≡ place ps i
lifted_other b to ps i h =
    cond_both (lt_z (place ps b) to) (set ps b to) ps (λ qs. place qs i ≡ place ps i) (λ e. get_or-set_other ps b i to (pos 0) h) (λ e. refl)

higher : (p q : ℤ) → (p ≤ℤ cond (lt_z p q) q p) × (q ≤ℤ cond (lt_z p q) q p)
higher p q = (grind (arith, ints), grind (arith, ints))

lifted_up : (b : ℕ) (to : ℤ) (ps : List ℤ) → b < length ps → Up ps (lifted b to ps)
lifted_up b to ps h i =
    elim (cases_eq i b) [
      | inl e ↦ rw (e, lifted_here b to ps h) (higher (place ps b) to).0
      | inr n ↦ rw (lifted_other b to ps i n) (omega (arith, ints))
    ]

lifted_full : (b : ℕ) (to : ℤ) (ps : List ℤ) → Full ps → Full (lifted b to ps)
lifted_full b to ps f = cond_both (lt_z (place ps b) to) (set ps b to) ps Full (λ e. length-set ps b to ∙ f) (λ e. f)

lifted_under : (b : ℕ) (to : ℤ) (ps : List ℤ) (z : ℕ → ℕ) → b < length ps → to ≤ℤ pos (z b) → Under ps z → Under (lifted b to ps) z
lifted_under b to ps z h t u i =
    elim (cases_eq i b) [
      | inl e ↦ rw (e, lifted_here b to ps h) (cond_both (lt_z (place ps b) to) to (place ps b) (λ p. p ≤ℤ pos (z b)) (λ _. t) (λ _. rw e at (u i)))
      | inr n ↦ rw (lifted_other b to ps i n) (u i)
    ]

-- one rule: places stay full, no mark goes down, its gap is reached, and no mark comes above what is asked
raised_full : (b : Body) (old new : List ℤ) → Full new → Full (raised b old new)
raised_full (Options head s) old new f = f
raised_full (Gap a b w) old new f = lifted_full b (place old a -ℤ w) new f
raised_full (Faces odd s) old new f = f

raised_up : (b : Body) (old new : List ℤ) → Valid b → Full new → Up new (raised b old new)
raised_up (Options head s) old new v f i = ≤ℤ_refl (place new i)
raised_up (Gap a b w) old new v f i = lifted_up b (place old a -ℤ w) new (omega (arith, (fair a b w v).1)) i
raised_up (Faces odd s) old new v f i = ≤ℤ_refl (place new i)

raised_reached : (b : Body) (old new : List ℤ) → Valid b → Full new → OfGap (Reached old (raised b old new)) b
raised_reached (Options head s) old new v f = tt
raised_reached (Gap a b w) old new v f =
    let h : b < length new = omega (arith, (fair a b w v).1) in
    let to = place old a -ℤ w in
    rw (lifted_here b to new h) (higher (place new b) to).1
raised_reached (Faces odd s) old new v f = tt

raised_under :
    (b : Body) (old new : List ℤ) (z : ℕ → ℕ) → Valid b → Full new → OfGap (Asked old z) b → Under new z → Under (raised b old new) z
raised_under (Options head s) old new z v f g u i = u i
raised_under (Gap a b w) old new z v f g u i = lifted_under b (place old a -ℤ w) new z (omega (arith, (fair a b w v).1)) g u i
raised_under (Faces odd s) old new z v f g u i = u i

-- the same of every rule in turn
pub round_full : (bs : List Body) (old new : List ℤ) → Full new → Full (raised_all bs old new)
round_full [] old new f = f
round_full (b ∷ bs) old new f = round_full bs old (raised b old new) (raised_full b old new f)

pub round_up : (bs : List Body) (old new : List ℤ) → Every Valid bs → Full new → Up new (raised_all bs old new)
round_up [] old new v f i = ≤ℤ_refl (place new i)
round_up (b ∷ bs) old new v f i =
    omega (arith, ints, raised_up b old new v.0 f i, round_up bs old (raised b old new) v.1 (raised_full b old new f) i)

reached_up : (b : Body) (old new next : List ℤ) → Up new next → OfGap (Reached old new) b → OfGap (Reached old next) b
reached_up (Options head s) old new next u r = tt
reached_up (Gap a b w) old new next u r = omega (arith, ints, u b)
reached_up (Faces odd s) old new next u r = tt

pub round_reached : (bs : List Body) (old new : List ℤ) → Every Valid bs → Full new → Every (OfGap (Reached old (raised_all bs old new))) bs
round_reached [] old new v f = tt
round_reached (b ∷ bs) old new v f =
    let next = raised b old new in
    let g = raised_full b old new f in (
      reached_up b old next (raised_all bs old next) (round_up bs old next v.1 g) (raised_reached b old new v.0 f),
      round_reached bs old next v.1 g,
    )

pub round_under :
    (bs : List Body) (old new : List ℤ) (z : ℕ → ℕ) → Every Valid bs → Full new → Every (OfGap (Asked old z)) bs → Under new z
    → Under (raised_all bs old new) z
round_under [] old new z v f g u = u
round_under (b ∷ bs) old new z v f g u =
    round_under bs old (raised b old new) z v.1 (raised_full b old new f) g.1 (raised_under b old new z v.0 f g.0 u)

-- a round takes the marks up by the widest gap at most
pub round_between :
    (bs : List Body) (ps : List ℤ) (n : ℕ) → Every Valid bs → Full ps → Between n ps → Between (n + widest_gap) (raised_all bs ps ps)
round_between bs ps n v f k i =
    let asked : Every (OfGap (Asked ps (λ _. n + widest_gap))) bs = gaps_all (λ a b w p. omega (arith, ints, k a, p.2)) bs v in (
      omega (arith, ints, k i, round_up bs ps ps v f i),
      round_under bs ps ps (λ _. n + widest_gap) v f asked (λ j. omega (arith, ints, k j)) i,
    )

-- a round that has no mark to move leaves all where they lie
raised_still : (b : Body) (ps : List ℤ) → lifts b ps ps ≡ false → raised b ps ps ≡ ps
raised_still (Options head s) ps h = refl
raised_still (Gap a b w) ps h = cond-false _ _ _ h
raised_still (Faces odd s) ps h = refl

pub round_still : (bs : List Body) (ps : List ℤ) → moves bs ps ≡ false → raised_all bs ps ps ≡ ps
round_still [] ps r = refl
round_still (b ∷ bs) ps r =
    let p = or_parts (lifts b ps ps) (moves bs ps) r in
    ap (raised_all bs ps) (raised_still b ps p.0) ∙ round_still bs ps p.1

-- and one that leaves them there has no mark to move
reached_rests : (bs : List Body) (ps : List ℤ) → Every (OfGap (Reached ps ps)) bs → moves bs ps ≡ false
reached_rests [] ps r = refl
reached_rests (Options head s ∷ bs) ps r = reached_rests bs ps r.1
reached_rests (Gap a b w ∷ bs) ps r = or_from _ _ (sym (omega (arith, ints, r.0))) (reached_rests bs ps r.1)
reached_rests (Faces odd s ∷ bs) ps r = reached_rests bs ps r.1

pub round_rests : (bs : List Body) (ps : List ℤ) → Every Valid bs → Full ps → raised_all bs ps ps ≡ ps → moves bs ps ≡ false
round_rests bs ps v f e = reached_rests bs ps (rw e at (round_reached bs ps ps v f))
