-- What has been printed of a set after some of its requests. Assumes nothing.
use Rattle.std.proofs.Common.{◌≡◌, ◌&&◌, ℕ, suc, ◌+◌, ◌-◌, ◌<◌, Bool, true, false, cond, eqb, leb, List, [], ◌∷◌, ◌++◌, map, codes, decimal, sym, refl, ap, ◌∙◌, append_assoc, append-nil, arith}
use Rattle.std.proofs.lemmas.Bool.{cond-true, cond-false, and_parts, le-leb}
use Rattle.std.proofs.lemmas.List.{map-append}
use Rattle.sets.specs.Members.{none, has, members_from, has_from}
use Rattle.sets.proofs.Halves.{members_split}
use Rattle.report.specs.Texts.{with_commas, set_text}

-- the requests of a set that are below a number
abbrev pub below : (r s : ℕ) → List ℕ
below r s = map suc (members_from (r - 1) 0 s)

-- what stands before the next number
abbrev pub comma_after : List ℕ → List ℕ
comma_after [] = []
comma_after (n ∷ ns) = codes ","

-- one number more
pub one_more : (ns : List ℕ) (n : ℕ) → with_commas ns ++ (comma_after ns ++ decimal n) ≡ with_commas (ns ++ n ∷ [])
one_more [] n = refl
one_more (m ∷ []) n = refl
one_more (m ∷ k ∷ ks) n =
    append_assoc (decimal m) (codes "," ++ with_commas (k ∷ ks)) (codes "," ++ decimal n) ∙ ap (λ t. decimal m ++ (codes "," ++ t)) (one_more (k ∷ ks) n)

-- there is a comma before what follows a number
pub comma_then : (ns : List ℕ) (n : ℕ) → codes "," ≡ comma_after (ns ++ n ∷ [])
comma_then [] n = refl
comma_then (m ∷ ms) n = refl

-- a request of the next number, if it is in the set
next_one : (b : Bool) (i r : ℕ) → suc i ≡ r → map suc (cond b (i ∷ []) []) ≡ cond b (r ∷ []) []
next_one true i r e = ap (λ q. q ∷ []) e
next_one false i r e = refl

-- the requests below the next number
below_next : (r s : ℕ) → 0 < r → below (r + 1) s ≡ below r s ++ cond (has s (r - 1)) (r ∷ []) []
below_next r s some =
    let i : ℕ = r - 1 in
    ap (λ c. map suc (members_from c 0 s)) (omega arith)
    ∙ ap (map suc) (members_split i 1 0 s)
    ∙ map-append suc (members_from i 0 s) (members_from 1 (0 + i) s)
    ∙ ap (λ t. below r s ++ t) (ap (λ k. map suc (members_from 1 k s)) (omega arith) ∙ next_one (has s i) i r (omega arith))

-- one more where this one is in the set, and as before where it is not
pub below_there : (r s : ℕ) → 0 < r → has_from 1 s r ≡ true → below (r + 1) s ≡ below r s ++ r ∷ []
below_there r s some there =
    below_next r s some ∙ ap (λ t. below r s ++ t) (cond-true (has s (r - 1)) (r ∷ []) [] (and_parts (leb 1 r) (has s (r - 1)) there).1)

pub below_away : (r s : ℕ) → 0 < r → has_from 1 s r ≡ false → below (r + 1) s ≡ below r s
below_away r s some away =
    let not_here : has s (r - 1) ≡ false = sym (ap (λ b. b && has s (r - 1)) (le-leb 1 r some)) ∙ away in
    below_next r s some ∙ ap (λ t. below r s ++ t) (cond-false (has s (r - 1)) (r ∷ []) [] not_here) ∙ append-nil (below r s)

-- the text of a set without a request, and that of another, of which all requests are below 33
pub text_of_none : (s : ℕ) → eqb s none ≡ true → codes "-" ≡ set_text s
unfolding set_text
text_of_none s e = sym (cond-true (eqb s none) (codes "-") (with_commas (below 33 s)) e)

pub text_of_some : (r s : ℕ) → r ≡ 33 → eqb s none ≡ false → with_commas (below r s) ≡ set_text s
unfolding set_text
text_of_some r s end e = ap (λ q. with_commas (below q s)) end ∙ sym (cond-false (eqb s none) (codes "-") (with_commas (below 33 s)) e)
