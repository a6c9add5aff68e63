-- Fields joined by commas, and the fields of such a text. Assumes nothing.
use Rattle.std.proofs.Common.{◌≡◌, ℕ, ◌<◌, Bool, true, false, cond, eqb, List, [], ◌∷◌, ◌++◌, length, sym, refl, ap, ◌∙◌, ap₂, arith}
use Rattle.std.proofs.lemmas.Bool.{cond-false, eqb-true, ne_eqb}
use Rattle.std.proofs.lemmas.List.Splits.{length-slice_split}
use Rattle.std.specs.List.{flat_map, onto_first, AllByRecursion}
use Rattle.fields.specs.Cuts.{fields}
use Rattle.fields.proofs.Splits.{Free, free_append}

-- a comma before each field
abbrev pub tailed : List (List ℕ) → List ℕ
tailed fs = flat_map (λ f. 44 ∷ f) fs

-- commas between the fields
abbrev pub commas : List (List ℕ) → List ℕ
commas [] = []
commas (f ∷ fs) = f ++ tailed fs

-- a field in front of a text of which the first field is empty
fields_onto : (f t : List ℕ) (gs : List (List ℕ)) → Free 44 f → fields t ≡ [] ∷ gs → fields (f ++ t) ≡ f ∷ gs
fields_onto [] t gs free e = e
fields_onto (b ∷ f) t gs free e = cond-false (eqb b 44) ([] ∷ fields (f ++ t)) (onto_first b (fields (f ++ t))) (ne_eqb b 44 free.0) ∙ ap (onto_first b) (fields_onto f t gs free.1 e)

fields_tailed : (fs : List (List ℕ)) → AllByRecursion (Free 44) fs → fields (tailed fs) ≡ [] ∷ fs
fields_tailed [] free = refl
fields_tailed (f ∷ fs) free = ap (λ gs. [] ∷ gs) (fields_onto f (tailed fs) fs free.0 (fields_tailed fs free.1))

pub fields_commas : (f : List ℕ) (fs : List (List ℕ)) → AllByRecursion (Free 44) (f ∷ fs) → fields (commas (f ∷ fs)) ≡ f ∷ fs
fields_commas f fs free = fields_onto f (tailed fs) fs free.0 (fields_tailed fs free.1)

tailed_commas : (fs : List (List ℕ)) → 0 < length fs → tailed fs ≡ 44 ∷ commas fs
tailed_commas [] some = absurd (omega arith)
tailed_commas (f ∷ fs) some = refl

commas_onto : (b : ℕ) (fs : List (List ℕ)) → commas (onto_first b fs) ≡ b ∷ commas fs
commas_onto b [] = refl
commas_onto b (f ∷ fs) = refl

pub commas_fields : (v : List ℕ) → commas (fields v) ≡ v
commas_fields [] = refl
commas_fields (b ∷ bs) = go (eqb b 44) refl (commas_fields bs)
  where
    go : (t : Bool) → eqb b 44 ≡ t → commas (fields bs) ≡ bs → commas (cond t ([] ∷ fields bs) (onto_first b (fields bs))) ≡ b ∷ bs
    go true same more = tailed_commas (fields bs) (omega (arith, length-slice_split (λ c. eqb c 44) bs)) ∙ ap₂ ◌∷◌ (sym (eqb-true b 44 same)) more
    go false other more = commas_onto b (fields bs) ∙ ap (λ xs. b ∷ xs) more

-- no byte m in the text where none is in a field, and m is no comma
tailed_free : (m : ℕ) → (44 ≡ m → ⊥) → (fs : List (List ℕ)) → AllByRecursion (Free m) fs → Free m (tailed fs)
tailed_free m other [] free = tt
tailed_free m other (f ∷ fs) free = (other, free_append m f (tailed fs) free.0 (tailed_free m other fs free.1))

pub commas_free : (m : ℕ) → (44 ≡ m → ⊥) → (fs : List (List ℕ)) → AllByRecursion (Free m) fs → Free m (commas fs)
commas_free m other [] free = tt
commas_free m other (f ∷ fs) free = free_append m f (tailed fs) free.0 (tailed_free m other fs free.1)
