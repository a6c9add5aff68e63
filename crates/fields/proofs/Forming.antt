-- What the fields say, from the first to the last. Assumes nothing.
use Rattle.std.proofs.Common.{◌≡◌, ℕ, ◌+◌, ◌<◌, ◌≤◌, List, [], ◌∷◌, ◌++◌, length, get_or, drop, Some, None, Ok, Err, Result, sym, refl, ap, ◌∙◌, append_assoc, append-nil, add-one}
use Rattle.std.proofs.lemmas.List.{at_drop_more, drop_all}
use Rattle.fields.specs.Faults.{at_field}
use Rattle.fields.specs.Formed.{first_of, formed}
use Rattle.fields.specs.Layout.{column}
use Rattle.fields.specs.Numbers.{said}
use Rattle.fields.specs.declared.fault.FieldFault.{FieldFault}
use Rattle.fields.specs.declared.fault.Flaw.TheVariants.{Form}
use Rattle.fields.specs.declared.layout.Sort.{Sort}
use Rattle.fields.specs.declared.value.Value.{Value}

-- the values of the first fields, and what the others come to
abbrev pub prepended : List Value → Result (List Value) FieldFault → Result (List Value) FieldFault
prepended vs (Ok us) = Ok (vs ++ us)
prepended vs (Err e) = Err e

prepended_more : (vs : List Value) (v : Value) (e : FieldFault) (r : Result (List Value) FieldFault) → prepended vs (first_of e (Some v) r) ≡ prepended (vs ++ v ∷ []) r
prepended_more vs v e (Ok us) = ap Ok (sym (append_assoc vs (v ∷ []) us))
prepended_more vs v e (Err d) = refl

module _ (s : Sort) (line : ℕ) (fs : List (List ℕ)) (i : ℕ) (vs : List Value) where
  -- what the first i fields say is vs
  abbrev pub said_so_far : Result (List Value) FieldFault
  said_so_far = prepended vs (formed s line (i + 1) (drop i fs))

  -- past the last field
  pub formed_all : length fs ≤ i → said_so_far ≡ Ok vs
  formed_all end = ap (λ l. prepended vs (formed s line (i + 1) l)) (drop_all i fs end) ∙ ap Ok (append-nil vs)

  -- at field i + 1
  module _ (text : List ℕ) (lt : i < length fs) (at : text ≡ get_or fs i text) where
    here : said_so_far ≡ prepended vs (first_of (at_field Form line (i + 1)) (said (column s 0 (i + 1)).style text) (formed s line (i + 1 + 1) (drop (i + 1) fs)))
    here =
        ap (prepended vs) (at_drop_more (formed s line (i + 1)) fs i text lt)
        ∙ ap (λ f. prepended vs (formed s line (i + 1) (f ∷ drop (i + 1) fs))) (sym at)
        ∙ ap (λ k. prepended vs (first_of (at_field Form line (i + 1)) (said (column s 0 (i + 1)).style text) (formed s line k (drop (i + 1) fs)))) (sym (add-one (i + 1)))

    pub formed_fault : said (column s 0 (i + 1)).style text ≡ None → said_so_far ≡ Err (at_field Form line (i + 1))
    formed_fault none = here ∙ ap (λ o. prepended vs (first_of (at_field Form line (i + 1)) o (formed s line (i + 1 + 1) (drop (i + 1) fs)))) none

    pub formed_more : (v : Value) → said (column s 0 (i + 1)).style text ≡ Some v → said_so_far ≡ prepended (vs ++ v ∷ []) (formed s line (i + 1 + 1) (drop (i + 1) fs))
    formed_more v some =
        here ∙ ap (λ o. prepended vs (first_of (at_field Form line (i + 1)) o (formed s line (i + 1 + 1) (drop (i + 1) fs)))) some
        ∙ prepended_more vs v (at_field Form line (i + 1)) (formed s line (i + 1 + 1) (drop (i + 1) fs))
