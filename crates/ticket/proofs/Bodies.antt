-- What a rule says, and the values that its line is written by, for each kind. Assumes nothing.
use Rattle.std.proofs.Common.{◌≡◌, ℕ, zero, suc, ◌≤◌, Bool, true, false, cond, eqb, List, [], ◌∷◌, ◌++◌, map, length, get_or, ℤ, nat_abs, codes, decimal, Option, sym, refl, ap, ◌∙◌, subst, ap₂, append-nil, arith}
use Rattle.std.proofs.lemmas.Fmt.{decimal_digit}
use Rattle.std.proofs.lemmas.List.{length-map}
use Rattle.std.proofs.lemmas.Bool.{leb-true, le-leb, cond_both, false≢true}
use Rattle.std.specs.Fmt.{signed_decimal}
use Rattle.rules.specs.declared.Body.{Body}
use Rattle.rules.specs.declared.Body.TheVariants as body
use Rattle.rules.specs.declared.Kind.{Kind}
use Rattle.rules.specs.declared.Kind.TheVariants.{Options, Gaps, Faces}
use Rattle.sets.specs.Masks.{number_of}
use Rattle.sets.specs.Members.{none, added_all, members}
use Rattle.rules.specs.Limits.{last_mark, widest_gap, most_members}
use Rattle.fields.specs.Limits.{most_requests}
use Rattle.fields.specs.Formed.{amount}
use Rattle.ticket.specs.Ruled.{option_set, face_set, body_of}
use Rattle.ticket.specs.Text.{set_text, head_text, body_text}
use Rattle.ticket.specs.Tickets.{HeadInRange, BodyInRange}
use Rattle.fields.specs.declared.layout.Column.{Column}
use Rattle.fields.specs.declared.layout.Sort.TheVariants.{Rule}
use Rattle.fields.specs.declared.layout.Style.TheVariants.{Width}
use Rattle.fields.specs.declared.value.Value.{Value}
use Rattle.fields.specs.declared.value.Value.TheVariants.{Dash, Plain, Signed}
use Rattle.fields.proofs.Commas.{commas}
use Rattle.ticket.proofs.Heads.{head_value, head_fits, fits_head, head_again, head_spelled, set_in_range, set_text_added}
use Rattle.fields.proofs.Placed.{Fits}
use Rattle.ticket.proofs.Risen.{number_fits, fits_number, set_numbers, numbers_set, amounts_plain, members_tailed}
use Rattle.sets.proofs.Rising.{Rising, added_members, members_rising}
use Rattle.fields.proofs.Spelling.{spelled}
use Rattle.ticket.proofs.Letters.{letter}
use Rattle.fields.proofs.Valued.{Valued}

-- the owner that values say
abbrev pub owner_of : List Value → ℕ
owner_of vs = amount (get_or vs 0 Dash)

-- a line's text up to its end
abbrev pub spelled_line : Kind → List Value → List ℕ
spelled_line k vs = letter k ∷ 61 ∷ commas (map spelled vs)

-- the values say a rule in range, of which they spell the text
pub record Known (k : Kind) (requests : ℕ) (vs : List Value) : Type 0 where
  pub owner : owner_of vs ≤ requests
  pub range : BodyInRange (body_of k vs)
  pub text : body_text (owner_of vs) (body_of k vs) ≡ spelled_line k vs

-- OPTIONS

abbrev options_values : (owner : ℕ) → Option ℕ → List ℕ → List Value
options_values owner o ns = Plain owner ∷ head_value o ∷ map Plain ns

options_parts : (requests : ℕ) (vs : List Value) → Valued (Rule Options) requests vs → (owner : ℕ) × (o : Option ℕ) × (ns : List ℕ) × (vs ≡ options_values owner o ns) × (owner ≤ requests) × HeadInRange o × Rising 0 ns × (length ns ≤ most_members)
options_parts requests [] h = absurd (omega arith)
options_parts requests (u ∷ []) h = absurd (omega arith)
options_parts requests (u ∷ v ∷ vs) h =
    let first = number_fits 0 requests u h.placed.0 in
    let second = head_fits v h.placed.1.0 in
    let rest = set_numbers Options refl requests vs h.placed.1.1 (h.order refl) in
    let many : length vs ≡ length rest.0 = ap length rest.1 ∙ length-map rest.0 Plain in
    (first.0, second.0, rest.0, ap₂ ◌∷◌ first.1 (ap₂ ◌∷◌ second.1 rest.1), first.3, second.2, rest.2, omega arith)

options_line : (owner : ℕ) (o : Option ℕ) (ns : List ℕ) (t : List ℕ) → t ≡ commas ([] ∷ map spelled (map Plain ns)) → codes "h=" ++ (decimal owner ++ (codes "," ++ (head_text o ++ t))) ≡ spelled_line Options (options_values owner o ns)
options_line owner o ns t e = ap₂ (λ a b. codes "h=" ++ (decimal owner ++ (codes "," ++ (a ++ b)))) (head_spelled o) e

options_body : (owner : ℕ) (o : Option ℕ) (ns : List ℕ) → body_of Options (options_values owner o ns) ≡ body.Options o (option_set (added_all none ns))
options_body owner o ns = ap₂ (λ a (ms : List ℕ). body.Options a (option_set (added_all none ms))) (head_again o) (amounts_plain ns)

options_known : (requests : ℕ) (vs : List Value) → Valued (Rule Options) requests vs → Known Options requests vs
options_known requests vs h = go (options_parts requests vs h)
  where
    go : (owner : ℕ) × (o : Option ℕ) × (ns : List ℕ) × (vs ≡ options_values owner o ns) × (owner ≤ requests) × HeadInRange o × Rising 0 ns × (length ns ≤ most_members) → Known Options requests vs
    go (owner, o, ns, e, low, head, rising, few) =
        subst (Known Options requests) (sym e)
        (record {
          owner = low;
          range = subst BodyInRange (sym (options_body owner o ns)) (head, set_in_range 0 ns rising (omega arith) few);
          text = ap (body_text owner) (options_body owner o ns) ∙ options_line owner o ns (set_text (added_all none ns)) (set_text_added ns rising);
        })

options_valued : (requests owner : ℕ) (o : Option ℕ) (ns : List ℕ) → requests ≤ most_requests → owner ≤ requests → HeadInRange o → Rising 0 ns → length ns ≤ most_members → Valued (Rule Options) requests (options_values owner o ns)
options_valued requests owner o ns small low head rising few =
    let many : length (map Plain ns) ≡ length ns = length-map ns Plain in
    let rest = numbers_set Options refl requests ns rising in
    record { count = (omega arith, omega arith); placed = (fits_number 0 requests owner (omega arith) low (omega arith), (fits_head o head, rest.0)); order = λ _. rest.1 }

-- GAPS

abbrev gap_values : (owner a b : ℕ) → ℤ → List Value
gap_values owner a b w = Plain owner ∷ Plain a ∷ Plain b ∷ Signed w ∷ []

abbrev width_column : Column
width_column = record { style = Width; low = 0; high = widest_gap }

width_fits : (v : Value) → Fits width_column v → (w : ℤ) × (v ≡ Signed w) × (nat_abs w ≤ widest_gap)
width_fits Dash fits = absurd fits.0
width_fits (Plain n) fits = absurd fits.0
width_fits (Signed z) fits = (z, refl, leb-true (nat_abs z) widest_gap fits.1)

gap_line : (owner a b : ℕ) (w : ℤ) → body_text owner (body.Gap a b w) ≡ spelled_line Gaps (gap_values owner a b w)
gap_line owner a b w = ap (λ t. codes "g=" ++ (decimal owner ++ (codes "," ++ (decimal a ++ (codes "," ++ (decimal b ++ (codes "," ++ t))))))) (sym (append-nil (signed_decimal w)))

gap_known : (requests : ℕ) (vs : List Value) → Valued (Rule Gaps) requests vs → Known Gaps requests vs
gap_known requests [] h = absurd (omega arith)
gap_known requests (t ∷ []) h = absurd (omega arith)
gap_known requests (t ∷ u ∷ []) h = absurd (omega arith)
gap_known requests (t ∷ u ∷ v ∷ []) h = absurd (omega arith)
gap_known requests (t ∷ u ∷ v ∷ w ∷ x ∷ vs) h = absurd (omega arith)
gap_known requests (t ∷ u ∷ v ∷ w ∷ []) h =
    let first = number_fits 0 requests t h.placed.0 in
    let second = number_fits 0 last_mark u h.placed.1.0 in
    let third = number_fits 0 last_mark v h.placed.1.1.0 in
    let fourth = width_fits w h.placed.1.1.1.0 in
    let same : t ∷ u ∷ v ∷ w ∷ [] ≡ gap_values first.0 second.0 third.0 fourth.0 = ap₂ ◌∷◌ first.1 (ap₂ ◌∷◌ second.1 (ap₂ ◌∷◌ third.1 (ap (λ x. x ∷ []) fourth.1))) in
    subst (Known Gaps requests) (sym same) (record { owner = first.3; range = (second.3, third.3, fourth.2); text = gap_line first.0 second.0 third.0 fourth.0 })

gap_valued : (requests owner a b : ℕ) (w : ℤ) → requests ≤ most_requests → owner ≤ requests → a ≤ last_mark → b ≤ last_mark → nat_abs w ≤ widest_gap → Valued (Rule Gaps) requests (gap_values owner a b w)
gap_valued requests owner a b w small low left right wide =
    let fits = fits_number 0 requests owner (omega arith) low (omega arith) in
    let fits-a = fits_number 0 last_mark a (omega arith) left (omega arith) in
    let fits-b = fits_number 0 last_mark b (omega arith) right (omega arith) in
    let fits_w : Fits width_column (Signed w) = (omega arith, le-leb (nat_abs w) widest_gap wide) in
    record { count = (omega arith, omega arith); placed = (fits, (fits-a, (fits-b, (fits_w, tt)))); order = λ is. absurd (false≢true is) }

-- FACES

abbrev faces_values : (owner : ℕ) → Bool → List ℕ → List Value
faces_values owner odd ns = Plain owner ∷ Plain (cond odd 1 0) ∷ map Plain ns

-- 0 for even, 1 for odd
odd_number : (n : ℕ) → n ≤ 1 → (odd : Bool) × (n ≡ cond odd 1 0)
odd_number zero h = (false, refl)
odd_number (suc zero) h = (true, refl)
odd_number (suc (suc n)) h = absurd (omega arith)

odd_again : (odd : Bool) → eqb (cond odd 1 0) 1 ≡ odd
odd_again true = refl
odd_again false = refl

odd_spelled : (odd : Bool) → cond odd (codes "1") (codes "0") ≡ decimal (cond odd 1 0)
odd_spelled true = sym (decimal_digit 1 (omega arith))
odd_spelled false = sym (decimal_digit 0 (omega arith))

faces_parts : (requests : ℕ) (vs : List Value) → Valued (Rule Faces) requests vs → (owner : ℕ) × (odd : Bool) × (ns : List ℕ) × (vs ≡ faces_values owner odd ns) × (owner ≤ requests) × Rising 0 ns × (1 ≤ length ns) × (length ns ≤ most_members)
faces_parts requests [] h = absurd (omega arith)
faces_parts requests (u ∷ []) h = absurd (omega arith)
faces_parts requests (u ∷ v ∷ vs) h =
    let first = number_fits 0 requests u h.placed.0 in
    let second = number_fits 0 1 v h.placed.1.0 in
    let odd = odd_number second.0 second.3 in
    let rest = set_numbers Faces refl requests vs h.placed.1.1 (h.order refl) in
    let many : length vs ≡ length rest.0 = ap length rest.1 ∙ length-map rest.0 Plain in
    (first.0, odd.0, rest.0, ap₂ ◌∷◌ first.1 (ap₂ ◌∷◌ (second.1 ∙ ap Plain odd.1) rest.1), first.3, rest.2, omega arith, omega arith)

faces_line : (owner : ℕ) (odd : Bool) (ns : List ℕ) (t : List ℕ) → t ≡ commas ([] ∷ map spelled (map Plain ns)) → codes "f=" ++ (decimal owner ++ (codes "," ++ (cond odd (codes "1") (codes "0") ++ t))) ≡ spelled_line Faces (faces_values owner odd ns)
faces_line owner odd ns t e = ap₂ (λ a b. codes "f=" ++ (decimal owner ++ (codes "," ++ (a ++ b)))) (odd_spelled odd) e

faces_body : (owner : ℕ) (odd : Bool) (ns : List ℕ) → body_of Faces (faces_values owner odd ns) ≡ body.Faces odd (face_set (added_all none ns))
faces_body owner odd ns = ap₂ (λ a (ms : List ℕ). body.Faces a (face_set (added_all none ms))) (odd_again odd) (amounts_plain ns)

faces_known : (requests : ℕ) (vs : List Value) → Valued (Rule Faces) requests vs → Known Faces requests vs
faces_known requests vs h = go (faces_parts requests vs h)
  where
    go : (owner : ℕ) × (odd : Bool) × (ns : List ℕ) × (vs ≡ faces_values owner odd ns) × (owner ≤ requests) × Rising 0 ns × (1 ≤ length ns) × (length ns ≤ most_members) → Known Faces requests vs
    go (owner, odd, ns, e, low, rising, some, few) =
        subst (Known Faces requests) (sym e)
        (record {
          owner = low;
          range = subst BodyInRange (sym (faces_body owner odd ns)) (set_in_range 1 ns rising some few);
          text = ap (body_text owner) (faces_body owner odd ns) ∙ faces_line owner odd ns (set_text (added_all none ns)) (set_text_added ns rising);
        })

faces_valued : (requests owner : ℕ) (odd : Bool) (ns : List ℕ) → requests ≤ most_requests → owner ≤ requests → Rising 0 ns → 1 ≤ length ns → length ns ≤ most_members → Valued (Rule Faces) requests (faces_values owner odd ns)
faces_valued requests owner odd ns small low rising some few =
    let many : length (map Plain ns) ≡ length ns = length-map ns Plain in
    let rest = numbers_set Faces refl requests ns rising in
    let parity : cond odd 1 0 ≤ 1 = cond_both odd 1 0 (λ n. n ≤ 1) (λ _. omega arith) (λ _. omega arith) in
    record { count = (omega arith, omega arith); placed = (fits_number 0 requests owner (omega arith) low (omega arith), (fits_number 0 1 (cond odd 1 0) (omega arith) parity (omega arith), rest.0)); order = λ _. rest.1 }

pub known : (k : Kind) (requests : ℕ) (vs : List Value) → Valued (Rule k) requests vs → Known k requests vs
known Options requests vs h = options_known requests vs h
known Gaps requests vs h = gap_known requests vs h
known Faces requests vs h = faces_known requests vs h

-- AND BACK

abbrev pub kind : Body → Kind
kind (body.Options o s) = Options
kind (body.Gap a b w) = Gaps
kind (body.Faces odd s) = Faces

-- values that say the rule, and spell its text
pub record Written (requests owner : ℕ) (b : Body) : Type 0 where
  pub values : List Value
  pub valued : Valued (Rule (kind b)) requests values
  pub owned : owner_of values ≡ owner
  pub says : body_of (kind b) values ≡ b
  pub text : body_text owner b ≡ spelled_line (kind b) values

pub written : (requests owner : ℕ) → requests ≤ most_requests → owner ≤ requests → (b : Body) → BodyInRange b → Written requests owner b
written requests owner small low (body.Options o s) range =
    let n = number_of s.members in
    let ns = members n in
    record {
      values = options_values owner o ns;
      valued = options_valued requests owner o ns small low range.0 (members_rising n) range.1.2;
      owned = refl;
      says = options_body owner o ns ∙ ap (λ m. body.Options o (option_set m)) (added_members n range.1.0);
      text = options_line owner o ns (set_text n) (members_tailed ns);
    }
written requests owner small low (body.Gap a b w) range =
    record { values = gap_values owner a b w; valued = gap_valued requests owner a b w small low range.0 range.1 range.2; owned = refl; says = refl; text = gap_line owner a b w }
written requests owner small low (body.Faces odd s) range =
    let n = number_of s.members in
    let ns = members n in
    record {
      values = faces_values owner odd ns;
      valued = faces_valued requests owner odd ns small low (members_rising n) range.1 range.2;
      owned = refl;
      says = faces_body owner odd ns ∙ ap (λ m. body.Faces odd (face_set m)) (added_members n range.0);
      text = faces_line owner odd ns (set_text n) (members_tailed ns);
    }
