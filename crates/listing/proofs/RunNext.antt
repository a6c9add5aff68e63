-- The three kinds of line that are listed next: the empty set as a conflict, a seed as a relaxation, and what is to blame in a seed as a conflict. Assumes nothing.
use Rattle.std.proofs.Common.{◌≡◌, ◌≢◌, ℕ, ◌<◌, Bool, true, false, List, [], ◌∷◌, length, None, inl, inr, refl, sym, ap, ◌∙◌, subst, mod-eq_of_lt, pow_pos, arith}
use lib.Bits.{and_mask}
use Rattle.std.proofs.lemmas.Bool.{both_ways, cases_eq, or_parts}
use Rattle.oracle.specs.Meaning.{Downward}
use Rattle.sets.specs.Members.{none}
use Rattle.sets.specs.Requests.{Within, Part, part, everyone}
use Rattle.sets.specs.Sets.{bits_of, set_of}
use Rattle.sets.proofs.Parts.{part_le, true_part}
use Rattle.listing.specs.HalvingLaws.{IsLeastUnfit, LeastIsMinimal, LeastIsPreferred}
use Rattle.listing.specs.LineLaws.{WereForemost, SeedIsMaximal, ResultIsNew}
use Rattle.listing.specs.Lines.{most_lines, conflict, relaxation, explored, IsUnexplored}
use Rattle.listing.specs.Orders.{IsOrder, IsForemost}
use Rattle.listing.specs.declared.lines.Line.{Line}
use Rattle.listing.specs.declared.lines.Line.TheVariants.{Conflict, Relaxation}
use Rattle.listing.proofs.RunListed.{AreListed, IsNext, all_true}
use Rattle.listing.specs.Listings.{first_conflict}

-- all requests lie within the width, and each set within it is a part of them
everyone_within : (width : ℕ) → Within width (everyone width)
everyone_within width = omega (arith, pow_pos width)

part_everyone : (width s : ℕ) → Within width s → Part s (everyone width)
part_everyone width s small = and_mask s width ∙ mod-eq_of_lt small

-- of all sets the foremost is that of all requests
foremost_of_all : (before : ℕ → ℕ → Bool) (width s : ℕ) → IsOrder width before → IsForemost before (IsUnexplored width []) s → s ≡ everyone width
foremost_of_all before width s order f =
    let all : ℕ = everyone width in
    elim (cases_eq s all) [
      | inl same ↦ same
      | inr other ↦
          let ahead : before s all ≡ true = f.1 all (everyone_within width, refl) (λ e. other (sym e)) in
          let behind : before all s ≡ true = order.whole_first s all (everyone_within width) (part_everyone width s f.0.0, other) in
          absurd (both_ways (before s all) (order.one_way all s behind) ahead)
    ]

-- where no conflict is listed and some set is unexplored, nothing is listed
nothing_listed : (before : ℕ → ℕ → Bool) (width s : ℕ) (lines : List Line) → IsOrder width before → WereForemost before width lines → first_conflict lines ≡ None → IsUnexplored width lines s → lines ≡ []
nothing_listed before width s [] order were first u = refl
nothing_listed before width s (Conflict c ∷ lines) order were first u = absurd (cc)
nothing_listed before width s (Relaxation r ∷ lines) order were first u =
    let whole : bits_of r ≡ everyone width = foremost_of_all before width (bits_of r) order (were [] lines (bits_of r) refl) in
    let inside : part s (bits_of r) ≡ true = true_part s (bits_of r) (subst (Part s) (sym whole) (part_everyone width s u.0)) in
    absurd (both_ways (part s (bits_of r)) (or_parts (part s (bits_of r)) (explored lines s) u.1).0 inside)

-- the empty set has no proper part
no_proper_part : (t : ℕ) → Part t none → (t ≢ none) → ⊥
no_proper_part t p other = other (omega (arith, part_le t none p))

-- the empty set, if it is unfit, is listed first
pub empty_next : (before : ℕ → ℕ → Bool) (width : ℕ) (fit : ℕ → Bool) → fit none ≡ false → IsNext before width fit [] (conflict none)
empty_next before width fit unfit =
    let small : Within width none = pow_pos width in
    record {
      room = omega arith;
      new = λ there. absurd (omega (arith, there.1));
      due = ((small, unfit), λ t p. absurd (no_proper_part t p.0 p.1));
      preferred = λ first. ((small, unfit), λ t c other. omega arith);
      foremost = λ r e. absurd (cc);
    }

module _ (before : ℕ → ℕ → Bool) (width : ℕ) (fit : ℕ → Bool) (lines : List Line) (order : IsOrder width before) (down : Downward width fit) (l : AreListed before width fit lines) (room : length lines < most_lines) where
  -- the foremost unexplored set, if it is fit
  pub seed_next : SeedIsMaximal → ResultIsNew → (s : ℕ) → IsForemost before (IsUnexplored width lines) s → fit s ≡ true → IsNext before width fit lines (relaxation s)
  seed_next maximal new s f is_fit = record {
    room = room;
    new = (new width lines s f.0).0;
    due = maximal before width fit lines s order down (all_true l) f is_fit;
    preferred = λ first. tt;
    foremost = λ r e. let sets : set_of r ≡ set_of s = cc in let same : r ≡ s = ap bits_of sets in subst (IsForemost before (IsUnexplored width lines)) (sym same) f;
  }

  -- and what is to blame in it, if it is unfit
  pub result_next : ResultIsNew → LeastIsMinimal → LeastIsPreferred → (s result : ℕ) → IsForemost before (IsUnexplored width lines) s → IsLeastUnfit fit s result → IsNext before width fit lines (conflict result)
  result_next new minimal preferred s result f least = record {
    room = room;
    new = (new width lines s f.0).1 result least.0;
    due = minimal width fit s result f.0.0 least;
    preferred = λ first.
        let none_yet : lines ≡ [] = nothing_listed before width s lines order l.foremost first f.0 in
        let whole : s ≡ everyone width = foremost_of_all before width s order (subst (λ ls. IsForemost before (IsUnexplored width ls) s) none_yet f) in
        preferred width fit result (subst (λ a. IsLeastUnfit fit a result) whole least);
    foremost = λ r e. absurd (cc);
  }
