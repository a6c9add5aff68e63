-- What holds of the lines at every moment, and of each kind of line that is listed next. Assumes nothing.
use Rattle.std.proofs.Common.{◌≡◌, ◌≢◌, ℕ, ◌<◌, ◌≤◌, Bool, List, [], ◌∷◌, ◌++◌, length, None, inl, inr, sym, subst, arith}
use Rattle.std.specs.List.{All, AllPairs, Contains}
use Rattle.std.specs.Prelude.{IfSome}
use Rattle.std.proofs.lemmas.List.{length_push}
use Rattle.std.proofs.lemmas.List.Elements.{All-push, All-nil, All-weaker, Contains-get_or}
use Rattle.std.proofs.lemmas.List.Quantifiers.{all_pairs_push}
use Rattle.listing.specs.LineLaws.{WereForemost}
use Rattle.listing.specs.Lines.{most_lines, relaxation, IsUnexplored, IsTrueLine, AreTrue, IsDue}
use Rattle.listing.specs.Orders.{IsForemost}
use Rattle.listing.specs.Words.{IsPreferred}
use Rattle.listing.specs.declared.lines.Line.{Line}
use Rattle.listing.specs.declared.lines.Line.TheVariants.{Conflict, Relaxation}
use Rattle.listing.proofs.RunLists.{split_push, first_push}
use Rattle.listing.specs.Listings.{first_conflict}

-- what holds of the lines at every moment
pub record AreListed (before : ℕ → ℕ → Bool) (width : ℕ) (fit : ℕ → Bool) (lines : List Line) : Type 0 where
  pub few : length lines ≤ most_lines
  pub once : AllPairs (λ x y. x ≢ y) lines
  pub due : All (IsDue width fit) lines
  pub preferred : IfSome (first_conflict lines) (IsPreferred width fit)
  pub foremost : WereForemost before width lines

-- and what a line is to be that is listed next
pub record IsNext (before : ℕ → ℕ → Bool) (width : ℕ) (fit : ℕ → Bool) (lines : List Line) (x : Line) : Type 0 where
  pub room : length lines < most_lines
  pub new : Contains lines x → ⊥
  pub due : IsDue width fit x
  pub preferred : first_conflict lines ≡ None → IfSome (first_conflict (x ∷ [])) (IsPreferred width fit)
  pub foremost : (r : ℕ) → relaxation r ≡ x → IsForemost before (IsUnexplored width lines) r

-- a line as it is to be is true
due_true : (width : ℕ) (fit : ℕ → Bool) (x : Line) → IsDue width fit x → IsTrueLine width fit x
due_true width fit (Conflict c) d = d.0
due_true width fit (Relaxation r) d = d.0

pub all_true : {before : ℕ → ℕ → Bool} {width : ℕ} {fit : ℕ → Bool} {lines : List Line} → AreListed before width fit lines → AreTrue width fit lines
all_true {before} {width} {fit} {lines} l = All-weaker (IsDue width fit) (IsTrueLine width fit) (due_true width fit) lines l.due

-- an empty list has no split
no_split : (before : ℕ → ℕ → Bool) (width : ℕ) → WereForemost before width []
no_split before width [] later r e = absurd (cc)
no_split before width (x ∷ earlier) later r e = absurd (cc)

-- at first nothing is listed
pub none_listed : (before : ℕ → ℕ → Bool) (width : ℕ) (fit : ℕ → Bool) → AreListed before width fit []
none_listed before width fit = record {
  few = omega arith;
  once = λ i j d low high. absurd (omega arith);
  due = All-nil (IsDue width fit);
  preferred = tt;
  foremost = no_split before width;
}

-- with the next line all of it holds again
pub next_listed : (before : ℕ → ℕ → Bool) (width : ℕ) (fit : ℕ → Bool) (lines : List Line) (x : Line) → AreListed before width fit lines → IsNext before width fit lines x → AreListed before width fit (lines ++ x ∷ [])
next_listed before width fit lines x l n = record {
  few = omega (arith, length_push lines x, n.room);
  once = all_pairs_push (λ y z. y ≢ z) lines x l.once (λ k d low same. n.new (subst (Contains lines) same (Contains-get_or lines k d low)));
  due = All-push (IsDue width fit) lines x l.due n.due;
  preferred = first_push (IsPreferred width fit) lines x l.preferred n.preferred;
  foremost = λ earlier later r e. elim (split_push lines earlier later x (relaxation r) e) [
    | inl last ↦ subst (λ ls. IsForemost before (IsUnexplored width ls) r) (sym last.0) (n.foremost r last.1)
    | inr rest ↦ l.foremost earlier rest.0 r rest.1
  ];
}
