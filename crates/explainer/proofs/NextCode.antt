-- What the code of NEXT tells, as the steps have it; and what is done from where it stands is done from where it
-- stood. Assumes nothing.
use Rattle.std.proofs.Common.{◌≡◌, ℕ, ◌<◌, Bool, List, [], ◌∷◌, Option, Some, None, Ok, refl, sym, ap, ◌∙◌, subst}
use Rattle.std.specs.Prelude.{MatchOption}
use Rattle.sets.specs.Sets.{bits_of, set_of}
use Rattle.sets.specs.declared.Members.{Members}
use Rattle.oracle.specs.Asking.{verdict}
use Rattle.oracle.specs.Calls.{Checks}
use Rattle.listing.specs.Steps.{State, Move, check, lists, all, full, answered}
use Rattle.listing.specs.declared.lines.Line as lines
use Rattle.explainer.specs.Calls.{width_of, listing_in, NextDone}
use Rattle.explainer.specs.Dues.{due_of}
use Rattle.explainer.specs.Holding.{state_of, move_of, answered_by, Same}
use Rattle.explainer.specs.Moments.{Answer}
use Rattle.explainer.specs.Nexts.{Ends, NextLeads}
use Rattle.explainer.specs.Preferring.{Order, AreOrders}
use Rattle.explainer.specs.declared.asking.Explainer.{Explainer}
use Rattle.explainer.specs.declared.moments.NextAnswer.TheVariants as next
use Rattle.explainer.specs.declared.progress.Due.TheVariants as due
use Rattle.explainer.specs.declared.progress.Progress.{Progress}
use Rattle.explainer.proofs.NextFalls.{left_of, falls}

-- which move it is
pub due_check : (m : Move) (s : Members 1) → due.Check s ≡ due_of m → m ≡ check (bits_of s)
due_check (check t) s e = let same : set_of t ≡ s = cc in ap (λ k. check (bits_of k)) same
due_check (lists x) s e = absurd (cc)
due_check all s e = absurd (cc)
due_check full s e = absurd (cc)

pub due_list : (m : Move) (x : lines.Line) → due.List x ≡ due_of m → m ≡ lists x
due_list (check t) x e = absurd (cc)
due_list (lists y) x e = let same : y ≡ x = cc in ap (λ k. lists k) same
due_list all x e = absurd (cc)
due_list full x e = absurd (cc)

pub due_all : (m : Move) → due.All ≡ due_of m → m ≡ all
due_all (check t) e = absurd (cc)
due_all (lists y) e = absurd (cc)
due_all all e = refl
due_all full e = absurd (cc)

pub due_full : (m : Move) → due.Full ≡ due_of m → m ≡ full
due_full (check t) e = absurd (cc)
due_full (lists y) e = absurd (cc)
due_full all e = absurd (cc)
due_full full e = refl

-- what an answer leads to is the same where width and state are
answered_same : (order : Order) (p q : Progress) → Same p q → (fit : Bool) → answered_by order q fit ≡ answered_by order p fit
answered_same order p q same fit =
    ap (λ w. answered (order w) w (state_of q) fit) same.0
    ∙ ap (λ st. answered (order p.search.width) p.search.width st fit) same.1

-- so it is of what the answer was taken to, and of the line that was told
pub led_to : (order : Order) (p q t : Progress) (fit : Bool) → Same p q → state_of t ≡ (answered_by order q fit).state
    → state_of t ≡ (answered_by order p fit).state
led_to order p q t fit same state_is = state_is ∙ ap (λ m. m.state) (answered_same order p q same fit)

pub line_told : (order : Order) (p q : Progress) (fit : Bool) (o : Option lines.Line) → Same p q → o ≡ (answered_by order q fit).line
    → (answered_by order p fit).line ≡ o
line_told order p q fit o same told = sym (told ∙ ap (λ m. m.line) (answered_same order p q same fit))

-- an answer that lists no line leaves fewer checks to be answered
pub fewer_left : (order : Order) → AreOrders order → (p t : Progress) (s : ℕ) (fit : Bool) → move_of order p ≡ check s
    → state_of t ≡ (answered_by order p fit).state → (answered_by order p fit).line ≡ None → left_of (state_of t) < left_of (state_of p)
fewer_left order orders p t s fit is led line_is =
    subst (λ st. left_of st < left_of (state_of p)) (sym led) (falls order orders p.search.width (state_of p) s fit p.search.narrow p.sound is line_is)

-- what NEXT does from one explainer it does from another, with checks answered before
pub record GoesOn {O : Type 0} (order : Order) (checks : Checks O) (a0 a : Explainer O) : Type 0
  where
    pub goes_on : (r : Answer) (b : Explainer O) → NextDone order checks a r b → NextDone order checks a0 r b

module _ {O : Type 0} (order : Order) (checks : Checks O) (a : Explainer O) where
  -- no further check is answered
  pub ends_so : (m : Move) (r : Answer) (b : Explainer O) → move_of order a.progress ≡ m
      → Ends checks m (listing_in a) a.oracle r (listing_in b) b.oracle → width_of b ≡ width_of a → NextDone order checks a r b
  ends_so m r b is ends width = record {
    told = [];
    leads = subst (λ (x : Move). Ends checks x (listing_in a) a.oracle r (listing_in b) b.oracle) (sym is) ends;
    width = width;
  }

  module _ (a' : Explainer O) (s : ℕ) (fit : Bool) (is : move_of order a.progress ≡ check s)
      (checked : checks a.oracle s (Ok (verdict fit)) a'.oracle) (width : width_of a' ≡ width_of a)
      (led : listing_in a' ≡ (answered_by order a.progress fit).state) where
    -- the answer listed a line
    pub lists_so : (x : lines.Line) → (answered_by order a.progress fit).line ≡ Some x → NextDone order checks a (Ok (next.Line x)) a'
    lists_so x line_is = record {
      told = fit ∷ [];
      leads = (
        s,
        a'.oracle,
        is,
        checked,
        subst (λ (o : Option lines.Line). MatchOption o
            (NextLeads order (width_of a) checks [] (answered_by order a.progress fit).state a'.oracle (Ok (next.Line x)) (listing_in a') a'.oracle)
            (λ y. (◌≡◌ {A = List Bool} [] []) × (◌≡◌ {A = Answer} (Ok (next.Line x)) (Ok (next.Line y))) × (a'.oracle ≡ a'.oracle)
            × (listing_in a' ≡ (answered_by order a.progress fit).state)))
            (sym line_is) (refl, refl, refl, led),
      );
      width = width;
    }

    -- it listed none, and the NEXT went on
    pub goes_so : (answered_by order a.progress fit).line ≡ None → (r : Answer) (b : Explainer O) → NextDone order checks a' r b → NextDone order checks a r b
    goes_so line_is r b done =
        let rest : NextLeads order (width_of a) checks done.told (answered_by order a.progress fit).state a'.oracle r (listing_in b) b.oracle =
        subst (λ (w : ℕ). NextLeads order w checks done.told (answered_by order a.progress fit).state a'.oracle r (listing_in b) b.oracle) width
        (subst (λ (st : State). NextLeads order (width_of a') checks done.told st a'.oracle r (listing_in b) b.oracle) led done.leads) in
        record {
          told = fit ∷ done.told;
          leads = (
            s,
            a'.oracle,
            is,
            checked,
            subst (λ (o : Option lines.Line). MatchOption o
                (NextLeads order (width_of a) checks done.told (answered_by order a.progress fit).state a'.oracle r (listing_in b) b.oracle)
                (λ y. (done.told ≡ []) × (r ≡ Ok (next.Line y)) × (b.oracle ≡ a'.oracle)
                × (listing_in b ≡ (answered_by order a.progress fit).state)))
                (sym line_is) rest,
          );
          width = done.width ∙ width;
        }

pub goes_further : {O : Type 0} (order : Order) (checks : Checks O) (a0 a a' : Explainer O) → GoesOn order checks a0 a
    → ((r : Answer) (b : Explainer O) → NextDone order checks a' r b → NextDone order checks a r b) → GoesOn order checks a0 a'
goes_further order checks a0 a a' so on = record { goes_on = λ r b done. so.goes_on r b (on r b done) }
