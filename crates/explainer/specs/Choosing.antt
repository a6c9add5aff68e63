-- What callers choose, and that a run makes the calls that are chosen. Assumes nothing.
use Rattle.std.specs.Prelude.{◌≡◌, ℕ, ◌<◌, List, [], length, slice_get, Option, Some, None, Ok, Err, ◌⊎◌}
use Rattle.explainer.specs.AtEach.{AtEach}
use Rattle.explainer.specs.Moments.{Answer, call_of, next_of, last_made}
use Rattle.explainer.specs.declared.moments.Call.{Call}
use Rattle.explainer.specs.declared.moments.Call.TheVariants as call
use Rattle.explainer.specs.declared.moments.Made.{Made}
use Rattle.explainer.specs.declared.moments.Moment.{Moment}
use Rattle.explainer.specs.declared.moments.NextAnswer.TheVariants.{Line, End}

-- of a list of calls, the one that stands at the place of the next moment
abbrev pub listed_call : List Call → List Moment → Option Call
listed_call calls past = slice_get calls (length past)

-- NEXT after a NEXT that answered a line, and nothing after any other answer or call
abbrev pub after_line : Option Answer → Option Call
after_line None = None
after_line (Some (Ok (Line x))) = Some call.Next
after_line (Some (Ok End)) = None
after_line (Some (Err e)) = None

-- the same where NEXT comes first
abbrev pub first_or_after : Option Made → Option Call
first_or_after None = Some call.Next
first_or_after (Some made) = after_line (next_of made)

-- NEXT at first, and again while the last one answered a line
abbrev pub until_end : List Moment → Option Call
until_end past = first_or_after (last_made past)

-- each call is the one that was chosen from the moments before it
abbrev pub AreChosen : (choice : List Moment → Option Call) → List Moment → Type 0
AreChosen choice moments = AtEach (λ past x. choice past ≡ Some (call_of x.made)) [] moments

-- as many calls as there may be, or fewer, where the caller stopped
abbrev pub HasStopped : (choice : List Moment → Option Call) (turns : ℕ) → List Moment → Type 0
HasStopped choice turns moments =
    (length moments ≡ turns) ⊎ ((length moments < turns) × (choice moments ≡ None))
