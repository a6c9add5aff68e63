-- What the record of a run tells. Assumes nothing.
use Rattle.std.specs.Prelude.{ℕ, List, [], ◌∷◌, ◌++◌, Option, Some, None, Ok, Err, Result}
use Rattle.oracle.specs.Refused.{IsRefusedWith}
use Rattle.listing.specs.declared.lines.Line.{Line as ListedLine}
use Rattle.explainer.specs.Refused.{next_tells}
use Rattle.explainer.specs.declared.moments.Call.{Call}
use Rattle.explainer.specs.declared.moments.Call.TheVariants as call
use Rattle.explainer.specs.declared.moments.Made.{Made}
use Rattle.explainer.specs.declared.moments.Made.TheVariants.{Next, Grant, Try, Tally}
use Rattle.explainer.specs.declared.moments.Moment.{Moment}
use Rattle.explainer.specs.declared.moments.NextAnswer.{NextAnswer}
use Rattle.explainer.specs.declared.moments.NextAnswer.TheVariants.{Line, End}
use Rattle.explainer.specs.declared.moments.NextRefusal.{NextRefusal}

-- what NEXT answers
abbrev pub Answer : Type 0
Answer = Result NextAnswer NextRefusal

-- which call was made
abbrev pub call_of : Made → Call
call_of (Next r) = call.Next
call_of (Grant checks r) = call.Grant checks
call_of (Try set r) = call.Try set
call_of (Tally t) = call.Tally

-- the answer of the NEXT that a call was, if it was one
abbrev pub next_of : Made → Option Answer
next_of (Next r) = Some r
next_of (Grant checks r) = None
next_of (Try set r) = None
next_of (Tally t) = None

-- the line that a NEXT adds, which is the one that it answers; without a NEXT there is none
abbrev pub line_of : Option Answer → List ListedLine
line_of None = []
line_of (Some (Ok (Line x))) = x ∷ []
line_of (Some (Ok End)) = []
line_of (Some (Err e)) = []

-- the lines that were answered, in order
abbrev pub lines_answered : List Moment → List ListedLine
lines_answered [] = []
lines_answered (x ∷ xs) = line_of (next_of x.made) ++ lines_answered xs

-- of two answers the later one, if there is one, and otherwise the one before
abbrev pub later_or : (before later : Option Answer) → Option Answer
later_or before None = before
later_or before (Some r) = Some r

-- the answer of the last NEXT, if there was one, where this was the one before
abbrev pub last_next : (before : Option Answer) → List Moment → Option Answer
last_next before [] = before
last_next before (x ∷ xs) = last_next (later_or before (next_of x.made)) xs

-- NEXT had an answer that is not SPENT: it is not refused with number 13 and a label
abbrev pub IsNotSpent : Answer → Type 0
IsNotSpent r = (label : ℕ) → IsRefusedWith next_tells r 13 (label ∷ []) → ⊥

-- the call that was made last, if one was
abbrev pub last_made : List Moment → Option Made
last_made [] = None
last_made (x ∷ []) = Some x.made
last_made (x ∷ y ∷ ys) = last_made (y ∷ ys)
