-- How a listing ended, by the last call of a run. Assumes nothing.
use Rattle.std.specs.Prelude.{Option, Some, None, Ok, Err}
use Rattle.explainer.specs.Moments.{Answer, next_of}
use Rattle.explainer.specs.declared.moments.Made.{Made}
use Rattle.explainer.specs.declared.moments.NextAnswer.TheVariants.{Line, End}
use Rattle.explainer.specs.declared.moments.NextRefusal.TheVariants as refusal
use Rattle.report.specs.declared.texts.Ended.{Ended}
use Rattle.report.specs.declared.texts.Ended.TheVariants.{All, Full, Spent}

-- how a listing ended, by the answer of a NEXT; none where it is a line, or there was no NEXT
abbrev pub ended_next : Option Answer → Option Ended
ended_next None = None
ended_next (Some (Ok (Line x))) = None
ended_next (Some (Ok End)) = Some All
ended_next (Some (Err refusal.Outside)) = None
ended_next (Some (Err refusal.Full)) = Some Full
ended_next (Some (Err (refusal.Spent label))) = Some (Spent label)

-- by a call, if one was made
abbrev pub ended_made : Option Made → Option Ended
ended_made None = None
ended_made (Some made) = ended_next (next_of made)
