-- What the refusals of NEXT mean, in words. Assumes nothing.
use Rattle.std.specs.Prelude.{ℕ, List, codes}
use Rattle.oracle.specs.Words.{check_words}
use Rattle.oracle.specs.declared.CheckRefusal.TheVariants as check
use Rattle.explainer.specs.declared.moments.NextRefusal.{NextRefusal}
use Rattle.explainer.specs.declared.moments.NextRefusal.TheVariants.{Outside, Full, Spent}

-- why a NEXT is refused: what a check was refused with has the words that it has there
abbrev pub next_words : NextRefusal → List ℕ
next_words Outside = check_words check.Outside
next_words Full = codes "there is no room for a further line (FULL)"
next_words (Spent label) = check_words (check.Spent label)
