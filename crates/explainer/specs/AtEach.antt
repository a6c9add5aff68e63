-- Something holds at each place of a list. Assumes nothing.
use Rattle.std.specs.Prelude.{List, [], ◌∷◌, ◌++◌}

-- it holds of each element, after those before it, where the list stands behind others
abbrev pub AtEach : {A : Type 0} (P : List A → A → Type 0) (past : List A) → List A → Type 0
AtEach P past [] = Unit {0}
AtEach P past (x ∷ xs) = P past x × AtEach P (past ++ x ∷ []) xs
