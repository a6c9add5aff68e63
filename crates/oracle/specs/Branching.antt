-- One of two statements, by a test. Assumes nothing.
use Rattle.std.specs.Prelude.{◌≡◌, Bool, true, false}

-- one statement where a test holds, and another where it does not
abbrev pub If : Bool → Type 0 → Type 0 → Type 0
If b A B = (b ≡ true → A) × (b ≡ false → B)
