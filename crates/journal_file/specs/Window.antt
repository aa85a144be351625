-- How many bytes of the file the program looks at together.
use Rattle.std.specs.Prelude.{ℕ}

abbrev pub window_length : ℕ
window_length = 8192
