-- The search for the last trailer in a window of the file, which starts `base` bytes behind the file's start.
use Rattle.std.specs.Prelude.{Bool, true, false, ◌&&◌, cond, List, ℕ, zero, suc, ◌+◌, leb, Some, None, Option}
use Rattle.table_text.specs.Text.{text_limit}
use Rattle.journal.specs.Journal.{trailer_at, length_at}

unfoldable pub points_in : List ℕ → ℕ → ℕ → Bool
points_in window base p =
    let n = length_at window p in trailer_at window p && (leb 1 n && (leb n text_limit && leb n (base + p)))

-- the length of the body before the trailer at p, or none where none points back from there
unfoldable pub body_length : List ℕ → ℕ → ℕ → Option ℕ
unfolding points_in
body_length window base p = cond (points_in window base p) (Some (length_at window p)) None

-- the last trailer that points back, of those that start before q
unfoldable pub last_in : List ℕ → ℕ → ℕ → Option (ℕ × ℕ)
unfolding points_in
last_in window base zero = None
last_in window base (suc p) =
    elim (points_in window base p) [ true ↦ Some (p, length_at window p) | false ↦ last_in window base p ]
