-- What opening a file answers: where the last table's text starts, and how many bytes it has.
use Rattle.std.specs.Prelude as Prelude
use Rattle.std.specs.Prelude.{◌≡◌, false, List, ℕ, ◌-◌, take, drop, Some, None}
use Rattle.std.proofs.Math.Option.{Option, none, some}
use Rattle.journal.specs.Journal.{length_at, points_back, LastTrailer}

-- "takes the body before it"; "An empty book is an answer"
pub data Opens (book : List ℕ) : Prelude.Option (ℕ × ℕ) → Type 0 where
  body : {p : ℕ} → LastTrailer book p → Opens book (Some (p - length_at book p, length_at book p))
  empty : ((p : ℕ) → points_back book p ≡ false) → Opens book None

-- the bytes of an answer
abbrev pub body_of : List ℕ → Prelude.Option (ℕ × ℕ) → Option (List ℕ)
body_of book (Some (start, n)) = some (take n (drop start book))
body_of book None = none
