-- "files that our writer made, torn by such cuts or not": the files that appends make, each whole or cut after any of
-- its bytes.
use Rattle.std.proofs.Math.Option.{Option, none, some}
use Rattle.std.specs.Prelude.{cond, List, [], ◌++◌, ℕ, ◌≤◌, eqb, length, take}
use Rattle.journal.specs.Append.{Appends}
use Rattle.journal.specs.Append.Append.{writes}

-- of the bytes w that appending s writes, the first k reach the file
pub data Journal : List ℕ → Type 0 where
  new : Journal []
  append-cut : {book : List ℕ} → Journal book → {s w : List ℕ} → Appends s (writes w) → (k : ℕ) → k ≤ length w
      → Journal (book ++ take k w)

-- the text of the last append that was not cut, or none
abbrev pub current : {book : List ℕ} → Journal book → Option (List ℕ)
current new = none
current (append-cut j {s = s} {w = w} a k within) = cond (eqb k (length w)) (some s) (current j)
