-- A granule of b lies in the granule that an instant has in a.
use Rattle.std.proofs.Math.Option.{Option, none, some}
use Rattle.std.specs.Prelude.{Bool, false, ℤ}
use Rattle.calendar.specs.Meaning.{Row, meant}
use Rattle.calendar.specs.Granules.{inside}

-- b's granule k lies in a's granule of this label, if there is one
abbrev pub lies_in : Row → Row → ℤ → Option ℤ → Bool
lies_in a b k none = false
lies_in a b k (some i) = inside b k a i

-- and in a's granule of t
abbrev pub lies_at : Row → Row → ℤ → ℤ → Bool
lies_at a b k t = lies_in a b k (meant a t)
