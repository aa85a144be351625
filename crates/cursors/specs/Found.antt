-- What the functions on rows answer, and the rows they are about.
use Rattle.std.specs.Prelude.{◌≡◌, true, ℕ, ◌^◌, ℤ, pos, neg_ℤ, ◌≤ℤ◌, List, None, Option, Some}
use Rattle.std.proofs.Math.Option as Math
use Rattle.std.proofs.Math.Option.{none, some}
use Rattle.calendar.specs.Meaning.{Row, meant}
use Rattle.calendar.specs.Sound.{sound}
use Rattle.calendar.specs.Questions.{given}

-- the label or the instant that the code answers, or none
abbrev pub found : Option ℤ → Math.Option ℤ
found (Some z) = some z
found None = none

-- a row that passed check 13
abbrev pub Sound : ℤ → ℤ → List ℤ → Type 0
Sound period distance cells = sound (given period distance cells) ≡ true

-- z is within ±B
abbrev pub Within : ℕ → ℤ → Type 0
Within B z = (neg_ℤ (pos B) ≤ℤ z) × (z ≤ℤ pos B)

-- an instant so near that no sum on the way to its label passes 64 bits: every instant that a question meets is
abbrev pub Near : ℤ → Type 0
Near t = Within (2 ^ 60) t

-- an instant that has a label, with room for a walk of a turn on either side
abbrev pub Labelled : Row → ℤ → Type 0
Labelled r t = ((j : ℤ) × (meant r t ≡ some j)) × Within (2 ^ 59) t
