-- The walk over a granule of h for the granules of g that make it up: where it begins, and what it finds.
use Rattle.std.specs.Prelude.{◌≡◌, ◌⊎◌, Bool, true, false, List, ◌++◌, ℕ, ◌<◌, ◌^◌, ℤ, pos, ◌≤ℤ◌, length, get_or, Some, None, Option}
use Rattle.std.proofs.Math.Option as Math
use Rattle.std.proofs.Math.Option.{none, some}
use Rattle.calendar.specs.Meaning.{Row, meant}
use Rattle.calendar.specs.Granules.{within, meeting}
use Rattle.calendar.specs.Questions.{made_up}
use Rattle.cursors.specs.declared.Cursor.{Cursor}
use Rattle.cursors.specs.Found.{Within}
use Rattle.cursors.specs.Cursor.{cursor_at}
use Rattle.cursors.specs.Direction.{away}
use Rattle.containment.specs.Places.{instant}
use Rattle.parts.specs.declared.Part as Part

-- a cursor of the row whose instant has room for a walk of a turn on either side
abbrev pub Roomy : Row → Cursor → Type 0
Roomy r c = Within (2 ^ 59) (instant r c) × (c ≡ cursor_at r (instant r c))

-- k is the label of the nearest instant with one, back from u or on: no label on the way from u is on the near side of it
pub record Nearest (back : Bool) (r : Row) (u k : ℤ) : Type 0 where
  pub at : ℤ
  pub label : meant r at ≡ some k
  pub from : pos 0 ≤ℤ away back u at
  pub nearest : (w j : ℤ) → pos 0 ≤ℤ away back u w → meant r w ≡ some j → pos 0 ≤ℤ away back k j

-- what an instant with the labels x in h and y in g says of the parts of the granule z of h: o is the last label of g outside the granule before it, and
-- k the latest part, which is o as long as there is none
abbrev pub PartAt : ℤ → Math.Option ℤ → Math.Option ℤ → ℤ → ℤ → Part.Part → Type 0
PartAt z x y o k Part.TheVariants.Nothing = ((x ≡ none) × (y ≡ none)) ⊎ ((x ≡ some z) × ((y ≡ some k) × (k ≡ o → ⊥)))
PartAt z x y o k (Part.TheVariants.Outside j) = (x ≡ none) × ((y ≡ some j) × (j ≡ k → ⊥))
PartAt z x y o k (Part.TheVariants.Next j) = (x ≡ some z) × ((y ≡ some j) × ((j ≡ o → ⊥) × (j ≡ k → ⊥)))
PartAt z x y o k Part.TheVariants.End = (j : ℤ) × (x ≡ some j) × (j ≡ z → ⊥)
PartAt z x y o k Part.TheVariants.Broken = ((x ≡ some z) × ((y ≡ none) ⊎ (y ≡ some o))) ⊎ ((x ≡ none) × (y ≡ some k))

-- what a walk finds where the granule is over, at u: the parts so far, of which k is the latest, unless that is the nearest label of g from there on
abbrev pub EndAt : Row → ℤ → ℕ → ℤ → Option ℕ → Type 0
EndAt g u count k (Some n) = (n ≡ count) × ((j : ℤ) × Nearest false g u j × (j ≡ k → ⊥))
EndAt g u count k None = Nearest false g u k

-- the parts of the granule z: how many there are, and those that the list l has room for, with zeros behind them; where they do not make it up, l shows
-- in the same way the first of the granules of g that meet it
abbrev pub PartsOf : Row → Row → ℤ → List ℤ → Option ℕ → Type 0
PartsOf h g z l (Some count) =
    (made_up h g z ≡ true) × ((count ≡ length (within g h z)) × ((i : ℕ) → i < length l → get_or l i (pos 0) ≡ get_or (within g h z) i (pos 0)))
PartsOf h g z l None =
    (made_up h g z ≡ false) × ((m n : List ℤ) × (meeting g h z ≡ m ++ n) × ((i : ℕ) → i < length l → get_or l i (pos 0) ≡ get_or m i (pos 0)))
