-- The granule of a place lies in another on one side of it.
use Rattle.std.specs.Prelude.{◌≡◌, Bool, ◌||◌, ◌^◌, pos, neg_ℤ, ◌≤ℤ◌}
use Rattle.std.proofs.Math.Option.{some}
use Rattle.std.specs.Int.Signed.{lt_z}
use Rattle.calendar.specs.Meaning.{Row, meant}
use Rattle.calendar.specs.Lists.{all, is}
use Rattle.calendar.specs.Granules.{granule}
use Rattle.cursors.specs.Cursor.{cursor_at}
use Rattle.cursors.specs.Direction.{away}
use Rattle.containment.specs.declared.CursorPair.{CursorPair}
use Rattle.containment.specs.Places.{instant, at}

-- the cursors and the labels of the place are those of its instant, which has room for a walk of a turn on either side
pub record Overlaps (b a : Row) (p : CursorPair) : Type 0 where
  pub low : neg_ℤ (pos (2 ^ 59)) ≤ℤ at b p
  pub high : at b p ≤ℤ pos (2 ^ 59)
  pub b-cursor : p.b ≡ cursor_at b (at b p)
  pub b-label : meant b (at b p) ≡ some p.k
  pub a-cursor : p.a ≡ cursor_at a (at b p)
  pub a-label : meant a (at b p) ≡ some p.i

-- the granule k of b lies in the granule i of a, as far as its instants from the place on go, back or on
unfoldable pub inside_toward : Bool → Row → Row → CursorPair → Bool
unfolding granule meant instant
inside_toward back b a p = all (λ u. lt_z (away back (at b p) u) (pos 0) || is p.i (meant a u)) (granule b p.k)
