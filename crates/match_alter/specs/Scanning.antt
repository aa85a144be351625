-- Where the comparing of a claimed row is among the altered granules, and what its steps are given and find.
use Rattle.std.specs.Prelude.{◌≡◌, true, List, ℕ, ◌^◌, ◌≤◌, ℤ, pos, ◌+ℤ◌, ◌-ℤ◌, ◌≤ℤ◌, ◌<ℤ◌, length}
use Rattle.std.proofs.Math.Option.{some}
use Rattle.calendar.specs.Limits.{pool_limit}
use Rattle.calendar.specs.Meaning.{Row, meant}
use Rattle.calendar.specs.Distance.{size}
use Rattle.calendar.specs.Checks.{labels_in_range}
use Rattle.cursors.specs.Found.{Within}
use Rattle.cursors.specs.Cursor.{cursor_at}
use Rattle.kinds.specs.declared.Alteration.{Alteration}
use Rattle.kinds.specs.declared.Operand.{Operand}
use Rattle.kinds.specs.Stands.{row_in, Stands}
use Rattle.alter_granules.specs.declared.Repeat.{Repeat}
use Rattle.alter_granules.specs.declared.behind.Instant.{Instant}
use Rattle.alter_granules.specs.Given.{altering}
use Rattle.alter_granules.specs.Follows.{begins, Holds, CoarseWalk, Seeks}
use Rattle.match_alter.specs.declared.Place.{Place}
use Rattle.match_alter.specs.declared.Scan.{Scan}

-- the instant 0, where cursors are at their first cell
abbrev pub origin : Place
origin = record { index = 0; cursor = record { index = pos 0; rise = pos 0 }; claim = record { index = pos 0; rise = pos 0 } }

-- a place, in a alone
abbrev pub instant_of : Place → Instant
instant_of p = record { index = p.index; cursor = p.cursor }

-- the operands and the claimed row stand in the pool, and no label of the working row is outside the limits
pub record Comparable (by : Alteration) (a b r : Operand) (period : ℕ) (pool : List ℤ) : Type 0 where
  pub a-stands : Stands pool a
  pub b-stands : Stands pool b
  pub r-stands : Stands pool r
  pub few : length pool ≤ pool_limit
  pub room : period ≤ pool_limit
  pub is-period : period ≡ (size (altering by (row_in pool a) (row_in pool b))).period
  pub in-range : labels_in_range (altering by (row_in pool a) (row_in pool b)) ≡ true

-- ---- by the walk over b

pub record Walking (by : Alteration) (a b : Row) (j : ℤ) (s : Scan) : Type 0 where
  pub walk : CoarseWalk by a b s.walk
  pub reached : begins by a b s.walk.label ≤ℤ j
  pub before : j <ℤ s.walk.end
  pub near : Within (2 ^ 40) j

pub record FoundAhead (by : Alteration) (a b : Row) (j : ℤ) (s t : Scan) : Type 0 where
  pub walk : CoarseWalk by a b t.walk
  pub holds : Holds by a b j t.walk.label
  pub end : t.walk.end ≡ s.walk.end
  pub place : t.place ≡ s.place
  pub number : t.number ≡ t.walk.label
  pub high : t.high ≡ t.walk.next -ℤ pos 1

-- ---- by the labels of the claimed row r

-- an instant of a's granule j is at the place p or ahead of it
pub record Seeking (a r : Row) (j : ℤ) (p : Place) : Type 0 where
  pub seeks : Seeks a (instant_of p) j
  pub claim : p.claim ≡ cursor_at r (pos p.index)

-- it is at p
pub record Sought (a r : Row) (j : ℤ) (p : Place) : Type 0 where
  pub cursor : p.cursor ≡ cursor_at a (pos p.index)
  pub claim : p.claim ≡ cursor_at r (pos p.index)
  pub label : meant a (pos p.index) ≡ some j
  pub near : p.index ≤ pool_limit

-- the granule D before j is at the place or ahead of it, and each instant of it has a label in r
pub record Reading (repeat : Repeat) (a r : Row) (j : ℤ) (s : Scan) : Type 0 where
  pub seeking : Seeking a r (j -ℤ repeat.fine) s.place
  pub labelled : (u : ℕ) → meant a (pos u) ≡ some (j -ℤ repeat.fine) → (i : ℤ) × (meant r (pos u) ≡ some i)
  pub near : Within (2 ^ 40) j
  pub coarse : Within (2 ^ 43) repeat.coarse
  pub fine : Within (2 ^ 43) repeat.fine

-- its label in r is n less than the number
pub record FoundBehind (repeat : Repeat) (a r : Row) (j : ℤ) (s t : Scan) : Type 0 where
  pub sought : Sought a r (j -ℤ repeat.fine) t.place
  pub label : ℤ
  pub read : meant r (pos t.place.index) ≡ some label
  pub number : t.number ≡ label +ℤ repeat.coarse
  pub high : t.high ≡ j
  pub walk : t.walk ≡ s.walk
