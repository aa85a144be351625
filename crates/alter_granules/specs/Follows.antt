-- Where a scan is among the altered granules, before the instant t.
use Rattle.std.specs.Prelude.{◌≡◌, Bool, false, ℕ, ◌^◌, ◌≤◌, ℤ, pos, ◌+ℤ◌, ◌-ℤ◌, ◌*ℤ◌, ◌≤ℤ◌, ◌<ℤ◌}
use Rattle.std.proofs.Math.Option.{Option, none, some}
use Rattle.std.specs.Int.Signed.{le_z}
use Rattle.integers.specs.Parts.{up}
use Rattle.integers.specs.Floor.{floor_mod}
use Rattle.calendar.specs.Meaning.{Row, meant}
use Rattle.calendar.specs.Size as Size
use Rattle.calendar.specs.Size.{turn}
use Rattle.calendar.specs.Compute.{first_fine}
use Rattle.calendar.specs.Limits.{pool_limit}
use Rattle.cursors.specs.Found.{Within}
use Rattle.cursors.specs.Cursor.{cursor_at}
use Rattle.kinds.specs.declared.Alteration.{Alteration}
use Rattle.alter_granules.specs.declared.Repeat.{Repeat}
use Rattle.alter_granules.specs.declared.Altered.{Altered}
use Rattle.alter_granules.specs.declared.coarse.Begin.{Begin}
use Rattle.alter_granules.specs.declared.ahead.Walk.{Walk}
use Rattle.alter_granules.specs.declared.behind.Instant.{Instant}
use Rattle.alter_granules.specs.declared.origin.Labelled.{Labelled}
use Rattle.alter_granules.specs.Given.{Alterable}
use Rattle.alter_granules.specs.CoarseBegins.{CoarseBegins}

-- what alter is given, with some n and D
abbrev pub Altering : Alteration → Row → Row → Type 0
Altering by a b = (repeat : Repeat) × Alterable by repeat a b

-- n and D of document 01
abbrev pub turn_coarse : Alteration → Row → Row → ℤ
turn_coarse by a b = pos (Size.coarse (turn a) (turn b) (up by.x))

abbrev pub turn_fine : Alteration → Row → Row → ℤ
turn_fine by a b = Size.fine (turn a) (turn b) (up by.x) by.z

-- the first fine granule of the altered granule i
abbrev pub begins : Alteration → Row → Row → ℤ → ℤ
begins by a b i = first_fine a b (up by.x) (up by.y) by.z i

-- the fine granule j is in the altered granule i
abbrev pub Holds : Alteration → Row → Row → ℤ → ℤ → Type 0
Holds by a b j i = (begins by a b i ≤ℤ j) × (j <ℤ begins by a b (i +ℤ pos 1))

-- ---- the walk over b

-- where it began: at b's granule of an instant of the first turn, that many turns of the altering on, and at most two turns before its end
pub record Origin (by : Alteration) (a b : Row) (end : ℤ) : Type 0 where
  pub instant : ℤ
  pub coarse : ℤ
  pub turns : ℤ
  pub low : pos 0 ≤ℤ instant
  pub high : instant ≤ℤ pos pool_limit
  pub label : meant b instant ≡ some coarse
  pub near : Within (2 ^ 55) (coarse +ℤ turn_coarse by a b *ℤ turns)
  pub end-near : Within (2 ^ 55) end
  pub reach : end ≤ℤ (begins by a b (coarse +ℤ turn_coarse by a b *ℤ turns) +ℤ turn_fine by a b +ℤ turn_fine by a b)

-- where it is
pub record CoarseWalk (by : Alteration) (a b : Row) (s : Walk) : Type 0 where
  pub origin : Origin by a b s.end
  pub begin : CoarseBegins a b s.begin
  pub on : origin.coarse ≤ℤ s.begin.i
  pub turned : s.label +ℤ pos 1 ≡ s.begin.i +ℤ turn_coarse by a b *ℤ origin.turns
  pub residue : s.residue ≡ pos (floor_mod (s.begin.i -ℤ pos (up by.y)) (up by.x))
  pub next : s.next ≡ begins by a b (s.label +ℤ pos 1)
  pub before : begins by a b s.label <ℤ s.end

-- where the walk s is not at its end, and the next coarse granule but one begins; its numbers are small
pub record Steps (by : Alteration) (a b : Row) (s : Walk) (begin : Begin) : Type 0 where
  pub given : Altering by a b
  pub walk : CoarseWalk by a b s
  pub before-end : s.next <ℤ s.end
  pub begins-there : CoarseBegins a b begin
  pub on : begin.i ≡ s.begin.i +ℤ pos 1
  pub from-near : Within (2 ^ 46) s.begin.p
  pub to-near : Within (2 ^ 46) begin.p
  pub label-near : Within (2 ^ 56) s.label
  pub next-near : Within (2 ^ 56) s.next
  pub residue-low : pos 0 ≤ℤ s.residue
  pub residue-high : s.residue <ℤ by.x

-- one altered granule on
pub record Stepped (by : Alteration) (a b : Row) (s r : Walk) : Type 0 where
  pub walk : CoarseWalk by a b r
  pub label : r.label ≡ s.label +ℤ pos 1
  pub end : r.end ≡ s.end

-- until the walk is at its end, the fine granules before the instant t are before the next altered one
abbrev pub Passed : Row → ℕ → Walk → Type 0
Passed a t s = s.next <ℤ s.end → (u j : ℤ) → u <ℤ pos t → meant a u ≡ some j → j <ℤ s.next

-- the first labelled instant from 0 on
pub record Opens (a : Row) (r : Labelled) : Type 0 where
  pub low : pos 0 ≤ℤ r.t
  pub high : r.t <ℤ pos a.period
  pub label : meant a r.t ≡ some r.j
  pub is-first : (u j : ℤ) → pos 0 ≤ℤ u → meant a u ≡ some j → r.t ≤ℤ u

-- where b's granule of that instant begins, and where the next one does
pub record Opened (by : Alteration) (repeat : Repeat) (a b : Row) (first : Labelled) (from begin : Begin) : Type 0 where
  pub given : Alterable by repeat a b
  pub opens : Opens a first
  pub from-begins : CoarseBegins a b from
  pub from-of : meant b first.t ≡ some from.i
  pub begin-begins : CoarseBegins a b begin
  pub begin-on : begin.i ≡ from.i +ℤ pos 1
  pub early : a.period ≤ pool_limit
  pub j-near : Within (2 ^ 31) first.j
  pub i-near : Within (2 ^ 31) from.i
  pub p-near : Within (2 ^ 31) from.p
  pub next-near : Within (2 ^ 31) begin.p
  pub turn_near : repeat.fine ≤ℤ pos (2 ^ 43)

-- it starts at the altered granule of that instant, and ends D fine granules on
pub record Starts (by : Alteration) (a b : Row) (s : Walk) : Type 0 where
  pub first : Labelled
  pub opens : Opens a first
  pub walk : CoarseWalk by a b s
  pub reached : begins by a b s.label ≤ℤ first.j
  pub ends : s.end ≡ first.j +ℤ turn_fine by a b

-- ---- the instants behind

-- there is a label, and it is not below j
abbrev pub at_least : ℤ → Option ℤ → Bool
at_least j none = false
at_least j (some k) = le_z j k

-- an instant of a's granule j is at p or ahead of it
pub record Seeks (a : Row) (p : Instant) (j : ℤ) : Type 0 where
  pub cursor : p.cursor ≡ cursor_at a (pos p.index)
  pub there : ℤ
  pub ahead : pos p.index ≤ℤ there
  pub near : there ≤ℤ pos pool_limit
  pub label : meant a there ≡ some j

-- ---- the scan

pub record Follows (by : Alteration) (repeat : Repeat) (a b : Row) (t : ℕ) (s : Altered) : Type 0 where
  pub walk : CoarseWalk by a b s.walk
  -- every fine granule from t on is in the altered granule at hand or behind it
  pub reached : (u j : ℤ) → pos t ≤ℤ u → meant a u ≡ some j → begins by a b s.walk.label ≤ℤ j
  pub cursor : s.behind.cursor ≡ cursor_at a (pos s.behind.index)
  -- of each that the walk does not reach, the one D before is at the instant behind or ahead of it
  pub ahead : (u j : ℤ) → pos t ≤ℤ u → meant a u ≡ some j → s.walk.end ≤ℤ j
      → (v : ℤ) × (pos s.behind.index ≤ℤ v) × (meant a v ≡ some (j -ℤ repeat.fine))
