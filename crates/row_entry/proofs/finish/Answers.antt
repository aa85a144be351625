-- `row_entry::finish` meets its contract: least period, least distance and R are those of the working row.
-- Assumes nothing.
use mathlib.Core.Path.{◌≡◌, refl, ◌∙◌, ap}
use Prim.Native.Nat.{ℕ, ◌^◌, ◌≤◌, ◌<◌}
use native.Mathlib.Omega.{arith}
use lib.IntN.{ℤ, pos}
use lib.Signed.{◌≤ℤ◌}
use lib.ListN.{take, drop}
use mir.Syntax.{w64}
use mir.Val.{SFits, of_z, to_z}
use Rattle.integers.specs.Parts.{up}
use Rattle.integers.proofs.Linear.{ints}
use Rattle.integers.proofs.Machine.{plain}
use Rattle.calendar.specs.Meaning.{Row}
use Rattle.calendar.specs.Granules.{granules}
use Rattle.calendar.specs.Limits.{pool_limit}
use Rattle.calendar.specs.Least.{least}
use Rattle.calendar.specs.Questions.{given}
use Rattle.least_form.specs.Row.{IsLeast}
use Rattle.row_entry.proofs.Numbers.{cast-wide, number-limits}
use Rattle.row_entry.proofs.Shortening.{Found, found, dense, few, found_number, added}
use Rattle.row_entry.proofs.finish.Goals as goal
use Rattle.row_entry.proofs.finish.Goals.{After-least_distance-rise, After-least_of-least, After-number-2, After-number-4, After-struct_told-4-1, Start}

-- the working row
abbrev row : Start → Row
row s = let a = s.args in given a.period a.distance (take (up a.period) (drop a.used a.pool.now))

-- the least period
at : (c : After-least_of-least) → let a = c.args in Found a.period a.distance a.used a.pool.now c.least_of-least.result.period
at c =
    let s = (goal.at.After-least_of-least c).Start in
    let a = s.args in
    let p = s.ranges.period in
    let d = s.ranges.distance in
    found a.period a.distance a.used a.pool.now s.requires.worked p d c.least_of-least.result.period (simp plain at c.least_of-least.ensures.period)

-- the working row has it
is-least : (c : After-least_of-least) → let a = c.args in
    IsLeast (to_z w64 (of_z w64 a.period)) (to_z w64 (of_z w64 a.distance)) (to_z w64 (of_z w64 c.least_of-least.result.period)) (take (up a.period) (drop a.used a.pool.now))
is-least c =
    let s = (goal.at.After-least_of-least c).Start in
    let p = s.ranges.period in
    let d = s.ranges.distance in
    let f = at c in
    let z = f.fits in
    simp plain (record { passed = s.requires.worked.is-sound; is = f.is })

pub least_distance-rise-requires : goal.least_distance-rise-requires
least_distance-rise-requires c = (_, is-least (goal.at.least_distance-rise-requires c).After-least_of-least)

-- a number that is at most the least period, with its limits
abbrev Number : ℕ → ℤ → Type 0
Number n z = (z ≡ pos n) × (SFits w64 z × (pos 0 ≤ℤ z) × (z ≤ℤ pos pool_limit))

-- the least distance
rise : (c : After-least_distance-rise) → Number (least (row (goal.at.After-least_distance-rise c).Start)).distance c.least_distance-rise.result
rise c =
    let s = (goal.at.After-least_distance-rise c).Start in
    let a = s.args in
    let p = s.ranges.period in
    let d = s.ranges.distance in
    let is = simp plain at (c.least_distance-rise.ensures _ (is-least (goal.at.After-least_distance-rise c).After-least_of-least)) in (
      is,
      found_number a.period a.distance a.used a.pool.now s.requires.worked p d _
          (dense a.period a.distance a.used a.pool.now s.requires.worked p d) c.least_distance-rise.result is,
    )

-- R of the least row
count : (c : After-least_of-least) → Number (granules (least (row (goal.at.After-least_of-least c).Start))) c.least_of-least.result.granules
count c =
    let s = (goal.at.After-least_of-least c).Start in
    let a = s.args in
    let p = s.ranges.period in
    let d = s.ranges.distance in
    let is = simp plain at c.least_of-least.ensures.granules in (
      is,
      found_number a.period a.distance a.used a.pool.now s.requires.worked p d _
          (few a.period a.distance a.used a.pool.now s.requires.worked p d) c.least_of-least.result.granules is,
    )

-- the start of the row, as a number of its heading
used-small : (c : Start) → c.args.used ≤ pool_limit
used-small c = omega (arith, c.requires.worked.fits, c.requires.worked.at-most)

-- ---- from place to place
abbrev shaped : After-least_distance-rise → After-least_of-least
shaped c = (goal.at.After-least_distance-rise c).After-least_of-least

abbrev distanced : After-number-2 → After-least_distance-rise
distanced c = (goal.at.After-number-2 c).After-least_distance-rise

abbrev numbered : After-struct_told-4-1 → After-number-4
numbered c = (goal.at.After-struct_told-4-1 c).After-number-4

abbrev shortened : After-number-4 → After-number-2
shortened c = (goal.at.After-number-4 c).After-number-2

abbrev least_of : After-struct_told-4-1 → After-least_of-least
least_of c = shaped (distanced (shortened (numbered c)))

pub number-requires : goal.number-requires
number-requires c = let s = (goal.at.number-requires c).Start in number-limits s.args.used (used-small s)

pub number-requires-2 : goal.number-requires-2
number-requires-2 c =
    let l = shaped (goal.at.number-requires-2 c).After-least_distance-rise in
    let s = (goal.at.After-least_of-least l).Start in
    let f = at l in
    let z = f.fits in
    simp plain (f.low, rw f.is (simp ints (omega (arith, f.short, ap up f.is, s.requires.worked.fits, s.requires.worked.at-most))))

pub number-requires-3 : goal.number-requires-3
number-requires-3 c =
    let r = rise (distanced c) in
    let z = r.1.0 in
    simp plain (r.1.1, r.1.2)

pub number-requires-4 : goal.number-requires-4
number-requires-4 c =
    let r = count (shaped (distanced (goal.at.number-requires-4 c).After-number-2)) in
    let z = r.1.0 in
    simp plain (r.1.1, r.1.2)

pub overflow_cast-result : goal.overflow_cast-result
overflow_cast-result c =
    let f = at (least_of c) in
    let z = f.fits in
    simp plain (cast-wide z f.low)

pub overflow_add-result : goal.overflow_add-result
overflow_add-result c =
    let s = (goal.at.overflow_add-result c).Start in
    let f = at (least_of c) in
    omega (arith, f.read, f.short, s.requires.worked.fits, s.requires.worked.at-most)

pub returns : goal.returns
returns c =
    let n = numbered c in
    let m = shortened n in
    let l = least_of c in
    let s = (goal.at.After-least_of-least l).Start in
    let a = s.args in
    let f = at l in
    let r = rise (distanced m) in
    let t = count l in
    let p = s.ranges.period in
    let d = s.ranges.distance in
    let z = f.fits in
    let y = r.1.0 in
    let x = t.1.0 in
    let u : a.used < 2 ^ 63 = omega (arith, used-small s) in
    added a.period a.distance a.used a.pool.now s.requires.worked p d a.k a.headings.now _ l.least_of-least.result.period _ _ _ _ _ f
    (simp plain at m.number.ensures)
    (simp plain at m.number-2.ensures)
    ((simp plain at n.number-3.ensures) ∙ ap up r.0)
    ((simp plain at n.number-4.ensures) ∙ ap up t.0)
    refl
    c.write_heading.ensures
