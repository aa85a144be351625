-- `open_row::steps::between_of` meets its contract: a difference of ranks.
-- Assumes nothing.
use mathlib.Core.Path.{◌≡◌, ◌∙◌, sym}
use Prim.Native.Nat.{◌^◌}
use native.Mathlib.Omega.{arith}
use borrow.Author.Rules.{sfits_of}
use lib.IntN.{pos, ◌+ℤ◌, ◌-ℤ◌}
use mir.Facts.{to_z-of_z}
use mir.Syntax.{w64}
use mir.Val.{SFits}
use Rattle.integers.proofs.Linear.{ints, ◌∴◌}
use Rattle.integers.proofs.Machine.{plain}
use Rattle.calendar.specs.Limits.{in_range}
use Rattle.granules.proofs.Tests.{and-iff}
use Rattle.cursors.specs.Found.{Within}
use Rattle.cursors.proofs.Bounds.{in-range}
use Rattle.open_map.specs.Maps.{is_open}
use Rattle.open_map.specs.Turns.{rank}
use Rattle.open_map.proofs.Shown.{rank_step}
use Rattle.open_steps.proofs.Ranks.{between-open}
use Rattle.open_row.specs.Shown.{shown_by}
use Rattle.open_row.proofs.Rows.{map-given, between-same}
use Rattle.open_row.proofs.steps.between_of.Goals as goal
use Rattle.open_row.proofs.steps.between_of.Goals.{Start}

-- the instants behind x and y are near
near : (s : Start) → Within (2 ^ 32) (s.args.x +ℤ pos 1) × Within (2 ^ 32) (s.args.y +ℤ pos 1)
near s =
    let a = (and-iff (in_range s.args.x) (in_range s.args.y)).0 s.requires.y_value in
    ((in-range s.args.x).0 a.0 ∴ simp ints (omega arith), (in-range s.args.y).0 a.1 ∴ simp ints (omega arith))

x_fits : (s : Start) → SFits w64 (s.args.x +ℤ pos 1)
x_fits s = (near s).0 ∴ simp ints (omega arith)

y-fits : (s : Start) → SFits w64 (s.args.y +ℤ pos 1)
y-fits s = (near s).1 ∴ simp ints (omega arith)

pub overflow_add-x : goal.overflow_add-x
overflow_add-x s = let x = s.ranges.x in simp plain (x_fits s)

pub overflow_add-y : goal.overflow_add-y
overflow_add-y s = let y = s.ranges.y in simp plain (y-fits s)

pub risen-requires : goal.risen-requires
risen-requires s =
    let p = s.ranges.period in
    let d = s.ranges.distance in
    let f = s.ranges.x in
    let g = s.ranges.y in
    let x = x_fits s in
    let y = y-fits s in
    record { sound = simp plain s.requires.sound; within = simp plain (near s) }

pub returns : goal.returns
returns c =
    let s = (goal.at.returns c).Start in
    let l = s.args.cells.now in
    let m = shown_by s.args.period l in
    let p = s.ranges.period in
    let f = s.ranges.x in
    let g = s.ranges.y in
    let x = x_fits s in
    let y = y-fits s in
    let e : c.risen.result ≡ rank m (s.args.y +ℤ pos 1) -ℤ rank m (s.args.x +ℤ pos 1) = simp plain at c.risen.ensures in
    let step = rank_step m (map-given s.args.period s.args.distance l s.requires.sound).low in
    to_z-of_z {w = w64} (sfits_of c.risen.type_inv) ∙ e ∙ sym (between-open (is_open m) (rank m) step s.args.x s.args.y)
    ∙ between-same s.args.period s.args.distance l s.args.x s.args.y
