-- `cursors::cursor_at` meets its contract: the instant less whole turns is the cell, and the numbers on the way are near the instant.
-- Assumes nothing.
use mathlib.Core.Path.{◌≡◌, ◌∙◌}
use native.Mathlib.Omega.{arith}
use borrow.Author.Rules.{sfits_of}
use lib.IntN.{ℤ, ◌-ℤ◌, ◌*ℤ◌}
use mir.Facts.{to_z-of_z}
use mir.Syntax.{w64}
use mir.Val.{of_z, to_z}
use Rattle.integers.specs.Parts.{up}
use Rattle.integers.specs.Floor.{floor_div}
use Rattle.integers.proofs.Linear.{ints, ◌∴◌}
use Rattle.integers.proofs.Machine.{plain}
use Rattle.cursors.proofs.Numbers.{numbers, read_as}
use Rattle.cursors.proofs.Cursors.{Start, starts, cursor-eq}
use Rattle.cursors.proofs.cursor_at.Goals as goal
use Rattle.cursors.proofs.cursor_at.Goals.{After-floor_div-turn, Start as Start-place}

pub floor_div-turn-requires : goal.floor_div-turn-requires
floor_div-turn-requires c =
    let p = c.ranges.period in
    let n = numbers c.args.period c.args.distance c.args.cells.now c.requires.sound in
    n.period-is ∴ n.low ∴ n.middle ∴ simp (plain, ints) (omega arith)

-- the turn, read back from its bits
turn : (c : After-floor_div-turn) → to_z w64 (of_z w64 c.floor_div-turn.result) ≡ floor_div c.args.t (up c.args.period)
turn c =
    let t = c.ranges.t in
    let p = c.ranges.period in
    to_z-of_z {w = w64} (sfits_of c.floor_div-turn.type_inv) ∙ simp plain at c.floor_div-turn.ensures

known : (c : Start-place) → Start c.args.period c.args.distance c.args.cells.now c.requires.sound c.args.t
known c = starts c.args.period c.args.distance c.args.cells.now c.requires.sound c.args.t c.requires.near

pub overflow_mul-result : goal.overflow_mul-result
overflow_mul-result c =
    let p = c.ranges.period in
    simp (plain, turn c) (known c.before).whole-fits

pub overflow_sub-result : goal.overflow_sub-result
overflow_sub-result c =
    let p = c.ranges.period in
    let t = c.ranges.t in
    let w = (known c.before).whole-fits in
    simp (plain, turn c) (known c.before).cell-fits

pub overflow_mul-result-2 : goal.overflow_mul-result-2
overflow_mul-result-2 c =
    let d = c.ranges.distance in
    simp (plain, turn c) (known c.before).rise-fits

pub returns : goal.returns
returns c =
    let s = c.before in
    let p = s.ranges.period in
    let d = s.ranges.distance in
    let t = s.ranges.t in
    let k = known s in
    let w = k.whole-fits in
    let q : ℤ = to_z w64 (of_z w64 c.floor_div-turn.result) in
    let index : ℤ = to_z w64 (of_z w64 s.args.t) -ℤ to_z w64 (of_z w64 (q *ℤ to_z w64 (of_z w64 s.args.period))) in
    let rise : ℤ = q *ℤ to_z w64 (of_z w64 s.args.distance) in
    cursor-eq _ _ _ _ (read_as {x = index} (simp (plain, turn c)) k.cell-fits) (read_as {x = rise} (simp (plain, turn c)) k.rise-fits)
    ∙ k.start
