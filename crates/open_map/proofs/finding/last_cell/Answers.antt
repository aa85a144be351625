-- `open_map::finding::last_cell` meets its contract: some cell is set.
-- Assumes nothing.
use Rattle.std.specs.Prelude.{ℤ}
use mathlib.Core.Path.{◌≡◌, subst}
use Prim.Native.Nat.{ℕ}
use native.Mathlib.Omega.{arith}
use lib.IntN.{pos, nat_abs}
use lib.Signed.{◌≤ℤ◌}
use mir.Syntax.{w64}
use mir.Val.{of_z, to_z}
use Rattle.integers.proofs.Linear.{ints, ◌∴◌}
use Rattle.words.proofs.Tally.{tally-none}
use Rattle.words.specs.Bits.{cell}
use Rattle.integers.specs.Parts.{up}
use Rattle.bitmaps.specs.Cells.{LastBelow}
use Rattle.open_map.proofs.Found.{nowhere}
use Rattle.open_map.proofs.Given.{Given, given, within}
use Rattle.open_map.proofs.Numbers.{cast-up}
use Rattle.open_map.proofs.finding.last_cell.Goals as goal
use Rattle.open_map.proofs.finding.last_cell.Goals.{After-last_below-place, Start}

known : (c : Start) → Given c.args.period c.args.words.now
known c = given c.args.period c.args.words.now c.requires

natural : (c : Start) → pos 0 ≤ℤ c.args.period
natural c = (known c).period-is ∴ simp ints (omega arith)

cast_is : (c : Start) → nat_abs (to_z w64 (of_z w64 c.args.period)) ≡ up c.args.period
cast_is c = (cast-up c.args.period c.ranges.period (natural c)).2

pub overflow_cast-period : goal.overflow_cast-period
overflow_cast-period c = let n = cast-up c.args.period c.ranges.period (natural (goal.at.overflow_cast-period c).Start) in (n.0, n.1)

pub last_below-place-requires : goal.last_below-place-requires
last_below-place-requires c =
    let s = (goal.at.last_below-place-requires c).Start in
    within s.args.period s.args.words.now (known s) (nat_abs (to_z w64 (of_z w64 s.args.period))) (omega (arith, cast_is s))

found : (c : After-last_below-place) → LastBelow c.args.words.now (up c.args.period) c.last_below-place.result
found c =
    let s = (goal.at.After-last_below-place c).Start in
    subst (λ (n : ℕ). LastBelow s.args.words.now n c.last_below-place.result) (cast_is s) c.last_below-place.ensures

pub returns-in_default : goal.returns-in_default
returns-in_default c =
    let f = (goal.at.returns-in_default c).After-last_below-place in
    let s = (goal.at.After-last_below-place f).Start in
    let l = s.args.words.now in
    let n = up s.args.period in
    let none = subst (LastBelow l n) (nowhere _ c.in_default.not-Some) (found f) in
    absurd (omega (arith, (known s).some, tally-none (cell l) n (λ i h. none i (omega arith) h)))

pub returns : goal.returns
returns c =
    let f = (goal.at.returns c).After-last_below-place in
    let s = (goal.at.After-last_below-place f).Start in
    subst (LastBelow s.args.words.now (up s.args.period)) c.in-Some.is (found f)
