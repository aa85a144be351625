-- `fill_stretches::stretch_end` meets its contract: `high` is below the labels, not below them, or one of them.
-- Assumes nothing.
use Prim.Native.Nat.{ℕ, ◌^◌, ◌≤◌, ◌<◌}
use native.Mathlib.Omega.{arith}
use lib.IntN.{ℤ, pos, ◌+ℤ◌, ◌-ℤ◌}
use lib.Signed.{◌≤ℤ◌, ◌<ℤ◌}
use mir.Syntax.{w64}
use mir.Val.{SFits}
use Rattle.integers.specs.Parts.{up}
use Rattle.integers.proofs.Linear.{ints, ◌∴◌}
use Rattle.integers.proofs.Order.{pos-up}
use Rattle.integers.proofs.Machine.{plain}
use Rattle.cursors.proofs.Bounds.{in-range}
use Rattle.cursors.proofs.Cells.{cast-nat}
use Rattle.fill_shared.proofs.Cells.{cast-natural}
use Rattle.fill_stretches.proofs.OneCell.{ends-between}
use Rattle.fill_stretches.proofs.stretch_end.Goals as goal
use Rattle.fill_stretches.proofs.stretch_end.Goals.{Else-first-size, Start}

-- an instant, and its label
small : (s : Start) (u : ℕ) → u ≤ s.args.size → u < 2 ^ 63
small s u h = omega (arith, s.requires.few)

label-fits : (s : Start) (u : ℕ) → u ≤ s.args.size → SFits w64 (s.args.first +ℤ pos u)
label-fits s u h = (in-range s.args.first).0 s.requires.label ∴ s.requires.few ∴ h ∴ simp ints (omega arith)

pub overflow_add-first : goal.overflow_add-first
overflow_add-first c =
    let f = c.ranges.first in
    let t = small c c.args.t c.requires.in-room in
    simp plain (label-fits c c.args.t c.requires.in-room)

pub returns-then-high-first : goal.returns-then-high-first
returns-then-high-first c =
    let s = (goal.at.returns-then-high-first c).Start in
    let f = s.ranges.first in
    let h = s.ranges.high in
    let t = small s s.args.t s.requires.in-room in
    let l = label-fits s s.args.t s.requires.in-room in
    let a = simp plain at c.if-high-first.true in
    record { on = omega arith; in-room = s.requires.in-room; below = λ u i j. absurd (omega arith); stops = λ m. a }

pub overflow_add-first-2 : goal.overflow_add-first-2
overflow_add-first-2 c =
    let s = (goal.at.overflow_add-first-2 c).Start in
    let f = s.ranges.first in
    let t = small s s.args.size (omega arith) in
    simp plain (label-fits s s.args.size (omega arith))

pub returns-then-first-size : goal.returns-then-first-size
returns-then-first-size c =
    let s = (goal.at.returns-then-first-size c).Start in
    let f = s.ranges.first in
    let h = s.ranges.high in
    let t = small s s.args.size (omega arith) in
    let l = label-fits s s.args.size (omega arith) in
    let a = simp plain at c.if-first-size.true in
    record {
      on = s.requires.in-room;
      in-room = omega arith;
      below = λ u i j. a ∴ j ∴ simp ints (omega arith);
      stops = λ m. absurd (omega arith);
    }

-- ---- `high` is the label of an instant from t on, before `size`
abbrev base : Else-first-size → Start
base c = (goal.at.Else-first-size c).Start

abbrev end : Else-first-size → ℤ
end c = (base c).args.high -ℤ (base c).args.first +ℤ pos 1

low : (c : Else-first-size) → ((base c).args.first +ℤ pos (base c).args.t) ≤ℤ (base c).args.high
low c =
    let s = base c in
    let f = s.ranges.first in
    let h = s.ranges.high in
    let t = small s s.args.t s.requires.in-room in
    let l = label-fits s s.args.t s.requires.in-room in
    simp plain at c.if-high-first.false

high : (c : Else-first-size) → (base c).args.high <ℤ ((base c).args.first +ℤ pos (base c).args.size)
high c =
    let s = base c in
    let f = s.ranges.first in
    let h = s.ranges.high in
    let t = small s s.args.size (omega arith) in
    let l = label-fits s s.args.size (omega arith) in
    simp plain at c.if-first-size.false

sub-fits : (c : Else-first-size) → SFits w64 ((base c).args.high -ℤ (base c).args.first)
sub-fits c = low c ∴ high c ∴ (base c).requires.few ∴ simp ints (omega arith)

end_fits : (c : Else-first-size) → SFits w64 (end c)
end_fits c = low c ∴ high c ∴ (base c).requires.few ∴ simp ints (omega arith)

end_low : (c : Else-first-size) → pos 0 ≤ℤ end c
end_low c = low c ∴ simp ints (omega arith)

pub overflow_sub-result : goal.overflow_sub-result
overflow_sub-result c =
    let f = (base c).ranges.first in
    let h = (base c).ranges.high in
    simp plain (sub-fits c)

pub overflow_add-result : goal.overflow_add-result
overflow_add-result c =
    let f = (base c).ranges.first in
    let h = (base c).ranges.high in
    let d = sub-fits c in
    simp plain (end_fits c)

pub overflow_cast-result : goal.overflow_cast-result
overflow_cast-result c =
    let f = (base c).ranges.first in
    let h = (base c).ranges.high in
    let d = sub-fits c in
    let e = end_fits c in
    let n = cast-natural {z = end c} e (end_low c) in
    simp plain (simp plain at n)

pub returns : goal.returns
returns c =
    let s = base c in
    let f = s.ranges.first in
    let h = s.ranges.high in
    let d = sub-fits c in
    let e = end_fits c in
    let n = (cast-nat {z = end c} (end_low c)).1 in
    let x = ends-between s.args.first s.args.high _ _ (up (end c)) (low c) (high c) (pos-up (end_low c)) in
    simp (plain, n) x
