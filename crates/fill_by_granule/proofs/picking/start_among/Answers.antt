-- `fill_by_granule::picking::start_among` meets its contract.
-- Assumes nothing.
use mathlib.Core.Path.{sym, ◌∙◌, ap}
use mathlib.Core.Logic.{⊎_elim}
use native.Mathlib.Omega.{arith}
use lib.IntN.{ℤ, pos, ◌+ℤ◌}
use lib.Signed.{◌≤ℤ◌, ◌<ℤ◌}
use mir.Syntax.{w64}
use mir.Val.{SFits}
use Rattle.integers.specs.Parts.{up}
use Rattle.integers.proofs.Linear.{ints, ◌∴◌}
use Rattle.integers.proofs.Machine.{plain}
use Rattle.integers.proofs.Order.{pos-up, le-or-lt, ≤ℤ-antisym}
use Rattle.cursors.specs.Found.{Within}
use Rattle.select_granules.proofs.Starts.{start-above, start-below}
use Rattle.fill_by_granule.proofs.picking.start_among.Goals as goal
use Rattle.fill_by_granule.proofs.picking.start_among.Goals.{Else-pick-gt0, Start, Then-pick-gt0}

x_fits : (s : Start) → SFits w64 s.args.pick.x
x_fits s = s.requires.pick_limits.x-low ∴ s.requires.pick_limits.x-high ∴ simp ints (omega arith)

sum_fits : (s : Start) → SFits w64 (s.args.n +ℤ s.args.pick.x)
sum_fits s = s.requires.pick_limits.x-low ∴ s.requires.pick_limits.x-high ∴ s.requires.pos_bound.0 ∴ s.requires.pos_bound.1 ∴ simp ints (omega arith)

more-fits : (s : Start) → SFits w64 (s.args.n +ℤ s.args.pick.x +ℤ pos 1)
more-fits s = s.requires.pick_limits.x-low ∴ s.requires.pick_limits.x-high ∴ s.requires.pos_bound.0 ∴ s.requires.pos_bound.1 ∴ simp ints (omega arith)

near : (s : Start) → Within 8388608 s.args.pick.x × Within 8388608 (s.args.n +ℤ s.args.pick.x +ℤ pos 1)
near s =
    let p = s.requires.pick_limits in
    let n = s.requires.pos_bound in (
      (p.x-low ∴ simp ints (omega arith), p.x-high ∴ simp ints (omega arith)),
      (p.x-low ∴ n.0 ∴ simp ints (omega arith), p.x-high ∴ n.1 ∴ simp ints (omega arith)),
    )

pub overflow_add-result : goal.overflow_add-result
overflow_add-result c =
    let s = (goal.at.overflow_add-result c).Start in
    let f = x_fits s in
    let g = s.ranges.n in
    simp plain (sum_fits s)

pub overflow_add-result-else-pick-gt0 : goal.overflow_add-result-else-pick-gt0
overflow_add-result-else-pick-gt0 c =
    let s = (goal.at.overflow_add-result-else-pick-gt0 c).Start in
    let f = x_fits s in
    let g = s.ranges.n in
    let h = sum_fits s in
    simp plain (more-fits s)

pub returns-then-pick-gt0 : goal.returns-then-pick-gt0
returns-then-pick-gt0 c =
    let t = (goal.at.returns-then-pick-gt0 c).Then-pick-gt0 in
    let s = (goal.at.Then-pick-gt0 t).Start in
    let x = s.args.pick.x in
    let f = x_fits s in
    let h : pos 0 <ℤ x = simp plain at t.if-pick-gt0.true in
    record { is = simp plain (sym (start-above x (up s.args.n) h)); near = simp plain ((near s).0) }

pub returns-else-pick-gt0 : goal.returns-else-pick-gt0
returns-else-pick-gt0 c =
    let e = (goal.at.returns-else-pick-gt0 c).Else-pick-gt0 in
    let s = (goal.at.Else-pick-gt0 e).Start in
    let x = s.args.pick.x in
    let f = x_fits s in
    let g = s.ranges.n in
    let h = sum_fits s in
    let m = more-fits s in
    let l : x ≤ℤ pos 0 = simp plain at e.if-pick-gt0.false in
    let b : x <ℤ pos 0 = ⊎_elim (λ k. absurd (s.requires.pick_limits.not-zero (≤ℤ-antisym l k))) (λ k. k) (le-or-lt (pos 0) x) in
    record { is = simp plain (sym (start-below x (up s.args.n) b ∙ ap (λ (z : ℤ). z +ℤ x +ℤ pos 1) (pos-up s.requires.pos_bound.0))); near = simp plain ((near s).1) }
