-- `fill_by_granule::picking::bounded` meets its contract: a number outside the limits is as good as the one next to them.
-- Assumes nothing.
use mathlib.Core.Path.{◌≡◌, refl}
use native.Mathlib.Omega.{arith}
use lib.IntN.{ℤ, pos, negsuc}
use lib.Signed.{◌≤ℤ◌, ◌<ℤ◌, le_z}
use mir.Syntax.{w32}
use mir.Val.{SFits}
use Rattle.integers.proofs.Linear.{ints, ◌∴◌}
use Rattle.integers.proofs.Machine.{plain}
use Rattle.granules.proofs.Tests.{test-ext, le_z-iff}
use Rattle.fill_by_granule.proofs.picking.bounded.Goals as goal
use Rattle.fill_by_granule.proofs.picking.bounded.Goals.{Else-z-gt-GREATEST_LABEL, Start}

-- both are below all labels, or above them
low-low : (x y j : ℤ) → x ≤ℤ j → y ≤ℤ j → le_z x j ≡ le_z y j
low-low x y j h g = test-ext (λ _. (le_z-iff y j).1 g) (λ _. (le_z-iff x j).1 h)

low-high : (x y j : ℤ) → j <ℤ x → j <ℤ y → le_z x j ≡ le_z y j
low-high x y j h g = test-ext (λ e. absurd ((le_z-iff x j).0 e ∴ h ∴ simp ints (omega arith))) (λ e. absurd ((le_z-iff y j).0 e ∴ g ∴ simp ints (omega arith)))

high-low : (x y j : ℤ) → x <ℤ j → y <ℤ j → le_z j x ≡ le_z j y
high-low x y j h g = test-ext (λ e. absurd ((le_z-iff j x).0 e ∴ h ∴ simp ints (omega arith))) (λ e. absurd ((le_z-iff j y).0 e ∴ g ∴ simp ints (omega arith)))

high-high : (x y j : ℤ) → j ≤ℤ x → j ≤ℤ y → le_z j x ≡ le_z j y
high-high x y j h g = test-ext (λ _. (le_z-iff j y).1 g) (λ _. (le_z-iff j x).1 h)

pub returns-then-z-lt-LEAST_LABEL : goal.returns-then-z-lt-LEAST_LABEL
returns-then-z-lt-LEAST_LABEL c =
    let z = c.args.z in
    let f = c.ranges.z in
    let h : z <ℤ negsuc 999999999 = simp plain at c.if-z-lt-LEAST_LABEL.true in record {
      low = λ j w. low-low (negsuc 1000000000) z j (w.0 ∴ simp ints (omega arith)) (w.0 ∴ h ∴ simp ints (omega arith));
      high = λ j w. high-low (negsuc 1000000000) z j (w.0 ∴ simp ints (omega arith)) (w.0 ∴ h ∴ simp ints (omega arith));
    }

pub returns-then-z-gt-GREATEST_LABEL : goal.returns-then-z-gt-GREATEST_LABEL
returns-then-z-gt-GREATEST_LABEL c =
    let z = c.args.z in
    let f = c.ranges.z in
    let h : pos 1000000000 <ℤ z = simp plain at c.if-z-gt-GREATEST_LABEL.true in record {
      low = λ j w. low-high (pos 1000000001) z j (w.1 ∴ simp ints (omega arith)) (w.1 ∴ h ∴ simp ints (omega arith));
      high = λ j w. high-high (pos 1000000001) z j (w.1 ∴ simp ints (omega arith)) (w.1 ∴ h ∴ simp ints (omega arith));
    }

-- within the limits it fits a cell
small : (c : Else-z-gt-GREATEST_LABEL) → SFits w32 c.args.z
small c =
    let s = (goal.at.Else-z-gt-GREATEST_LABEL c).Start in
    let f = s.ranges.z in
    let l : negsuc 999999999 ≤ℤ s.args.z = simp plain at c.if-z-lt-LEAST_LABEL.false in
    let h : s.args.z ≤ℤ pos 1000000000 = simp plain at c.if-z-gt-GREATEST_LABEL.false in
    l ∴ h ∴ simp ints (omega arith)

pub overflow_cast-result-2 : goal.overflow_cast-result-2
overflow_cast-result-2 c =
    let s = (goal.at.overflow_cast-result-2 c).Start in
    let f = s.ranges.z in
    let g = small c in
    simp plain g

pub returns : goal.returns
returns c =
    let f = c.ranges.z in
    let g = small c in
    record { low = simp plain (λ j w. refl); high = simp plain (λ j w. refl) }
