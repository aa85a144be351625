-- `select_granules::taking::pick_start` meets its contract: Pick counts from the beginning, or from the end of all that are counted.
-- Assumes nothing.
use mathlib.Core.Path.{◌≡◌}
use mathlib.Core.Logic.{⊎_elim}
use mathlib.Core.List.{List}
use native.Mathlib.Omega.{arith}
use lib.IntN.{ℤ, pos, ◌+ℤ◌}
use lib.Signed.{◌≤ℤ◌, ◌<ℤ◌}
use lib.ListN.{length}
use mir.Syntax.{w64}
use mir.Val.{SFits}
use Rattle.integers.proofs.Linear.{ints, ◌∴◌}
use Rattle.integers.proofs.Machine.{plain}
use Rattle.integers.proofs.Order.{≤ℤ-antisym, le-or-lt}
use Rattle.calendar.specs.Questions.{given}
use Rattle.cursors.proofs.Numbers.{Numbers, numbers}
use Rattle.candidates.specs.Tallies.{candidates}
use Rattle.select_granules.proofs.Starts.{start-below}
use Rattle.select_granules.proofs.taking.pick_start.Goals as goal
use Rattle.select_granules.proofs.taking.pick_start.Goals.{After-counted_all-all, Start}

-- the granules in question
abbrev asked : Start → List ℤ
asked s =
    candidates s.args.whole (given s.args.a_period s.args.a_distance s.args.a_cells.now)
    (given s.args.b_period s.args.b_distance s.args.b_cells.now) s.args.i

b-numbers : (s : Start) → Numbers s.args.b_period s.args.b_distance s.args.b_cells.now
b-numbers s = numbers s.args.b_period s.args.b_distance s.args.b_cells.now s.requires.sound_2

x_fits : (s : Start) → SFits w64 s.args.pick.x
x_fits s = let l = s.requires.pick_limits in l.x-low ∴ l.x-high ∴ simp ints (omega arith)

abbrev begun : After-counted_all-all → Start
begun c = (goal.at.After-counted_all-all c).Start

count-is : (c : After-counted_all-all) → let s = begun c in let n = c.counted_all-all.result.count in
    (n ≡ pos (length (asked s))) × ((pos 0 ≤ℤ n) × (n ≤ℤ s.args.b_period))
count-is c =
    let s = begun c in
    let p = s.ranges.a_period in
    let n = s.ranges.a_distance in
    let q = s.ranges.b_period in
    let m = s.ranges.b_distance in
    let i = s.ranges.i in
    let e = simp plain at c.counted_all-all.ensures in
    (e.count, (e.count ∴ simp ints (omega arith), e.few))

-- the numbers on the way
record Sums (n x : ℤ) : Type 0 where
  pub count_fits : SFits w64 n
  pub sum_fits : SFits w64 (n +ℤ x)
  pub start_fits : SFits w64 (n +ℤ x +ℤ pos 1)

sums : (c : After-counted_all-all) → Sums c.counted_all-all.result.count (begun c).args.pick.x
sums c =
    let s = begun c in
    let l = s.requires.pick_limits in
    let n = b-numbers s in
    let f = (count-is c).1 in
    record {
      count_fits = f.0 ∴ f.1 ∴ n.period-is ∴ n.high ∴ simp ints (omega arith);
      sum_fits = f.0 ∴ f.1 ∴ n.period-is ∴ n.high ∴ l.x-low ∴ l.x-high ∴ simp ints (omega arith);
      start_fits = f.0 ∴ f.1 ∴ n.period-is ∴ n.high ∴ l.x-low ∴ l.x-high ∴ simp ints (omega arith);
    }

below : {x : ℤ} → x ≤ℤ pos 0 → ¬ (x ≡ pos 0) → x <ℤ pos 0
below {x} h f = ⊎_elim (λ (g : pos 0 ≤ℤ x). absurd (f (≤ℤ-antisym h g))) (λ g. g) (le-or-lt (pos 0) x)

pub returns : goal.returns
returns c =
    let d = (goal.at.returns c).After-counted_all-all in
    let s = begun d in
    let l = s.requires.pick_limits in
    let n = (sums d).count_fits in
    let x = x_fits s in
    let e = (sums d).sum_fits in
    let o = (sums d).start_fits in
    let f = count-is d in
    let b = b-numbers s in
    let h : s.args.pick.x ≤ℤ pos 0 = simp plain at c.if-pick-gt0.false in
    let t = start-below s.args.pick.x (length (asked s)) (below h l.not-zero) in
    record {
      at = simp plain (f.0 ∴ t ∴ simp ints (omega arith));
      near = simp plain (f.1.0 ∴ l.x-low ∴ simp ints (omega arith), f.1.1 ∴ b.period-is ∴ b.high ∴ h ∴ simp ints (omega arith));
    }
