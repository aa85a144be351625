-- `candidates::counted` meets its contract: the next position is asked for or not, and is the first of them or not.
-- Assumes nothing.
use mathlib.Core.Path.{◌≡◌, refl}
use mathlib.Core.Logic.{◌↔◌, ⊎_elim}
use mathlib.Core.Bool.{true, false}
use native.Mathlib.Omega.{arith}
use lib.IntN.{ℤ, pos, ◌+ℤ◌}
use lib.Signed.{◌≤ℤ◌, ◌<ℤ◌}
use mir.Syntax.{w64}
use mir.Val.{to_z, of_z, SFits}
use Rattle.integers.proofs.Linear.{ints, ◌∴◌}
use Rattle.integers.proofs.Machine.{plain, test-eq}
use Rattle.integers.proofs.Order.{≤ℤ-antisym, le-or-lt}
use Rattle.granules.proofs.Tests.{false-iff}
use Rattle.candidates.proofs.Positions.{asked, asked-iff}
use Rattle.candidates.proofs.Tallying.{tally-passed, tally-next, tally-one, tally-low}
use Rattle.candidates.proofs.counted.Goals as goal
use Rattle.candidates.proofs.counted.Goals.{then-count-eq1-via-then-count-eq1, then-count-eq1-via-else-count-eq1+then-count-low-2, Else-high-count, Start}

-- the numbers of the tally fit, and so does the next position
count_fits : (s : Start) → SFits w64 s.args.t.count
count_fits s = s.requires.0 ∴ s.requires.1 ∴ simp ints (omega arith)

next_fits : (s : Start) → SFits w64 (s.args.t.count +ℤ pos 1)
next_fits s = s.requires.0 ∴ s.requires.1 ∴ simp ints (omega arith)

-- a position that is not asked for
before-asked : (lo hi p : ℤ) → p <ℤ lo → asked lo hi p ≡ false
before-asked lo hi p h = (false-iff (asked-iff lo hi p)).1 (λ q. q.0 ∴ h ∴ simp ints (omega arith))

behind-asked : (lo hi p : ℤ) → hi <ℤ p → asked lo hi p ≡ false
behind-asked lo hi p h = (false-iff (asked-iff lo hi p)).1 (λ q. q.1 ∴ h ∴ simp ints (omega arith))

pub returns-then-count-low : goal.returns-then-count-low
returns-then-count-low c l e =
    let s = (goal.at.returns-then-count-low c).Start in
    let f = count_fits s in
    let g = next_fits s in
    let o = s.ranges.low in
    let x = simp plain at c.if-count-low.true in
    simp plain (tally-passed s.args.low s.args.high s.args.j l s.args.t e _ refl (before-asked s.args.low s.args.high _ x))

pub returns-then-high-count : goal.returns-then-high-count
returns-then-high-count c l e =
    let s = (goal.at.returns-then-high-count c).Start in
    let f = count_fits s in
    let g = next_fits s in
    let h = s.ranges.high in
    let y = simp plain at c.if-high-count.true in
    simp plain (tally-passed s.args.low s.args.high s.args.j l s.args.t e _ refl (behind-asked s.args.low s.args.high _ y))

abbrev begun : Else-high-count → Start
begun d = (goal.at.Else-high-count d).Start

-- where both tests leave the position
next-asked : (c : Else-high-count) → let s = begun c in asked s.args.low s.args.high (s.args.t.count +ℤ pos 1) ≡ true
next-asked c =
    let s = begun c in
    let f = count_fits s in
    let g = next_fits s in
    let o = s.ranges.low in
    let h = s.ranges.high in
    (asked-iff _ _ _).1 (simp plain at c.if-count-low.false, simp plain at c.if-high-count.false)

-- whether it is the first of the positions
one-test : (d : Else-high-count) → let n = (begun d).args.t.count in (of_z w64 (to_z w64 (of_z w64 n) +ℤ pos 1) ≡ of_z w64 (pos 1)) ↔ (n +ℤ pos 1 ≡ pos 1)
one-test d =
    let s = begun d in
    let f = count_fits s in
    simp plain (test-eq w64 _ _ (next_fits s) (simp ints (omega arith)))

low-test : (d : Else-high-count) → let s = begun d in let n = s.args.t.count in (of_z w64 (to_z w64 (of_z w64 n) +ℤ pos 1) ≡ of_z w64 s.args.low) ↔ (n +ℤ pos 1 ≡ s.args.low)
low-test d =
    let s = begun d in
    let f = count_fits s in
    simp plain (test-eq w64 _ _ (next_fits s) s.ranges.low)

pub returns-then-count-eq1 : goal.returns-then-count-eq1
returns-then-count-eq1 c l e =
    let d = (goal.at.returns-then-count-eq1 c).Else-high-count in
    let s = begun d in
    let f = count_fits s in
    let g = next_fits s in
    let j = s.ranges.j in
    elim c.then-count-eq1.branch [
      | then-count-eq1-via-then-count-eq1 w ↦ simp plain (tally-one s.args.low s.args.high s.args.j l s.args.t e _ refl (next-asked d) ((one-test d).0 w.if-count-eq1.true))
      | then-count-eq1-via-else-count-eq1+then-count-low-2 w ↦ simp plain (tally-low s.args.low s.args.high s.args.j l s.args.t e _ refl (next-asked d) ((low-test d).0 w.if-count-low-2.true))
    ]

above : {x y : ℤ} → y ≤ℤ x → ¬ (x ≡ y) → y <ℤ x
above {x} {y} h f = ⊎_elim (λ (g : x ≤ℤ y). absurd (f (≤ℤ-antisym g h))) (λ g. g) (le-or-lt x y)

pub returns-else-count-low-2 : goal.returns-else-count-low-2
returns-else-count-low-2 c l e =
    let d = (goal.at.returns-else-count-low-2 c).Else-high-count in
    let s = begun d in
    let f = count_fits s in
    let g = next_fits s in
    let j = s.ranges.j in
    let one = above (s.requires.0 ∴ simp ints (omega arith)) (λ e. c.if-count-eq1.false ((one-test d).1 e)) in
    let low = above ((asked-iff _ _ _).0 (next-asked d)).0 (λ e. c.if-count-low-2.false ((low-test d).1 e)) in
    simp plain (tally-next s.args.low s.args.high s.args.j l s.args.t e _ refl (next-asked d) one low)
