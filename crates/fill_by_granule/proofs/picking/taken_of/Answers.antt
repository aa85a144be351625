-- `fill_by_granule::picking::taken_of` meets its contract.
-- Assumes nothing.
use borrow.Author.Rules.{sfits_of}
use mathlib.Core.Path.{◌≡◌, ◌∙◌, ap, ap₂}
use mathlib.Core.Bool.{◌&&◌}
use native.Mathlib.Omega.{arith}
use lib.IntN.{ℤ, pos, ◌+ℤ◌, ◌-ℤ◌}
use lib.Signed.{le_z}
use mir.Facts.{to_z-of_z}
use mir.Syntax.{w32, w64}
use mir.Val.{SFits}
use Rattle.integers.specs.Parts.{up}
use Rattle.integers.proofs.Linear.{ints, ◌∴◌}
use Rattle.integers.proofs.Machine.{plain, widened}
use Rattle.integers.proofs.Order.{pos-up}
use Rattle.calendar.specs.Limits.{between}
use Rattle.calendar.specs.Algebra.{pick_start}
use Rattle.fill_by_granule.specs.Picking.{from_label, to_label}
use Rattle.fill_by_granule.proofs.picking.taken_of.Goals as goal
use Rattle.fill_by_granule.proofs.picking.taken_of.Goals.{After-bounded, After-start_among, Start}

-- the label of the instant v
sum_fits : (s : Start) → SFits w64 (s.args.first +ℤ s.args.v)
sum_fits s = s.ranges.first ∴ s.requires.within.0 ∴ s.requires.within.1 ∴ simp ints (omega arith)

abbrev Begun : Type 0
Begun = After-start_among

abbrev Z : Begun → ℤ
Z c = c.start_among.result

-- the sums on the way fit
record Sums (c : Begun) : Type 0 where
  start : SFits w64 (Z c)
  one : SFits w64 (c.args.first +ℤ c.args.v)
  two : SFits w64 (c.args.first +ℤ c.args.v +ℤ Z c)
  from : SFits w64 (c.args.first +ℤ c.args.v +ℤ Z c -ℤ pos 1)
  y : SFits w64 c.args.pick.y
  three : SFits w64 (c.args.first +ℤ c.args.v +ℤ Z c -ℤ pos 1 +ℤ c.args.pick.y)
  to : SFits w64 (c.args.first +ℤ c.args.v +ℤ Z c -ℤ pos 1 +ℤ c.args.pick.y -ℤ pos 1)

sums : (c : Begun) → Sums c
sums c =
    let s = (goal.at.After-start_among c).Start in
    let n = c.start_among.ensures.near in
    let p = s.requires.pick_limits in
    record {
      start = n.0 ∴ n.1 ∴ simp ints (omega arith);
      one = sum_fits s;
      two = s.ranges.first ∴ s.requires.within.0 ∴ s.requires.within.1 ∴ n.0 ∴ n.1 ∴ simp ints (omega arith);
      from = s.ranges.first ∴ s.requires.within.0 ∴ s.requires.within.1 ∴ n.0 ∴ n.1 ∴ simp ints (omega arith);
      y = p.y-low ∴ p.y-high ∴ simp ints (omega arith);
      three = s.ranges.first ∴ s.requires.within.0 ∴ s.requires.within.1 ∴ n.0 ∴ n.1 ∴ p.y-low ∴ p.y-high ∴ simp ints (omega arith);
      to = s.ranges.first ∴ s.requires.within.0 ∴ s.requires.within.1 ∴ n.0 ∴ n.1 ∴ p.y-low ∴ p.y-high ∴ simp ints (omega arith);
    }

pub overflow_cast-from : goal.overflow_cast-from
overflow_cast-from c = let f = c.ranges.first in simp plain (widened f)

pub overflow_add-from : goal.overflow_add-from
overflow_add-from c =
    let f = c.ranges.first in
    let g = c.ranges.v in
    simp plain (sum_fits c)

pub overflow_add-from-2 : goal.overflow_add-from-2
overflow_add-from-2 c =
    let s = (goal.at.overflow_add-from-2 c).Start in
    let f = s.ranges.first in
    let g = s.ranges.v in
    let h = (sums c).start in
    let i = (sums c).one in
    simp plain (sums c).two

pub overflow_sub-from : goal.overflow_sub-from
overflow_sub-from c =
    let s = (goal.at.overflow_sub-from c).Start in
    let f = s.ranges.first in
    let g = s.ranges.v in
    let h = (sums c).start in
    let i = (sums c).one in
    let j = (sums c).two in
    simp plain (sums c).from

pub overflow_add-from-3 : goal.overflow_add-from-3
overflow_add-from-3 c =
    let d = (goal.at.overflow_add-from-3 c).After-start_among in
    let s = (goal.at.After-start_among d).Start in
    let f = s.ranges.first in
    let g = s.ranges.v in
    let h = (sums d).start in
    let i = (sums d).one in
    let j = (sums d).two in
    let k = (sums d).from in
    let y = (sums d).y in
    simp plain (sums d).three

pub overflow_sub-from-2 : goal.overflow_sub-from-2
overflow_sub-from-2 c =
    let d = (goal.at.overflow_sub-from-2 c).After-start_among in
    let s = (goal.at.After-start_among d).Start in
    let f = s.ranges.first in
    let g = s.ranges.v in
    let h = (sums d).start in
    let i = (sums d).one in
    let j = (sums d).two in
    let k = (sums d).from in
    let y = (sums d).y in
    let l = (sums d).three in
    simp plain (sums d).to

pub returns : goal.returns
returns c =
    let b = (goal.at.returns c).After-bounded in
    let d = (goal.at.After-bounded b).After-start_among in
    let s = (goal.at.After-start_among d).Start in
    let a = s.args in
    let f = s.ranges.first in
    let g = s.ranges.v in
    let m = s.ranges.n in
    let h = (sums d).start in
    let i = (sums d).one in
    let j = (sums d).two in
    let k = (sums d).from in
    let y = (sums d).y in
    let l = (sums d).three in
    let q = (sums d).to in
    let lo = simp plain at b.bounded.ensures in
    let hi = simp plain at c.bounded-2.ensures in
    let r : SFits w32 b.bounded.result = sfits_of b.bounded.type_inv in
    let t : SFits w32 c.bounded-2.result = sfits_of c.bounded-2.type_inv in
    let z : Z d ≡ pick_start a.pick.x (up a.n) = simp plain at d.start_among.ensures.is in
    let e : a.first +ℤ a.v +ℤ Z d -ℤ pos 1 ≡ from_label a.pick a.first a.v (up a.n) = ap (λ (w : ℤ). a.first +ℤ a.v +ℤ w -ℤ pos 1) z in
    let o : pos (up a.pick.y) ≡ a.pick.y = pos-up (s.requires.pick_limits.y-low ∴ simp ints (omega arith)) in
    let u : a.first +ℤ a.v +ℤ Z d -ℤ pos 1 +ℤ a.pick.y -ℤ pos 1 ≡ to_label a.pick a.first a.v (up a.n) = z ∴ o ∴ simp ints (omega arith) in
    λ w n. ap₂ (λ (x z : ℤ). between x z w) (to_z-of_z r) (to_z-of_z t) ∙ ap₂ ◌&&◌ (lo.low w n ∙ ap (λ (x : ℤ). le_z x w) e) (hi.high w n ∙ ap (le_z w) u)
