-- `least_form::least_distance` meets its contract: all numbers are naturals of at most pool_limit, and the quotient is that of the definition.
-- Assumes nothing.
use mathlib.Core.Path.{◌≡◌, ◌∙◌, ap}
use mathlib.Core.List.{List}
use Prim.Native.Nat.{◌*◌}
use lib.IntN.{ℤ, pos, ◌*ℤ◌}
use lib.Signed.{quot_z}
use Rattle.integers.specs.Parts.{up}
use Rattle.integers.proofs.Machine.{plain}
use Rattle.integers.proofs.Divide.{div-needs}
use Rattle.calendar.specs.Least.{least}
use Rattle.calendar.specs.Questions.{given}
use Rattle.least_form.specs.Row.{IsLeast}
use Rattle.least_form.proofs.Small.{Small, small_pos, product-fits, known, small-period, small-distance, small_least}
use Rattle.least_form.proofs.least_distance.Goals as goal
use Rattle.least_form.proofs.least_distance.Goals.{Start}

module _ (period distance q : ℤ) (cells : List ℤ) (h : IsLeast period distance q cells) where
  quotient_is : quot_z (distance *ℤ q) period ≡ pos (least (given period distance cells)).distance
  unfolding least
  quotient_is =
      ap (λ (z : ℤ). quot_z (z *ℤ q) period) (known period distance q cells h).distance_is
      ∙ ap (λ (z : ℤ). quot_z (pos (up distance) *ℤ z) period) h.is
      ∙ ap (λ (z : ℤ). quot_z (pos (up distance * (least (given period distance cells)).period)) z) (known period distance q cells h).period-is

-- all three are small
record AllSmall (c : Start) : Type 0 where
  period : Small c.args.period
  distance : Small c.args.distance
  least : Small c.args.least

all_small : (c : Start) → AllSmall c
all_small c =
    let a = c.args in
    record {
      period = small-period a.period a.distance a.least c.requires.0 c.requires.1;
      distance = small-distance a.period a.distance a.least c.requires.0 c.requires.1;
      least = small_least a.period a.distance a.least c.requires.0 c.requires.1;
    }

pub overflow_mul-result : goal.overflow_mul-result
overflow_mul-result c =
    let p = c.ranges.period in
    let n = c.ranges.distance in
    let q = c.ranges.least in
    let s = all_small c in
    simp plain (search product-fits)

pub nonzero_div-result : goal.nonzero_div-result
nonzero_div-result c = div-needs (overflow_mul-result c) c.ranges.period (small_pos (all_small c).period)

pub returns : goal.returns
returns c cells h =
    let n = c.ranges.distance in
    let q = c.ranges.least in
    let p = c.ranges.period in
    let f = simp plain at (overflow_mul-result c) in
    let g = small_pos (all_small c).period in
    simp plain (quotient_is c.args.period c.args.distance c.args.least cells h)
