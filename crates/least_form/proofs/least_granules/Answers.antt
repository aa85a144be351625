-- `least_form::least_granules` meets its contract: all numbers are naturals of at most pool_limit, and the quotient is R of the least row.
-- Assumes nothing.
use mathlib.Core.Path.{◌≡◌, ◌∙◌, ap}
use mathlib.Core.List.{List}
use Prim.Native.Nat.{◌*◌}
use lib.IntN.{ℤ, pos, ◌*ℤ◌}
use lib.Signed.{quot_z}
use Rattle.integers.proofs.Machine.{plain}
use Rattle.integers.proofs.Divide.{div-needs}
use Rattle.calendar.specs.Granules.{granules}
use Rattle.calendar.specs.Least.{least}
use Rattle.calendar.specs.Questions.{given}
use Rattle.least_form.specs.Row.{IsLeast}
use Rattle.least_form.proofs.Small.{Small, small_pos, product-fits, known, valid, small-period, small-granules, small_least}
use Rattle.least_form.proofs.Turns.{granules-least}
use Rattle.least_form.proofs.least_granules.Goals as goal
use Rattle.least_form.proofs.least_granules.Goals.{Start}

module _ (period distance q n : ℤ) (cells : List ℤ) (h : IsLeast period distance q cells) (e : n ≡ pos (granules (given period distance cells))) where
  quotient_is : quot_z (n *ℤ q) period ≡ pos (granules (least (given period distance cells)))
  quotient_is =
      let r = given period distance cells in
      ap (λ (z : ℤ). quot_z (z *ℤ q) period) e
      ∙ ap (λ (z : ℤ). quot_z (pos (granules r) *ℤ z) period) h.is
      ∙ ap (λ (z : ℤ). quot_z (pos (granules r * (least r).period)) z) (known period distance q cells h).period-is
      ∙ ap pos (granules-least r (valid period distance q cells h))

-- all three are small
record AllSmall (c : Start) : Type 0 where
  period : Small c.args.period
  granules : Small c.args.granules
  least : Small c.args.least

all_small : (c : Start) → AllSmall c
all_small c =
    let a = c.args in
    let p = c.requires in
    record {
      period = small-period a.period p.0 a.least p.1 p.2;
      granules = small-granules a.period p.0 a.least p.1 p.2 p.3;
      least = small_least a.period p.0 a.least p.1 p.2;
    }

pub overflow_mul-result : goal.overflow_mul-result
overflow_mul-result c =
    let p = c.ranges.period in
    let n = c.ranges.granules in
    let q = c.ranges.least in
    let s = all_small c in
    simp plain (search product-fits)

pub nonzero_div-result : goal.nonzero_div-result
nonzero_div-result c = div-needs (overflow_mul-result c) c.ranges.period (small_pos (all_small c).period)

pub returns : goal.returns
returns c distance cells h e =
    let n = c.ranges.granules in
    let q = c.ranges.least in
    let p = c.ranges.period in
    let f = simp plain at (overflow_mul-result c) in
    let g = small_pos (all_small c).period in
    simp plain (quotient_is c.args.period distance c.args.least c.args.granules cells h e)
