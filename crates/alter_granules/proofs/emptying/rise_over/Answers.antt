-- `alter_granules::emptying::rise_over` meets its contract: the quotient of naturals is rounded down, and the product is small.
-- Assumes nothing.
use borrow.Author.Rules.{sfits_of}
use mathlib.Core.Path.{◌≡◌, sym, ◌∙◌, ap, ap₂}
use Prim.Native.Nat.{ℕ, ◌*◌, ◌/◌, ◌≤◌}
use native.Mathlib.Nat.{div-le_self, mul-le-mul_left}
use native.Mathlib.Omega.{arith}
use lib.IntN.{ℤ, pos, ◌*ℤ◌}
use lib.Signed.{◌≤ℤ◌}
use mir.Syntax.{w64}
use mir.Val.{SFits}
use Rattle.integers.specs.Parts.{up}
use Rattle.integers.specs.Floor.{floor_div}
use Rattle.integers.proofs.Linear.{ints, ◌∴◌}
use Rattle.integers.proofs.Machine.{plain}
use Rattle.integers.proofs.Order.{pos-up}
use Rattle.integers.proofs.Floor.{floor_div-pos}
use Rattle.calendar.specs.Limits.{pool_limit}
use Rattle.alter_granules.proofs.emptying.rise_over.Goals as goal
use Rattle.alter_granules.proofs.emptying.rise_over.Goals.{After-floor_div, Start}

-- two numbers that are at most the limit
small_product : (d q : ℕ) → d ≤ pool_limit → q ≤ pool_limit → SFits w64 (pos (d * q))
small_product d q h k = mul-le-mul_left d k ∴ h ∴ simp ints (omega arith)

up_small : (z : ℤ) → pos 0 ≤ℤ z → z ≤ℤ pos pool_limit → up z ≤ pool_limit
up_small z h k = let e = pos-up h in omega (arith, simp ints at e, simp ints at k)

pub floor_div-requires : goal.floor_div-requires
floor_div-requires s = let p = s.ranges.period in simp plain s.requires.pos_bound_2

quotient_is : (c : After-floor_div) → let s = (goal.at.After-floor_div c).Start in c.floor_div.result ≡ pos (up s.args.span / up s.args.period)
quotient_is c =
    let s = (goal.at.After-floor_div c).Start in
    let t = s.ranges.span in
    let p = s.ranges.period in
    let e = simp plain at c.floor_div.ensures in
    e ∙ ap (λ (z : ℤ). floor_div z (up s.args.period)) (sym (pos-up s.requires.pos_bound.0)) ∙ floor_div-pos (up s.args.span) (up s.args.period)

product_is : (c : After-floor_div) → let s = (goal.at.After-floor_div c).Start in s.args.distance *ℤ c.floor_div.result ≡ pos (up s.args.distance * (up s.args.span / up s.args.period))
product_is c = ap₂ (λ (x y : ℤ). x *ℤ y) (sym (pos-up c.requires.pos_bound_3.0)) (quotient_is c)

product-fits : (c : After-floor_div) → let s = (goal.at.After-floor_div c).Start in SFits w64 (s.args.distance *ℤ c.floor_div.result)
product-fits c =
    let s = (goal.at.After-floor_div c).Start in
    let h = up_small s.args.span s.requires.pos_bound.0 s.requires.pos_bound.1 in
    rw (product_is c)
    (small_product (up s.args.distance) (up s.args.span / up s.args.period) (up_small s.args.distance s.requires.pos_bound_3.0 s.requires.pos_bound_3.1)
    (omega (arith, div-le_self (up s.args.span) (up s.args.period))))

pub overflow_mul-result : goal.overflow_mul-result
overflow_mul-result c =
    let d = c.ranges.distance in
    let q : SFits w64 c.floor_div.result = sfits_of c.floor_div.type_inv in
    simp plain (product-fits c)

pub returns : goal.returns
returns c =
    let d = c.ranges.distance in
    let q : SFits w64 c.floor_div.result = sfits_of c.floor_div.type_inv in
    let f = product-fits c in
    simp plain (product_is c)
