-- `fill_unary::grouping::group_of` meets its contract: the labels between two multiples of x have one quotient, rounded up.
-- Assumes nothing.
use borrow.Author.Rules.{sfits_of}
use mathlib.Core.Path.{◌≡◌}
use mir.Syntax.{w64}
use mir.Val.{SFits}
use Rattle.integers.specs.Parts.{up}
use Rattle.integers.specs.Floor.{ceil_div}
use Rattle.integers.proofs.Machine.{plain}
use Rattle.fill_unary.proofs.Groups.{Group, group_at_lem, group-has}
use Rattle.fill_unary.proofs.grouping.group_of.Goals as goal
use Rattle.fill_unary.proofs.grouping.group_of.Goals.{After-ceil_div-number, Start}

-- the group of j
number_fits : (c : After-ceil_div-number) → SFits w64 c.ceil_div-number.result
number_fits c = sfits_of c.ceil_div-number.type_inv

number_is : (c : After-ceil_div-number) → let s = (goal.at.After-ceil_div-number c).Start in c.ceil_div-number.result ≡ ceil_div s.args.j (up s.args.x)
number_is c =
    let s = (goal.at.After-ceil_div-number c).Start in
    let j = s.ranges.j in
    let x = s.ranges.x in
    simp plain at c.ceil_div-number.ensures

whole : (c : After-ceil_div-number) → Group c.args.x c.ceil_div-number.result
whole c =
    let s = (goal.at.After-ceil_div-number c).Start in
    group_at_lem s.args.x s.args.j c.ceil_div-number.result s.requires.pos_bound.0 s.requires.pos_bound.1 s.requires.within (number_is c)

pub overflow_mul-high : goal.overflow_mul-high
overflow_mul-high c =
    let x = c.ranges.x in
    let q = number_fits c in
    simp plain (whole c).high_fits

pub overflow_sub-result : goal.overflow_sub-result
overflow_sub-result c =
    let x = c.ranges.x in
    let q = number_fits c in
    let h = (whole c).high_fits in
    simp plain (whole c).less-fits

pub overflow_add-result : goal.overflow_add-result
overflow_add-result c =
    let x = c.ranges.x in
    let q = number_fits c in
    let h = (whole c).high_fits in
    let l = (whole c).less-fits in
    simp plain (whole c).low_fits

pub returns : goal.returns
returns c =
    let x = c.ranges.x in
    let q = number_fits c in
    let h = (whole c).high_fits in
    let l = (whole c).less-fits in
    let m = (whole c).low_fits in
    let has = group-has c.args.x c.args.j c.ceil_div-number.result c.requires.pos_bound.0 (number_is c) in
    record { of = simp plain (number_is c); all = simp plain (whole c).same; has = simp plain has }
