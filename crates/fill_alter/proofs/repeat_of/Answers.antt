-- `fill_alter::repeat_of` meets its contract: n and D are those that the code of sizes finds from the turns of the two rows.
-- Assumes nothing.
use borrow.Author.Rules.{rules, sfits_of}
use mathlib.Core.Path.{ap}
use lib.IntN.{pos}
use mir.Facts.{to_z-of_z}
use mir.Syntax.{w64}
use mir.Val.{SFits}
use Rattle.integers.proofs.Machine.{plain}
use Rattle.sizes.proofs.Altered.{Natural, natural}
use Rattle.fill_alter.proofs.Repeated.{period-positive, distance-positive, span-positive, alterable}
use Rattle.fill_alter.proofs.repeat_of.Goals as goal
use Rattle.fill_alter.proofs.repeat_of.Goals.{After-struct_known-2-1, After-struct_told-1, Start}

-- the numbers that are handed on, as naturals
a-period : (s : Start) → Natural s.args.a_period
a-period s = natural s.ranges.a_period (period-positive s.args.a_period s.args.a_distance s.args.a_cells.now s.requires.fillable.sounds.0)

a_distance : (s : Start) → Natural s.args.a_distance
a_distance s = natural s.ranges.a_distance (distance-positive s.args.a_period s.args.a_distance s.args.a_cells.now s.requires.fillable.sounds.0)

b-period : (s : Start) → Natural s.args.b_period
b-period s = natural s.ranges.b_period (period-positive s.args.b_period s.args.b_distance s.args.b_cells.now s.requires.fillable.sounds.1)

b-distance : (s : Start) → Natural s.args.b_distance
b-distance s = natural s.ranges.b_distance (distance-positive s.args.b_period s.args.b_distance s.args.b_cells.now s.requires.fillable.sounds.1)

span : (s : Start) → Natural s.args.span
span s =
    let r = s.args in
    natural s.ranges.span
    (span-positive r.by r.a_period r.a_distance r.a_cells.now r.b_period r.b_distance r.b_cells.now r.span s.requires.fillable s.requires.span_value)

x : (c : After-struct_told-1) → Natural c.args.by.x
x c = natural (sfits_of c.struct_told-1.given.0.1) c.requires.fillable.numbers.x-low

z-fits : (c : After-struct_told-1) → SFits w64 c.args.by.z
z-fits c = sfits_of c.struct_told-1.given.1.1.0.1

pub overflow_cast-a : goal.overflow_cast-a
overflow_cast-a s = (a-period s).cast

pub overflow_cast-a-2 : goal.overflow_cast-a-2
overflow_cast-a-2 s = (a_distance s).cast

pub overflow_cast-b : goal.overflow_cast-b
overflow_cast-b s = (b-period s).cast

pub overflow_cast-b-2 : goal.overflow_cast-b-2
overflow_cast-b-2 s = (b-distance s).cast

pub overflow_cast-by : goal.overflow_cast-by
overflow_cast-by c = (x c).cast

pub overflow_cast-span : goal.overflow_cast-span
overflow_cast-span c = (span (goal.at.overflow_cast-span c).Start).cast

pub altering_of-repeat-requires : goal.altering_of-repeat-requires
altering_of-repeat-requires c =
    let d = (goal.at.altering_of-repeat-requires c).After-struct_told-1 in
    let s = (goal.at.After-struct_told-1 d).Start in
    let r = s.args in
    rw ((a-period s).is, (a_distance s).is, (b-period s).is, (b-distance s).is, (x d).is, to_z-of_z (z-fits d), (span s).is)
    (alterable r.by r.a_period r.a_distance r.a_cells.now r.b_period r.b_distance r.b_cells.now r.span s.requires.fillable s.requires.span_value)

pub overflow_cast-result : goal.overflow_cast-result
overflow_cast-result c = search rules

pub returns : goal.returns
returns c =
    let k = (goal.at.returns c).After-struct_known-2-1 in
    let d = (goal.at.After-struct_known-2-1 k).After-struct_told-1 in
    let s = (goal.at.After-struct_told-1 d).Start in
    let g = s.requires.fillable in
    let e = k.altering_of-repeat.ensures in
    let f : SFits w64 k.altering_of-repeat.result.fine = sfits_of c.struct_told-3-1.given.1.0.1 in
    let n = rw ((a-period s).is, (a_distance s).is, (b-period s).is, (b-distance s).is, (x d).is) at e.coarse in
    let m = rw ((a-period s).is, (a_distance s).is, (b-period s).is, (b-distance s).is, (x d).is, to_z-of_z (z-fits d)) at e.fine in
    let h = (overflow_cast-result k).sfits in
    record { limits = g.numbers; ready = g.ready; coarse = simp plain (ap pos n); fine = simp plain m; at-most = g.at-most }
