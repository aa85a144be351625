-- `alter_ends::distance_of` meets its contract: its numbers are natural ones, and the distance is not longer than a pool.
-- Assumes nothing.
use borrow.Author.Rules.{sfits_of}
use mathlib.Core.Path.{◌≡◌, ◌∙◌, ap}
use Prim.Native.Nat.{◌^◌, ◌<◌}
use native.Mathlib.Omega.{arith}
use lib.IntN.{pos}
use mir.Facts.{to_z-of_z, to_z_pos}
use mir.Syntax.{w64}
use mir.Val.{SFits}
use Rattle.integers.specs.Parts.{up}
use Rattle.integers.proofs.Linear.{ints, ◌∴◌}
use Rattle.integers.proofs.Order.{pos-up, up_le}
use Rattle.sizes.specs.Altered.{alter_distance}
use Rattle.sizes.proofs.Altered.{Natural, natural}
use Rattle.alter_ends.specs.Ending.{turn_at}
use Rattle.alter_ends.proofs.distance_of.Goals as goal
use Rattle.alter_ends.proofs.distance_of.Goals.{After-alter_distance, After-struct_told-1, After-struct_told-2-1, Start}

-- the numbers that are handed on, as naturals
period : (s : Start) → Natural s.args.period
period s = natural s.ranges.period (s.requires.distance-low ∴ s.requires.dense ∴ simp ints (omega arith))

distance : (s : Start) → Natural s.args.distance
distance s = natural s.ranges.distance s.requires.distance-low

coarse : (c : After-struct_told-1) → Natural c.args.repeat.coarse
coarse c = natural (sfits_of c.struct_told-1.given.0.1) c.requires.coarse-low

fine-fits : (c : After-struct_told-2-1) → SFits w64 c.args.repeat.fine
fine-fits c = sfits_of c.struct_told-2-1.given.1.0.1

pub overflow_cast-a : goal.overflow_cast-a
overflow_cast-a c = (period c).cast

pub overflow_cast-a-2 : goal.overflow_cast-a-2
overflow_cast-a-2 c = (distance c).cast

pub overflow_cast-repeat : goal.overflow_cast-repeat
overflow_cast-repeat c = (coarse c).cast

pub alter_distance-requires : goal.alter_distance-requires
alter_distance-requires c =
    let s = (goal.at.alter_distance-requires c).Start in
    let p = s.requires in
    let r = (coarse (goal.at.alter_distance-requires c).After-struct_told-1).is in
    record {
      stored = rw ((period s).is, (distance s).is) record {
        positive = (distance s).positive;
        distance-at-most = up_le {z = s.args.distance} {n = up s.args.period} (p.dense ∴ pos-up {z = s.args.period} (p.distance-low ∴ p.dense ∴ simp ints (omega arith)) ∴ simp ints (omega arith));
        period-at-most = up_le p.period-high;
      };
      pos_bound = rw (to_z-of_z (fine-fits c)) p.fine-low;
      coarse_le_most_coarse = rw r (up_le p.coarse-high);
    }

-- the distance
is-distance : (c : After-alter_distance) → let r = c.args in
    c.alter_distance.result ≡ alter_distance (turn_at r.period r.distance) (up r.repeat.coarse) r.repeat.fine
is-distance c =
    let d = (goal.at.After-alter_distance c).After-struct_told-2-1 in
    let s = (goal.at.After-struct_told-2-1 d).Start in
    rw ((period s).is, (distance s).is, to_z-of_z (fine-fits d), (coarse (goal.at.After-struct_told-2-1 d).After-struct_told-1).is) at c.alter_distance.ensures

pub overflow_cast-result : goal.overflow_cast-result
overflow_cast-result c = let h = c.requires.few in is-distance c ∴ h ∴ simp ints (omega arith)

pub returns : goal.returns
returns c =
    let h = c.requires.few in
    let q : c.alter_distance.result < 2 ^ 63 = omega (arith, is-distance c) in
    to_z_pos w64 q ∙ ap pos (is-distance c)
