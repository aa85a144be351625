-- `fill_stretches::fill_leading` meets its contract: no label is as low as the one up to which it fills.
-- Assumes nothing.
use mathlib.Core.Path.{refl}
use Prim.Native.Nat.{◌<◌}
use native.Mathlib.Omega.{arith}
use lib.IntN.{pos}
use mir.Syntax.{w64}
use mir.Val.{to_z, of_z}
use Rattle.integers.proofs.Linear.{ints, ◌∴◌}
use Rattle.integers.proofs.Machine.{plain}
use Rattle.calendar.specs.Limits.{pool_limit}
use Rattle.fill_shared.proofs.Points.{label_small}
use Rattle.fill_stretches.specs.Stretch.{row_from, Room}
use Rattle.fill_stretches.proofs.Growing.{leads}
use Rattle.fill_stretches.proofs.fill_leading.Goals as goal
use Rattle.fill_stretches.proofs.fill_leading.Goals.{Start}

room : (s : Start) → Room s.args.start s.args.end (to_z w64 (of_z w64 s.args.period)) (to_z w64 (of_z w64 s.args.distance)) s.args.at s.args.size s.args.pool.now
room s =
    let p = s.ranges.period in
    let d = s.ranges.distance in
    simp plain s.requires

pub fill_stretch-requires : goal.fill_stretch-requires
fill_stretch-requires c = record { room = room c.before.before.before; follows = record { in-room = omega arith; cursor = c.cursor_at-cursor.ensures } }

pub returns : goal.returns
returns c =
    let s = c.before.before.before.before.before in
    let p = s.ranges.period in
    let d = s.ranges.distance in
    let x = simp plain at c.fill_stretch.ensures in
    let r = s.requires in
    leads x refl (λ u l m e h.
    let t : u < pool_limit = omega (arith, r.room, r.few) in
    let b = label_small s.args.period s.args.distance (row_from s.args.start s.args.end s.args.period s.args.distance s.args.pool.now).cells r.is-sound (pos u) l (simp ints (omega arith)) (simp ints (omega arith)) e in
    b ∴ h ∴ simp ints (omega arith))
