-- `match_stretches::compare_leading` meets its contract: no label is as low as the one up to which it compares.
-- Assumes nothing.
use mathlib.Core.Path.{refl}
use Prim.Native.Nat.{◌<◌}
use native.Mathlib.Omega.{arith}
use lib.IntN.{pos}
use Rattle.integers.proofs.Linear.{ints, ◌∴◌}
use Rattle.calendar.specs.Limits.{pool_limit}
use Rattle.kinds.specs.Stands.{row_in}
use Rattle.fill_shared.proofs.Points.{label_small}
use Rattle.match_stretches.proofs.Rows.{cursor-start}
use Rattle.match_stretches.proofs.Passing.{leads}
use Rattle.match_stretches.proofs.compare_leading.Goals as goal
use Rattle.match_stretches.proofs.compare_leading.Goals.{Start}

pub compare_stretch-requires : goal.compare_stretch-requires
compare_stretch-requires c =
    record { room = c.requires; follows = record { in-room = omega arith; cursor = cursor-start _ _ c.requires.followed; claim = cursor-start _ _ c.requires.claim } }

pub returns : goal.returns
returns c =
    let s = (goal.at.returns c).Start in
    let r = s.requires in
    leads c.compare_stretch.ensures refl refl (λ u l m e h.
    let t : u < pool_limit = omega (arith, r.in-room) in
    let b = label_small s.args.a.period s.args.a.distance (row_in s.args.pool.now s.args.a).cells r.followed.is-sound (pos u) l (simp ints (omega arith)) (simp ints (omega arith)) e in
    b ∴ h ∴ simp ints (omega arith))
