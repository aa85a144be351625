-- `open_map::count_of` meets its contract: a difference of ranks.
-- Assumes nothing.
use mathlib.Core.Path.{◌≡◌, ◌∙◌, sym}
use mathlib.Core.Bool.{true, ◌&&◌}
use Prim.Native.Nat.{◌^◌}
use native.Mathlib.Omega.{arith}
use borrow.Author.Rules.{sfits_of}
use lib.IntN.{ℤ, ◌-ℤ◌}
use lib.Signed.{◌≤ℤ◌, le_z}
use mir.Facts.{to_z-of_z}
use mir.Syntax.{w64}
use Rattle.integers.proofs.Linear.{ints, ◌∴◌}
use Rattle.integers.proofs.Machine.{plain}
use Rattle.calendar.specs.Limits.{in_range}
use Rattle.granules.proofs.Tests.{and-iff, le_z-iff}
use Rattle.cursors.specs.Found.{Within}
use Rattle.cursors.proofs.Bounds.{in-range}
use Rattle.open_map.specs.Maps.{map_given, is_open}
use Rattle.open_map.specs.Turns.{rank}
use Rattle.open_map.specs.Inquiries as I
use Rattle.open_map.proofs.Given.{given}
use Rattle.open_map.proofs.Shown.{rank_step}
use Rattle.open_map.proofs.Ranks.{open-in}
use Rattle.open_map.proofs.count_of.Goals as goal
use Rattle.open_map.proofs.count_of.Goals.{Start}

-- the two instants are near, and in order
near : (s t : ℤ) → I.ordered s t ≡ true → Within (2 ^ 32) s × Within (2 ^ 32) t × (s ≤ℤ t)
near s t h =
    let a = (and-iff (in_range s) (in_range t && le_z s t)).0 h in
    let b = (and-iff (in_range t) (le_z s t)).0 a.1 in
    ((in-range s).0 a.0 ∴ simp ints (omega arith), (in-range t).0 b.0 ∴ simp ints (omega arith), (le_z-iff s t).0 b.1)

pub risen-requires : goal.risen-requires
risen-requires c =
    let s = (goal.at.risen-requires c).Start in
    let p = s.ranges.period in
    let f = s.ranges.s in
    let g = s.ranges.t in
    let n = near s.args.s s.args.t s.requires.t_value in
    record { sound = simp plain s.requires.sound; within = simp plain (n.0, n.1) }

pub returns : goal.returns
returns c =
    let s = (goal.at.returns c).Start in
    let m = map_given s.args.period s.args.words.now in
    let p = s.ranges.period in
    let f = s.ranges.s in
    let g = s.ranges.t in
    let e : c.risen.result ≡ rank m s.args.t -ℤ rank m s.args.s = simp plain at c.risen.ensures in
    let step = rank_step m (given s.args.period s.args.words.now s.requires.sound).low in
    to_z-of_z {w = w64} (sfits_of c.risen.type_inv) ∙ e ∙ sym (open-in (is_open m) (rank m) step s.args.s s.args.t (near s.args.s s.args.t s.requires.t_value).2)
