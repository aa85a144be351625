-- `fill_pointwise::fill_set` meets its contract: each way does.
-- Assumes nothing.
use borrow.Author.Rules.{sfits_of}
use mathlib.Core.List.{List}
use Prim.Native.Nat.{ℕ}
use lib.IntN.{ℤ, pos}
use lib.ListN.{get_or}
use mir.Syntax.{w32, w64}
use mir.Val.{SFits, to_z, of_z}
use Rattle.integers.proofs.Machine.{plain}
use Rattle.one_cell.specs.Serves.{Serves}
use Rattle.kinds.specs.declared.Operand.{Operand}
use Rattle.fill_pointwise.proofs.fill_set.Goals as goal
use Rattle.fill_pointwise.proofs.fill_set.Goals.{After-serves, After-serves-2, Start, Then-serves, Then-serves-2}

-- what `serves` says of an operand
one_of : (r : Operand) (period : ℕ) (pool : List ℤ) → SFits w64 r.period → SFits w32 (get_or pool r.start (pos 0))
    → Serves (to_z w64 (of_z w64 r.period)) (to_z w32 (of_z w32 (get_or pool r.start (pos 0)))) period → Serves r.period (get_or pool r.start (pos 0)) period
one_of r period pool f g e = simp plain at e

pub fill_first-requires : goal.fill_first-requires
fill_first-requires c =
    let t = (goal.at.fill_first-requires c).Then-serves in
    let r = (goal.at.Then-serves t).After-serves in
    let s = (goal.at.After-serves r).Start in
    let n = s.ranges.span in
    let o = one_of s.args.a s.args.period s.args.pool.now (sfits_of r.struct_told-1.given.1.0.1) (sfits_of r.serves-arg-1.given)
    (r.serves.ensures t.if-serves.true) in
    record { fillable = s.requires.fillable; placed = simp plain s.requires.placed; serves = o }

pub fill_second-requires : goal.fill_second-requires
fill_second-requires c =
    let t = (goal.at.fill_second-requires c).Then-serves-2 in
    let r = (goal.at.Then-serves-2 t).After-serves-2 in
    let s = (goal.at.After-serves-2 r).Start in
    let n = s.ranges.span in
    let o = one_of s.args.b s.args.period s.args.pool.now (sfits_of r.struct_told-2-1.given.1.0.1) (sfits_of r.serves-arg-2-1.given)
    (r.serves-2.ensures t.if-serves-2.true) in
    record { fillable = s.requires.fillable; placed = simp plain s.requires.placed; serves = o }
