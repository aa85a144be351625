-- `fill_pointwise::fill_first` meets its contract: the cells of b tell which labels are kept.
-- Assumes nothing.
use Rattle.calendar.specs.declared.Refusal.TheVariants.{NothingLabelled}
use Rattle.std.specs.Prelude.{Err, Ok}
use borrow.Author.Rules.{rules}
use mathlib.Core.Path.{◌∙◌, ap}
use mathlib.Core.Bool.{cond}
use Prim.Native.Nat.{ℕ}
use lib.Dec.{ltb}
use lib.IntN.{pos}
use lib.ListN.{get_or}
use mir.Syntax.{w32}
use mir.Val.{SFits}
use Rattle.integers.proofs.Machine.{plain}
use Rattle.fill_shared.proofs.Working.{range-fits}
use Rattle.fill_pointwise.specs.Beside.{keeps_first}
use Rattle.fill_pointwise.proofs.OneCell.{Tells, first-tells, beside-room, beside-fills}
use Rattle.fill_pointwise.proofs.fill_first.Goals as goal
use Rattle.fill_pointwise.proofs.fill_first.Goals.{After-fill_beside-count, After-keeps_shared-shared, Start}

tells : (s : Start) → let a = s.args in Tells a.set a.a a.b a.at a.period a.pool.now a.a a.b (keeps_first a.set)
tells s = first-tells _ _ _ _ _ _ _ s.requires.fillable s.requires.placed s.requires.serves.one

-- the only cell of a
first_fits : (s : Start) → SFits w32 (get_or s.args.pool.now s.args.a.start (pos 0))
first_fits s = range-fits _ (tells s).range

pub offset_bounds-pool-start : goal.offset_bounds-pool-start
offset_bounds-pool-start c = let t = tells c in search rules

pub slice_copy_out-first : goal.slice_copy_out-first
slice_copy_out-first c = (tells c).inside

pub fill_beside-count-requires : goal.fill_beside-count-requires
fill_beside-count-requires c =
    let s = (goal.at.fill_beside-count-requires c).Start in
    let f = first_fits s in
    simp plain (beside-room _ _ _ _ _ _ _ s.requires.fillable s.requires.placed _ _ _ s.requires.serves (tells s))

pub returns : goal.returns
returns c =
    let b = (goal.at.returns c).After-fill_beside-count in
    let k = (goal.at.After-fill_beside-count b).After-keeps_shared-shared in
    let s = (goal.at.After-keeps_shared-shared k).Start in
    let f = first_fits s in
    let h = simp plain at b.fill_beside-count.ensures in
    let e = rw (k.keeps_first-bare.ensures, k.keeps_shared-shared.ensures) at h in
    beside-fills _ _ _ _ _ _ _ s.requires.fillable s.requires.placed _ _ _ s.requires.serves (tells s) _ _
    e.cells (c.outcome.ensures ∙ ap (λ (n : ℕ). cond (ltb 0 n) (Ok tt) (Err NothingLabelled)) e.count)
