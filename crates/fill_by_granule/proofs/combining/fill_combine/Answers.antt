-- `fill_by_granule::combining::fill_combine` meets its contract: along a row of one cell a shift by 0 has the same working row.
-- Assumes nothing.
use borrow.Author.Rules.{sfits_of}
use mathlib.Core.Path.{◌≡◌}
use lib.IntN.{pos}
use mir.Facts.{sfits_lit, to_z-of_z}
use mir.Syntax.{w64}
use Rattle.integers.proofs.Machine.{test-eq}
use Rattle.kinds.specs.declared.Kind.TheVariants.{Combine}
use Rattle.fill_by_granule.proofs.OwnTurn.{combine-owned, own-fillable, own-placed, own-fills}
use Rattle.fill_by_granule.proofs.combining.fill_combine.Goals as goal
use Rattle.fill_by_granule.proofs.combining.fill_combine.Goals.{Start, Then-b-eq1}

-- ---- b has one cell
abbrev start : Then-b-eq1 → Start
start c = (goal.at.Then-b-eq1 c).Start

one : (c : Then-b-eq1) → (start c).args.b.period ≡ pos 1
one c = (test-eq w64 _ (pos 1) (sfits_of c.struct_told-1.given.1.0.1) (sfits_lit tt)).0 c.if-b-eq1.true

pub fill_shift-requires : goal.fill_shift-requires
fill_shift-requires c =
    let d = (goal.at.fill_shift-requires c).Then-b-eq1 in
    let s = start d in
    let a = s.args in
    let g = s.requires.fillable in
    record {
      fillable = own-fillable a.a a.b a.pool.now g.sounds (one d) g.at-most;
      placed = rw (to_z-of_z {w = w64} {z = a.a.period} (sfits_of c.struct_told-then-b-eq1-1.given.1.0.1)) (own-placed a.a a.b a.pool.now g.sounds (one d) Combine a.span a.at a.period s.requires.placed (combine-owned a.a a.b a.pool.now g.sounds (one d)));
    }

pub shape_of-pool-then-b-eq1 : goal.shape_of-pool-then-b-eq1
shape_of-pool-then-b-eq1 c = c.fill_shift.ensures.lengths

pub returns-then-b-eq1 : goal.returns-then-b-eq1
returns-then-b-eq1 c =
    let d = (goal.at.returns-then-b-eq1 c).Then-b-eq1 in
    let s = start d in
    let a = s.args in
    let g = s.requires.fillable in
    own-fills a.a a.b a.pool.now g.sounds (one d) Combine a.span a.at a.period s.requires.placed (combine-owned a.a a.b a.pool.now g.sounds (one d)) _ _ c.fill_shift.ensures
