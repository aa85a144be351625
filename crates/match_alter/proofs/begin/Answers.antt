-- `match_alter::begin` meets its contract: the walk starts at the first labelled instant, and the place behind is the instant 0.
-- Assumes nothing.
use mathlib.Core.Path.{◌≡◌, refl, sym}
use mathlib.Core.Bool.{true}
use Rattle.calendar.specs.Sound.{sound}
use Rattle.kinds.specs.Stands.{row_in}
use Rattle.alter_granules.specs.Given.{Alterable}
use Rattle.alter_granules.specs.Follows.{Starts}
use Rattle.fill_shared.proofs.Cells.{same_rows}
use Rattle.match_shared.proofs.Lent.{lent_row}
use Rattle.match_stretches.proofs.Rows.{period-positive, lent_is}
use Rattle.match_alter.proofs.begin.Goals as goal
use Rattle.match_alter.proofs.begin.Goals.{After-cells_of-b_cells, Start}

pub cells_of-a_cells-requires : goal.cells_of-a_cells-requires
cells_of-a_cells-requires c = let f = c.requires.stands.0 in record { pos_bound = period-positive _ _ f; a_in_bounds = f.fits }

pub cells_of-b_cells-requires : goal.cells_of-b_cells-requires
cells_of-b_cells-requires c = let f = c.requires.stands.1 in record { pos_bound = period-positive _ _ f; a_in_bounds = f.fits }

abbrev Lent : Type 0
Lent = After-cells_of-b_cells

abbrev entry : Lent → Start
entry l = (goal.at.After-cells_of-b_cells l).Start

a-is : (l : Lent) → lent_row (entry l).args.a l.cells_of-a_cells.result.now ≡ row_in (entry l).args.pool.now (entry l).args.a
a-is l = lent_is _ _ (entry l).requires.stands.0 _ l.cells_of-a_cells.ensures

b-is : (l : Lent) → lent_row (entry l).args.b l.cells_of-b_cells.result.now ≡ row_in (entry l).args.pool.now (entry l).args.b
b-is l = lent_is _ _ (entry l).requires.stands.1 _ l.cells_of-b_cells.ensures

pub start_walk-walk-requires : goal.start_walk-walk-requires
start_walk-walk-requires c =
    let l = (goal.at.start_walk-walk-requires c).After-cells_of-b_cells in
    let s = entry l in
    let k = same_rows (λ x y. (sound x ≡ true) × (sound y ≡ true) × Alterable s.args.by s.args.repeat x y) (sym (a-is l)) (sym (b-is l)) (s.requires.stands.0.is-sound, s.requires.stands.1.is-sound, s.requires.alterable) in
    record { sound = k.0; sound_2 = k.1; alterable = k.2 }

pub returns : goal.returns
returns c =
    let l = (goal.at.returns c).After-cells_of-b_cells in
    let s = entry l in
    record { walk = same_rows (λ x y. Starts s.args.by x y c.start_walk-walk.result) (a-is l) (b-is l) c.start_walk-walk.ensures; place = refl }
