-- `steps::take_entry` meets its contract: the entry is converted behind the rows that stand; what is behind its row is cleared.
-- Assumes nothing.
use Rattle.calendar.specs.declared.Refusal.{Refusal}
use Rattle.std.specs.Prelude.{Result}
use mathlib.Core.Path.{subst}
use mathlib.Core.List.{List}
use Prim.Native.Nat.{ℕ}
use lib.IntN.{ℤ}
use Rattle.row_entry.specs.Stores.{Entered}
use Rattle.conversion.proofs.Clearing.{cleared-as}
use Rattle.standing.specs.Standing.{rows_at}
use Rattle.standing.proofs.Decides.{rows-length}
use Rattle.steps.specs.State.{lengths_in}
use Rattle.steps.proofs.Testing.{few, stores, entry-due}
use Rattle.steps.proofs.Taking.{entry-refused, entry-taken}
use Rattle.steps.proofs.take_entry.Goals as goal
use Rattle.steps.proofs.take_entry.Goals.{After-clear, After-clear_cells, After-convert_entry-entry, In-Ok, In-Err, Start}

pub convert_entry-entry-requires : goal.convert_entry-entry-requires
convert_entry-entry-requires c =
    let s = (goal.at.convert_entry-entry-requires c).Start in
    let a = s.args in
    entry-due (lengths_in a.lengths) a.k a.table.now a.headings.now a.pool.now s.requires.pool_value a.used s.requires.ends_at

-- ---- what became of the entry
abbrev begun : After-convert_entry-entry → Start
begun c = (goal.at.After-convert_entry-entry c).Start

abbrev numbers : After-convert_entry-entry → List ℕ
numbers c = c.convert_entry-entry.new.headings

abbrev cells : After-convert_entry-entry → List ℤ
cells c = c.convert_entry-entry.new.pool

abbrev Says : After-convert_entry-entry → Result ℕ Refusal → Type 0
Says c x =
    let a = (begun c).args in
    Entered a.table.now a.k (rows_at a.headings.now a.pool.now a.k) x (numbers c) (cells c)

says : (c : After-convert_entry-entry) → Says c c.convert_entry-entry.result
says c =
    let s = begun c in
    let a = s.args in
    c.convert_entry-entry.ensures.entered _ (rows-length a.headings.now a.pool.now a.k)
    (stores (lengths_in a.lengths) a.k a.table.now a.headings.now a.pool.now s.requires.pool_value a.used s.requires.ends_at)

abbrev taking : In-Ok → After-convert_entry-entry
taking c = (goal.at.In-Ok c).After-convert_entry-entry

pub clear_cells-requires : goal.clear_cells-requires
clear_cells-requires c =
    let k = (goal.at.clear_cells-requires c).In-Ok in
    let e = taking k in
    (subst (Says e) k.in-Ok.is (says e)).2.fits

pub progress_behind-requires : goal.progress_behind-requires
progress_behind-requires c =
    let s = begun (taking (goal.at.progress_behind-requires c).In-Ok) in
    let a = s.args in
    few (lengths_in a.lengths) a.k a.table.now a.headings.now a.pool.now s.requires.pool_value

pub returns-in-Err : goal.returns-in-Err
returns-in-Err c =
    let l = (goal.at.returns-in-Err c).After-clear in
    let k = (goal.at.After-clear l).In-Err in
    let e = (goal.at.In-Err k).After-convert_entry-entry in
    let a = (begun e).args in
    rw c.number.ensures
    (entry-refused a.lengths a.k a.table.now a.headings.now a.pool.now k.in-Err.refusal (numbers e) (cells e) e.convert_entry-entry.ensures.lengths.1
    (subst (Says e) k.in-Err.is (says e)) _ _ (cleared-as e.convert_entry-entry.ensures.lengths.0 e.convert_entry-entry.ensures.lengths.1 l.clear.ensures))

pub returns-in-Ok : goal.returns-in-Ok
returns-in-Ok c =
    let l = (goal.at.returns-in-Ok c).After-clear_cells in
    let k = (goal.at.After-clear_cells l).In-Ok in
    let e = taking k in
    let a = (begun e).args in
    entry-taken a.lengths a.k a.table.now a.headings.now a.pool.now k.in-Ok.end (numbers e) (cells e) e.convert_entry-entry.ensures.lengths.0 e.convert_entry-entry.ensures.lengths.1
    (subst (Says e) k.in-Ok.is (says e)) _ c.progress_behind.ensures _ l.clear_cells.ensures
