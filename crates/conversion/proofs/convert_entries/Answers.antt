-- `conversion::convert_entries` meets its contract. The loop's invariant: the entries before k stand in the lists, and the rest decides the outcome.
-- Assumes nothing.
use Rattle.calendar.specs.declared.Refusal.{Refusal}
use Rattle.std.specs.Prelude.{ℕ, Result}
use mathlib.Core.Path.{refl, ◌∙◌, subst}
use native.Mathlib.Omega.{arith}
use Rattle.row_entry.specs.Stores.{Entered}
use Rattle.conversion.proofs.Clearing.{cleared-as}
use Rattle.conversion.proofs.Outcomes.{standing-none, standing-due, standing-ended, standing-refused, standing-more, ended-refused}
use Rattle.conversion.proofs.convert_entries.Goals as goal

pub loop-k-init : goal.loop-k-init
loop-k-init c = standing-none _ _ _ _ c.requires

pub convert_entry-entry-requires : goal.convert_entry-entry-requires
convert_entry-entry-requires c = standing-due _ _ _ _ _ _ _ _ c.loop-k.invariant _ _ refl refl c.requires c.loop-k-test.true

pub overflow_cast-result : goal.overflow_cast-result
overflow_cast-result c = omega (arith, c.loop-k.invariant.at-most, c.requires.at-most)

pub returns-in-Err : goal.returns-in-Err
returns-in-Err c =
    let i = c.loop-k.invariant in
    let p = c.convert_entry-entry in
    let says : Entered c.args.table.now c.loop-k.k i.before p.result p.new.headings p.new.pool = p.ensures.entered i.before i.count i.stores in
    rw c.number.ensures (
    ended-refused _ _ _ _ _ _ _
    (standing-refused _ _ _ _ _ _ _ _ i c.loop-k-test.true p.new.pool p.ensures.lengths.1 c.in-Err.refusal p.new.headings
    (subst (λ (x : Result ℕ Refusal). Entered c.args.table.now c.loop-k.k i.before x p.new.headings p.new.pool) c.in-Err.is says))
    (cleared-as (p.ensures.lengths.0 ∙ i.numbers) (p.ensures.lengths.1 ∙ i.cells) c.clear.ensures))

-- its row stands in the pool
pub loop-k-preserved : goal.loop-k-preserved
loop-k-preserved c =
    let i = c.loop-k.invariant in
    let p = c.convert_entry-entry in
    let says : Entered c.args.table.now c.loop-k.k i.before p.result p.new.headings p.new.pool = p.ensures.entered i.before i.count i.stores in
    standing-more _ _ _ _ _ _ _ _ i c.loop-k-test.true p.new.pool p.ensures.lengths.1 _ p.new.headings p.ensures.lengths.0
    (subst (λ (x : Result ℕ Refusal). Entered c.args.table.now c.loop-k.k i.before x p.new.headings p.new.pool) c.in-Ok.is says)

-- all entries stand
pub clear_cells-requires : goal.clear_cells-requires
clear_cells-requires c = c.loop-k.invariant.stores.fits

pub returns : goal.returns
returns c = standing-ended _ _ _ _ _ _ _ _ c.loop-k.invariant c.loop-k-test.false _ c.clear_cells.ensures
