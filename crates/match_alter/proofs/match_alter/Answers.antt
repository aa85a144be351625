-- `match_alter::match_alter` meets its contract: n and D are found, then check 11 is decided, and the labels are compared.
-- Assumes nothing.
use mathlib.Core.Path.{◌≡◌, sym, ◌∙◌}
use native.Mathlib.Omega.{arith}
use Prim.Native.Nat.{◌≤◌}
use mir.Facts.{to_z-of_z}
use mir.Syntax.{w64}
use mir.Val.{to_z, of_z}
use Rattle.calendar.specs.Limits.{pool_limit}
use Rattle.calendar.specs.Meaning.{Row}
use Rattle.kinds.specs.declared.Kind.TheVariants.{Alter}
use Rattle.kinds.specs.Stands.{row_in, Stands}
use Rattle.alter_granules.specs.Given.{Alterable}
use Rattle.fill_shared.specs.Fillable.{Fillable}
use Rattle.fill_shared.proofs.Cells.{same_rows}
use Rattle.fill_alter.proofs.Repeated.{Span}
use Rattle.match_shared.proofs.Lent.{lent_row}
use Rattle.match_stretches.proofs.Rows.{lent_is}
use Rattle.alter_ends.specs.Ending.{Lies}
use Rattle.match_alter.proofs.Scanned.{out_of_range}
use Rattle.match_alter.proofs.match_alter.Goals as goal
use Rattle.match_alter.proofs.match_alter.Goals.{After-cells_of-b_cells, After-in_limits, After-repeat_of-repeat, Start}

-- ---- the rows
abbrev A : Start → Row
A s = row_in s.args.pool.now s.args.a

abbrev B : Start → Row
B s = row_in s.args.pool.now s.args.b

a-stands : (s : Start) → Stands s.args.pool.now s.args.a
a-stands s = record { is-sound = s.requires.fillable.sounds.0; fits = s.requires.claimed.a-end }

b-stands : (s : Start) → Stands s.args.pool.now s.args.b
b-stands s = record { is-sound = s.requires.fillable.sounds.1; fits = s.requires.claimed.b_end }

few : (s : Start) → s.args.period ≤ pool_limit
few s = omega (arith, s.requires.claimed.room, s.requires.claimed.at-most)

abbrev Lent : Type 0
Lent = After-cells_of-b_cells

abbrev entry : Lent → Start
entry l = (goal.at.After-cells_of-b_cells l).Start

a-is : (l : Lent) → lent_row (entry l).args.a l.cells_of-a_cells.result.now ≡ A (entry l)
a-is l = lent_is _ _ (a-stands (entry l)) _ l.cells_of-a_cells.ensures

b-is : (l : Lent) → lent_row (entry l).args.b l.cells_of-b_cells.result.now ≡ B (entry l)
b-is l = lent_is _ _ (b-stands (entry l)) _ l.cells_of-b_cells.ensures

-- ---- n and D
pub repeat_of-repeat-requires : goal.repeat_of-repeat-requires
repeat_of-repeat-requires c =
    let l = (goal.at.repeat_of-repeat-requires c).After-cells_of-b_cells in
    let s = entry l in
    let e = to_z-of_z s.ranges.span ∙ s.requires.claimed.is-span in
    let k = same_rows (λ x y. Fillable (Alter s.args.by) x y × Span s.args.by x y (to_z w64 (of_z w64 s.args.span))) (sym (a-is l)) (sym (b-is l)) (s.requires.fillable, e) in
    record { fillable = k.0; span_value = k.1 }

abbrev Repeated : Type 0
Repeated = After-repeat_of-repeat

abbrev start : Repeated → Start
start c = entry (goal.at.After-repeat_of-repeat c).After-cells_of-b_cells

alterable : (c : Repeated) → let s = start c in Alterable s.args.by c.repeat_of-repeat.result (A s) (B s)
alterable c =
    let l = (goal.at.After-repeat_of-repeat c).After-cells_of-b_cells in
    let s = entry l in
    same_rows (λ x y. Alterable s.args.by c.repeat_of-repeat.result x y) (a-is l) (b-is l) c.repeat_of-repeat.ensures

-- ---- check 11, and the labels
lies : (s : Start) → Lies s.args.by s.args.a s.args.b s.args.pool.now
lies s = record { a-stands = a-stands s; b-stands = b-stands s; few = omega (arith, few s, s.requires.claimed.is-period) }

pub in_limits-requires : goal.in_limits-requires
in_limits-requires c = record { alterable = alterable c; lies = lies (start c) }

pub returns-then-not-in_limits : goal.returns-then-not-in_limits
returns-then-not-in_limits c =
    let k = (goal.at.returns-then-not-in_limits c).After-in_limits in
    let d = (goal.at.After-in_limits k).After-repeat_of-repeat in
    let s = start d in
    out_of_range s.args.by d.repeat_of-repeat.result (A s) (B s) (row_in s.args.pool.now s.args.r) (alterable d) (sym k.in_limits.ensures ∙ c.if-not-in_limits.true)

pub compare-requires : goal.compare-requires
compare-requires c =
    let k = (goal.at.compare-requires c).After-in_limits in
    let d = (goal.at.After-in_limits k).After-repeat_of-repeat in
    let s = start d in record {
      alterable = alterable d;
      comparable = record {
        a-stands = a-stands s;
        b-stands = b-stands s;
        r-stands = s.requires.claimed.claim;
        few = s.requires.claimed.at-most;
        room = few s;
        is-period = s.requires.claimed.is-period;
        in-range = sym k.in_limits.ensures ∙ c.if-not-in_limits.false;
      };
    }

pub returns : goal.returns
returns c = c.compare.ensures
