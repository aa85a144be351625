-- `row_entry::check_in` meets its contract: check 7 stands before the others, and the parts of the pool that it hands over are the operands' rows.
-- Assumes nothing.
use mathlib.Core.Path.{◌≡◌, sym, ◌∙◌}
use borrow.Author.Tests.{not-true, not-false}
use borrow.Author.Rules.{rules}
use Rattle.integers.proofs.Machine.{plain}
use Rattle.calendar.specs.Checks.{full_operands}
use Rattle.granules.proofs.Replies.{failed}
use Rattle.kinds.specs.Stands.{row_in}
use Rattle.fill_shared.specs.Placed.{over}
use Rattle.row_entry.proofs.Parts.{OperandFits, handed, handed-is}
use Rattle.row_entry.proofs.check_in.Goals as goal
use Rattle.row_entry.proofs.check_in.Goals.{After-are_full, After-struct_told-4-1, Else-not-are_full, Start}

-- check 7
full_is : (c : After-are_full) → let a = c.args in c.are_full.result ≡ full_operands (over a.kind a.pool.now a.a a.b)
full_is c = c.are_full.ensures c.args.pool.now c.requires.counted_first

pub returns-then-not-are_full : goal.returns-then-not-are_full
returns-then-not-are_full c = sym (failed 7 _ (sym (full_is (goal.at.returns-then-not-are_full c).After-are_full) ∙ not-true _ c.if-not-are_full.true-raw))

a-fits : (c : Start) → OperandFits c.args.a
a-fits c = search rules

b-fits : (c : Start) → OperandFits c.args.b
b-fits c = search rules

-- the two rows
abbrev passed : After-struct_told-4-1 → Else-not-are_full
passed c = (goal.at.After-struct_told-4-1 c).Else-not-are_full

abbrev start : After-struct_told-4-1 → Start
start c = (goal.at.After-struct_told-4-1 c).Start

a-handed : (c : After-struct_told-4-1) → let s = start c in
    handed s.args.pool.now s.args.a c.end_of-a_end.result ≡ row_in s.args.pool.now s.args.a
a-handed c =
    let s = start c in
    let e = c.end_of-a_end in
    handed-is s.args.pool.now s.args.a e.result (a-fits s) e.ensures

b-handed : (c : After-struct_told-4-1) → let s = start c in
    handed s.args.pool.now s.args.b c.end_of-b_end.result ≡ row_in s.args.pool.now s.args.b
b-handed c =
    let s = start c in
    let e = c.end_of-b_end in
    handed-is s.args.pool.now s.args.b e.result (b-fits s) e.ensures

pub check-requires : goal.check-requires
check-requires c =
    let k = (goal.at.check-requires c).After-struct_told-4-1 in
    let s = start k in
    let room = s.ranges.room in
    let p = s.requires in
    let f = sym (full_is (goal.at.After-struct_told-4-1 k).After-are_full) ∙ not-false _ (passed k).if-not-are_full.false-raw in
    record {
      numbers = p.numbers;
      sound_first = rw (a-handed k, b-handed k) p.sound_first;
      b_cells_value = rw (a-handed k, b-handed k) f;
      pos_bound = simp plain p.pos_bound;
    }

pub returns : goal.returns
returns c =
    let room = (start (goal.at.returns c).After-struct_told-4-1).ranges.room in
    rw (← a-handed (goal.at.returns c).After-struct_told-4-1, ← b-handed (goal.at.returns c).After-struct_told-4-1) (simp plain at c.check.ensures)
