-- `row_entry::enter_named` meets its contract: the operation is over the rows of its operands' headings.
-- Assumes nothing.
use borrow.Author.Rules.{rules}
use native.Mathlib.Omega.{arith}
use Rattle.row_entry.proofs.AtRows.{enterable, became-as}
use Rattle.row_entry.proofs.enter_named.Goals as goal
use Rattle.row_entry.proofs.enter_named.Goals.{After-enter, After-operand_at-second, After-slice_known-1}

pub operand_at-first-requires : goal.operand_at-first-requires
operand_at-first-requires c = let p = c.requires in omega (arith, p.names.1.first, p.has-heading)

pub operand_at-second-requires : goal.operand_at-second-requires
operand_at-second-requires c = let p = c.requires in omega (arith, p.names.1.second, p.has-heading)

pub enter-requires : goal.enter-requires
enter-requires c =
    let g = c.args in
    let p = c.requires in
    enterable p.rows.0 g.k g.headings.now g.pool.now g.used p.rows.1 p.rows.2 g.named p.names.0 p.names.1
    c.operand_at-first.result c.operand_at-second.result c.operand_at-first.ensures c.operand_at-second.ensures p.at-most p.has-heading

pub shape_of-headings : goal.shape_of-headings
shape_of-headings c = search rules

pub shape_of-pool : goal.shape_of-pool
shape_of-pool c = search rules

pub returns : goal.returns
returns c =
    let g = c.args in
    record {
      lengths = (shape_of-headings c, shape_of-pool c);
      became = λ l o many t names. became-as l g.k g.headings.now g.pool.now g.used many t g.named o names
          c.operand_at-first.result c.operand_at-second.result c.operand_at-first.ensures c.operand_at-second.ensures
          c.enter.result c.enter.new.headings c.enter.new.pool c.enter.ensures.became;
    }
