-- `steps_api::write_lengths` meets its contract.
-- Assumes nothing.
use Rattle.integers.proofs.Machine.{plain}
use Rattle.steps_api.proofs.Numbers.{three-set}
use Rattle.steps_api.proofs.write_lengths.Goals as goal

pub returns : goal.returns
returns c =
    let a = c.args in
    let t = c.ranges.table in
    let h = c.ranges.headings in
    let p = c.ranges.pool in
    simp plain (three-set a.state.now c.requires a.table a.headings a.pool)
