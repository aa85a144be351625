-- What a call makes of the first headings is what it makes of all, once they are written.
use Rattle.std.proofs.Common.{length, ◌≡◌, ◌*◌, arith}
use Rattle.calendar.specs.Limits.{entry_limit, heading_length}
use Rattle.steps.specs.State.{walk_of}
use Rattle.walk_records.proofs.Joined.{step_given}
use Rattle.walk_records.proofs.step.Goals as goal

pub returns : goal.returns
returns c =
    let a = c.args in
    let x = c.read_all-read.result in
    let long : length x.numbers ≡ heading_length * entry_limit = omega arith in
    step_given (walk_of a.walk) a.table.now a.headings.now a.pool.now x c.read_all-read.ensures long _ _ c.step_read-p.ensures _ c.write_all.ensures
