-- What the start leaves over the first headings is what it leaves over all, once they are written.
use Rattle.walk_records.proofs.Joined.{start-given}
use Rattle.walk_records.proofs.start.Goals as goal

pub returns : goal.returns
returns c =
    let a = c.args in
    start-given a.table.now a.headings.now a.pool.now _ _ c.start_lent-p.ensures _ c.write_all.ensures
