-- The records of the numbers are those that the conversion is to leave.
use Rattle.std.proofs.Common.{length, ap, ◌∙◌}
use mathlib.Core.List.{List}
use Prim.Native.Nat.{ℕ}
use Rattle.headings.specs.LeftRecords.{records_of}
use Rattle.headings.proofs.Plain.{outcome-records}
use Rattle.headings.proofs.convert.Goals as goal

pub returns : goal.returns
returns c =
    let x = c.args in
    record {
      answer = c.convert_made-m.ensures.0;
      records = c.write_all.ensures ∙ ap (λ (l : List ℕ). records_of l (length x.headings.now)) c.convert_made-m.ensures.1 ∙ outcome-records x.table.now (length x.headings.now) (length x.pool.now);
      cells = c.convert_made-m.ensures.2;
    }
