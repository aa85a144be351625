-- The headings beyond the first that a table may have entries for count for the rest only.
use Rattle.std.proofs.Common.{length, ◌/◌, ap₂, ◌∙◌}
use mathlib.Core.Bool.{Bool}
use mathlib.Core.List.{List}
use Prim.Native.Nat.{ℕ}
use Rattle.headings.specs.Records.{numbers_of}
use Rattle.verdicts.specs.Check as Check
use Rattle.heading_records.specs.Reading.{beyond}
use Rattle.heading_records.proofs.Beyond.{check-beyond}
use Rattle.heading_records.proofs.check.Goals as goal

pub returns : goal.returns
returns c =
    let a = c.args in
    let r = c.read_all-read.ensures in
    c.check_read.ensures
    ∙ ap₂ (λ (z : Bool) (l : List ℕ). beyond z (length a.table.now / 6) (Check.check a.table.now l a.pool.now)) r.zero r.numbers
    ∙ check-beyond a.table.now (numbers_of a.headings.now) a.pool.now
