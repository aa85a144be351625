-- The loop ends behind the last heading, so all are read.
use Rattle.std.proofs.Common.{length, ◌≡◌, arith, ap, sym, ◌∙◌, subst}
use Rattle.heading_records.specs.declared.Read.{Read}
use Rattle.heading_records.specs.Reading.{read_upto, ReadsAll}
use Rattle.heading_records.proofs.Reading.{reads_all}
use Rattle.heading_records.proofs.read_all.Goals as goal

pub returns : goal.returns
returns c =
    let hs = c.args.headings.now in
    let all : length hs ≡ c.loop-i.i = omega arith in
    subst (λ (r : Read). ReadsAll hs r) (ap (read_upto hs) all ∙ sym c.loop-i.invariant) (reads_all hs)
