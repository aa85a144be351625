-- `walk_records::start_lent` meets its contract: the walk that is started over the first headings counts the numbers of all.
-- Assumes nothing.
use mathlib.Core.Path.{◌≡◌, ◌∙◌, ap}
use mathlib.Core.List.{List}
use Prim.Native.Nat.{ℕ, ◌*◌, ◌≤◌}
use native.Mathlib.Omega.{arith}
use lib.ListN.{length, take, drop, replicate, length-replicate}
use lib.Seq.{length-take-le}
use Rattle.calendar.specs.Limits.{entry_limit, heading_length}
use Rattle.heading_records.specs.Reading.{at_most}
use Rattle.heading_records.proofs.Reading.{most-limit}
use Rattle.walk_records.proofs.Joined.{none-behind, start-joined}
use Rattle.walk_records.proofs.start_lent.Goals as goal

abbrev zeros : List ℕ
zeros = replicate (heading_length * entry_limit) 0

-- the numbers that are lent
lent : (m : ℕ) → m ≤ entry_limit → length (take (heading_length * m) zeros) ≡ heading_length * m
lent m h = length-take-le (heading_length * m) zeros (omega arith)

pub returns : goal.returns
returns c =
    let a = c.args in
    let few : c.at_most-first.result ≤ entry_limit = omega (arith, c.at_most-first.ensures, most-limit a.lent) in
    let e : heading_length * c.at_most-first.result ≡ heading_length * at_most a.lent = ap (λ (i : ℕ). heading_length * i) c.at_most-first.ensures in
    start-joined a.table.now a.lent a.pool.now (take (heading_length * c.at_most-first.result) zeros) (lent _ few ∙ e)
    (drop (heading_length * c.at_most-first.result) zeros) (λ less. ap (λ (i : ℕ). drop i zeros) e ∙ none-behind a.lent zeros (length-replicate {A = ℕ} (heading_length * entry_limit) 0) less)
    c.start-begun.result c.start-begun.new.headings c.start-begun.new.pool
    c.start-begun.ensures
