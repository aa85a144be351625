-- `table_text::table::read_table` meets its contract.
-- Assumes nothing.
use mathlib.Core.Path.{◌≡◌, subst}
use Prim.Native.Nat.{ℕ}
use lib.ListN.{length}
use Rattle.table_text.specs.Words.{line_feed}
use Rattle.table_text.specs.Parse.{split, read_lines}
use Rattle.table_text.specs.Tables.{Left}
use Rattle.table_text.proofs.Gathering.{read-long, read_short}
use Rattle.table_text.proofs.table.read_table.Goals as goal
use Rattle.table_text.proofs.table.read_table.Goals.{After-clear, After-read_lines, Start}

-- the table is clear, and as long as it was
abbrev start : After-clear → Start
start k = (goal.at.After-clear k).Start

clear-length : (k : After-clear) → length k.clear.new.table ≡ length (start k).args.table.now
clear-length k = k.clear.auto.table

pub returns-then-text-gt-TEXT_LIMIT : goal.returns-then-text-gt-TEXT_LIMIT
returns-then-text-gt-TEXT_LIMIT c = let k = (goal.at.returns-then-text-gt-TEXT_LIMIT c).After-clear in read-long (length (start k).args.table.now) _ _ c.if-text-gt-TEXT_LIMIT.true k.clear.ensures

pub returns : goal.returns
returns c =
    let r = (goal.at.returns c).After-read_lines in
    let k = (goal.at.After-read_lines r).After-clear in
    read_short (length (start k).args.table.now) _ _ _ r.if-text-gt-TEXT_LIMIT.false
    (subst (λ (n : ℕ). Left n (read_lines 0 (split line_feed (start k).args.text.now)) r.read_lines.result r.read_lines.new.table) (clear-length k) r.read_lines.ensures)
