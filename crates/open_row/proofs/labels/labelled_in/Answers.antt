-- `open_row::labels::labelled_in` meets its contract.
-- Assumes nothing.
use mathlib.Core.Path.{◌≡◌, ◌∙◌, ap}
use Prim.Native.Nat.{ℕ, ◌-◌}
use native.Mathlib.Omega.{arith}
use borrow.Author.Rules.{sfits_of}
use lib.IntN.{pos}
use lib.Signed.{◌≤ℤ◌}
use lib.ListN.{length, take, drop}
use Rattle.integers.specs.Parts.{up}
use Rattle.integers.proofs.Linear.{ints, ◌∴◌}
use Rattle.calendar.specs.Sound.{labels_of}
use Rattle.open_map.proofs.Numbers.{cast-up}
use Rattle.open_row.proofs.Labelled.{labels-between}
use Rattle.open_row.proofs.labels.labelled_in.Goals as goal
use Rattle.open_row.proofs.labels.labelled_in.Goals.{After-labelled_instants, Start}

-- the labels of the part
abbrev counted : Start → ℕ
counted s = length (labels_of (take (s.args.end - s.args.start) (drop s.args.start s.args.cells.now)))

natural : (c : After-labelled_instants) → pos 0 ≤ℤ c.labelled_instants.result
natural c = c.labelled_instants.ensures ∴ simp ints (omega arith)

pub overflow_cast-result : goal.overflow_cast-result
overflow_cast-result c = let n = cast-up c.labelled_instants.result (sfits_of c.labelled_instants.type_inv) (natural c) in (n.0, n.1)

pub returns : goal.returns
returns c =
    let s = (goal.at.returns c).Start in
    let n = (cast-up c.labelled_instants.result (sfits_of c.labelled_instants.type_inv) (natural c)).2 in
    let e : c.labelled_instants.result ≡ pos (counted s) = c.labelled_instants.ensures in
    omega (arith, n ∙ ap up e, labels-between s.args.cells.now s.args.start s.args.end s.requires.0 s.requires.1)
