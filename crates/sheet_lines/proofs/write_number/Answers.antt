-- `sheet_lines::write_number` meets its contract.
-- Assumes nothing.
use mathlib.Core.Path.{ap, ◌∙◌}
use mathlib.Core.List.{List, [], ◌∷◌, ◌++◌}
use Prim.Native.Nat.{ℕ}
use lib.IntN.{nat_abs}
use Rattle.integers.proofs.Machine.{plain}
use Rattle.sheet_lines.proofs.Laying.{relay}
use Rattle.sheet_lines.proofs.Magnitudes.{narrow-is}
use Rattle.sheet_lines.proofs.Words.{signed, unsigned}
use Rattle.sheet_lines.proofs.write_number.Goals as goal
use Rattle.sheet_lines.proofs.write_number.Goals.{After-magnitude, After-magnitude-2, Start}

pub returns-then-v-lt0 : goal.returns-then-v-lt0
returns-then-v-lt0 c =
    let s = (goal.at.returns-then-v-lt0 c).Start in
    let m = (goal.at.returns-then-v-lt0 c).After-magnitude in
    λ u o h. relay (signed s.args.v m.magnitude.result (let f = s.ranges.v in simp plain at c.if-v-lt0.true) (m.magnitude.ensures ∙ ap nat_abs (narrow-is s.args.v s.ranges.v)) u)
    (c.write_decimal.ensures (u ++ (45 ∷ [])) o (c.push-k.ensures u o h))

pub returns : goal.returns
returns c =
    let s = (goal.at.returns c).Start in
    let m = (goal.at.returns c).After-magnitude-2 in
    λ u o h. relay (ap (λ (w : List ℕ). u ++ w) (unsigned s.args.v m.magnitude-2.result (let f = s.ranges.v in simp plain at c.if-v-lt0.false) (m.magnitude-2.ensures ∙ ap nat_abs (narrow-is s.args.v s.ranges.v))))
    (c.write_decimal-2.ensures u o h)
