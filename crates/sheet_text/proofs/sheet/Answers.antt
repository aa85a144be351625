-- `sheet_text::sheet` meets its contract: laid into a cleared list, the sheet is whole where its end is not behind the list's.
-- Assumes nothing.
use mathlib.Core.Path.{◌≡◌, ◌∙◌, ap}
use mathlib.Core.List.{[]}
use Prim.Native.Nat.{ℕ}
use native.Mathlib.Omega.{arith}
use lib.ListN.{length}
use Rattle.calendar.specs.Lists.{filled}
use Rattle.sheet_text.proofs.Whole.{sheet-whole, sheet-short}
use Rattle.sheet_text.proofs.sheet.Goals as goal
use Rattle.sheet_text.proofs.sheet.Goals.{After-clear, After-clear-2, After-lay_sheet-n, Else-n-out, Start}

abbrev clearing : After-lay_sheet-n → After-clear
clearing y = (goal.at.After-lay_sheet-n y).After-clear

abbrev start : After-lay_sheet-n → Start
start y = (goal.at.After-lay_sheet-n y).Start

-- the list is as long as it was
kept : (y : After-lay_sheet-n) → length y.lay_sheet-n.new.out ≡ length (start y).args.out.now
kept y = y.lay_sheet-n.auto.out ∙ (clearing y).clear.auto.out

pub returns-then-n-out : goal.returns-then-n-out
returns-then-n-out c =
    let y = (goal.at.returns-then-n-out c).After-lay_sheet-n in
    sheet-whole _ _ _ _ _ (clearing y).clear.ensures y.lay_sheet-n.ensures (omega (arith, c.if-n-out.true, kept y))

pub returns : goal.returns
returns c =
    let k = (goal.at.returns c).After-clear-2 in
    let e = (goal.at.After-clear-2 k).Else-n-out in
    let y = (goal.at.Else-n-out e).After-lay_sheet-n in
    sheet-short _ _ _ _ _ (clearing y).clear.ensures y.lay_sheet-n.ensures (omega (arith, e.if-n-out.false, kept y)) _
    (k.clear-2.ensures ∙ ap (λ (n : ℕ). filled n 0 []) (kept y))
