-- `containment::shows` meets its contract: the label that the cursor shows is compared by its bits.
-- Assumes nothing.
use borrow.Author.Rules.{rules}
use mathlib.Core.Path.{◌≡◌, sym, ◌∙◌, ap}
use mathlib.Core.Option.{some}
use lib.Dec.{eqb}
use lib.IntN.{ℤ}
use mir.Syntax.{w64}
use mir.Val.{SFits, of_z}
use Rattle.integers.proofs.Machine.{plain, test-eq}
use Rattle.calendar.specs.Lists.{is}
use Rattle.granules.proofs.Tests.{test-ext, eqb-iff, equal-iff}
use Rattle.cursors.specs.Found.{found}
use Rattle.containment.proofs.shows.Goals as goal
use Rattle.containment.proofs.shows.Goals.{Start}

-- labels are the same exactly if their bits are
bits-test : (i j : ℤ) → SFits w64 i → SFits w64 j → eqb (of_z w64 i) (of_z w64 j) ≡ is j (some i)
bits-test i j f g =
    let b = eqb-iff (of_z w64 i) (of_z w64 j) in
    let e = test-eq w64 i j f g in
    test-ext (λ h. (equal-iff j i).1 (sym (e.0 (b.0 h)))) (λ h. b.1 (e.1 (sym ((equal-iff j i).0 h))))

pub returns-in-Some : goal.returns-in-Some
returns-in-Some c u e =
    let s = (goal.at.returns-in-Some c).Start in
    let p = s.ranges.period in
    let d = s.ranges.distance in
    let h = (simp plain at c.cursor_label-label.ensures) u e in
    bits-test c.in-Some.i s.args.j (search rules) s.ranges.j
    ∙ ap (is s.args.j) (ap found (sym c.in-Some.is) ∙ h)
