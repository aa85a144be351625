-- `row_check::labels_sound` meets its contract: the first and the last label decide, where labels never fall.
-- Assumes nothing.
use mathlib.Core.Path.{◌≡◌, sym, ◌∙◌, ap, ap₂, subst}
use mathlib.Core.Logic.{◌↔◌}
use mathlib.Core.Bool.{true}
use mathlib.Core.List.{List}
use Prim.Native.Nat.{ℕ, ◌<◌}
use native.Mathlib.Omega.{arith}
use borrow.Author.Rules.{sfits_of}
use lib.IntN.{ℤ, pos, negsuc, ◌+ℤ◌}
use lib.Signed.{◌≤ℤ◌, le_z, clash_ℤ}
use lib.ListN.{length, get_or, drop}
use mir.Facts.{to_z-of_z}
use mir.Syntax.{w32, w64}
use mir.Val.{SFits, of_z, to_z}
use Rattle.integers.specs.Parts.{up}
use Rattle.integers.proofs.Linear.{ints, ◌∴◌}
use Rattle.integers.proofs.Machine.{test-lt, test-not-lt}
use Rattle.integers.proofs.Order.{pos-up}
use Rattle.calendar.specs.Meaning.{empty}
use Rattle.granules.proofs.Tests.{false-iff, test-ext, le_z-iff}
use Rattle.cursors.specs.Found.{found}
use Rattle.cursors.specs.Search.{leading}
use Rattle.row_check.specs.Order.{risen, labels_sound}
use Rattle.cursors.proofs.Numbers.{read_as}
use Rattle.row_check.proofs.Order.{sound_empty, sound-falls, sound-rises}
use Rattle.row_check.proofs.labels_sound.Goals as goal
use Rattle.row_check.proofs.labels_sound.Goals.{After-last_label-end, After-wide-first, Else-last-gt-GREATEST_LABEL, In-Some, Start}

pub returns-then-cells-start : goal.returns-then-cells-start
returns-then-cells-start c = sym (sound_empty (up c.args.distance) c.args.cells.now (omega arith))

-- the first label, as it is read
abbrev cells : After-wide-first → List ℤ
cells c = c.args.cells.now

abbrev first : After-wide-first → ℤ
first c = get_or (cells c) (leading (cells c)) empty

some-label : (c : After-wide-first) → leading (cells c) < length (cells c)
some-label c = omega arith

first-is : (c : After-wide-first) → to_z w64 (of_z w64 c.wide-first.result) ≡ first c
first-is c = to_z-of_z {w = w64} (sfits_of c.wide-first.type_inv) ∙ c.wide-first.ensures.0 ∙ ap (λ (i : ℕ). get_or (cells c) i empty) c.leading-start.ensures

first_fits : (c : After-wide-first) → SFits w32 (first c)
first_fits c = subst (SFits w32) (c.wide-first.ensures.0 ∙ ap (λ (i : ℕ). get_or (cells c) i empty) c.leading-start.ensures) c.wide-first.ensures.1

-- what the search for the last label gave
end_is : (c : After-last_label-end) → found c.last_label-end.result ≡ risen (first (goal.at.After-last_label-end c).After-wide-first) (drop (leading (cells (goal.at.After-last_label-end c).After-wide-first)) (cells (goal.at.After-last_label-end c).After-wide-first))
end_is c = c.last_label-end.ensures ∙ ap (λ (i : ℕ). risen (get_or (cells (goal.at.After-last_label-end c).After-wide-first) i empty) (drop i (cells (goal.at.After-last_label-end c).After-wide-first))) c.leading-start.ensures

pub returns-in_default : goal.returns-in_default
returns-in_default c =
    let l = (goal.at.returns-in_default c).After-last_label-end in
    let a = (goal.at.After-last_label-end l).After-wide-first in
    sym (sound-falls (up a.args.distance) (cells a) empty (some-label a) (sym (end_is l) ∙ ap found c.in_default.is))

-- the test that is left
abbrev N : In-Some → ℕ
N c = up c.args.distance

abbrev last : In-Some → ℤ
last c = c.in-Some.last

last_fits : (c : In-Some) → SFits w64 (last c)
last_fits c = sfits_of c.in-Some.known_told-1-own.given.0.1

test : (c : In-Some) → (labels_sound (N c) (cells (goal.at.In-Some c).After-wide-first) ≡ true)
    ↔ (((negsuc 999999999 ≤ℤ first (goal.at.In-Some c).After-wide-first) × (last c ≤ℤ pos 1000000000)) × (last c ≤ℤ (first (goal.at.In-Some c).After-wide-first +ℤ pos (N c))))
test c =
    let l = (goal.at.In-Some c).After-last_label-end in
    let a = (goal.at.After-last_label-end l).After-wide-first in
    sound-rises (N c) (cells a) empty (some-label a) (last c) (sym (end_is l) ∙ ap found c.in-Some.is)

pub returns-then-first-lt-LEAST_LABEL : goal.returns-then-first-lt-LEAST_LABEL
returns-then-first-lt-LEAST_LABEL c =
    let k = (goal.at.returns-then-first-lt-LEAST_LABEL c).In-Some in
    let a = (goal.at.In-Some k).After-wide-first in
    let h = (test-lt _ _).0 (rw (first-is a) at c.if-first-lt-LEAST_LABEL.true) in
    sym ((false-iff (test k)).1 (λ t. clash_ℤ h t.0.0))

pub returns-then-last-gt-GREATEST_LABEL : goal.returns-then-last-gt-GREATEST_LABEL
returns-then-last-gt-GREATEST_LABEL c =
    let k = (goal.at.returns-then-last-gt-GREATEST_LABEL c).In-Some in
    let h = (test-lt _ _).0 (rw (to_z-of_z (last_fits k)) at c.if-last-gt-GREATEST_LABEL.true) in
    sym ((false-iff (test k)).1 (λ t. clash_ℤ h t.0.1))

-- the bound of the last label
abbrev sum : Else-last-gt-GREATEST_LABEL → ℤ
sum c =
    let a = (goal.at.Else-last-gt-GREATEST_LABEL c).After-wide-first in
    to_z w64 (of_z w64 a.wide-first.result) +ℤ to_z w64 (of_z w64 a.args.distance)

sum_is : (c : Else-last-gt-GREATEST_LABEL) → sum c ≡ first (goal.at.Else-last-gt-GREATEST_LABEL c).After-wide-first +ℤ pos (N (goal.at.Else-last-gt-GREATEST_LABEL c).In-Some)
sum_is c =
    let a = (goal.at.Else-last-gt-GREATEST_LABEL c).After-wide-first in
    let s = (goal.at.After-wide-first a).Start in
    ap₂ ◌+ℤ◌ (first-is a) (to_z-of_z s.ranges.distance ∙ sym (pos-up s.requires.0))

sum_fits : (c : Else-last-gt-GREATEST_LABEL) → SFits w64 (first (goal.at.Else-last-gt-GREATEST_LABEL c).After-wide-first +ℤ pos (N (goal.at.Else-last-gt-GREATEST_LABEL c).In-Some))
sum_fits c =
    let a = (goal.at.Else-last-gt-GREATEST_LABEL c).After-wide-first in
    let s = (goal.at.After-wide-first a).Start in
    first_fits a ∴ s.requires.1 ∴ pos-up s.requires.0 ∴ simp ints (omega arith)

pub overflow_add-result : goal.overflow_add-result
overflow_add-result c = subst (SFits w64) (sym (sum_is c)) (sum_fits c)

pub returns : goal.returns
returns c =
    let k = (goal.at.returns c).In-Some in
    let a = (goal.at.In-Some k).After-wide-first in
    let low = (test-not-lt _ _).0 (rw (first-is a) at c.if-first-lt-LEAST_LABEL.false) in
    let high = (test-not-lt _ _).0 (rw (to_z-of_z (last_fits k)) at c.if-last-gt-GREATEST_LABEL.false) in
    let e = read_as {w = w64} {x = sum c} (sum_is c) (sum_fits c) in
    let o = le_z-iff (last k) (first a +ℤ pos (N k)) in
    ap₂ le_z (to_z-of_z (last_fits k)) e ∙ test-ext (λ h. (test k).1 ((low, high), o.0 h)) (λ h. o.1 ((test k).0 h).1)
