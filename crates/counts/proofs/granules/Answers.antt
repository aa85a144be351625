-- `counts::granules` meets its contract: the labels of the row are counted, and the last is compared with the first of the next turn.
-- Assumes nothing.
use mathlib.Core.Path.{◌≡◌, sym, ◌∙◌, ap, ap₂, subst}
use mathlib.Core.Logic.{◌↔◌}
use mathlib.Core.List.{List}
use Prim.Native.Nat.{ℕ, suc, ◌<◌, ◌≤◌}
use native.Mathlib.Omega.{arith}
use borrow.Author.Rules.{sfits_of}
use lib.IntN.{ℤ, pos, ◌+ℤ◌, ◌-ℤ◌}
use lib.ListN.{length, get_or, drop}
use mir.Facts.{to_z-of_z}
use mir.Syntax.{w32, w64}
use mir.Val.{SFits, of_z, to_z}
use Rattle.integers.specs.Parts.{up}
use Rattle.integers.proofs.Linear.{ints, ◌∴◌}
use Rattle.integers.proofs.Machine.{plain, test-eq}
use Rattle.calendar.specs.Limits.{pool_limit}
use Rattle.calendar.specs.Meaning.{empty}
use Rattle.counts.specs.declared.Labels.{Labels}
use Rattle.cursors.specs.Search.{leading}
use Rattle.counts.specs.Labels.{rises, greatest, counted}
use Rattle.cursors.proofs.Numbers.{numbers}
use Rattle.row_check.proofs.Instants.{has-label}
use Rattle.counts.proofs.Turn.{granules-wrapped, granules-apart, rises-few}
use Rattle.counts.proofs.granules.Goals as goal
use Rattle.counts.proofs.granules.Goals.{After-labels_of-labels, After-struct_told-1, After-wide-first, Start}

some-label : (c : Start) → leading c.args.cells.now < length c.args.cells.now
some-label c = has-label c.args.period c.args.distance c.args.cells.now c.requires

pub wide-first-requires : goal.wide-first-requires
wide-first-requires c = omega (arith, some-label (goal.at.wide-first-requires c).Start)

pub labels_of-labels-requires : goal.labels_of-labels-requires
labels_of-labels-requires c =
    let s = (goal.at.labels_of-labels-requires c).Start in
    let p = s.ranges.period in
    let d = s.ranges.distance in
    record { sound = simp plain s.requires; start_value = c.leading-start.ensures }

-- the first label, and the cells from it on
abbrev first : Start → ℤ
first c = get_or c.args.cells.now (leading c.args.cells.now) empty

abbrev rest : Start → List ℤ
rest c = drop (leading c.args.cells.now) c.args.cells.now

read_is : (c : After-wide-first) → c.wide-first.result ≡ first (goal.at.After-wide-first c).Start
read_is c = c.wide-first.ensures.0 ∙ ap (λ (i : ℕ). get_or c.args.cells.now i empty) c.leading-start.ensures

-- the first label of the next turn
abbrev sum : After-labels_of-labels → ℤ
sum c = to_z w64 (of_z w64 c.wide-first.result) +ℤ to_z w64 (of_z w64 c.args.distance)

sum_is : (c : After-labels_of-labels) → sum c ≡ first (goal.at.After-labels_of-labels c).Start +ℤ pos (up c.args.distance)
sum_is c =
    let s = (goal.at.After-labels_of-labels c).Start in
    let n = numbers s.args.period s.args.distance s.args.cells.now s.requires in
    ap₂ ◌+ℤ◌ (to_z-of_z {w = w64} (sfits_of c.wide-first.type_inv) ∙ read_is (goal.at.After-labels_of-labels c).After-wide-first) (to_z-of_z s.ranges.distance ∙ n.distance_is)

sum_fits : (c : After-labels_of-labels) → SFits w64 (first (goal.at.After-labels_of-labels c).Start +ℤ pos (up c.args.distance))
sum_fits c =
    let s = (goal.at.After-labels_of-labels c).Start in
    let n = numbers s.args.period s.args.distance s.args.cells.now s.requires in
    subst (SFits w32) (read_is (goal.at.After-labels_of-labels c).After-wide-first) c.wide-first.ensures.1 ∴ n.middle ∴ n.high ∴ simp ints (omega arith)

pub overflow_add-first : goal.overflow_add-first
overflow_add-first c = subst (SFits w64) (sym (sum_is c)) (sum_fits c)

-- what was counted
labels-are : (c : After-labels_of-labels) → c.labels_of-labels.result ≡ counted (first (goal.at.After-labels_of-labels c).Start) (rest (goal.at.After-labels_of-labels c).Start)
labels-are c = let l = c.args.cells.now in c.labels_of-labels.ensures ∙ ap (λ (i : ℕ). counted (get_or l i empty) (drop i l)) c.leading-start.ensures

last-is : (c : After-labels_of-labels) → c.labels_of-labels.result.last ≡ greatest (first (goal.at.After-labels_of-labels c).Start) (rest (goal.at.After-labels_of-labels c).Start)
unfolding counted
last-is c = ap (λ (x : Labels). x.last) (labels-are c)

count-is : (c : After-labels_of-labels) → c.labels_of-labels.result.count ≡ pos (suc (rises (first (goal.at.After-labels_of-labels c).Start) (rest (goal.at.After-labels_of-labels c).Start)))
unfolding counted
count-is c = ap (λ (x : Labels). x.count) (labels-are c)

few : (c : Start) → rises (first c) (rest c) ≤ pool_limit
few c = rises-few c.args.period c.args.distance c.args.cells.now c.requires

count_fits : (c : After-labels_of-labels) → SFits w64 c.labels_of-labels.result.count
count_fits c = count-is c ∴ few (goal.at.After-labels_of-labels c).Start ∴ simp ints (omega arith)

pub overflow_sub-result : goal.overflow_sub-result
overflow_sub-result c =
    let l = (goal.at.overflow_sub-result c).After-labels_of-labels in
    let f = count_fits l in
    count-is l ∴ few (goal.at.After-labels_of-labels l).Start ∴ simp (plain, ints) (omega arith)

last_fits : (c : After-struct_told-1) → SFits w64 c.labels_of-labels.result.last
last_fits c = sfits_of c.struct_told-1.given.1.0.1

-- the test compares the last label with that of the next turn
test : (c : After-struct_told-1) → let l = (goal.at.After-struct_told-1 c).After-labels_of-labels in
    (of_z w64 l.labels_of-labels.result.last ≡ of_z w64 (sum l))
    ↔ (greatest (first (goal.at.After-labels_of-labels l).Start) (rest (goal.at.After-labels_of-labels l).Start) ≡ first (goal.at.After-labels_of-labels l).Start +ℤ pos (up l.args.distance))
test c =
    let l = (goal.at.After-struct_told-1 c).After-labels_of-labels in
    let t = test-eq w64 l.labels_of-labels.result.last (sum l) (last_fits c) (overflow_add-first l) in
    (λ e. sym (last-is l) ∙ t.0 e ∙ sum_is l, λ e. t.1 (last-is l ∙ e ∙ sym (sum_is l)))

pub returns-then-labels-first : goal.returns-then-labels-first
returns-then-labels-first c =
    let t = (goal.at.returns-then-labels-first c).After-struct_told-1 in
    let l = (goal.at.After-struct_told-1 t).After-labels_of-labels in
    let s = (goal.at.After-labels_of-labels l).Start in
    let g = granules-wrapped s.args.period s.args.distance s.args.cells.now s.requires ((test t).0 c.if-labels-first.true) in
    let f = count_fits l in
    let e = simp plain at (overflow_sub-result c) in
    simp plain (ap (λ (z : ℤ). z -ℤ pos 1) (count-is l) ∙ (g ∴ simp ints (omega arith)))

pub returns-else-labels-first : goal.returns-else-labels-first
returns-else-labels-first c =
    let t = (goal.at.returns-else-labels-first c).After-struct_told-1 in
    let l = (goal.at.After-struct_told-1 t).After-labels_of-labels in
    let s = (goal.at.After-labels_of-labels l).Start in
    let g = granules-apart s.args.period s.args.distance s.args.cells.now s.requires (λ e. c.if-labels-first.false ((test t).1 e)) in
    to_z-of_z (count_fits l) ∙ count-is l ∙ ap pos (sym g)
