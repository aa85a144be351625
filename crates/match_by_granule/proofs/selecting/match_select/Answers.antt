-- `match_by_granule::selecting::match_select` meets its contract: each turn of the loop decides a granule of a and compares its instants.
-- Assumes nothing.
use borrow.Author.Rules.{rules}
use borrow.Author.Tests.{not-true, not-false}
use mathlib.Core.Path.{◌≡◌, sym, ◌∙◌}
use mathlib.Core.Option.{Option, some}
use mathlib.Core.Bool.{true}
use Prim.Native.Nat.{◌-◌, ◌^◌, ◌≤◌, ◌<◌}
use native.Mathlib.Omega.{arith}
use lib.IntN.{ℤ, pos, ◌+ℤ◌}
use mir.Facts.{to_z-of_z}
use mir.Syntax.{w64}
use mir.Val.{SFits, to_z, of_z}
use Rattle.integers.proofs.Linear.{ints}
use Rattle.integers.proofs.Machine.{plain}
use Rattle.calendar.specs.Limits.{in_range, pool_limit}
use Rattle.calendar.specs.Meaning.{Row, meant}
use Rattle.calendar.specs.Lists.{if_label, first, only, equal}
use Rattle.calendar.specs.Granules.{granule}
use Rattle.calendar.specs.Compute.{result}
use Rattle.calendar.specs.Sound.{sound}
use Rattle.granules.proofs.Sound.{sound-valid}
use Rattle.cursors.specs.Found.{found, Within, Near}
use Rattle.cursors.specs.Cursor.{cursor_at, Shown}
use Rattle.kinds.specs.declared.Selection.{Selection}
use Rattle.kinds.specs.declared.Kind.TheVariants.{Select}
use Rattle.kinds.specs.Limits.{Picking}
use Rattle.kinds.specs.Operations.{operation_of}
use Rattle.kinds.specs.Stands.{row_in}
use Rattle.select_granules.specs.Memos.{Remembers}
use Rattle.select_granules.specs.Deciding.{Decides}
use Rattle.match_shared.proofs.Lent.{lent_row}
use Rattle.match_shared.proofs.Seen.{seen-matched}
use Rattle.match_shared.proofs.Claims.{claim-outside}
use Rattle.match_stretches.specs.Stretch.{Stretched}
use Rattle.match_by_granule.proofs.Given as Given
use Rattle.match_by_granule.proofs.Given.{a-stands, few, along-a, instant-fits, instant-near, stride-fits, Stride, stride-asks, stride-gave}
use Rattle.match_by_granule.proofs.Selects.{selecting-none, decided-label, granule-on, selecting-next}
use Rattle.match_by_granule.proofs.selecting.match_select.Goals as goal
use Rattle.match_by_granule.proofs.selecting.match_select.Goals.{After-cells_of-b_cells, After-compare_leading-reached, After-compare_stretch-reached, After-cursor_on-b_cursor, After-decided-decision, After-kept-label, After-label_of-j, At-loop-reached, In-loop-reached, Start}

-- ---- the rows that are lent
pub cells_of-a_cells-requires : goal.cells_of-a_cells-requires
cells_of-a_cells-requires c = let h = c.requires.claimed in record { pos_bound = h.a-period; a_in_bounds = h.a-end }

pub cells_of-b_cells-requires : goal.cells_of-b_cells-requires
cells_of-b_cells-requires c = let h = c.requires.claimed in record { pos_bound = h.b-period; a_in_bounds = h.b_end }

abbrev Lent : Type 0
Lent = After-cells_of-b_cells

abbrev entry : Lent → Start
entry k = (goal.at.After-cells_of-b_cells k).Start

abbrev by : Lent → Selection
by k = (entry k).args.by

abbrev A : Lent → Row
A k = row_in (entry k).args.pool.now (entry k).args.a

abbrev B : Lent → Row
B k = row_in (entry k).args.pool.now (entry k).args.b

abbrev R : Lent → Row
R k = row_in (entry k).args.pool.now (entry k).args.r

module _ (k : Lent) (P : Row → Row → Type 0) where
  lent : P (A k) (B k) → P (lent_row (entry k).args.a k.cells_of-a_cells.result.now) (lent_row (entry k).args.b k.cells_of-b_cells.result.now)
  lent = let s = entry k in Given.lent s.requires.fillable.sounds s.requires.claimed k.cells_of-a_cells.ensures k.cells_of-b_cells.ensures P

  stood : P (lent_row (entry k).args.a k.cells_of-a_cells.result.now) (lent_row (entry k).args.b k.cells_of-b_cells.result.now) → P (A k) (B k)
  stood = let s = entry k in Given.stood s.requires.fillable.sounds s.requires.claimed k.cells_of-a_cells.ensures k.cells_of-b_cells.ensures P

-- ---- up to the first label
pub compare_leading-reached-requires : goal.compare_leading-reached-requires
compare_leading-reached-requires c = let s = entry c in along-a s.requires.fillable.sounds s.requires.claimed

led-few : (c : After-compare_leading-reached) → c.compare_leading-reached.result.t ≤ pool_limit
led-few c = let s = entry (goal.at.After-compare_leading-reached c).After-cells_of-b_cells in few s.requires.fillable.sounds s.requires.claimed c.compare_leading-reached.ensures.follows.in-room

pub overflow_cast-reached : goal.overflow_cast-reached
overflow_cast-reached c = instant-fits (led-few (goal.at.overflow_cast-reached c).After-compare_leading-reached)

pub cursor_at-b_cursor-requires : goal.cursor_at-b_cursor-requires
cursor_at-b_cursor-requires c =
    let f = (goal.at.cursor_at-b_cursor-requires c).After-compare_leading-reached in
    let x = lent (goal.at.After-compare_leading-reached f).After-cells_of-b_cells (λ x y. (sound y ≡ true) × Near (to_z w64 (of_z w64 (pos f.compare_leading-reached.result.t)))) ((entry (goal.at.After-compare_leading-reached f).After-cells_of-b_cells).requires.fillable.sounds.1, instant-near (led-few f)) in
    record { sound = x.0; near = x.1 }

pub loop-reached-init : goal.loop-reached-init
loop-reached-init c =
    let f = (goal.at.loop-reached-init c).After-compare_leading-reached in
    let k = (goal.at.After-compare_leading-reached f).After-cells_of-b_cells in
    let n : f.compare_leading-reached.result.t < 2 ^ 63 = omega (arith, led-few f) in
    selecting-none (by k) (A k) (B k) (R k) _ (entry k).requires.claimed.is-period _ _ _ f.compare_leading-reached.ensures
    (stood k (λ x y. c.cursor_at-b_cursor.result ≡ cursor_at y (pos f.compare_leading-reached.result.t)) (simp plain at c.cursor_at-b_cursor.ensures)) c.unknown-picked.ensures

-- ---- a granule
abbrev At : Type 0
At = At-loop-reached

-- the loop goes on
abbrev In : Type 0
In = In-loop-reached

abbrev at_of : In → At
at_of i = (goal.at.In-loop-reached i).At-loop-reached

abbrev base : At → Lent
base l = (goal.at.At-loop-reached l).After-cells_of-b_cells

near : (i : In) → (at_of i).loop-reached.reached.t ≤ pool_limit
near i = let s = entry (base (at_of i)) in few s.requires.fillable.sounds s.requires.claimed (omega (arith, i.loop-reached-test.true))

pub label_of-j-requires : goal.label_of-j-requires
label_of-j-requires c =
    let i = (goal.at.label_of-j-requires c).In-loop-reached in
    let l = at_of i in
    let k = base l in
    let n = near i in
    let h = l.loop-reached.invariant.along.stage in
    let x = lent k (λ x y. (sound x ≡ true) × Shown x l.loop-reached.reached.cursor)
    ((entry k).requires.fillable.sounds.0, (pos l.loop-reached.reached.t, simp ints (omega arith), h.follows.cursor, h.stops i.loop-reached-test.true)) in
    record { sound = x.0; shown = x.1 }

abbrev Labelling : Type 0
Labelling = After-label_of-j

abbrev in-of : Labelling → In
in-of c = (goal.at.After-label_of-j c).In-loop-reached

abbrev loop-at : Labelling → At
loop-at c = at_of (in-of c)

-- its label in a
abbrev label : Labelling → ℤ
label c = c.label_of-j.result

label_is : (c : Labelling) → let l = loop-at c in meant (A (base l)) (pos l.loop-reached.reached.t) ≡ some (label c)
label_is c =
    let l = loop-at c in
    stood (base l) (λ x y. (u : ℤ) → l.loop-reached.reached.cursor ≡ cursor_at x u → meant x u ≡ some (label c)) c.label_of-j.ensures (pos l.loop-reached.reached.t) l.loop-reached.invariant.along.stage.follows.cursor

label-fits : (c : Labelling) → SFits w64 (label c)
label-fits c = let s = entry (base (loop-at c)) in Given.label-fits (a-stands s.requires.fillable.sounds s.requires.claimed) (near (in-of c)) (label_is c)

pub overflow_cast-t : goal.overflow_cast-t
overflow_cast-t c = instant-fits (near (in-of c))

-- what is asked of the rows x and y: t is the instant and j the label
abbrev Asks : At → ℤ → ℤ → Row → Row → Type 0
Asks l t j x y =
    (sound x ≡ true) × ((sound y ≡ true) × (Picking (by (base l)) × (Remembers (by (base l)) x y l.loop-reached.picked
    × (Within (2 ^ 49) t × ((meant x t ≡ some j) × ((l.loop-reached.reached.cursor ≡ cursor_at x t) × ((l.loop-reached.b_cursor ≡ cursor_at y t) × (l.loop-reached.fresh ≡ true → t ≡ first (granule x j)))))))))

pub decided-decision-requires : goal.decided-decision-requires
decided-decision-requires c =
    let s = (goal.at.decided-decision-requires c).After-label_of-j in
    let l = loop-at s in
    let k = base l in
    let h = l.loop-reached.invariant in
    let g = h.along in
    let n = near (in-of s) in
    let m : l.loop-reached.reached.t < 2 ^ 63 = omega arith in
    let j = label-fits s in
    let e = label_is s in
    let v = (entry k).requires.fillable in
    let x = lent k (Asks l (to_z w64 (of_z w64 (pos l.loop-reached.reached.t))) (to_z w64 (of_z w64 (label s))))
    (simp plain (v.sounds.0, (v.sounds.1, (v.numbers, (h.remembers, (simp ints (omega arith), (e, (g.stage.follows.cursor, (g.is-cursor, λ f. g.begins f (in-of s).loop-reached-test.true (label s) e))))))))) in
    record { sound = x.0; sound_2 = x.1.0; picking = x.1.1.0; remembers = x.1.1.1.0; within = x.1.1.1.1.0; t_value = x.1.1.1.1.1.0; a_value = x.1.1.1.1.1.1.0; b_value = x.1.1.1.1.1.1.1.0; t_value_2 = x.1.1.1.1.1.1.1.1 }

abbrev Decided : Type 0
Decided = After-decided-decision

abbrev shown : Decided → Labelling
shown c = (goal.at.After-decided-decision c).After-label_of-j

decides : (c : Decided) → let k = base (loop-at (shown c)) in Decides (by k) (A k) (B k) (label (shown c)) c.decided-decision.result
decides c =
    let k = base (loop-at (shown c)) in
    stood k (λ x y. Decides (by k) x y (label (shown c)) c.decided-decision.result) (rw (to_z-of_z (label-fits (shown c))) at c.decided-decision.ensures)

-- the label that its instants are to have
abbrev Labelled : Type 0
Labelled = After-kept-label

abbrev decided-of : Labelled → Decided
decided-of c = (goal.at.After-kept-label c).After-decided-decision

abbrev at_label : Labelled → At
at_label c = loop-at (shown (decided-of c))

abbrev given-label : Labelled → Option ℤ
given-label c = found c.kept-label.result

given_is : (c : Labelled) → given-label c ≡ only (label (shown (decided-of c))) (equal (decided-of c).decided-decision.result.holds (pos 1))
given_is c =
    let j = label-fits (shown (decided-of c)) in
    let h : SFits w64 (decided-of c).decided-decision.result.holds = search rules in
    simp plain at c.kept-label.ensures

given-result : (c : Labelled) → let l = at_label c in let k = base l in given-label c ≡ result (operation_of (Select (by k)) (A k) (B k)) (pos l.loop-reached.reached.t)
given-result c =
    let d = decided-of c in
    let k = base (at_label c) in
    given_is c ∙ decided-label (by k) (A k) (B k) (R k) _ (entry k).requires.claimed.is-period (label (shown d)) d.decided-decision.result (decides d) _ (label_is (shown d))

pub returns-then-not-in_limits : goal.returns-then-not-in_limits
returns-then-not-in_limits c =
    let y = (goal.at.returns-then-not-in_limits c).After-kept-label in
    claim-outside (entry (base (at_label y))).requires.claimed (in-of (shown (decided-of y))).loop-reached-test.true (given-label y) (given-result y) (sym c.in_limits.ensures ∙ not-true _ c.if-not-in_limits.true-raw)

-- ---- its instants
pub compare_stretch-reached-requires : goal.compare_stretch-reached-requires
compare_stretch-reached-requires c =
    let l = at_label (goal.at.compare_stretch-reached-requires c).After-kept-label in
    let s = entry (base l) in
    record { room = along-a s.requires.fillable.sounds s.requires.claimed; follows = l.loop-reached.invariant.along.stage.follows }

abbrev Compared : Type 0
Compared = After-compare_stretch-reached

abbrev labelled-of : Compared → Labelled
labelled-of c = (goal.at.After-compare_stretch-reached c).After-kept-label

abbrev at-compared : Compared → At
at-compared c = at_label (labelled-of c)

stretched : (c : Compared) → let l = at-compared c in let k = base l in
    Stretched (given-label (labelled-of c)) (label (shown (decided-of (labelled-of c)))) (A k) (R k) (entry k).args.period l.loop-reached.reached c.compare_stretch-reached.result
stretched c = rw (to_z-of_z (label-fits (shown (decided-of (labelled-of c))))) at c.compare_stretch-reached.ensures

goes_on : (c : Compared) → (at-compared c).loop-reached.reached.t < c.compare_stretch-reached.result.t
goes_on c =
    let l = at-compared c in
    let k = base l in
    let d = decided-of (labelled-of c) in
    let y = shown d in
    granule-on (by k) (A k) (B k) (R k) _ (entry k).requires.claimed.is-period (label y) d.decided-decision.result (decides d) _ _ _ _ _ l.loop-reached.invariant (in-of y).loop-reached-test.true (label_is y) _ _ (stretched c)

compared-few : (c : Compared) → c.compare_stretch-reached.result.t ≤ pool_limit
compared-few c = let s = entry (base (at-compared c)) in few s.requires.fillable.sounds s.requires.claimed (stretched c).passed.follows.in-room

pub overflow_sub-steps : goal.overflow_sub-steps
overflow_sub-steps c = let h = goes_on (goal.at.overflow_sub-steps c).After-compare_stretch-reached in omega arith

pub overflow_cast-steps : goal.overflow_cast-steps
overflow_cast-steps c = stride-fits (goes_on (goal.at.overflow_cast-steps c).After-compare_stretch-reached) (compared-few (goal.at.overflow_cast-steps c).After-compare_stretch-reached)

pub cursor_on-b_cursor-requires : goal.cursor_on-b_cursor-requires
cursor_on-b_cursor-requires c =
    let f = (goal.at.cursor_on-b_cursor-requires c).After-compare_stretch-reached in
    let l = at-compared f in
    let k = base l in
    let g = goes_on f in
    let n = compared-few f in
    let x = lent k (λ x y. Stride g n l.loop-reached.b_cursor y) (stride-asks g n _ (B k) (entry k).requires.fillable.sounds.1 l.loop-reached.invariant.along.is-cursor) in
    record { sound = x.0; standing = x.1.0; pos_bound = x.1.1 }

-- the cursor of the next instant
next-cursor : (c : After-cursor_on-b_cursor) → let f = (goal.at.After-cursor_on-b_cursor c).After-compare_stretch-reached in c.cursor_on-b_cursor.result ≡ cursor_at (B (base (at-compared f))) (pos f.compare_stretch-reached.result.t)
next-cursor c =
    let f = (goal.at.After-cursor_on-b_cursor c).After-compare_stretch-reached in
    let l = at-compared f in
    let k = base l in
    stride-gave (goes_on f) (compared-few f) _ _ (B k) l.loop-reached.invariant.along.is-cursor
    (stood k (λ x y. (u : ℤ) → l.loop-reached.b_cursor ≡ cursor_at y u → c.cursor_on-b_cursor.result ≡ cursor_at y (u +ℤ to_z w64 (of_z w64 (pos (f.compare_stretch-reached.result.t - l.loop-reached.reached.t))))) c.cursor_on-b_cursor.ensures)

pub loop-reached-smaller : goal.loop-reached-smaller
loop-reached-smaller c = let f = (goal.at.loop-reached-smaller c).After-compare_stretch-reached in omega (arith, goes_on f, (stretched f).passed.follows.in-room)

pub loop-reached-preserved : goal.loop-reached-preserved
loop-reached-preserved c =
    let f = (goal.at.loop-reached-preserved c).After-compare_stretch-reached in
    let l = at-compared f in
    let k = base l in
    let y = labelled-of f in
    let d = decided-of y in
    let i : if_label (given-label y) in_range ≡ true = sym f.in_limits.ensures ∙ not-false _ f.if-not-in_limits.false-raw in
    rw c.any-labelled.ensures
    (selecting-next (by k) (A k) (B k) (R k) _ (entry k).requires.claimed.is-period (label (shown d)) d.decided-decision.result (decides d) _ _ _ _ _ l.loop-reached.invariant (in-of (shown d)).loop-reached-test.true (label_is (shown d)) _ _ (stretched f)
    (sound-valid (A k) (entry k).requires.fillable.sounds.0) (given_is y) i _ (next-cursor (goal.at.loop-reached-preserved c).After-cursor_on-b_cursor))

pub returns : goal.returns
returns c =
    let l = (goal.at.returns c).At-loop-reached in
    let k = base l in
    c.outcome.ensures ∙ seen-matched (operation_of (Select (by k)) (A k) (B k)) (R k) _ _ _ l.loop-reached.invariant.along.stage.seen (omega (arith, c.loop-reached-test.false, (entry k).requires.claimed.is-period))
