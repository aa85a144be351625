-- `match_by_granule::combining::match_combine` meets its contract: each turn of the loop decides a granule of b and compares its instants.
-- Assumes nothing.
use borrow.Author.Tests.{not-true, not-false}
use mathlib.Core.Path.{◌≡◌, sym, ◌∙◌}
use mathlib.Core.Option.{Option, some}
use mathlib.Core.Bool.{true}
use Prim.Native.Nat.{◌-◌, ◌^◌, ◌≤◌, ◌<◌}
use native.Mathlib.Omega.{arith}
use lib.IntN.{ℤ, pos, ◌+ℤ◌}
use mir.Facts.{to_z-of_z}
use mir.Syntax.{w64}
use mir.Val.{SFits, to_z, of_z}
use Rattle.integers.proofs.Linear.{ints}
use Rattle.integers.proofs.Machine.{plain}
use Rattle.calendar.specs.Limits.{in_range, pool_limit}
use Rattle.calendar.specs.Meaning.{Row, meant}
use Rattle.calendar.specs.Lists.{if_label, first}
use Rattle.calendar.specs.Granules.{granule}
use Rattle.calendar.specs.Compute.{result}
use Rattle.calendar.specs.Sound.{sound}
use Rattle.granules.proofs.Sound.{sound-valid}
use Rattle.cursors.specs.Found.{found, Within, Near}
use Rattle.cursors.specs.Cursor.{cursor_at, Shown}
use Rattle.kinds.specs.declared.Kind.TheVariants.{Combine}
use Rattle.kinds.specs.Operations.{operation_of}
use Rattle.kinds.specs.Stands.{row_in}
use Rattle.match_shared.proofs.Lent.{lent_row}
use Rattle.match_shared.proofs.Seen.{seen-matched}
use Rattle.match_shared.proofs.Claims.{claim-outside}
use Rattle.match_stretches.specs.Stretch.{Stretched}
use Rattle.match_by_granule.proofs.Given as Given
use Rattle.match_by_granule.proofs.Given.{b-stands, few, along-b, instant-fits, instant-near, stride-fits, Stride, stride-asks, stride-gave}
use Rattle.match_by_granule.proofs.Combines.{combining-none, granule-on, combining-next}
use Rattle.match_by_granule.proofs.combining.match_combine.Goals as goal
use Rattle.match_by_granule.proofs.combining.match_combine.Goals.{After-cells_of-b_cells, After-combined-label, After-compare_leading-reached, After-compare_stretch-reached, After-cursor_on-a_cursor, After-label_of-k, At-loop-reached, In-loop-reached, Start}

-- ---- the rows that are lent
pub cells_of-a_cells-requires : goal.cells_of-a_cells-requires
cells_of-a_cells-requires c = let h = c.requires.claimed in record { pos_bound = h.a-period; a_in_bounds = h.a-end }

pub cells_of-b_cells-requires : goal.cells_of-b_cells-requires
cells_of-b_cells-requires c = let h = c.requires.claimed in record { pos_bound = h.b-period; a_in_bounds = h.b_end }

abbrev Lent : Type 0
Lent = After-cells_of-b_cells

abbrev entry : Lent → Start
entry k = (goal.at.After-cells_of-b_cells k).Start

abbrev A : Lent → Row
A k = row_in (entry k).args.pool.now (entry k).args.a

abbrev B : Lent → Row
B k = row_in (entry k).args.pool.now (entry k).args.b

abbrev R : Lent → Row
R k = row_in (entry k).args.pool.now (entry k).args.r

module _ (k : Lent) (P : Row → Row → Type 0) where
  lent : P (A k) (B k) → P (lent_row (entry k).args.a k.cells_of-a_cells.result.now) (lent_row (entry k).args.b k.cells_of-b_cells.result.now)
  lent = let s = entry k in Given.lent s.requires.fillable.sounds s.requires.claimed k.cells_of-a_cells.ensures k.cells_of-b_cells.ensures P

  stood : P (lent_row (entry k).args.a k.cells_of-a_cells.result.now) (lent_row (entry k).args.b k.cells_of-b_cells.result.now) → P (A k) (B k)
  stood = let s = entry k in Given.stood s.requires.fillable.sounds s.requires.claimed k.cells_of-a_cells.ensures k.cells_of-b_cells.ensures P

-- ---- up to the first label
pub compare_leading-reached-requires : goal.compare_leading-reached-requires
compare_leading-reached-requires c = let s = entry c in along-b s.requires.fillable.sounds s.requires.claimed

led-few : (c : After-compare_leading-reached) → c.compare_leading-reached.result.t ≤ pool_limit
led-few c = let s = entry (goal.at.After-compare_leading-reached c).After-cells_of-b_cells in few s.requires.fillable.sounds s.requires.claimed c.compare_leading-reached.ensures.follows.in-room

pub overflow_cast-reached : goal.overflow_cast-reached
overflow_cast-reached c = instant-fits (led-few (goal.at.overflow_cast-reached c).After-compare_leading-reached)

pub cursor_at-a_cursor-requires : goal.cursor_at-a_cursor-requires
cursor_at-a_cursor-requires c =
    let f = (goal.at.cursor_at-a_cursor-requires c).After-compare_leading-reached in
    let x = lent (goal.at.After-compare_leading-reached f).After-cells_of-b_cells (λ x y. (sound x ≡ true) × Near (to_z w64 (of_z w64 (pos f.compare_leading-reached.result.t)))) ((entry (goal.at.After-compare_leading-reached f).After-cells_of-b_cells).requires.fillable.sounds.0, instant-near (led-few f)) in
    record { sound = x.0; near = x.1 }

pub loop-reached-init : goal.loop-reached-init
loop-reached-init c =
    let f = (goal.at.loop-reached-init c).After-compare_leading-reached in
    let k = (goal.at.After-compare_leading-reached f).After-cells_of-b_cells in
    let n : f.compare_leading-reached.result.t < 2 ^ 63 = omega (arith, led-few f) in
    combining-none (A k) (B k) (R k) _ (entry k).requires.claimed.is-period _ _ f.compare_leading-reached.ensures
    (stood k (λ x y. c.cursor_at-a_cursor.result ≡ cursor_at x (pos f.compare_leading-reached.result.t)) (simp plain at c.cursor_at-a_cursor.ensures))

-- ---- a granule
abbrev At : Type 0
At = At-loop-reached

-- the loop goes on
abbrev In : Type 0
In = In-loop-reached

abbrev at_of : In → At
at_of i = (goal.at.In-loop-reached i).At-loop-reached

abbrev base : At → Lent
base l = (goal.at.At-loop-reached l).After-cells_of-b_cells

near : (i : In) → (at_of i).loop-reached.reached.t ≤ pool_limit
near i = let s = entry (base (at_of i)) in few s.requires.fillable.sounds s.requires.claimed (omega (arith, i.loop-reached-test.true))

pub label_of-k-requires : goal.label_of-k-requires
label_of-k-requires c =
    let i = (goal.at.label_of-k-requires c).In-loop-reached in
    let l = at_of i in
    let k = base l in
    let n = near i in
    let x = lent k (λ x y. (sound y ≡ true) × Shown y l.loop-reached.reached.cursor)
    ((entry k).requires.fillable.sounds.1, (pos l.loop-reached.reached.t, simp ints (omega arith), l.loop-reached.invariant.stage.follows.cursor, l.loop-reached.invariant.stage.stops i.loop-reached-test.true)) in
    record { sound = x.0; shown = x.1 }

abbrev Labelling : Type 0
Labelling = After-label_of-k

abbrev in-of : Labelling → In
in-of c = (goal.at.After-label_of-k c).In-loop-reached

abbrev loop-at : Labelling → At
loop-at c = at_of (in-of c)

-- its label in b
abbrev label : Labelling → ℤ
label c = c.label_of-k.result

label_is : (c : Labelling) → let l = loop-at c in meant (B (base l)) (pos l.loop-reached.reached.t) ≡ some (label c)
label_is c =
    let l = loop-at c in
    stood (base l) (λ x y. (u : ℤ) → l.loop-reached.reached.cursor ≡ cursor_at y u → meant y u ≡ some (label c)) c.label_of-k.ensures (pos l.loop-reached.reached.t) l.loop-reached.invariant.stage.follows.cursor

label-fits : (c : Labelling) → SFits w64 (label c)
label-fits c = let s = entry (base (loop-at c)) in Given.label-fits (b-stands s.requires.fillable.sounds s.requires.claimed) (near (in-of c)) (label_is c)

pub overflow_cast-t : goal.overflow_cast-t
overflow_cast-t c = instant-fits (near (in-of c))

-- what is asked of the rows x and y: t is the instant and k the label
abbrev Asks : At → ℤ → ℤ → Row → Row → Type 0
Asks l t k x y =
    (sound x ≡ true) × ((sound y ≡ true) × (Within (2 ^ 59) t × ((meant y t ≡ some k) × ((l.loop-reached.a_cursor ≡ cursor_at x t) × ((l.loop-reached.reached.cursor ≡ cursor_at y t) × (l.loop-reached.fresh ≡ true → t ≡ first (granule y k)))))))

pub combined-label-requires : goal.combined-label-requires
combined-label-requires c =
    let s = (goal.at.combined-label-requires c).After-label_of-k in
    let l = loop-at s in
    let k = base l in
    let h = l.loop-reached.invariant in
    let n = near (in-of s) in
    let m : l.loop-reached.reached.t < 2 ^ 63 = omega arith in
    let j = label-fits s in
    let e = label_is s in
    let v = (entry k).requires.fillable.sounds in
    let x = lent k (Asks l (to_z w64 (of_z w64 (pos l.loop-reached.reached.t))) (to_z w64 (of_z w64 (label s))))
    (simp plain (v.0, (v.1, (simp ints (omega arith), (e, (h.is-cursor, (h.stage.follows.cursor, λ f. h.begins f (in-of s).loop-reached-test.true (label s) e))))))) in
    record { sound = x.0; sound_2 = x.1.0; within = x.1.1.0; t_value = x.1.1.1.0; a_value = x.1.1.1.1.0; b_value = x.1.1.1.1.1.0; t_value_2 = x.1.1.1.1.1.1 }

-- the label that its instants are to have
abbrev Labelled : Type 0
Labelled = After-combined-label

abbrev shown : Labelled → Labelling
shown c = (goal.at.After-combined-label c).After-label_of-k

abbrev at_label : Labelled → At
at_label c = loop-at (shown c)

abbrev given-label : Labelled → Option ℤ
given-label c = found c.combined-label.result

given-result : (c : Labelled) → let l = at_label c in let k = base l in given-label c ≡ result (operation_of Combine (A k) (B k)) (pos l.loop-reached.reached.t)
given-result c =
    let l = at_label c in
    let n = near (in-of (shown c)) in
    let m : l.loop-reached.reached.t < 2 ^ 63 = omega arith in
    stood (base l) (λ x y. given-label c ≡ result (operation_of Combine x y) (pos l.loop-reached.reached.t)) (simp plain at c.combined-label.ensures)

pub returns-then-not-in_limits : goal.returns-then-not-in_limits
returns-then-not-in_limits c =
    let y = (goal.at.returns-then-not-in_limits c).After-combined-label in
    claim-outside (entry (base (at_label y))).requires.claimed (in-of (shown y)).loop-reached-test.true (given-label y) (given-result y) (sym c.in_limits.ensures ∙ not-true _ c.if-not-in_limits.true-raw)

-- ---- its instants
pub compare_stretch-reached-requires : goal.compare_stretch-reached-requires
compare_stretch-reached-requires c =
    let l = at_label (goal.at.compare_stretch-reached-requires c).After-combined-label in
    let s = entry (base l) in
    record { room = along-b s.requires.fillable.sounds s.requires.claimed; follows = l.loop-reached.invariant.stage.follows }

abbrev Compared : Type 0
Compared = After-compare_stretch-reached

abbrev labelled-of : Compared → Labelled
labelled-of c = (goal.at.After-compare_stretch-reached c).After-combined-label

abbrev at-compared : Compared → At
at-compared c = at_label (labelled-of c)

stretched : (c : Compared) → let l = at-compared c in let k = base l in
    Stretched (given-label (labelled-of c)) (label (shown (labelled-of c))) (B k) (R k) (entry k).args.period l.loop-reached.reached c.compare_stretch-reached.result
stretched c = rw (to_z-of_z (label-fits (shown (labelled-of c)))) at c.compare_stretch-reached.ensures

goes_on : (c : Compared) → (at-compared c).loop-reached.reached.t < c.compare_stretch-reached.result.t
goes_on c =
    let l = at-compared c in
    let k = base l in
    let y = shown (labelled-of c) in
    granule-on (A k) (B k) (R k) _ (entry k).requires.claimed.is-period _ _ _ _ l.loop-reached.invariant (in-of y).loop-reached-test.true (label y) (label_is y) _ _ (stretched c)

compared-few : (c : Compared) → c.compare_stretch-reached.result.t ≤ pool_limit
compared-few c = let s = entry (base (at-compared c)) in few s.requires.fillable.sounds s.requires.claimed (stretched c).passed.follows.in-room

pub overflow_sub-steps : goal.overflow_sub-steps
overflow_sub-steps c = let h = goes_on (goal.at.overflow_sub-steps c).After-compare_stretch-reached in omega arith

pub overflow_cast-steps : goal.overflow_cast-steps
overflow_cast-steps c = stride-fits (goes_on (goal.at.overflow_cast-steps c).After-compare_stretch-reached) (compared-few (goal.at.overflow_cast-steps c).After-compare_stretch-reached)

pub cursor_on-a_cursor-requires : goal.cursor_on-a_cursor-requires
cursor_on-a_cursor-requires c =
    let f = (goal.at.cursor_on-a_cursor-requires c).After-compare_stretch-reached in
    let l = at-compared f in
    let k = base l in
    let g = goes_on f in
    let n = compared-few f in
    let x = lent k (λ x y. Stride g n l.loop-reached.a_cursor x) (stride-asks g n _ (A k) (entry k).requires.fillable.sounds.0 l.loop-reached.invariant.is-cursor) in
    record { sound = x.0; standing = x.1.0; pos_bound = x.1.1 }

-- the cursor of the next instant
next-cursor : (c : After-cursor_on-a_cursor) → let f = (goal.at.After-cursor_on-a_cursor c).After-compare_stretch-reached in c.cursor_on-a_cursor.result ≡ cursor_at (A (base (at-compared f))) (pos f.compare_stretch-reached.result.t)
next-cursor c =
    let f = (goal.at.After-cursor_on-a_cursor c).After-compare_stretch-reached in
    let l = at-compared f in
    let k = base l in
    stride-gave (goes_on f) (compared-few f) _ _ (A k) l.loop-reached.invariant.is-cursor
    (stood k (λ x y. (u : ℤ) → l.loop-reached.a_cursor ≡ cursor_at x u → c.cursor_on-a_cursor.result ≡ cursor_at x (u +ℤ to_z w64 (of_z w64 (pos (f.compare_stretch-reached.result.t - l.loop-reached.reached.t))))) c.cursor_on-a_cursor.ensures)

pub loop-reached-smaller : goal.loop-reached-smaller
loop-reached-smaller c = let f = (goal.at.loop-reached-smaller c).After-compare_stretch-reached in omega (arith, goes_on f, (stretched f).passed.follows.in-room)

pub loop-reached-preserved : goal.loop-reached-preserved
loop-reached-preserved c =
    let f = (goal.at.loop-reached-preserved c).After-compare_stretch-reached in
    let l = at-compared f in
    let k = base l in
    let y = labelled-of f in
    let i : if_label (given-label y) in_range ≡ true = sym f.in_limits.ensures ∙ not-false _ f.if-not-in_limits.false-raw in
    rw c.any-labelled.ensures
    (combining-next (A k) (B k) (R k) _ (entry k).requires.claimed.is-period _ _ _ _ l.loop-reached.invariant (in-of (shown y)).loop-reached-test.true (label (shown y)) (label_is (shown y)) _ _ (stretched f)
    (sound-valid (B k) (entry k).requires.fillable.sounds.1) (given-result y) i _ (next-cursor (goal.at.loop-reached-preserved c).After-cursor_on-a_cursor))

pub returns : goal.returns
returns c =
    let l = (goal.at.returns c).At-loop-reached in
    let k = base l in
    c.outcome.ensures ∙ seen-matched (operation_of Combine (A k) (B k)) (R k) _ _ _ l.loop-reached.invariant.stage.seen (omega (arith, c.loop-reached-test.false, (entry k).requires.claimed.is-period))
