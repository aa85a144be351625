-- `strides::next_change` meets its contract: the search ends in the turn, or in the next.
-- Assumes nothing.
use mathlib.Core.Path.{◌≡◌, sym, ◌∙◌, ap, ap₂, subst}
use Prim.Native.Nat.{ℕ, ◌+◌, ◌-◌, ◌^◌, ◌≤◌, ◌<◌}
use native.Mathlib.Omega.{arith}
use borrow.Author.Rules.{sfits_of}
use lib.Dec.{T}
use lib.IntN.{ℤ, pos, nat_abs, ◌+ℤ◌, ◌-ℤ◌}
use lib.Signed.{non_neg}
use lib.ListN.{length, get_or, drop}
use mir.Facts.{to_z-of_z, to_z_pos}
use mir.Syntax.{w32, w64}
use mir.Val.{SFits, of_z, to_z}
use Rattle.integers.specs.Parts.{up}
use Rattle.integers.proofs.Linear.{ints, ◌∴◌}
use Rattle.integers.proofs.Machine.{plain}
use Rattle.calendar.specs.Limits.{pool_limit}
use Rattle.calendar.specs.Meaning.{label_of, empty}
use Rattle.cursors.specs.Search.{run}
use Rattle.cursors.proofs.Numbers.{Numbers, numbers, read_as}
use Rattle.cursors.proofs.Cells.{get_d_any, index-nat, label-full}
use Rattle.cursors.proofs.Bounds.{cell-bound}
use Rattle.cursors.proofs.Cursors.{Bounds, bounds, cursor-eq}
use Rattle.strides.specs.Changes.{passable}
use Rattle.strides.proofs.Changes.{shown, next-within, next-behind, change-in-turn, first-before, change-in-next}
use Rattle.strides.proofs.next_change.Goals as goal
use Rattle.strides.proofs.next_change.Goals.{After-other_from-first, After-other_from-next, After-own-1, Else-next-cells, Start}

known : (c : Start) → Bounds c.args.period c.args.distance c.args.c
known c = let h = c.requires.shown in bounds c.args.period c.args.distance c.args.cells.now c.requires.sound c.args.c (h.0, h.1, h.2)

sizes : (c : Start) → Numbers c.args.period c.args.distance c.args.cells.now
sizes c = numbers c.args.period c.args.distance c.args.cells.now c.requires.sound

-- the index of the cursor's cell, and as the machine has it
abbrev index : Start → ℕ
index c = up c.args.c.index

abbrev cast : Start → ℕ
cast c = nat_abs (to_z w64 (of_z w64 c.args.c.index))

index_is : (c : Start) → T (non_neg (to_z w64 (of_z w64 c.args.c.index))) × (cast c ≡ index c) × (index c < length c.args.cells.now)
index_is c =
    let i = (known c).index-fits in
    simp plain (index-nat c.args.cells.now ((known c).low, (known c).high ∴ (sizes c).period-is ∴ (sizes c).whole ∴ simp ints (omega arith)))

few : (c : Start) → length c.args.cells.now ≤ pool_limit
few c = omega (arith, (sizes c).whole, (sizes c).high)

pub overflow_cast-index : goal.overflow_cast-index
overflow_cast-index c =
    let s = (goal.at.overflow_cast-index c).Start in
    ((index_is s).0, omega (arith, (index_is s).1, (index_is s).2, few s))

pub offset_bounds-cells-index : goal.offset_bounds-cells-index
offset_bounds-cells-index c = let s = (goal.at.offset_bounds-cells-index c).Start in omega (arith, (index_is s).1, (index_is s).2, few s)

pub bounds-cells-index : goal.bounds-cells-index
bounds-cells-index c = let s = (goal.at.bounds-cells-index c).Start in omega (arith, (index_is s).1, (index_is s).2)

pub overflow_add-index : goal.overflow_add-index
overflow_add-index c = let s = (goal.at.overflow_add-index c).Start in omega (arith, (index_is s).1, (index_is s).2, few s)

pub other_from-next-requires : goal.other_from-next-requires
other_from-next-requires c = let s = (goal.at.other_from-next-requires c).Start in omega (arith, (index_is s).1, (index_is s).2)

-- the label's cell
abbrev start : After-own-1 → Start
start c = (goal.at.After-own-1 c).Start

abbrev own : After-own-1 → ℤ
own c = get_or (start c).args.cells.now (cast (start c)) (pos 0)

own-fits : (c : After-own-1) → SFits w32 (own c)
own-fits c = sfits_of c.own-1.given

own_is : (c : After-own-1) → get_or (start c).args.cells.now (index (start c)) empty ≡ own c
own_is c =
    let s = start c in
    let l = s.args.cells.now in
    get_d_any l (index s) empty (pos 0) (index_is s).2 ∙ ap (λ (i : ℕ). get_or l i (pos 0)) (sym (index_is s).1)

own-labelled : (c : After-own-1) → own c ≡ empty → ⊥
own-labelled c e =
    let s = start c in
    let h = s.requires.shown in
    (shown s.args.period s.args.distance s.args.cells.now s.requires.sound s.args.c h.0 h.3.0 h.2 h.3.1).0 (own_is c ∙ e)

own-bound : (c : After-own-1) → SFits w32 (own c -ℤ (start c).args.distance)
own-bound c =
    let s = start c in
    let b = cell-bound s.args.period s.args.distance s.args.cells.now s.requires.sound (index s) (own c) (ap label_of (own_is c) ∙ label-full (own c) (own-labelled c)) in
    b ∴ (sizes s).distance_is ∴ (sizes s).low ∴ (sizes s).middle ∴ (sizes s).high ∴ simp ints (omega arith)

-- where the search in the turn ends
abbrev Searched : Type 0
Searched = After-other_from-next

next-is : (c : Searched) → let s = start (goal.at.After-other_from-next c).After-own-1 in c.other_from-next.result ≡ index s + 1 + run (passable (own (goal.at.After-other_from-next c).After-own-1)) (drop (index s + 1) s.args.cells.now)
next-is c =
    let s = start (goal.at.After-other_from-next c).After-own-1 in
    let l = s.args.cells.now in
    c.other_from-next.ensures ∙ ap₂ (λ (i : ℕ) (z : ℤ). i + 1 + run (passable z) (drop (i + 1) l)) (index_is s).1 (to_z-of_z (own-fits (goal.at.After-other_from-next c).After-own-1))

within : (c : Searched) → let s = start (goal.at.After-other_from-next c).After-own-1 in (index s < c.other_from-next.result) × (c.other_from-next.result ≤ length s.args.cells.now)
within c =
    let s = start (goal.at.After-other_from-next c).After-own-1 in
    let h = s.requires.shown in
    let b = known s in (
      next-behind s.args.period s.args.distance s.args.cells.now s.requires.sound s.args.c h.0 h.2 b.low b.high (own (goal.at.After-other_from-next c).After-own-1) (own_is (goal.at.After-other_from-next c).After-own-1) (own-labelled (goal.at.After-other_from-next c).After-own-1) _ (next-is c),
      next-within s.args.period s.args.distance s.args.cells.now s.requires.sound s.args.c h.0 h.2 b.low b.high (own (goal.at.After-other_from-next c).After-own-1) (own_is (goal.at.After-other_from-next c).After-own-1) (own-labelled (goal.at.After-other_from-next c).After-own-1) _ (next-is c),
    )

small : (c : Searched) → c.other_from-next.result < 2 ^ 63
small c = omega (arith, (within c).1, few (start (goal.at.After-other_from-next c).After-own-1))

pub returns-then-next-cells : goal.returns-then-next-cells
returns-then-next-cells c u e =
    let a = (goal.at.returns-then-next-cells c).After-other_from-next in
    let s = start (goal.at.After-other_from-next a).After-own-1 in
    let b = known s in
    let i = (index_is s).1 in
    let w = within a in
    let m : (a.other_from-next.result - cast s) < 2 ^ 63 = omega (arith, small a) in
    change-in-turn s.args.period s.args.distance s.args.cells.now s.requires.sound s.args.c u e b.low b.high (own (goal.at.After-other_from-next a).After-own-1) (own_is (goal.at.After-other_from-next a).After-own-1) (own-labelled (goal.at.After-other_from-next a).After-own-1) _ (next-is a) _
    c.if-next-cells.true
    (cursor-eq _ _ _ _ (to_z_pos w64 (small a)) (to_z-of_z b.rise-fits))
    (to_z_pos w64 m ∙ (i ∴ w ∴ simp ints (omega arith)))

pub overflow_cast-distance : goal.overflow_cast-distance
overflow_cast-distance c =
    let s = start (goal.at.overflow_cast-distance c).After-own-1 in
    let d = s.ranges.distance in
    (sizes s).distance_is ∴ (sizes s).middle ∴ (sizes s).high ∴ simp (plain, ints) (omega arith)

-- the label's cell in the next turn
abbrev lowered : Else-next-cells → ℤ
lowered c = let o = (goal.at.Else-next-cells c).After-own-1 in to_z w32 (of_z w32 (own o)) -ℤ to_z w32 (of_z w32 (to_z w64 (of_z w64 (start o).args.distance)))

lowered_is : (c : Else-next-cells) → let o = (goal.at.Else-next-cells c).After-own-1 in lowered c ≡ own o -ℤ (start o).args.distance
lowered_is c =
    let o = (goal.at.Else-next-cells c).After-own-1 in
    let d = (start o).ranges.distance in
    let f = own-fits o in
    let g = simp plain at (overflow_cast-distance c) in
    simp plain

pub overflow_sub-own : goal.overflow_sub-own
overflow_sub-own c = subst (SFits w32) (sym (lowered_is c)) (own-bound (goal.at.overflow_sub-own c).After-own-1)

-- where the search in the next turn ends
first-is : (c : After-other_from-first) → let o = (goal.at.After-other_from-first c).After-own-1 in c.other_from-first.result ≡ run (passable (own o -ℤ (start o).args.distance)) (start o).args.cells.now
first-is c =
    let o = (goal.at.After-other_from-first c).After-own-1 in
    let e = ap (λ (z : ℤ). run (passable z) (start o).args.cells.now) (read_as {w = w32} {x = lowered (goal.at.After-other_from-first c).Else-next-cells} (lowered_is (goal.at.After-other_from-first c).Else-next-cells) (own-bound o)) in
    omega (arith, c.other_from-first.ensures, e)

ended : (c : Else-next-cells) → length (start (goal.at.Else-next-cells c).After-own-1).args.cells.now ≤ c.other_from-next.result
ended c = omega arith

first-few : (c : After-other_from-first) → let o = (goal.at.After-other_from-first c).After-own-1 in c.other_from-first.result ≤ index (start o)
first-few c =
    let a = (goal.at.After-other_from-first c).After-other_from-next in
    let o = (goal.at.After-other_from-next a).After-own-1 in
    let s = start o in
    let h = s.requires.shown in
    let b = known s in
    first-before s.args.period s.args.distance s.args.cells.now s.requires.sound s.args.c h.0 h.2 b.low b.high (own o) (own_is o) (own-labelled o) _ (next-is a) _ (ended (goal.at.After-other_from-first c).Else-next-cells) (first-is c)

-- how many instants on it is
steps-few : (c : After-other_from-first) → let a = (goal.at.After-other_from-first c).After-other_from-next in (a.other_from-next.result - cast (start (goal.at.After-other_from-next a).After-own-1) + c.other_from-first.result) < 2 ^ 63
steps-few c =
    let a = (goal.at.After-other_from-first c).After-other_from-next in
    let s = start (goal.at.After-other_from-next a).After-own-1 in
    omega (arith, first-few c, (index_is s).2, few s, (within a).1)

pub overflow_cast-result-2 : goal.overflow_cast-result-2
overflow_cast-result-2 c =
    let s = start (goal.at.overflow_cast-result-2 c).After-own-1 in
    first-few c ∴ (index_is s).2 ∴ few s ∴ simp ints (omega arith)

pub overflow_add-result : goal.overflow_add-result
overflow_add-result c =
    let s = start (goal.at.overflow_add-result c).After-own-1 in
    let r = (known s).rise-fits in
    let d = s.ranges.distance in
    simp plain (known s).more-fits

pub overflow_add-result-2 : goal.overflow_add-result-2
overflow_add-result-2 c = omega (arith, steps-few (goal.at.overflow_add-result-2 c).After-other_from-first)

pub overflow_cast-result-3 : goal.overflow_cast-result-3
overflow_cast-result-3 c = steps-few (goal.at.overflow_cast-result-3 c).After-other_from-first ∴ simp ints (omega arith)

pub returns : goal.returns
returns c u e =
    let f = (goal.at.returns c).After-other_from-first in
    let a = (goal.at.After-other_from-first f).After-other_from-next in
    let o = (goal.at.After-other_from-next a).After-own-1 in
    let s = start o in
    let b = known s in
    let i = (index_is s).1 in
    let w = within a in
    let n = first-few f in
    let m : f.other_from-first.result < 2 ^ 63 = omega (arith, n, (index_is s).2, few s) in
    let r = (known s).rise-fits in
    let d = s.ranges.distance in
    change-in-next s.args.period s.args.distance s.args.cells.now s.requires.sound s.args.c u e b.low b.high (own o) (own_is o) (own-labelled o) _ (next-is a) _ (ended (goal.at.After-other_from-first f).Else-next-cells) (first-is f) _
    (cursor-eq _ _ _ _ (to_z_pos w64 m) (read_as {w = w64} {x = to_z w64 (of_z w64 s.args.c.rise) +ℤ to_z w64 (of_z w64 s.args.distance)} (simp plain) b.more-fits))
    (to_z_pos w64 (steps-few f) ∙ (i ∴ w ∴ simp ints (omega arith)))
