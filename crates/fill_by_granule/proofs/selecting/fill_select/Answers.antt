-- `fill_by_granule::selecting::fill_select` meets its contract: each way does.
-- Assumes nothing.
use borrow.Author.Rules.{sfits_of}
use mathlib.Core.Path.{◌≡◌, refl, sym, ◌∙◌, ap, subst}
use mathlib.Core.Bool.{true, false}
use mathlib.Core.List.{List}
use Prim.Native.Nat.{ℕ, ◌-◌, ◌≤◌, ◌<◌}
use native.Mathlib.Omega.{arith}
use lib.IntN.{ℤ, pos}
use lib.ListN.{length, get_or, take, drop}
use mir.Facts.{sfits_lit, to_z-of_z}
use mir.Syntax.{w32, w64}
use mir.Val.{SFits, to_z, of_z}
use Rattle.integers.specs.Parts.{up}
use Rattle.integers.proofs.Machine.{plain, test-eq}
use Rattle.calendar.specs.Sound.{labels_of}
use Rattle.granules.proofs.Sound.{sound-valid}
use Rattle.alignment.specs.Pass.{Whole}
use Rattle.alignment.proofs.Changes.{all_whole}
use Rattle.one_cell.specs.Serves.{Serves}
use Rattle.kinds.specs.declared.Operand.{Operand}
use Rattle.kinds.specs.declared.Kind.TheVariants.{Select}
use Rattle.kinds.specs.declared.Selection.{Selection}
use Rattle.kinds.specs.declared.Selection.TheVariants.{Down, Up, Intersecting}
use Rattle.kinds.specs.Stands.{row_in}
use Rattle.select_granules.specs.Deciding.{is_up}
use Rattle.granules.proofs.Tests.{true≢false}
use Rattle.fill_by_granule.proofs.OwnTurn.{Owned, up-owned, own-fillable, own-placed, own-fills}
use Rattle.fill_by_granule.proofs.selecting.fill_select.Goals as goal
use Rattle.fill_by_granule.proofs.selecting.fill_select.Goals.{After-end_of-b_end, After-labelled_instants, After-serves, Start, Then-b-eq1, Then-is_up, Then-labelled_instants-b, Then-serves}

pub end_of-b_end-requires : goal.end_of-b_end-requires
end_of-b_end-requires c = record { pos_bound = c.requires.placed.b-period; a_bound = c.requires.placed.b_end }

-- ---- select-up, and b has one cell
is_up_lem : (s : Selection) → is_up s ≡ true → s ≡ Up
is_up_lem (Down p) e = absurd (true≢false e refl)
is_up_lem Up e = refl
is_up_lem (Intersecting p) e = absurd (true≢false e refl)

abbrev start : Then-b-eq1 → Start
start c = (goal.at.Then-b-eq1 c).Start

one : (c : Then-b-eq1) → (start c).args.b.period ≡ pos 1
one c = (test-eq w64 _ (pos 1) (sfits_of c.struct_told-1.given.1.0.1) (sfits_lit tt)).0 c.if-b-eq1.true

owned : (c : Then-b-eq1) → let a = (start c).args in Owned (Select a.by) (row_in a.pool.now a.a) (row_in a.pool.now a.b)
owned c =
    let t = (goal.at.Then-b-eq1 c).Then-is_up in
    let s = start c in
    let a = s.args in
    let e = is_up_lem a.by (sym t.is_up.ensures ∙ t.if-is_up.true) in
    subst (λ (b : Selection). Owned (Select b) (row_in a.pool.now a.a) (row_in a.pool.now a.b)) (sym e)
    (up-owned a.a a.b a.pool.now s.requires.fillable.sounds (one c))

pub fill_shift-requires : goal.fill_shift-requires
fill_shift-requires c =
    let d = (goal.at.fill_shift-requires c).Then-b-eq1 in
    let s = start d in
    let a = s.args in
    let g = s.requires.fillable in
    record {
      fillable = own-fillable a.a a.b a.pool.now g.sounds (one d) g.at-most;
      placed = rw (to_z-of_z {w = w64} {z = a.a.period} (sfits_of c.struct_told-then-b-eq1-1.given.1.0.1)) (own-placed a.a a.b a.pool.now g.sounds (one d) (Select a.by) a.span a.at a.period s.requires.placed (owned d));
    }

pub shape_of-pool-then-b-eq1 : goal.shape_of-pool-then-b-eq1
shape_of-pool-then-b-eq1 c = c.fill_shift.ensures.lengths

pub returns-then-b-eq1 : goal.returns-then-b-eq1
returns-then-b-eq1 c =
    let d = (goal.at.returns-then-b-eq1 c).Then-b-eq1 in
    let s = start d in
    let a = s.args in
    own-fills a.a a.b a.pool.now s.requires.fillable.sounds (one d) (Select a.by) a.span a.at a.period s.requires.placed (owned d) _ _ c.fill_shift.ensures

-- ---- a selection by Pick
-- the operands stand in the pool
a_in : (s : Start) → s.args.a.start < length s.args.pool.now
a_in s =
    let p = s.requires.placed in
    let l = (sound-valid (row_in s.args.pool.now s.args.a) s.requires.fillable.sounds.0).positive.0 in
    omega (arith, p.a-end, p.room, l)

b-in : (c : After-end_of-b_end) → let a = c.args in (a.b.start ≤ c.end_of-b_end.result) × (c.end_of-b_end.result ≤ length a.pool.now)
b-in c = let p = c.requires.placed in let e = c.end_of-b_end.ensures in (omega (arith, e), omega (arith, e, p.b_end, p.room))

pub offset_bounds-pool-a_start : goal.offset_bounds-pool-a_start
offset_bounds-pool-a_start c = let s = (goal.at.offset_bounds-pool-a_start c).Start in omega (arith, a_in s, s.requires.placed.at-most)

pub slice_copy_out-serves : goal.slice_copy_out-serves
slice_copy_out-serves c = a_in (goal.at.slice_copy_out-serves c).Start

pub serves-requires : goal.serves-requires
serves-requires c = let p = c.requires.placed in omega (arith, p.room, p.at-most)

pub offset_bounds-pool-b_start : goal.offset_bounds-pool-b_start
offset_bounds-pool-b_start c =
    let e = (goal.at.offset_bounds-pool-b_start c).After-end_of-b_end in
    omega (arith, (b-in e).0, (b-in e).1, e.requires.placed.at-most)

pub slice_bounds-labelled_instants-count : goal.slice_bounds-labelled_instants-count
slice_bounds-labelled_instants-count c = (b-in (goal.at.slice_bounds-labelled_instants-count c).After-end_of-b_end).0

pub slice_bounds-labelled_instants-start : goal.slice_bounds-labelled_instants-start
slice_bounds-labelled_instants-start c = (b-in (goal.at.slice_bounds-labelled_instants-start c).After-end_of-b_end).0

pub slice_bounds-labelled_instants-end : goal.slice_bounds-labelled_instants-end
slice_bounds-labelled_instants-end c = (b-in (goal.at.slice_bounds-labelled_instants-end c).After-end_of-b_end).1

-- ---- a has one cell, and b no gaps
abbrev Counted : Type 0
Counted = Then-labelled_instants-b

abbrev looked : Counted → Then-serves
looked c = (goal.at.Then-labelled_instants-b c).Then-serves

abbrev ended : Counted → After-end_of-b_end
ended c = (goal.at.Then-labelled_instants-b c).After-end_of-b_end

one_of : (r : Operand) (period : ℕ) (pool : List ℤ) → SFits w64 r.period → SFits w32 (get_or pool r.start (pos 0))
    → Serves (to_z w64 (of_z w64 r.period)) (to_z w32 (of_z w32 (get_or pool r.start (pos 0)))) period → Serves r.period (get_or pool r.start (pos 0)) period
one_of r period pool f g e = simp plain at e

serves : (c : Counted) → let a = (ended c).args in Serves a.a.period (get_or a.pool.now a.a.start (pos 0)) a.period
serves c =
    let t = looked c in
    let r = (goal.at.Then-serves t).After-serves in
    let a = (ended c).args in
    one_of a.a a.period a.pool.now (sfits_of r.struct_told-else-is_up-1.given.1.0.1) (sfits_of r.serves-arg-1.given) (r.serves.ensures t.if-serves.true)

whole : (c : Counted) → let a = (ended c).args in Whole (row_in a.pool.now a.b)
whole c =
    let e = ended c in
    let s = (goal.at.After-end_of-b_end e).Start in
    let a = s.args in
    let k = (goal.at.Then-labelled_instants-b c).After-labelled_instants in
    let r = k.labelled_instants.result in
    let is : r ≡ a.b.period = (test-eq w64 r a.b.period (sfits_of k.labelled_instants.type_inv) (sfits_of c.struct_told-then-serves-1.given.1.0.1)).0 c.if-labelled_instants-b.true in
    let n : e.end_of-b_end.result - a.b.start ≡ up a.b.period = omega (arith, e.end_of-b_end.ensures) in
    let l = ap up (sym k.labelled_instants.ensures ∙ is) in
    all_whole (row_in a.pool.now a.b) (sound-valid (row_in a.pool.now a.b) s.requires.fillable.sounds.1)
    (ap (λ (m : ℕ). length (labels_of (take m (drop a.b.start a.pool.now)))) (sym n) ∙ l)

picks : (c : Counted) → is_up (ended c).args.by ≡ false
picks c = sym c.is_up.ensures ∙ c.if-is_up.false

pub fill_instants-requires : goal.fill_instants-requires
fill_instants-requires c =
    let k = (goal.at.fill_instants-requires c).Then-labelled_instants-b in
    let s = (goal.at.fill_instants-requires c).Start in
    let n = s.ranges.span in
    record { fillable = s.requires.fillable; placed = simp plain s.requires.placed; by_value = picks k; serves = serves k; whole = whole k }

pub shape_of-pool-then-labelled_instants-b : goal.shape_of-pool-then-labelled_instants-b
shape_of-pool-then-labelled_instants-b c = c.fill_instants.ensures.lengths

pub returns-then-labelled_instants-b : goal.returns-then-labelled_instants-b
returns-then-labelled_instants-b c = c.fill_instants.ensures

-- ---- any rows
pub fill_granules-requires : goal.fill_granules-requires
fill_granules-requires c =
    let s = (goal.at.fill_granules-requires c).Start in
    let n = s.ranges.span in
    record { fillable = s.requires.fillable; placed = simp plain s.requires.placed }

pub shape_of-pool : goal.shape_of-pool
shape_of-pool c = c.fill_granules.ensures.lengths

pub returns : goal.returns
returns c = c.fill_granules.ensures
