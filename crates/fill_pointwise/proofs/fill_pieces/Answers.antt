-- `fill_pointwise::fill_pieces` meets its contract: each turn of the loop writes the cells of one piece.
-- Assumes nothing.
use borrow.Author.Rules.{rules}
use mathlib.Core.Path.{◌≡◌, refl, sym, ◌∙◌, ap, subst}
use mathlib.Core.Bool.{true, false}
use mathlib.Core.List.{List}
use Prim.Native.Nat.{ℕ, ◌+◌, ◌-◌, ◌≤◌, ◌<◌}
use native.Mathlib.Omega.{arith}
use lib.IntN.{ℤ, pos, nat_abs}
use lib.Signed.{◌≤ℤ◌}
use lib.ListN.{length}
use mir.Facts.{to_z-of_z}
use mir.Syntax.{w64}
use mir.Val.{SFits, to_z, of_z}
use Rattle.integers.specs.Parts.{up}
use Rattle.integers.proofs.Linear.{ints, ◌∴◌}
use Rattle.integers.proofs.Order.{pos-up}
use Rattle.calendar.specs.Limits.{pool_limit}
use Rattle.calendar.specs.Sound.{sound}
use Rattle.cursors.specs.Found.{Near}
use Rattle.cursors.proofs.Numbers.{numbers}
use Rattle.kinds.specs.declared.Operand.{Operand}
use Rattle.kinds.specs.declared.Kind.TheVariants.{ByLabels}
use Rattle.kinds.specs.Operations.{operation_of}
use Rattle.kinds.specs.Stands.{end, row_in}
use Rattle.pieces.specs.declared.Place.{Place}
use Rattle.pieces.specs.Places.{Stands, place_on}
use Rattle.fill_shared.proofs.Cells.{lent_is, natural, cast-natural}
use Rattle.fill_shared.proofs.Filling.{Lent, Filling, row_of, lent_of, first_two, fills_two}
use Rattle.pieces.proofs.Places.{place-first, place-cell, place-rise}
use Rattle.fill_pointwise.proofs.Joined.{R, Pieced, pieced-few, piece-room, piece-on, labels-fill}
use Rattle.fill_pointwise.proofs.Pieces.{cells-length}
use Rattle.fill_shared.specs.Placed.{Fills}
use Rattle.fill_pointwise.specs.Pieces.{label_cells, piece_label}
use Rattle.fill_pointwise.proofs.fill_pieces.Invariants.{lent_by}
use Rattle.fill_pointwise.proofs.fill_pieces.Goals as goal
use Rattle.fill_pointwise.proofs.fill_pieces.Goals.{After-fill_piece-counts, After-lesser-count, After-loop-t, After-place_from-from_b, After-struct_known-in-loop-t-4-1, After-struct_told-4-1, At-loop-t, In-loop-t, Start}

abbrev Begun : Type 0
Begun = After-struct_told-4-1

abbrev At-loop : Type 0
At-loop = At-loop-t

abbrev In-loop : Type 0
In-loop = In-loop-t

abbrev loop-of : In-loop → At-loop
loop-of i = (goal.at.In-loop-t i).At-loop-t

abbrev begun : At-loop → Begun
begun l = (goal.at.At-loop-t l).After-struct_told-4-1

abbrev entry : Begun → Start
entry c = (goal.at.After-struct_told-4-1 c).Start

pub overflow_cast-a_period : goal.overflow_cast-a_period
overflow_cast-a_period c = cast-natural (search rules) c.requires.placed.a-period

pub overflow_cast-b_period : goal.overflow_cast-b_period
overflow_cast-b_period c = cast-natural (search rules) c.requires.placed.b-period

-- ---- the rows
abbrev lent_in : Operand → Lent
lent_in r = lent_by r.start (nat_abs (to_z w64 (of_z w64 r.period))) (to_z w64 (of_z w64 r.distance))

-- its period is the number of its cells
whole : (r : Operand) → up (lent_in r).period ≡ (lent_in r).end - (lent_in r).start
whole r = omega arith

lent-in : (r : Operand) → SFits w64 r.period → pos 0 ≤ℤ r.period → lent_of r (end r) ≡ lent_in r
lent-in r f h =
    let n = natural f h in
    let e : to_z w64 (of_z w64 r.period) ≡ pos (nat_abs (to_z w64 (of_z w64 r.period))) = to_z-of_z f ∙ sym (pos-up h) ∙ ap pos (sym n) in
    λ k. record { start = r.start; end = r.start + sym n k; period = e k; distance = to_z w64 (of_z w64 r.distance) }

a-is : (c : Begun) → let s = entry c in row_of (lent_of s.args.a (end s.args.a)) s.args.pool.now ≡ row_in s.args.pool.now s.args.a
a-is c = lent_is (entry c).args.a _ _ refl (search rules) (search rules)

b-is : (c : Begun) → let s = entry c in row_of (lent_of s.args.b (end s.args.b)) s.args.pool.now ≡ row_in s.args.pool.now s.args.b
b-is c = lent_is (entry c).args.b _ _ refl (search rules) (search rules)

a-lent : (c : Begun) → let s = entry c in lent_of s.args.a (end s.args.a) ≡ lent_in s.args.a
a-lent c = lent-in (entry c).args.a (search rules) (entry c).requires.placed.a-period

b-lent : (c : Begun) → let s = entry c in lent_of s.args.b (end s.args.b) ≡ lent_in s.args.b
b-lent c = lent-in (entry c).args.b (search rules) (entry c).requires.placed.b-period

same-lent : (P : Lent → Lent → Type 0) {a b c d : Lent} → a ≡ c → b ≡ d → P a b → P c d
same-lent P {a} {b} {c} {d} e f p = subst (λ (x : Lent). P c x) f (subst (λ (x : Lent). P x b) e p)

first : (c : Begun) → let s = entry c in
    Filling (ByLabels s.args.set) (lent_in s.args.a) (lent_in s.args.b) s.args.at s.args.period s.args.pool.now s.args.pool.now false 0
first c =
    let s = entry c in
    same-lent (λ x y. Filling (ByLabels s.args.set) x y s.args.at s.args.period s.args.pool.now s.args.pool.now false 0) (a-lent c) (b-lent c)
    (first_two _ _ refl s.args.a s.args.b _ _ _ _ _ refl (a-is c) _ refl (b-is c) s.requires.fillable s.requires.placed)

pub loop-t-init : goal.loop-t-init
loop-t-init c =
    let s = entry c in
    let h = first c in
    record {
      within = omega arith;
      cells = refl;
      labels = refl;
      beyond = refl;
      first = place-first (lent_in s.args.a).period (lent_in s.args.a).distance (row_of (lent_in s.args.a) s.args.pool.now).cells h.lends.is-fillable.sounds.0;
      second = place-first (lent_in s.args.b).period (lent_in s.args.b).distance (row_of (lent_in s.args.b) s.args.pool.now).cells h.lends.is-fillable.sounds.1;
    }

-- ---- a turn
a-cell : (l : At-loop) → l.loop-t.x.cell < nat_abs (to_z w64 (of_z w64 (entry (begun l)).args.a.period))
a-cell l =
    let r = lent_in (entry (begun l)).args.a in
    place-cell r.period r.distance (row_of r (entry (begun l)).args.pool.now).cells (first (begun l)).lends.is-fillable.sounds.0 l.loop-t.x (pos l.loop-t.t) l.loop-t.invariant.first

b-cell : (l : At-loop) → l.loop-t.y.cell < nat_abs (to_z w64 (of_z w64 (entry (begun l)).args.b.period))
b-cell l =
    let r = lent_in (entry (begun l)).args.b in
    place-cell r.period r.distance (row_of r (entry (begun l)).args.pool.now).cells (first (begun l)).lends.is-fillable.sounds.1 l.loop-t.y (pos l.loop-t.t) l.loop-t.invariant.second

pub overflow_sub-period : goal.overflow_sub-period
overflow_sub-period c = c.loop-t.invariant.within

pub overflow_sub-a_period : goal.overflow_sub-a_period
overflow_sub-a_period c = omega (arith, a-cell (goal.at.overflow_sub-a_period c).At-loop-t)

pub overflow_sub-b_period : goal.overflow_sub-b_period
overflow_sub-b_period c = omega (arith, b-cell (goal.at.overflow_sub-b_period c).At-loop-t)

abbrev inside : After-lesser-count → In-loop
inside c = (goal.at.After-lesser-count c).In-loop-t

-- the piece
record Count (c : After-lesser-count) : Type 0 where
  some : 0 < c.lesser-count.result
  room : (loop-of (inside c)).loop-t.t + c.lesser-count.result ≤ (entry (begun (loop-of (inside c)))).args.period
  first : (loop-of (inside c)).loop-t.x.cell + c.lesser-count.result ≤ nat_abs (to_z w64 (of_z w64 (entry (begun (loop-of (inside c)))).args.a.period))
  second : (loop-of (inside c)).loop-t.y.cell + c.lesser-count.result ≤ nat_abs (to_z w64 (of_z w64 (entry (begun (loop-of (inside c)))).args.b.period))

counted : (c : After-lesser-count) → Count c
counted c =
    let i = inside c in
    let l = (goal.at.In-loop-t i).At-loop-t in
    let e = c.lesser-count.ensures in
    let f = c.lesser.ensures in
    let x = a-cell l in
    let y = b-cell l in
    let w = i.loop-t-test.true in
    record { some = omega (arith, e, f, x, y, w); room = omega (arith, e, f, w); first = omega (arith, e, f, x); second = omega (arith, e, f, y) }

pub place_from-from_a-requires : goal.place_from-from_a-requires
place_from-from_a-requires c =
    let l = (loop-of (inside c)) in
    let h = (first (begun l)).lends in
    omega (arith, a-cell l, h.a-end, h.room, h.few)

pub place_from-from_b-requires : goal.place_from-from_b-requires
place_from-from_b-requires c =
    let l = (loop-of (inside (goal.at.place_from-from_b-requires c).After-lesser-count)) in
    let h = (first (begun l)).lends in
    omega (arith, b-cell l, h.b_end, h.room, h.few)

pub overflow_add-at : goal.overflow_add-at
overflow_add-at c =
    let l = (loop-of (inside (goal.at.overflow_add-at c).After-lesser-count)) in
    let h = (first (begun l)).lends in
    omega (arith, (counted (goal.at.overflow_add-at c).After-lesser-count).room, h.room, h.few)

pub fill_piece-counts-requires : goal.fill_piece-counts-requires
fill_piece-counts-requires c =
    let q = (goal.at.fill_piece-counts-requires c).After-place_from-from_b in
    let d = (goal.at.After-place_from-from_b q).After-lesser-count in
    let l = (loop-of (inside d)) in
    let k = counted d in
    piece-room _ _ _ _ _ _ (first (begun l)) (whole (entry (begun l)).args.a) (whole (entry (begun l)).args.b) _ _ _ _ _ _ _ l.loop-t.invariant k.room k.first k.second _ _ q.place_from-from_a.ensures q.place_from-from_b.ensures

-- the state behind the piece
abbrev passed : After-fill_piece-counts → After-lesser-count
passed c = (goal.at.After-fill_piece-counts c).After-lesser-count

behind : (c : After-fill_piece-counts) →
    let d = passed c in
    let l = (loop-of (inside d)) in
    let s = entry (begun l) in
    let a = lent_in s.args.a in
    let b = lent_in s.args.b in
    (pool : List ℤ) → pool ≡ label_cells (piece_label s.args.set c.place_from-from_a.result c.place_from-from_b.result l.loop-t.pool) (s.args.at + l.loop-t.t) d.lesser-count.result l.loop-t.pool
    → Pieced s.args.set a b s.args.at s.args.period s.args.pool.now pool
    (place_on l.loop-t.x d.lesser-count.result (up a.period) a.distance) (place_on l.loop-t.y d.lesser-count.result (up b.period) b.distance)
    (l.loop-t.labelled + c.fill_piece-counts.result.labelled) (l.loop-t.outside + c.fill_piece-counts.result.outside) (l.loop-t.t + d.lesser-count.result)
behind c pool g =
    let q = (goal.at.After-fill_piece-counts c).After-place_from-from_b in
    let d = passed c in
    let l = (loop-of (inside d)) in
    let k = counted d in
    let e = c.fill_piece-counts.ensures in
    piece-on _ _ _ _ _ _ (first (begun l)) (whole (entry (begun l)).args.a) (whole (entry (begun l)).args.b) _ _ _ _ _ _ _ l.loop-t.invariant k.room k.first k.second _ _ q.place_from-from_a.ensures q.place_from-from_b.ensures
    pool _ _ _ _ g e.labelled e.outside refl refl

-- the counts are small
few : (c : After-fill_piece-counts) → let l = (goal.at.In-loop-t (inside (passed c))).At-loop-t in
    (l.loop-t.labelled + c.fill_piece-counts.result.labelled ≤ pool_limit) × (l.loop-t.outside + c.fill_piece-counts.result.outside ≤ pool_limit)
few c =
    let v = behind c _ c.fill_piece-counts.ensures.cells in
    let h = (first (goal.at.In-loop-t (inside (passed c))).After-struct_told-4-1).lends in
    let n = pieced-few _ _ _ _ _ _ _ _ _ _ _ _ v in
    (omega (arith, n.0, v.within, h.room, h.few), omega (arith, n.1, v.within, h.room, h.few))

pub overflow_add-labelled : goal.overflow_add-labelled
overflow_add-labelled c = omega (arith, (few (goal.at.overflow_add-labelled c).After-fill_piece-counts).0)

pub overflow_add-outside : goal.overflow_add-outside
overflow_add-outside c = omega (arith, (few (goal.at.overflow_add-outside c).After-fill_piece-counts).1)

abbrev written : After-struct_known-in-loop-t-4-1 → After-fill_piece-counts
written c = (goal.at.After-struct_known-in-loop-t-4-1 c).After-fill_piece-counts

-- a rise and a distance are small
near-rise : (r : Lent) (old : List ℤ) (s : sound (row_of r old) ≡ true) (p : Place) (t : ℕ) → Stands (row_of r old) p (pos t) → t ≤ pool_limit → Near p.rise × Near r.distance
near-rise r old s p t e h =
    let n = numbers r.period r.distance (row_of r old).cells s in (
      place-rise r.period r.distance (row_of r old).cells s p (pos t) e (simp ints (omega arith)) (simp ints (omega arith)) ∴ simp ints (omega arith),
      n.distance_is ∴ n.middle ∴ n.high ∴ simp ints (omega arith),
    )

instant : (l : At-loop) → l.loop-t.t ≤ pool_limit
instant l = let h = (first (begun l)).lends in omega (arith, l.loop-t.invariant.within, h.room, h.few)

pub place_on-x-requires : goal.place_on-x-requires
place_on-x-requires c =
    let d = passed (written c) in
    let l = (loop-of (inside d)) in
    record { count_bound = (counted d).first; near = near-rise (lent_in (entry (begun l)).args.a) _ (first (begun l)).lends.is-fillable.sounds.0 l.loop-t.x l.loop-t.t l.loop-t.invariant.first (instant l) }

pub place_on-y-requires : goal.place_on-y-requires
place_on-y-requires c =
    let d = passed (written (goal.at.place_on-y-requires c).After-struct_known-in-loop-t-4-1) in
    let l = (loop-of (inside d)) in
    record { count_bound = (counted d).second; near = near-rise (lent_in (entry (begun l)).args.b) _ (first (begun l)).lends.is-fillable.sounds.1 l.loop-t.y l.loop-t.t l.loop-t.invariant.second (instant l) }

pub overflow_add-t : goal.overflow_add-t
overflow_add-t c =
    let d = passed (written (goal.at.overflow_add-t c).After-struct_known-in-loop-t-4-1) in
    let h = (first (begun (loop-of (inside d)))).lends in
    omega (arith, (counted d).room, h.room, h.few)

pub loop-t-smaller : goal.loop-t-smaller
loop-t-smaller c = let k = counted (passed (written (goal.at.loop-t-smaller c).After-struct_known-in-loop-t-4-1)) in omega (arith, k.some, k.room)

pub loop-t-preserved : goal.loop-t-preserved
loop-t-preserved c =
    let w = written (goal.at.loop-t-preserved c).After-struct_known-in-loop-t-4-1 in
    let v = behind w _ w.fill_piece-counts.ensures.cells in
    record {
      within = v.within;
      cells = v.cells;
      labels = v.labels;
      beyond = v.beyond;
      first = rw c.place_on-x.ensures v.first;
      second = rw c.place_on-y.ensures v.second;
    }

pub shape_of-pool : goal.shape_of-pool
shape_of-pool c = let l = (goal.at.shape_of-pool c).At-loop-t in let s = (entry (begun l)).args in ap length l.loop-t.invariant.cells ∙ cells-length (R (ByLabels s.set) (lent_in s.a) (lent_in s.b) s.pool.now) s.at s.pool.now l.loop-t.t

pub returns : goal.returns
returns c =
    let d = (goal.at.returns c).After-loop-t in
    let l = (goal.at.After-loop-t d).At-loop-t in
    let s = entry (begun l) in
    let v = l.loop-t.invariant in
    let e : l.loop-t.t ≡ s.args.period = omega (arith, v.within, d.loop-t-test.false) in
    let F = row_of (lent_in s.args.a) s.args.pool.now in
    let w = labels-fill (ByLabels s.args.set) (lent_in s.args.a) (lent_in s.args.b) s.args.at s.args.period s.args.pool.now (first (begun l)) _ _ _ _
    (rw e at v.cells) (rw e at v.labels) (rw e at v.beyond) c.counted_outcome.ensures in
    fills_two (ByLabels s.args.set) (ByLabels s.args.set) refl s.args.a s.args.b s.args.span s.args.at s.args.period _ _ refl (a-is (begun l)) _ refl (b-is (begun l)) _ _
    (same-lent (λ x y. Fills (operation_of (ByLabels s.args.set) (row_of x s.args.pool.now) (row_of y s.args.pool.now)) s.args.at s.args.period s.args.pool.now l.loop-t.pool c.counted_outcome.result)
    (sym (a-lent (begun l))) (sym (b-lent (begun l))) w)
