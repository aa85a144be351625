-- `fill_by_granule::picking::fill_instants` meets its contract: each turn of the loop fills the instants of one granule of b.
--     Begun        before the loop: its invariant, and that it holds there
-- Assumes nothing.
use borrow.Author.Rules.{rules, sfits_of}
use mathlib.Core.Path.{◌≡◌, sym, ◌∙◌, ap, ap₂, refl, subst}
use mathlib.Core.Bool.{true, false, Bool}
use Prim.Native.Nat.{◌+◌, ◌-◌, ◌≤◌, ◌<◌, ℕ}
use native.Mathlib.Omega.{arith}
use lib.IntN.{ℤ, pos, neg_ℤ, ◌+ℤ◌, ◌-ℤ◌}
use lib.ListN.{length, get_or}
use mir.Facts.{to_z-of_z}
use mir.Syntax.{w32, w64}
use mir.Val.{SFits, to_z, of_z}
use Rattle.integers.specs.Parts.{up}
use Rattle.integers.proofs.Linear.{ints, ◌∴◌}
use Rattle.integers.proofs.Order.{pos-up, up-less}
use Rattle.calendar.specs.Limits.{pool_limit, between}
use Rattle.calendar.specs.Meaning.{Row}
use Rattle.calendar.specs.Sound.{sound}
use Rattle.cursors.specs.Cursor.{cursor_at, Shown}
use Rattle.cursors.specs.Found.{Within}
use Rattle.cursors.proofs.Numbers.{read_as}
use Rattle.strides.specs.Changes.{Changes}
use Rattle.kinds.specs.declared.Kind.TheVariants.{Select}
use Rattle.kinds.specs.Stands.{row_in}
use Rattle.fill_shared.proofs.Cells.{lent_is}
use Rattle.fill_shared.proofs.Filling.{Lent, Filling, row_of, lent_of, filling-ends, filling-length, filling-done, b-kept}
use Rattle.fill_by_granule.proofs.Rounds.{Ground, round-first, at-most, by-pick, pick_is, pick-limits, round-next, in_order}
use Rattle.fill_by_granule.proofs.OneRow.{one_lent, b-long, stood-ground, stood-first, stood-sound, stood-fills}
use lib.Signed.{◌≤ℤ◌}
use Rattle.kinds.specs.declared.Pick.{Pick}
use Rattle.kinds.specs.Limits.{PickLimits}
use Rattle.select_granules.specs.Deciding.{selection_by}
use Rattle.fill_by_granule.specs.Picking.{chosen_count, from_label, to_label, reach_of}
use Rattle.fill_by_granule.proofs.Spreads.{chosen-few}
use Rattle.fill_by_granule.proofs.picking.fill_instants.Goals as goal
use Rattle.fill_by_granule.proofs.picking.fill_instants.Goals.{After-cursor-1, After-cursor_at-arg-1, After-cursor_at-begun, After-fill_chosen-count, After-next_change-before, After-next_change-change, After-pick_of, After-struct_told-1, After-struct_told-2-1, After-struct_told-3-1, After-struct_told-in-loop-t-1, After-taken_of-taken, At-loop-t, Start as Start-place}

abbrev Start : Type 0
Start = Start-place

abbrev Told : Type 0
Told = After-struct_told-2-1

abbrev entry : Told → Start
entry c = (goal.at.After-struct_told-2-1 c).Start

-- the label of instant 0 in a
abbrev C : Start → ℤ
C s = get_or s.args.pool.now s.args.a.start (pos 0)

a_in : (s : Start) → s.args.a.start < length s.args.pool.now
a_in s = let p = s.requires.placed in omega (arith, ap up s.requires.serves.one, p.a-end, p.room)

pub offset_bounds-pool-a_start : goal.offset_bounds-pool-a_start
offset_bounds-pool-a_start c = let h = a_in c in search rules

pub slice_copy_out-first : goal.slice_copy_out-first
slice_copy_out-first c = a_in c

pub end_of-b_end-requires : goal.end_of-b_end-requires
end_of-b_end-requires c = let s = (goal.at.end_of-b_end-requires c).Start in record { pos_bound = s.requires.placed.b-period; a_bound = s.requires.placed.b_end }

-- ---- the rows that are lent
abbrev b-lent : Told → Lent
b-lent c = lent_of (entry c).args.b c.end_of-b_end.result

abbrev B : Told → Row
B c = row_of (b-lent c) (entry c).args.pool.now

b-is : (c : Told) → let s = entry c in B c ≡ row_in s.args.pool.now s.args.b
b-is c = lent_is (entry c).args.b _ _ c.end_of-b_end.ensures (sfits_of c.struct_told-1.given.1.0.1) (sfits_of c.struct_told-2-1.given.1.1.0.1)

module _ (c : Told) where
  abbrev pub s : Start
  s = entry c

  pub ground : Ground s.args.by (row_of (one_lent s.args.a.start) s.args.pool.now) (B c) (C s) s.args.period
  ground = stood-ground _ _ _ _ _ _ _ s.requires.fillable s.requires.placed s.requires.serves s.requires.whole _ c.end_of-b_end.ensures (b-is c)

  pub first : Filling (Select s.args.by) (one_lent s.args.a.start) (b-lent c) s.args.at s.args.period s.args.pool.now s.args.pool.now false 0
  first = stood-first _ _ _ _ _ _ _ s.requires.fillable s.requires.placed s.requires.serves s.requires.whole _ c.end_of-b_end.ensures (b-is c)

  pub b-sound : sound (B c) ≡ true
  b-sound = stood-sound _ _ _ _ _ _ _ s.requires.fillable s.requires.placed s.requires.serves s.requires.whole _ c.end_of-b_end.ensures (b-is c)

  -- the period of b is that of the working row
  pub b-period : (s.args.b.period ≡ pos s.args.period) × (s.args.period ≤ pool_limit)
  b-period =
      let l = b-long _ _ _ _ _ _ _ s.requires.fillable s.requires.placed s.requires.serves s.requires.whole _ c.end_of-b_end.ensures (b-is c) in
      (sym (pos-up s.requires.placed.b-period) ∙ ap pos l, omega (arith, s.requires.placed.room, s.requires.placed.at-most))

  pub period-is : to_z w64 (of_z w64 s.args.b.period) ≡ pos s.args.period
  period-is = to_z-of_z {w = w64} (sfits_of c.struct_told-1.given.1.0.1) ∙ b-period.0

  pub c-within : Within 1000000000 (C s)
  c-within = ground.label

  pub c-fits : SFits w32 (C s)
  c-fits = let w = c-within in w.0 ∴ w.1 ∴ simp ints (omega arith)

-- ---- before the loop
pub offset_bounds-pool-b_start : goal.offset_bounds-pool-b_start
offset_bounds-pool-b_start c = let l = (first c).lends in omega (arith, l.b-start, l.b_end, l.room, l.few)

pub slice_bounds-cursor_at-count : goal.slice_bounds-cursor_at-count
slice_bounds-cursor_at-count c = (first c).lends.b-start

pub slice_bounds-cursor_at-start : goal.slice_bounds-cursor_at-start
slice_bounds-cursor_at-start c = (first (goal.at.slice_bounds-cursor_at-start c).After-struct_told-2-1).lends.b-start

pub slice_bounds-cursor_at-end : goal.slice_bounds-cursor_at-end
slice_bounds-cursor_at-end c = (filling-ends _ _ _ _ _ _ _ _ _ (first (goal.at.slice_bounds-cursor_at-end c).After-struct_told-2-1)).1

abbrev begun-at : After-cursor_at-arg-1 → Told
begun-at c = (goal.at.After-cursor_at-arg-1 c).After-struct_told-2-1

pub overflow_sub-b_period : goal.overflow_sub-b_period
overflow_sub-b_period c =
    let d = begun-at c in
    let n = (b-period d).1 in
    rw (period-is d) (n ∴ simp ints (omega arith))

-- a turn before instant 0
turn-back : (c : After-cursor_at-arg-1) → let s = entry (begun-at c) in
    to_z w64 (of_z w64 (pos 0 -ℤ to_z w64 (of_z w64 s.args.b.period))) ≡ neg_ℤ (pos s.args.period)
turn-back c =
    let d = begun-at c in
    let n = (b-period d).1 in
    read_as {w = w64} (ap (λ (z : ℤ). pos 0 -ℤ z) (period-is d) ∙ simp ints (omega arith)) (n ∴ simp ints (omega arith))

pub cursor_at-begun-requires : goal.cursor_at-begun-requires
cursor_at-begun-requires c = let n = (b-period (begun-at c)).1 in record { sound = b-sound (begun-at c); near = rw (turn-back c) (n ∴ simp ints (omega arith), n ∴ simp ints (omega arith)) }

pub offset_bounds-pool-b_start-2 : goal.offset_bounds-pool-b_start-2
offset_bounds-pool-b_start-2 c = let l = (first (begun-at (goal.at.offset_bounds-pool-b_start-2 c).After-cursor_at-arg-1)).lends in omega (arith, l.b-start, l.b_end, l.room, l.few)

pub slice_bounds-next_change-count : goal.slice_bounds-next_change-count
slice_bounds-next_change-count c = (first (begun-at (goal.at.slice_bounds-next_change-count c).After-cursor_at-arg-1)).lends.b-start

pub slice_bounds-next_change-start : goal.slice_bounds-next_change-start
slice_bounds-next_change-start c = (first (begun-at (goal.at.slice_bounds-next_change-start c).After-cursor_at-arg-1)).lends.b-start

pub slice_bounds-next_change-end : goal.slice_bounds-next_change-end
slice_bounds-next_change-end c = (filling-ends _ _ _ _ _ _ _ _ _ (first (begun-at (goal.at.slice_bounds-next_change-end c).After-cursor_at-arg-1))).1

-- the cursor of that instant
cursor-back : (c : After-cursor_at-begun) → let d = begun-at (goal.at.After-cursor_at-begun c).After-cursor_at-arg-1 in c.cursor_at-begun.result ≡ cursor_at (B d) (neg_ℤ (pos (entry d).args.period))
cursor-back c = c.cursor_at-begun.ensures ∙ ap (cursor_at (B (begun-at (goal.at.After-cursor_at-begun c).After-cursor_at-arg-1))) (turn-back (goal.at.After-cursor_at-begun c).After-cursor_at-arg-1)

pub next_change-before-requires : goal.next_change-before-requires
next_change-before-requires c =
    let a = (goal.at.next_change-before-requires c).After-cursor_at-begun in
    let d = begun-at (goal.at.After-cursor_at-begun a).After-cursor_at-arg-1 in
    let n = (b-period d).1 in
    let u = neg_ℤ (pos (entry d).args.period) in
    record { sound = b-sound d; shown = (u, (n ∴ simp ints (omega arith), n ∴ simp ints (omega arith)), cursor-back a, (ground d).whole u) }

abbrev Changed : Type 0
Changed = After-next_change-before

abbrev told : Changed → Told
told c = begun-at (goal.at.After-next_change-before c).After-cursor_at-arg-1

change : (c : Changed) → let d = told c in Changes (B d) (neg_ℤ (pos (entry d).args.period)) c.next_change-before.result
change c = c.next_change-before.ensures _ (cursor-back (goal.at.After-next_change-before c).After-cursor_at-begun)

steps-fit : (c : Changed) → SFits w64 c.next_change-before.result.steps
steps-fit c =
    let d = told c in
    let n = (b-period d).1 in
    let l = (ground d).long in
    (change c).on ∴ (change c).near ∴ l ∴ n ∴ simp ints (omega arith)

-- where the loop begins
begins-at-is : (c : After-struct_told-3-1) → let k = (goal.at.After-struct_told-3-1 c).After-next_change-before in let s = entry (told k) in
    (to_z w64 (of_z w64 k.next_change-before.result.steps) -ℤ to_z w64 (of_z w64 s.args.b.period) ≡ neg_ℤ (pos s.args.period) +ℤ k.next_change-before.result.steps)
    × SFits w64 (neg_ℤ (pos s.args.period) +ℤ k.next_change-before.result.steps)
begins-at-is c =
    let k = (goal.at.After-struct_told-3-1 c).After-next_change-before in
    let d = told k in
    let n = (b-period d).1 in
    let l = (ground d).long in
    let f = steps-fit k in (
      ap₂ (λ (x y : ℤ). x -ℤ y) (to_z-of_z f) (period-is d) ∙ simp ints (omega arith),
      (change k).on ∴ (change k).near ∴ l ∴ n ∴ simp ints (omega arith),
    )

pub overflow_sub-v : goal.overflow_sub-v
overflow_sub-v c = let h = begins-at-is c in rw h.0 h.1

pub loop-t-init : goal.loop-t-init
loop-t-init c =
    let h = begins-at-is (goal.at.loop-t-init c).After-struct_told-3-1 in
    let k = (goal.at.loop-t-init c).After-next_change-before in
    let d = told k in
    round-first _ _ _ _ _ _ _ (ground d) k.next_change-before.result (change k) _ (read_as {w = w64} h.0 h.1) (first d)

-- ---- a granule
abbrev At-loop : Type 0
At-loop = At-loop-t

abbrev told_of : At-loop → Told
told_of l = told (goal.at.At-loop-t l).After-next_change-before

pub offset_bounds-pool-b_start-in-loop-t : goal.offset_bounds-pool-b_start-in-loop-t
offset_bounds-pool-b_start-in-loop-t c =
    let l = (goal.at.offset_bounds-pool-b_start-in-loop-t c).At-loop-t in
    let f = l.loop-t.invariant.filling in
    omega (arith, f.lends.b-start, (filling-ends _ _ _ _ _ _ _ _ _ f).1, filling-length _ _ _ _ _ _ _ _ _ f, f.lends.few)

pub slice_bounds-next_change-count-in-loop-t : goal.slice_bounds-next_change-count-in-loop-t
slice_bounds-next_change-count-in-loop-t c = c.loop-t.invariant.filling.lends.b-start

pub slice_bounds-next_change-start-in-loop-t : goal.slice_bounds-next_change-start-in-loop-t
slice_bounds-next_change-start-in-loop-t c = c.loop-t.invariant.filling.lends.b-start

pub slice_bounds-next_change-end-in-loop-t : goal.slice_bounds-next_change-end-in-loop-t
slice_bounds-next_change-end-in-loop-t c = (filling-ends _ _ _ _ _ _ _ _ _ c.loop-t.invariant.filling).1

-- b stands as it stood
b-now : (l : At-loop) → let d = told_of l in row_of (b-lent d) l.loop-t.pool ≡ B d
b-now l = b-kept _ _ _ _ _ _ _ _ _ l.loop-t.invariant.filling

abbrev here : At-loop → ℤ
here l = to_z w64 l.loop-t.v-bits

v-within : (l : At-loop) → Within 16777216 (here l)
v-within l =
    let n = (b-period (told_of l)).1 in
    let i = l.loop-t.invariant in
    (i.low ∴ n ∴ simp ints (omega arith), i.high ∴ n ∴ simp ints (omega arith))

pub next_change-change-requires : goal.next_change-change-requires
next_change-change-requires c =
    let l = (goal.at.next_change-change-requires c).At-loop-t in
    let d = told_of l in
    let i = l.loop-t.invariant in
    let v = v-within l in
    let r = subst (λ (r : Row). (sound r ≡ true) × Shown r l.loop-t.cursor) (sym (b-now l))
    (b-sound d, (here l, (v.0 ∴ simp ints (omega arith), v.1 ∴ simp ints (omega arith)), i.cursor-is, (ground d).whole (here l))) in
    record { sound = r.0; shown = r.1 }

abbrev Turned : Type 0
Turned = After-next_change-change

abbrev at-loop : Turned → At-loop
at-loop c = (goal.at.After-next_change-change c).At-loop-t

changes : (c : Turned) → let l = at-loop c in Changes (B (told_of l)) (here l) c.next_change-change.result
changes c =
    let l = at-loop c in
    subst (λ (r : Row). Changes r (here l) c.next_change-change.result) (b-now l)
    (c.next_change-change.ensures (here l) (l.loop-t.invariant.cursor-is ∙ ap (λ (r : Row). cursor_at r (here l)) (sym (b-now l))))

inside : (c : Turned) → (at-loop c).loop-t.t < (entry (told_of (at-loop c))).args.period
inside c = c.loop-t-test.true

near_of : (c : Turned) → let s = entry (told_of (at-loop c)) in (pos 1 ≤ℤ c.next_change-change.result.steps) × (c.next_change-change.result.steps ≤ℤ pos s.args.period) × (s.args.period ≤ pool_limit)
near_of c =
    let d = told_of (at-loop c) in
    let l = (ground d).long in
    ((changes c).on, (changes c).near ∴ l ∴ simp ints (omega arith), (b-period d).1)

steps-read : (c : Turned) → to_z w64 (of_z w64 c.next_change-change.result.steps) ≡ c.next_change-change.result.steps
steps-read c = let n = near_of c in to_z-of_z {w = w64} (n.0 ∴ n.1 ∴ n.2 ∴ simp ints (omega arith))

-- where the next granule begins
abbrev W : Turned → ℤ
W c = here (at-loop c) +ℤ c.next_change-change.result.steps

w_fits : (c : Turned) → SFits w64 (W c) × Within 16777216 (W c)
w_fits c =
    let n = near_of c in
    let i = (at-loop c).loop-t.invariant in (
      n.0 ∴ n.1 ∴ n.2 ∴ i.low ∴ i.high ∴ simp ints (omega arith),
      (n.0 ∴ n.2 ∴ i.low ∴ simp ints (omega arith), n.1 ∴ n.2 ∴ i.high ∴ simp ints (omega arith)),
    )

w-sum : (c : Turned) → here (at-loop c) +ℤ to_z w64 (of_z w64 c.next_change-change.result.steps) ≡ W c
w-sum c = ap (λ (z : ℤ). here (at-loop c) +ℤ z) (steps-read c)

w-read : (c : Turned) → to_z w64 (of_z w64 (here (at-loop c) +ℤ to_z w64 (of_z w64 c.next_change-change.result.steps))) ≡ W c
w-read c = read_as {w = w64} (w-sum c) (w_fits c).0

abbrev turned : After-struct_told-in-loop-t-1 → Turned
turned c = (goal.at.After-struct_told-in-loop-t-1 c).After-next_change-change

pub overflow_add-w : goal.overflow_add-w
overflow_add-w c = rw (w-sum (turned c)) (w_fits (turned c)).0

pub reach-to-requires : goal.reach-to-requires
reach-to-requires c = rw (w-read (turned c)) (w_fits (turned c)).1

-- the Pick of the selection
picks : (s : Start) → (whole : Bool) × (p : Pick) × (s.args.by ≡ selection_by whole p)
picks s = by-pick s.args.by s.requires.by_value

abbrev Picked-at : Type 0
Picked-at = After-pick_of

abbrev turned-of : Picked-at → Turned
turned-of c = turned (goal.at.After-pick_of c).After-struct_told-in-loop-t-1

pick-read : (c : Picked-at) → c.pick_of.result ≡ (picks (entry (told_of (at-loop (turned-of c))))).1
pick-read c = let s = entry (told_of (at-loop (turned-of c))) in pick_is s.args.by c.pick_of.result c.pick_of.ensures (picks s).0 (picks s).1 (picks s).2

pub taken_of-taken-requires : goal.taken_of-taken-requires
taken_of-taken-requires c =
    let q = (goal.at.taken_of-taken-requires c).After-pick_of in
    let t = turned-of q in
    let s = entry (told_of (at-loop t)) in
    let n = near_of t in
    record {
      pick_limits = subst PickLimits (sym (pick-read q)) (pick-limits s.args.by s.requires.fillable.numbers (picks s).0 (picks s).1 (picks s).2);
      pos_bound = rw (steps-read t) (n.0 ∴ simp ints (omega arith), n.1 ∴ n.2 ∴ simp ints (omega arith));
      within = v-within (at-loop t);
    }

abbrev Taken-at : Type 0
Taken-at = After-taken_of-taken

abbrev on : Taken-at → Turned
on c = turned-of (goal.at.After-taken_of-taken c).After-pick_of

-- how far the granule reaches
abbrev To : Taken-at → ℕ
To c = c.reach-to.result

to_is : (c : Taken-at) → To c ≡ reach_of (W (on c)) (entry (told_of (at-loop (on c)))).args.period
to_is c = c.reach-to.ensures ∙ ap (λ (z : ℤ). reach_of z (entry (told_of (at-loop (on c)))).args.period) (w-read (on c))

-- what the law of a turn asks
module _ (c : Taken-at) where
  abbrev l : At-loop
  l = at-loop (on c)

  abbrev z : Start
  z = entry (told_of l)

  ordered : l.loop-t.t ≤ To c
  ordered = in_order _ _ _ _ _ _ _ (ground (told_of l)) _ _ _ _ _ l.loop-t.invariant (inside (on c)) _ (changes (on c)) (W (on c)) refl (To c) (to_is c)

  bounded : To c ≤ z.args.period
  bounded = omega (arith, to_is c)

  first_read : to_z w32 (of_z w32 (C z)) ≡ C z
  first_read = to_z-of_z (c-fits (told_of l))

  -- the labels that are taken
  taken : (j : ℤ) → Within 1000000000 j →
      let p = (picks z).1 in
      let n = up (on c).next_change-change.result.steps in
      between c.taken_of-taken.result.low c.taken_of-taken.result.high j ≡ between (from_label p (C z) (here l) n) (to_label p (C z) (here l) n) j
  taken j w =
      c.taken_of-taken.ensures j w
      ∙ ap₂ (λ (p : Pick) (f : ℤ). let n = up (to_z w64 (of_z w64 (on c).next_change-change.result.steps)) in between (from_label p f (here l) n) (to_label p f (here l) n) j)
      (pick-read (goal.at.After-taken_of-taken c).After-pick_of) first_read
      ∙ ap (λ (m : ℤ). between (from_label (picks z).1 (C z) (here l) (up m)) (to_label (picks z).1 (C z) (here l) (up m)) j) (steps-read (on c))

-- the cells of the working row are in the pool
room : (c : Taken-at) → let a = (z c).args in (a.at + To c ≤ length (l c).loop-t.pool) × (length (l c).loop-t.pool ≤ pool_limit)
room c =
    let f = (l c).loop-t.invariant.filling in
    let e = filling-length _ _ _ _ _ _ _ _ _ f in
    (omega (arith, bounded c, f.lends.room), omega (arith, f.lends.few))

pub fill_chosen-count-requires : goal.fill_chosen-count-requires
fill_chosen-count-requires c =
    let k = (goal.at.fill_chosen-count-requires c).After-taken_of-taken in
    let g = ground (told_of (l k)) in
    rw (first_read k)
    record { label = g.label; labels = g.labels ∴ bounded k ∴ simp ints (omega arith); in_order = ordered k; room = (room k).0; few = (room k).1 }

abbrev Filled-at : Type 0
Filled-at = After-fill_chosen-count

abbrev taken_at : Filled-at → Taken-at
taken_at c = (goal.at.After-fill_chosen-count c).After-taken_of-taken

-- the labels that are taken, as the machine has them
abbrev lo : Filled-at → ℤ
lo c = to_z w32 (of_z w32 (taken_at c).taken_of-taken.result.low)

abbrev hi : Filled-at → ℤ
hi c = to_z w32 (of_z w32 (taken_at c).taken_of-taken.result.high)

counted : (c : Filled-at) → let k = taken_at c in c.fill_chosen-count.result ≡ chosen_count (C (z k)) (lo c) (hi c) (l k).loop-t.t (To k - (l k).loop-t.t)
counted c = let k = taken_at c in rw (first_read k) at c.fill_chosen-count.ensures.count

pub overflow_add-count : goal.overflow_add-count
overflow_add-count c =
    let f = (goal.at.overflow_add-count c).After-fill_chosen-count in
    let k = taken_at f in
    let i = (l k).loop-t.invariant in
    omega (arith, i.few, ordered k, room k, counted f, chosen-few (C (z k)) (lo f) (hi f) (z k).args.at (l k).loop-t.t (To k - (l k).loop-t.t))

pub loop-t-smaller : goal.loop-t-smaller
loop-t-smaller c =
    let k = taken_at (goal.at.loop-t-smaller c).After-fill_chosen-count in
    let t = on k in
    let P = (z k).args.period in
    let n = near_of t in
    let h : here (l k) ≤ℤ pos (l k).loop-t.t = at-most _ _ _ _ _ _ _ (ground (told_of (l k))) _ _ _ _ _ (l k).loop-t.invariant (inside t) _ (changes t) (W t) refl (To k) (to_is k) in
    subst (λ (w : ℤ). up (pos (P + P) -ℤ w) < up (pos (P + P) -ℤ here (l k))) (sym (w-read t))
    (up-less (pos (P + P) -ℤ W t) (pos (P + P) -ℤ here (l k)) (n.0 ∴ simp ints (omega arith)) (h ∴ inside t ∴ simp ints (omega arith)))

pub loop-t-preserved : goal.loop-t-preserved
loop-t-preserved c =
    let f = (goal.at.loop-t-preserved c).After-fill_chosen-count in
    let k = taken_at f in
    let t = on k in
    let i = l k in
    let fits_low : SFits w32 k.taken_of-taken.result.low = sfits_of f.struct_told-in-loop-t-3-1.given.0.1 in
    let fits-high : SFits w32 k.taken_of-taken.result.high = sfits_of f.struct_told-in-loop-t-4-1.given.1.0.1 in
    rw (w-read t)
    (round-next _ _ _ _ _ _ (C (z k)) (ground (told_of i)) _ _ _ _ _ i.loop-t.invariant (inside t) t.next_change-change.result (changes t) (W t) refl (To k) (to_is k)
    (picks (z k)).0 (picks (z k)).1 (picks (z k)).2 (lo f) (hi f)
    (λ j w. ap₂ (λ (x y : ℤ). between x y j) (to_z-of_z fits_low) (to_z-of_z fits-high) ∙ taken k j w)
    _ (rw (first_read k) at f.fill_chosen-count.ensures.cells) _ refl _ (ap (λ (n : ℕ). i.loop-t.count + n) (counted f)))

pub shape_of-pool : goal.shape_of-pool
shape_of-pool c = filling-length _ _ _ _ _ _ _ _ _ c.loop-t.invariant.filling

pub returns : goal.returns
returns c =
    let l = (goal.at.returns c).At-loop-t in
    let d = told_of l in
    let s = entry d in
    stood-fills _ _ _ _ _ _ _ s.requires.fillable s.requires.placed s.requires.serves s.requires.whole _ d.end_of-b_end.ensures (b-is d) _ _
    (rw c.outcome.ensures (filling-done _ _ _ _ _ _ _ _ _ l.loop-t.invariant.filling c.loop-t-test.false))
