-- The loop of a selection from a row of one cell: what holds between two granules of b.
-- Assumes nothing.
use mathlib.Core.Path.{◌≡◌, refl, sym, ◌∙◌, ap, subst}
use mathlib.Core.Option.{some}
use mathlib.Core.Bool.{Bool, true, false}
use mathlib.Core.List.{List}
use Prim.Native.Nat.{ℕ, ◌+◌, ◌-◌, ◌≤◌, ◌<◌}
use native.Mathlib.Omega.{arith}
use lib.Dec.{ltb}
use lib.IntN.{ℤ, pos, negsuc, neg_ℤ, ◌+ℤ◌}
use lib.Signed.{◌≤ℤ◌, ◌<ℤ◌}
use Rattle.integers.specs.Parts.{up}
use Rattle.integers.proofs.Linear.{ints, ◌∴◌}
use Rattle.integers.proofs.Order.{pos-up, up_le, is_up_lem}
use Rattle.calendar.specs.Limits.{label_limit, between}
use Rattle.calendar.specs.Meaning.{Row, meant}
use Rattle.calendar.specs.Lists.{only}
use Rattle.calendar.specs.Compute.{result}
use Rattle.granules.specs.Valid.{Valid}
use Rattle.granules.proofs.Tests.{true≢false}
use Rattle.cursors.specs.declared.Cursor.{Cursor}
use Rattle.cursors.specs.Cursor.{cursor_at}
use Rattle.cursors.specs.Found.{Within}
use Rattle.alignment.specs.Pass.{Whole}
use Rattle.strides.specs.declared.Change.{Change}
use Rattle.strides.specs.Changes.{Changes}
use Rattle.kinds.specs.declared.Pick.{Pick}
use Rattle.kinds.specs.declared.Selection.{Selection}
use Rattle.kinds.specs.declared.Selection.TheVariants.{Down, Up, Intersecting}
use Rattle.kinds.specs.declared.Kind.TheVariants.{Select}
use Rattle.kinds.specs.Limits.{PickLimits, Picking}
use Rattle.kinds.specs.Operations.{operation_of}
use Rattle.select_granules.specs.Deciding.{selection_by, is_up}
use Rattle.fill_shared.proofs.Filling.{Lent, Filling, row_of}
use Rattle.fill_by_granule.specs.Picking.{chosen_cells, chosen_count, from_label, to_label, reach_of}
use Rattle.fill_by_granule.proofs.Instants.{chosen}
use Rattle.fill_by_granule.proofs.Spreads.{Begins, begins-at, spread, chosen-few, chosen-filling}

-- ---- the Pick of a selection that has one

pub by-pick : (by : Selection) → is_up by ≡ false → (whole : Bool) × (p : Pick) × (by ≡ selection_by whole p)
by-pick (Down p) e = (true, p, refl)
by-pick Up e = absurd (true≢false refl e)
by-pick (Intersecting p) e = (false, p, refl)

pub pick_is : (by : Selection) (r : Pick) → ((p : Pick) → by ≡ Down p → r ≡ p) × ((p : Pick) → by ≡ Intersecting p → r ≡ p)
    → (whole : Bool) (p : Pick) → by ≡ selection_by whole p → r ≡ p
pick_is by r h true p e = h.0 p e
pick_is by r h false p e = h.1 p e

pub pick-limits : (by : Selection) → Picking by → (whole : Bool) (p : Pick) → by ≡ selection_by whole p → PickLimits p
pick-limits by h true p e = subst Picking e h
pick-limits by h false p e = subst Picking e h

-- ---- the loop

up-mono : (v w : ℤ) → v ≤ℤ w → up v ≤ up w
up-mono (pos n) (pos m) h = omega (arith, simp ints at h)
up-mono (pos n) (negsuc m) h = absurd (h ∴ simp ints (omega arith))
up-mono (negsuc n) w h = omega arith

-- what does not change: a has the label c + t at each instant t, and b has no gaps; its period is that of the working row
pub record Ground (by : Selection) (a b : Row) (c : ℤ) (period : ℕ) : Type 0 where
  pub a-valid : Valid a
  pub b-valid : Valid b
  pub whole : Whole b
  pub own : (t : ℤ) → meant a t ≡ some (c +ℤ t)
  pub label : Within 1000000000 c
  pub labels : (c +ℤ pos period) ≤ℤ label_limit
  pub long : b.period ≡ period

-- the working row is filled up to v, where a granule of b begins, or the instant 0 or its end, if v is outside
pub record Round (by : Selection) (a b : Lent) (at period : ℕ) (old pool : List ℤ) (v : ℤ) (cursor : Cursor) (count t : ℕ) : Type 0 where
  pub filling : Filling (Select by) a b at period old pool (ltb 0 count) t
  pub few : count ≤ t
  pub reached : t ≡ reach_of v period
  pub low : neg_ℤ (pos period) ≤ℤ v
  pub high : v ≤ℤ pos (period + period)
  pub cursor-is : cursor ≡ cursor_at (row_of b old) v
  pub begins : Begins (row_of b old) v

module _ (by : Selection) (a b : Lent) (at period : ℕ) (old : List ℤ) (c : ℤ) (g : Ground by (row_of a old) (row_of b old) c period) where
  abbrev A : Row
  A = row_of a old

  abbrev B : Row
  B = row_of b old

  -- the first granule that reaches instant 0 begins at the change behind the instant −P
  pub round-first : (x : Change) → Changes B (neg_ℤ (pos period)) x → (v : ℤ) → v ≡ neg_ℤ (pos period) +ℤ x.steps
      → Filling (Select by) a b at period old old false 0 → Round by a b at period old old v x.cursor 0 0
  round-first x ch v e f =
      let l = g.long in
      let n : v ≤ℤ pos 0 = e ∴ ch.near ∴ l ∴ simp ints (omega arith) in
      record {
        filling = f;
        few = omega arith;
        reached = omega (arith, up_le n);
        low = e ∴ ch.on ∴ simp ints (omega arith);
        high = n ∴ simp ints (omega arith);
        cursor-is = ch.cursor ∙ ap (cursor_at B) (sym e);
        begins = begins-at B g.b-valid g.whole (neg_ℤ (pos period)) x ch v e;
      }

  -- one granule more
  module _ (pool : List ℤ) (v : ℤ) (cursor : Cursor) (count t : ℕ) (r : Round by a b at period old pool v cursor count t) (m : t < period)
      (x : Change) (ch : Changes B v x) (w : ℤ) (we : w ≡ v +ℤ x.steps) (to : ℕ) (te : to ≡ reach_of w period) where
    -- t is v itself, unless that is below 0
    pub at-most : v ≤ℤ pos t
    at-most = let e : up v ≡ t = omega (arith, r.reached) in e ∴ simp ints (omega arith)

    pub in_order : t ≤ to
    in_order =
        let h : v ≤ℤ w = we ∴ ch.on ∴ simp ints (omega arith) in
        let k = up-mono v w h in
        omega (arith, r.reached)

    pub within : to ≤ period
    within = omega (arith, te)

    pub near : (pos 1 ≤ℤ x.steps) × (x.steps ≤ℤ pos period)
    near = let l = g.long in (ch.on, ch.near ∴ l ∴ simp ints (omega arith))

    module _ (whole : Bool) (p : Pick) (is : by ≡ selection_by whole p) (lo hi : ℤ)
        (taken : (j : ℤ) → Within 1000000000 j → between lo hi j ≡ between (from_label p c v (up x.steps)) (to_label p c v (up x.steps)) j) where
      label-at : (u : ℕ) → t ≤ u → u < to → result (operation_of (Select by) A B) (pos u) ≡ only (c +ℤ pos u) (between lo hi (c +ℤ pos u))
      label-at u h k =
          let s = pos-up {z = x.steps} (ch.on ∴ simp ints (omega arith)) in
          let low : v ≤ℤ pos u = at-most ∴ h ∴ simp ints (omega arith) in
          let q : u < up w = omega (arith, te) in
          let z : w ≡ pos (up w) = is_up_lem w (omega arith) in
          let high : pos u <ℤ (v +ℤ pos (up x.steps)) = q ∴ z ∴ we ∴ s ∴ simp ints (omega arith) in
          let inside : u < period = omega (arith, te) in
          ap (λ (b : Selection). result (operation_of (Select b) A B) (pos u)) is
          ∙ chosen A B g.a-valid g.b-valid c g.own r.begins.label v (up x.steps) (spread B g.b-valid g.whole v x ch r.begins) p whole (pos u) low high
          ∙ ap (only (c +ℤ pos u)) (sym (taken (c +ℤ pos u) (g.label.0 ∴ simp ints (omega arith), g.labels ∴ inside ∴ simp ints (omega arith))))

      pub round-next : (new : List ℤ) → new ≡ chosen_cells c lo hi at t (to - t) pool → (next : Cursor) → next ≡ x.cursor
          → (m : ℕ) → m ≡ count + chosen_count c lo hi t (to - t) → Round by a b at period old new w next m to
      round-next new ne next xe m me =
          let o = in_order in
          let e : t + (to - t) ≡ to = omega arith in
          let f = chosen-filling (Select by) a b at period old pool count t r.filling c lo hi g.label g.labels (to - t) (omega (arith, within)) (λ u h k. label-at u h (omega arith)) in
          record {
            filling = rw (ne, me) (subst (λ (i : ℕ). Filling (Select by) a b at period old (chosen_cells c lo hi at t (to - t) pool) (ltb 0 (count + chosen_count c lo hi t (to - t))) i) e f);
            few = omega (arith, r.few, chosen-few c lo hi at t (to - t));
            reached = te;
            low = we ∴ r.low ∴ ch.on ∴ simp ints (omega arith);
            high = we ∴ at-most ∴ near.1 ∴ simp ints (omega arith);
            cursor-is = xe ∙ ch.cursor ∙ ap (cursor_at B) (sym we);
            begins = begins-at B g.b-valid g.whole v x ch w we;
          }
