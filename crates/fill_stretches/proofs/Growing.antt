-- The pool as a stretch is filled, instant by instant.
-- Assumes nothing.
use mathlib.Core.Path.{◌≡◌, refl, sym, ◌∙◌, ap, ap₂}
use mathlib.Core.Logic.{◌⊎◌, inl, inr, ⊎_map}
use mathlib.Core.Option.{Option, none, some}
use mathlib.Core.List.{List, ◌++◌}
use Prim.Native.Nat.{ℕ, zero, suc, ◌+◌, ◌-◌, ◌≤◌, ◌<◌}
use native.Mathlib.Omega.{arith}
use lib.IntN.{ℤ, pos, ◌+ℤ◌}
use lib.Signed.{◌≤ℤ◌}
use lib.ListN.{length, set, take, drop, length-set, take-append-drop}
use lib.Seq.{take-set-le}
use Rattle.integers.proofs.Linear.{ints}
use Rattle.calendar.specs.Meaning.{Row, meant, empty}
use Rattle.granules.proofs.Tests.{ltb_iff, decided}
use Rattle.cursors.specs.declared.Cursor.{Cursor}
use Rattle.cursors.specs.Cursor.{cursor_at}
use Rattle.fill_shared.proofs.Cells.{part-kept}
use Rattle.fill_stretches.specs.declared.Reached.{Reached}
use Rattle.fill_stretches.specs.Stretch.{cell_where, stretched, Stretched, Led}

-- ---- the cells

module _ (c : ℤ) (r : Row) (at t : ℕ) (pool : List ℤ) where
  pub stretched-length : (n : ℕ) → length (stretched c r at t n pool) ≡ length pool
  stretched-length zero = refl
  stretched-length (suc n) = length-set (stretched c r at t n pool) (at + (t + n)) _ ∙ stretched-length n

  -- the cells before `at` stand as they stood
  stretched-front : (n : ℕ) → take at (stretched c r at t n pool) ≡ take at pool
  stretched-front zero = refl
  stretched-front (suc n) = take-set-le at (stretched c r at t n pool) (at + (t + n)) _ (omega arith) ∙ stretched-front n

  pub stretched-kept : (n s e : ℕ) → at ≤ length pool → s ≤ e → e ≤ at → take (e - s) (drop s (stretched c r at t n pool)) ≡ take (e - s) (drop s pool)
  stretched-kept n s e h f g =
      let new = stretched c r at t n pool in
      ap (λ (l : List ℤ). take (e - s) (drop s l)) (sym (take-append-drop at new) ∙ ap (λ (l : List ℤ). l ++ drop at new) (stretched-front n))
      ∙ part-kept pool (drop at new) at s e h f g

-- ---- the loop

-- the cells of the instants from t₀ up to t are written
pub record Grown (c h : ℤ) (r : Row) (at size t₀ : ℕ) (old new : List ℤ) (cursor : Cursor) (t : ℕ) : Type 0 where
  pub on : t₀ ≤ t
  pub in-room : t ≤ size
  pub is-cursor : cursor ≡ cursor_at r (pos t)
  pub cells : new ≡ stretched c r at t₀ (t - t₀) old
  pub below : (u : ℕ) (l : ℤ) → t₀ ≤ u → u < t → meant r (pos u) ≡ some l → l ≤ℤ h

module _ (c h : ℤ) (r : Row) (at size t₀ : ℕ) (old : List ℤ) where
  module _ (new : List ℤ) (cursor : Cursor) (t : ℕ) (g : Grown c h r at size t₀ old new cursor t) where
    pub grown-length : length new ≡ length old
    grown-length = ap length g.cells ∙ stretched-length c r at t₀ old (t - t₀)

    -- the row stands as it stood
    pub grown-kept : (s e : ℕ) → at ≤ length old → s ≤ e → e ≤ at → take (e - s) (drop s new) ≡ take (e - s) (drop s old)
    grown-kept s e i f k = ap (λ (l : List ℤ). take (e - s) (drop s l)) g.cells ∙ stretched-kept c r at t₀ old (t - t₀) s e i f k

    -- one instant more, with the label x
    pub grown-more : (x : Option ℤ) (next : Cursor) (cell : ℤ) → t < size → meant r (pos t) ≡ x → ((l : ℤ) → x ≡ some l → l ≤ℤ h) → cell ≡ cell_where c x → next ≡ cursor_at r (pos t +ℤ pos 1)
        → Grown c h r at size t₀ old (set new (at + t) cell) next (t + 1)
    grown-more x next cell m e b q k = record {
      on = omega (arith, g.on);
      in-room = omega arith;
      is-cursor = k ∙ ap (cursor_at r) (simp ints (omega arith));
      cells =
          let y : t₀ + (t - t₀) ≡ t = omega (arith, g.on) in
          ap (λ (l : List ℤ). set l (at + t) cell) g.cells
          ∙ ap (set (stretched c r at t₀ (t - t₀) old) (at + t)) (q ∙ ap (cell_where c) (sym e))
          ∙ ap (λ (u : ℕ). set (stretched c r at t₀ (t - t₀) old) (at + u) (cell_where c (meant r (pos u)))) (sym y)
          ∙ ap (λ (n : ℕ). stretched c r at t₀ n old) {x = suc (t - t₀)} {y = t + 1 - t₀} (omega (arith, g.on));
      below = λ u l i j f. by u l i f (⊎_map (λ z. z) (λ z. omega arith) (decided (ltb_iff u t)));
    }
      where
        by : (u : ℕ) (l : ℤ) → t₀ ≤ u → meant r (pos u) ≡ some l → (u < t) ⊎ (u ≡ t) → l ≤ℤ h
        by u l i f (inl j) = g.below u l i j f
        by u l i f (inr j) = b l (sym e ∙ ap (λ (v : ℕ). meant r (pos v)) (sym j) ∙ f)

-- a stretch from the instant 0 on, in a row with no label up to h, has none
pub leads : {h : ℤ} {r : Row} {at size : ℕ} {pool new : List ℤ} {p q : Reached} → Stretched empty h r at size pool p q new → p.t ≡ 0
    → ((u : ℕ) (l : ℤ) → u < size → meant r (pos u) ≡ some l → l ≤ℤ h → ⊥) → Led r at size pool q new
leads {h} {r} {at} {size} {pool} {new} {p} {q} x z f = record {
  follows = x.follows;
  cells = let n : q.t - p.t ≡ q.t = omega (arith, z) in x.cells ∙ ap₂ (λ (t m : ℕ). stretched empty r at t m pool) z n;
  unlabelled = λ u i. by u i (meant r (pos u)) refl;
  stops = λ m. let y = x.stops m in (y.0, y.1);
}
  where
    by : (u : ℕ) → u < q.t → (o : Option ℤ) → meant r (pos u) ≡ o → meant r (pos u) ≡ none
    by u i none e = e
    by u i (some l) e = absurd (f u l (omega (arith, x.follows.in-room)) e (x.below u l (omega (arith, z)) i e))
