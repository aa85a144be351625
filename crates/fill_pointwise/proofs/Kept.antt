-- A set operation with a row of one cell: the cells that are written, and what they are.
-- Assumes nothing.
use mathlib.Core.Path.{◌≡◌, refl, sym, ◌∙◌, ap, ap₂, subst}
use mathlib.Core.Bool.{Bool, true, false, cond, ◌||◌}
use mathlib.Core.List.{List}
use Prim.Native.Nat.{ℕ, zero, suc, ◌+◌, ◌≤◌, ◌<◌}
use native.Mathlib.Numerals.{add-one}
use native.Mathlib.Omega.{arith}
use lib.Dec.{ltb}
use lib.IntN.{ℤ, pos, ◌+ℤ◌}
use lib.Signed.{◌≤ℤ◌}
use lib.ListN.{get_or, set}
use lib.Seq.{get_or-set_other}
use Rattle.integers.proofs.Linear.{ints, ◌∴◌}
use Rattle.calendar.specs.Lists.{only, is_some, if_label}
use Rattle.calendar.specs.Compute.{result, cell_of}
use Rattle.calendar.specs.Limits.{in_range, label_limit}
use Rattle.granules.proofs.Tests.{ltb_iff}
use Rattle.algebra.proofs.Working.{in_range-iff}
use Rattle.cursors.specs.Found.{Within}
use Rattle.kinds.specs.declared.Kind.{Kind}
use Rattle.kinds.specs.Operations.{operation_of}
use Rattle.fill_shared.proofs.Filling.{Lent, Filling, row_of, filling-more}
use Rattle.fill_pointwise.specs.Beside.{kept_at, kept_cells, kept_count}

module _ (c : ℤ) (bare shared : Bool) (from at : ℕ) (pool : List ℤ) where
  -- the cells before `at` stay
  pub kept-before : (n i : ℕ) (d : ℤ) → i < at → get_or (kept_cells c bare shared from at n pool) i d ≡ get_or pool i d
  kept-before zero i d h = refl
  kept-before (suc n) i d h =
      get_or-set_other (kept_cells c bare shared from at n pool) (at + n) i _ d (λ e. omega arith) ∙ kept-before n i d h

  pub count-few : (n : ℕ) → kept_count bare shared from n pool ≤ n
  count-few zero = omega arith
  count-few (suc n) = by (kept_at bare shared from pool n) (kept_count bare shared from n pool) (count-few n)
    where
      by : (b : Bool) (m : ℕ) → m ≤ n → cond b (1 + m) m ≤ suc n
      by true m h = omega arith
      by false m h = omega arith

  -- an instant more, which is kept or not
  module _ (n : ℕ) (new : List ℤ) (e : new ≡ kept_cells c bare shared from at n pool) (b : Bool) (k : b ≡ kept_at bare shared from pool n) where
    pub cells-more : (z : ℤ) → z ≡ cell_of (only (c +ℤ pos n) b) → set new (at + n) z ≡ kept_cells c bare shared from at (n + 1) pool
    cells-more z f =
        ap₂ (λ (l : List ℤ) (y : ℤ). set l (at + n) y) e (f ∙ ap (λ (d : Bool). cell_of (only (c +ℤ pos n) d)) k)
        ∙ ap (λ (m : ℕ). kept_cells c bare shared from at m pool) (sym (add-one n))

    pub count-more : (m count : ℕ) → count ≡ kept_count bare shared from n pool → m ≡ cond b (1 + count) count → m ≡ kept_count bare shared from (n + 1) pool
    count-more m count f g =
        g ∙ ap₂ (λ (d : Bool) (i : ℕ). cond d (1 + i) i) k f ∙ ap (λ (i : ℕ). kept_count bare shared from i pool) (sym (add-one n))

-- ---- the working row

module _ (k : Kind) (a b : Lent) (at period : ℕ) (old : List ℤ) (h : Filling k a b at period old old false 0)
    (c : ℤ) (bare shared : Bool) (from : ℕ) (low : Within 1000000000 c) (high : (c +ℤ pos period) ≤ℤ label_limit)
    (is : (t : ℕ) → t < period → result (operation_of k (row_of a old) (row_of b old)) (pos t) ≡ only (c +ℤ pos t) (kept_at bare shared from old t)) where
  only-range : (t : ℕ) → t < period → (b : Bool) → if_label (only (c +ℤ pos t) b) in_range ≡ true
  only-range t l true = (in_range-iff (c +ℤ pos t)).1 (low.0 ∴ high ∴ l ∴ simp ints (omega arith))
  only-range t l false = refl

  labelled-more : (j : ℤ) (b : Bool) (m : ℕ) → ltb 0 (cond b (1 + m) m) ≡ is_some (only j b) || ltb 0 m
  labelled-more j true m = (ltb_iff 0 (1 + m)).1 (omega arith)
  labelled-more j false m = refl

  pub kept-filling : (n : ℕ) → n ≤ period → Filling k a b at period old (kept_cells c bare shared from at n old) (ltb 0 (kept_count bare shared from n old)) n
  kept-filling zero l = h
  kept-filling (suc n) l =
      let m : n < period = omega arith in
      let d = kept_at bare shared from old n in
      subst (λ (i : ℕ). Filling k a b at period old (kept_cells c bare shared from at (suc n) old) (ltb 0 (kept_count bare shared from (suc n) old)) i) (add-one n)
      (filling-more k a b at period old _ _ n (kept-filling n (omega arith)) m (only (c +ℤ pos n) d) (sym (is n m)) _ _
      (only-range n m d) refl (labelled-more (c +ℤ pos n) d (kept_count bare shared from n old)))
