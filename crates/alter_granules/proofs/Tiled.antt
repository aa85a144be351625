-- The altered granules f(i) to f(i + 1) − 1, which tile the fine ones and repeat after n with D: how f rises, and the granule that has a fine one.
-- Assumes nothing.
use mathlib.Core.Path.{◌≡◌, refl, sym, ◌∙◌, ap, subst}
use mathlib.Core.Logic.{◌↔◌, ◌⊎◌, inl, inr}
use mathlib.Core.Option.{some}
use mathlib.Core.Bool.{Bool, true, false, cond}
use Prim.Native.Nat.{ℕ, zero, suc, ◌≤◌}
use native.Mathlib.Omega.{arith}
use lib.Dec.{eqb}
use lib.IntN.{ℤ, pos, ◌+ℤ◌, ◌-ℤ◌, ◌*ℤ◌}
use lib.Signed.{◌≤ℤ◌, ◌<ℤ◌}
use Rattle.integers.specs.Parts.{up}
use Rattle.integers.specs.Floor.{floor_div, floor_mod}
use Rattle.integers.proofs.Linear.{ints, ◌∴◌}
use Rattle.integers.proofs.Order.{le-or-lt, pos-up, Cases, cases}
use Rattle.integers.proofs.Order.Cases.{below, equal, above}
use Rattle.integers.proofs.Floor.{floor-eq}
use Rattle.calendar.specs.Meaning.{Row}
use Rattle.calendar.specs.Algebra.{changes, altered_first}
use Rattle.calendar.specs.Compute.{first_fine, last_fine, altered}
use Rattle.algebra.proofs.Tiles.{Tiling, holder, rises-many, tiles-ordered, rise-at-least, holder-iff}
use Rattle.algebra.proofs.Fine.{Partitioned, low, low-next}
use Rattle.algebra.proofs.AlterSize.{coarse_of, fine_of}
use Rattle.algebra.proofs.Altered.{last_fine-is, coarse-positive, first-turn, altered-tiling}
use Rattle.kinds.specs.declared.Alteration.{Alteration}
use Rattle.alter_granules.specs.Follows.{Altering, turn_coarse, turn_fine, begins, Holds}

-- ---- the definitions

first-is : (a b : Row) (x y : ℕ) (z i : ℤ) → first_fine a b x y z i ≡ altered_first x y z i (low a b i)
unfolding first_fine
first-is a b x y z i = refl

altered-is : (a b : Row) (x y : ℕ) (z j : ℤ) → altered a b x y z j ≡ holder (first_fine a b x y z) (last_fine a b x y z) (coarse_of x a b) (up (fine_of x z a b)) j
unfolding altered
altered-is a b x y z j = refl

-- p + (h − 1)·z or p + h·z, and q + h·z one granule on
sizes-with : (p q h z : ℤ) → q +ℤ h *ℤ z ≡ p +ℤ (h -ℤ pos 1) *ℤ z +ℤ (q -ℤ p +ℤ z)
sizes-with p q h z = simp ints (omega arith)

sizes-without : (p q h z : ℤ) → q +ℤ h *ℤ z ≡ p +ℤ h *ℤ z +ℤ (q -ℤ p +ℤ pos 0)
sizes-without p q h z = simp ints (omega arith)

sizes : (c : Bool) (p q h z : ℤ) → q +ℤ h *ℤ z ≡ p +ℤ cond c (h -ℤ pos 1) h *ℤ z +ℤ (q -ℤ p +ℤ cond c z (pos 0))
sizes true = sizes-with
sizes false = sizes-without

module _ (by : Alteration) (a b : Row) (given : Altering by a b) where
  pub known : Partitioned a b
  known = let r = given.1.ready in record { valid = r.valid; full = r.full; partition = r.aligned }

  tiling : Tiling (begins by a b) (last_fine a b (up by.x) (up by.y) by.z)
  tiling = altered-tiling a b known (up by.x) (up by.y) by.z given.1.ready.factor given.1.ready.kept

  -- ---- n and D

  pub coarse-low : pos 1 ≤ℤ turn_coarse by a b
  coarse-low = coarse-positive a b known (up by.x) (up by.y) by.z given.1.ready.factor ∴ simp ints (omega arith)

  turn-of : (i : ℤ) → begins by a b (i +ℤ turn_coarse by a b) ≡ begins by a b i +ℤ turn_fine by a b
  turn-of = first-turn a b known (up by.x) (up by.y) by.z given.1.ready.factor

  pub fine-low : turn_coarse by a b ≤ℤ turn_fine by a b
  fine-low = rise-at-least tiling (coarse_of (up by.x) a b) (turn_fine by a b) turn-of

  fine-natural : pos (up (turn_fine by a b)) ≡ turn_fine by a b
  fine-natural = pos-up (coarse-low ∴ fine-low ∴ simp ints (omega arith))

  fine-positive : 1 ≤ up (turn_fine by a b)
  fine-positive = fine-natural ∴ coarse-low ∴ fine-low ∴ simp ints (omega arith)

  turn-natural : (i : ℤ) → begins by a b (i +ℤ turn_coarse by a b) ≡ begins by a b i +ℤ pos (up (turn_fine by a b))
  turn-natural i = turn-of i ∙ ap (λ (d : ℤ). begins by a b i +ℤ d) (sym fine-natural)

  -- f(i + n·k) is f(i) + D·k
  pub begins-turns : (k i : ℤ) → begins by a b (i +ℤ turn_coarse by a b *ℤ k) ≡ begins by a b i +ℤ turn_fine by a b *ℤ k
  begins-turns k i =
      rises-many (begins by a b) (coarse_of (up by.x) a b) (up (turn_fine by a b)) turn-natural k i
      ∙ ap (λ (d : ℤ). begins by a b i +ℤ d *ℤ k) fine-natural

  -- ---- f rises

  pub begins-reflects : (i k : ℤ) → begins by a b i <ℤ begins by a b k → i <ℤ k
  begins-reflects i k h =
      tiles-ordered tiling i (k -ℤ pos 1) (begins by a b i) (begins by a b i) (simp ints (omega arith)) (simp ints (omega arith))
      (tiling.next (k -ℤ pos 1) ∴ ap (begins by a b) {x = k -ℤ pos 1 +ℤ pos 1} {y = k} (simp ints (omega arith)) ∴ h ∴ simp ints (omega arith))
      ∴ simp ints (omega arith)

  pub begins-mono : (i k : ℤ) → i ≤ℤ k → begins by a b i ≤ℤ begins by a b k
  begins-mono i k h = go (le-or-lt (begins by a b i) (begins by a b k))
    where
      go : (begins by a b i ≤ℤ begins by a b k) ⊎ (begins by a b k <ℤ begins by a b i) → begins by a b i ≤ℤ begins by a b k
      go (inl e) = e
      go (inr e) = absurd (begins-reflects k i e ∴ h ∴ simp ints (omega arith))

  pub begins-rise : (i : ℤ) → begins by a b i <ℤ begins by a b (i +ℤ pos 1)
  begins-rise i = tiling.next i ∴ tiling.nonempty i ∴ simp ints (omega arith)

  -- z is added for each change up to the granule before
  begins-after : (i : ℤ) → begins by a b (i +ℤ pos 1) ≡ low a b (i +ℤ pos 1) +ℤ changes (up by.x) (up by.y) i *ℤ by.z
  begins-after i = tiling.next i ∴ last_fine-is a b (up by.x) (up by.y) by.z i ∴ low-next a b known i ∴ simp ints (omega arith)

  pub begins-is : (i : ℤ) → begins by a b i ≡ low a b i +ℤ changes (up by.x) (up by.y) (i -ℤ pos 1) *ℤ by.z
  begins-is i =
      let e : i ≡ i -ℤ pos 1 +ℤ pos 1 = simp ints (omega arith) in
      ap (begins by a b) e ∙ begins-after (i -ℤ pos 1) ∙ ap (λ (k : ℤ). low a b k +ℤ changes (up by.x) (up by.y) (i -ℤ pos 1) *ℤ by.z) (sym e)

  -- f rises by the fine granules of the coarse one, and by z more where x divides i − y
  pub begins-step : (i : ℤ)
      → begins by a b (i +ℤ pos 1) ≡ begins by a b i +ℤ (low a b (i +ℤ pos 1) -ℤ low a b i +ℤ cond (eqb (floor_mod (i -ℤ pos (up by.y)) (up by.x)) 0) by.z (pos 0))
  begins-step i =
      begins-after i
      ∙ sizes (eqb (floor_mod (i -ℤ pos (up by.y)) (up by.x)) 0) (low a b i) (low a b (i +ℤ pos 1)) (changes (up by.x) (up by.y) i) by.z
      ∙ ap (λ (f : ℤ). f +ℤ (low a b (i +ℤ pos 1) -ℤ low a b i +ℤ cond (eqb (floor_mod (i -ℤ pos (up by.y)) (up by.x)) 0) by.z (pos 0)))
      (sym (first-is a b (up by.x) (up by.y) by.z i))

  -- ---- the altered granule of a fine one

  pub altered-iff : (j i : ℤ) → (altered a b (up by.x) (up by.y) by.z j ≡ some i) ↔ Holds by a b j i
  altered-iff j i =
      let h = holder-iff tiling (coarse_of (up by.x) a b) (up (turn_fine by a b)) turn-natural (coarse-positive a b known (up by.x) (up by.y) by.z given.1.ready.factor) j i in
      let e = altered-is a b (up by.x) (up by.y) by.z j in
      let n = tiling.next i in (
        λ p. let q = h.0 (sym e ∙ p) in (q.0, q.1 ∴ n ∴ simp ints (omega arith)),
        λ q. e ∙ h.1 (q.0, q.1 ∴ n ∴ simp ints (omega arith)),
      )

  -- D fine granules on, it is n higher
  pub holds-turn : (j i : ℤ) → Holds by a b j i → Holds by a b (j +ℤ turn_fine by a b) (i +ℤ turn_coarse by a b)
  holds-turn j i h =
      let e = turn-of i in
      let f = ap (begins by a b) {x = i +ℤ turn_coarse by a b +ℤ pos 1} {y = i +ℤ pos 1 +ℤ turn_coarse by a b} (simp ints (omega arith)) ∙ turn-of (i +ℤ pos 1) in
      (e ∴ h.0 ∴ simp ints (omega arith), f ∴ h.1 ∴ simp ints (omega arith))

  -- m fine granules behind the first one of the altered granule i
  holds_after : (i : ℤ) (m : ℕ) → (k : ℤ) × Holds by a b (begins by a b i +ℤ pos m) k
  holds_after i zero = (i, (simp ints (omega arith), begins-rise i ∴ simp ints (omega arith)))
  holds_after i (suc m) = let h = holds_after i m in go h.0 h.1 (cases (begins by a b i +ℤ pos (suc m)) (begins by a b (h.0 +ℤ pos 1)))
    where
      go : (k : ℤ) → Holds by a b (begins by a b i +ℤ pos m) k → Cases (begins by a b i +ℤ pos (suc m)) (begins by a b (k +ℤ pos 1))
          → (u : ℤ) × Holds by a b (begins by a b i +ℤ pos (suc m)) u
      go k h (below e) = (k, (h.0 ∴ simp ints (omega arith), e))
      go k h (equal e) = (k +ℤ pos 1, (e ∴ simp ints (omega arith), e ∴ begins-rise (k +ℤ pos 1) ∴ simp ints (omega arith)))
      go k h (above e) = absurd (h.1 ∴ e ∴ simp ints (omega arith))

  -- each fine granule is in one
  pub holds-some : (j : ℤ) → (k : ℤ) × Holds by a b j k
  holds-some j =
      let d = j -ℤ begins by a b (pos 0) in
      let D = up (turn_fine by a b) in
      let q = floor_div d D in
      let i = pos 0 +ℤ turn_coarse by a b *ℤ q in
      let r = holds_after i (floor_mod d D) in
      let e : begins by a b i +ℤ pos (floor_mod d D) ≡ j =
      begins-turns q (pos 0) ∴ ap (λ (z : ℤ). z *ℤ q) fine-natural ∴ floor-eq D (fine-positive) d ∴ simp ints (omega arith) in
      (r.0, subst (λ (u : ℤ). Holds by a b u r.0) e r.1)
