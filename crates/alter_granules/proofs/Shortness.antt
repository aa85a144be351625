-- Check 10 by the lengths of coarse granules. Altered, the granule i has z fine granules more if x divides i − y, and as many as before if not. So it is
-- emptied exactly if x divides i − y and q(i) + z is below p(i). A granules on, p and q have both risen by B; so by `Residues` it is enough
-- to look at A granules in a row, for those with g dividing i − y.
-- Assumes nothing.
use mathlib.Core.Path.{◌≡◌, refl, sym, ◌∙◌, ap}
use mathlib.Core.Logic.{◌↔◌}
use mathlib.Core.Bool.{Bool, true, false, cond}
use Prim.Native.Nat.{ℕ, ◌≤◌}
use native.Mathlib.Omega.{arith}
use lib.Dec.{eqb}
use lib.IntN.{ℤ, pos, ◌+ℤ◌, ◌-ℤ◌, ◌*ℤ◌}
use lib.Signed.{◌≤ℤ◌, ◌<ℤ◌, lt_z}
use Rattle.integers.specs.Parts.{up}
use Rattle.integers.specs.Floor.{floor_mod}
use Rattle.integers.specs.Gcd.{gcd}
use Rattle.integers.proofs.Linear.{ints, ◌∴◌}
use Rattle.integers.proofs.Order.{pos-up}
use Rattle.calendar.specs.Meaning.{Row, meant}
use Rattle.calendar.specs.Operation.Operation.{binary}
use Rattle.calendar.specs.Operation.Binary.{alter}
use Rattle.calendar.specs.Algebra.{changes, altered_first, altered_last}
use Rattle.calendar.specs.Lists.{any, from}
use Rattle.calendar.specs.Checks.{emptied}
use Rattle.granules.proofs.Tests.{and-iff, eqb-iff, lt_z-iff, false-iff, test-ext}
use Rattle.granules.proofs.Lists.{any-iff, mem-from}
use Rattle.algebra.proofs.Span.{rise-positive-right}
use Rattle.algebra.proofs.Tiles.{rises-many}
use Rattle.algebra.proofs.Fine.{Partitioned, rise_coarse, rise_fine, low, high, spans-unique, low-spans, low_turn, high-turn}
use Rattle.algebra.proofs.EmptiedCheck.{emptied-iff}
use Rattle.kinds.specs.declared.Alteration.{Alteration}
use Rattle.kinds.specs.Limits.{Limits}
use Rattle.alter_granules.specs.Given.{altering}
use Rattle.alter_granules.specs.Short.{short_by, short}
use Rattle.alter_granules.proofs.Residues.{in_window}

-- b's granule i is a's granules p to q: altered it has none exactly if it is altered and z takes them all
emptied-one : (x y : ℕ) (z i p q : ℤ) → p ≤ℤ q → (altered_last x y z i q <ℤ altered_first x y z i p) ↔ ((floor_mod (i -ℤ pos y) x ≡ 0) × ((q +ℤ z) <ℤ p))
emptied-one x y z i p q h = by (eqb m 0) refl
  where
    m : ℕ
    m = floor_mod (i -ℤ pos y) x

    c : ℤ
    c = changes x y i

    by : (t : Bool) → eqb m 0 ≡ t → ((q +ℤ c *ℤ z) <ℤ (p +ℤ cond t (c -ℤ pos 1) c *ℤ z)) ↔ ((m ≡ 0) × ((q +ℤ z) <ℤ p))
    by true e = (λ l. ((eqb-iff m 0).0 e, l ∴ simp ints (omega arith)), λ l. l.1 ∴ simp ints (omega arith))
    by false e = (λ l. absurd (l ∴ h ∴ simp ints (omega arith)), λ l. absurd ((false-iff (eqb-iff m 0)).0 e l.0))

module _ (a b : Row) (known : Partitioned a b) (x y : ℕ) (z : ℤ) (factor : 1 ≤ x) where
  -- z takes all fine granules of the granule i
  abbrev Takes : ℤ → Type 0
  Takes i = (high a b i +ℤ z) <ℤ low a b i

  emptied-when : (emptied (binary (alter x y z) a b) ≡ true) ↔ ((i : ℤ) × (floor_mod (i -ℤ pos y) x ≡ 0) × Takes i)
  emptied-when =
      let t = emptied-iff (binary (alter x y z) a b) known.valid factor known.full known.partition in (
        λ e. let h = t.0 e in
            let u = spans-unique (meant a) (meant b) known.full.0 h.0 h.1 h.2 (low a b h.0) (high a b h.0) h.3 (low-spans a b known h.0) in
            let l = (emptied-one x y z h.0 h.1 h.2 h.3.0).0 h.4 in
            (h.0, l.0, l.1 ∴ u.0 ∴ u.1 ∴ simp ints (omega arith)),
        λ h. let i = h.0 in
            let s = low-spans a b known i in
            t.1 (i, low a b i, high a b i, s, (emptied-one x y z i (low a b i) (high a b i) s.0).1 (h.1, h.2)),
      )

  takes_moved : (i k : ℤ) → Takes i → Takes (i +ℤ pos (rise_coarse a b) *ℤ k)
  takes_moved i k h =
      rises-many (low a b) (rise_coarse a b) (rise_fine a b) (low_turn a b known) k i
      ∴ rises-many (high a b) (rise_coarse a b) (rise_fine a b) (high-turn a b known) k i
      ∴ h
      ∴ simp ints (omega arith)

  -- it is enough to look at A granules in a row
  emptied-window : (s : ℤ) → (emptied (binary (alter x y z) a b) ≡ true)
      ↔ ((i : ℤ) × (s ≤ℤ i) × (i <ℤ (s +ℤ pos (rise_coarse a b))) × (floor_mod (i -ℤ pos y) (gcd (rise_coarse a b) x) ≡ 0) × Takes i)
  emptied-window s =
      let w = in_window (rise_coarse a b) x (rise-positive-right a b known.valid.0 known.valid.1) factor Takes takes_moved (pos y) s in
      (λ e. w.0 (emptied-when.0 e), λ h. emptied-when.1 (w.1 h))

  -- where z takes none, none is emptied
  emptied-none : pos 0 ≤ℤ z → emptied (binary (alter x y z) a b) ≡ false
  emptied-none h = (false-iff emptied-when).1 (λ e. e.2 ∴ h ∴ (low-spans a b known e.0).0 ∴ simp ints (omega arith))

-- ---- as the code tests it

pub short-is : (by : Alteration) (a b : Row) (g : ℕ) (i : ℤ) → short by a b g i ≡ short_by by g i (high a b i -ℤ low a b i +ℤ pos 1)
unfolding short
short-is by a b g i = refl

short-iff : (by : Alteration) (a b : Row) (g : ℕ) (i : ℤ) → (short by a b g i ≡ true) ↔ ((floor_mod (i -ℤ by.y) g ≡ 0) × ((high a b i +ℤ by.z) <ℤ low a b i))
short-iff by a b g i =
    let size = high a b i -ℤ low a b i +ℤ pos 1 in
    let l = lt_z-iff (size +ℤ by.z) (pos 1) in
    let m = eqb-iff (floor_mod (i -ℤ by.y) g) 0 in
    let t = and-iff (lt_z (size +ℤ by.z) (pos 1)) (eqb (floor_mod (i -ℤ by.y) g) 0) in (
      λ e. let h = t.0 (sym (short-is by a b g i) ∙ e) in (m.0 h.1, l.0 h.0 ∴ simp ints (omega arith)),
      λ h. short-is by a b g i ∙ t.1 (l.1 (h.1 ∴ simp ints (omega arith)), m.1 h.0),
    )

module _ (by : Alteration) (a b : Row) (known : Partitioned a b) (limits : Limits by) where
  factor : 1 ≤ up by.x
  factor = let e = pos-up {z = by.x} (limits.x-low ∴ simp ints (omega arith)) in omega (arith, simp ints at e, simp ints at limits.x-low)

  pub emptied-pass : (s : ℤ) → any (short by a b (gcd (rise_coarse a b) (up by.x))) (from s (rise_coarse a b)) ≡ emptied (altering by a b)
  emptied-pass s =
      let A = rise_coarse a b in
      let g = gcd A (up by.x) in
      let e = pos-up {z = by.y} (limits.y-low ∴ simp ints (omega arith)) in
      let w = emptied-window a b known (up by.x) (up by.y) by.z factor s in
      let t = any-iff (short by a b g) (from s A) in
      test-ext
      (λ h. let u = t.0 h in
      let m = (mem-from u.0 s A).0 u.1 in
      let k = (short-iff by a b g u.0).0 u.2 in
      w.1 (u.0, m.0, m.1, ap (λ (y : ℤ). floor_mod (u.0 -ℤ y) g) e ∙ k.0, k.1))
      (λ h. let u = w.0 h in
      t.1 (u.0, (mem-from u.0 s A).1 (u.1, u.2), (short-iff by a b g u.0).1 (ap (λ (y : ℤ). floor_mod (u.0 -ℤ y) g) (sym e) ∙ u.3, u.4)))

  pub emptied-never : pos 0 ≤ℤ by.z → emptied (altering by a b) ≡ false
  emptied-never h = emptied-none a b known (up by.x) (up by.y) by.z factor h
