-- The test of emptied granules (check 10) passes exactly when alter leaves some granule with no fine granule. It is over the granules 0 to n − 1, and
-- decides for all: n granules on, first and last fine granule have both risen by D, so the granule i is emptied exactly if the granule i mod n is.
use mathlib.Core.Path.{◌≡◌, refl, sym, ◌∙◌, ap}
use mathlib.Core.Logic.{◌↔◌}
use mathlib.Core.Bool.{true, false}
use mathlib.Core.List.{Memᴰ}
use Prim.Native.Nat.{ℕ, ◌≤◌, ◌<◌}
use native.Mathlib.Omega.{arith}
use lib.IntN.{ℤ, pos, ◌+ℤ◌, ◌-ℤ◌, ◌*ℤ◌}
use lib.Signed.{◌≤ℤ◌, ◌<ℤ◌, lt_z}
use Rattle.integers.specs.Floor.{floor_div, floor_mod}
use Rattle.integers.proofs.Linear.{ints, ◌∴◌}
use Rattle.integers.proofs.Floor.{floor-eq, floor-lt}
use Rattle.integers.proofs.Periods.{Period, period-many}
use Rattle.calendar.specs.Meaning.{Row}
use Rattle.calendar.specs.Operation.{Operation}
use Rattle.calendar.specs.Operation.Binary.{alter, combine, anchor, select, by-labels}
use Rattle.calendar.specs.Operation.Operation.{bottom, unary, binary}
use Rattle.calendar.specs.Algebra.{FullOperands, Aligned, Emptied}
use Rattle.calendar.specs.Lists.{any, from}
use Rattle.calendar.specs.Compute.{first_fine, last_fine}
use Rattle.calendar.specs.Checks.{emptied}
use Rattle.granules.specs.Valid.{Valid}
use Rattle.granules.proofs.Tests.{true≢false, lt_z-iff}
use Rattle.granules.proofs.Lists.{mem-from, any-iff}
use Rattle.algebra.specs.Ready.{Operands, meaning}
use Rattle.algebra.specs.Factor.{Factor}
use Rattle.algebra.proofs.Fine.{Partitioned}
use Rattle.algebra.proofs.AlterSize.{coarse_of, fine_of}
use Rattle.algebra.proofs.Altered.{coarse-positive, first-turn, last_turn, emptied-at}

emptied-is : (x y : ℕ) (z : ℤ) (a b : Row)
    → emptied (binary (alter x y z) a b) ≡ any (λ i. lt_z (last_fine a b x y z i) (first_fine a b x y z i)) (from (pos 0) (coarse_of x a b))
unfolding emptied
emptied-is x y z a b = refl

in_window : (k n : ℕ) → k < n → (pos 0 ≤ℤ pos k) × (pos k <ℤ (pos 0 +ℤ pos n))
in_window k n = simp ints (omega arith)

-- if f and l rise by D after n and l is below f at i, it is so at i mod n
below-within : (f l : ℤ → ℤ) (n : ℕ) (D : ℤ) → 1 ≤ n → ((i : ℤ) → f (i +ℤ pos n) ≡ f i +ℤ D) → ((i : ℤ) → l (i +ℤ pos n) ≡ l i +ℤ D)
    → (i : ℤ) → l i <ℤ f i → (u : ℤ) × Memᴰ u (from (pos 0) n) × (l u <ℤ f u)
unfolding Period
below-within f l n D above p q i h =
    let m = pos (floor_mod i n) in
    let e : i ≡ m +ℤ pos n *ℤ floor_div i n = floor-eq n above i ∴ simp ints (omega arith) in
    let g = ap gap e ∙ period-many gap n gap-period (floor_div i n) m in
    (m, (mem-from m (pos 0) n).1 (in_window (floor_mod i n) n (floor-lt n above i)), g ∴ h ∴ simp ints (omega arith))
  where
    gap : ℤ → ℤ
    gap t = l t -ℤ f t

    gap-period : (t : ℤ) → gap (t +ℤ pos n) ≡ gap t
    gap-period t = p t ∴ q t ∴ simp ints (omega arith)

alter-iff : (x y : ℕ) (z : ℤ) (a b : Row) → Valid a × Valid b → 1 ≤ x → FullOperands (meaning (binary (alter x y z) a b)) → Aligned (meaning (binary (alter x y z) a b))
    → (emptied (binary (alter x y z) a b) ≡ true) ↔ Emptied (meaning (binary (alter x y z) a b))
alter-iff x y z a b v above full aligned = (
  λ e. let h = test.0 (sym (emptied-is x y z a b) ∙ e) in at.1 (h.0, (lt_z-iff (last_fine a b x y z h.0) (first_fine a b x y z h.0)).0 h.2),
  λ h. let k = at.0 h in
      let u = below-within (first_fine a b x y z) (last_fine a b x y z) n (fine_of x z a b) positive firsts lasts k.0 k.1 in
      emptied-is x y z a b ∙ test.1 (u.0, u.1, (lt_z-iff (last_fine a b x y z u.0) (first_fine a b x y z u.0)).1 u.2),
)
  where
    known : Partitioned a b
    known = record { valid = v; full = full; partition = aligned }

    n : ℕ
    n = coarse_of x a b

    positive : 1 ≤ n
    positive = coarse-positive a b known x y z above

    firsts : (i : ℤ) → first_fine a b x y z (i +ℤ pos n) ≡ first_fine a b x y z i +ℤ fine_of x z a b
    firsts = first-turn a b known x y z above

    lasts : (i : ℤ) → last_fine a b x y z (i +ℤ pos n) ≡ last_fine a b x y z i +ℤ fine_of x z a b
    lasts = last_turn a b known x y z above

    at : Emptied (meaning (binary (alter x y z) a b)) ↔ ((i : ℤ) × (last_fine a b x y z i <ℤ first_fine a b x y z i))
    at = emptied-at a b known x y z above

    test : (any (λ i. lt_z (last_fine a b x y z i) (first_fine a b x y z i)) (from (pos 0) n) ≡ true)
        ↔ ((u : ℤ) × Memᴰ u (from (pos 0) n) × (lt_z (last_fine a b x y z u) (first_fine a b x y z u) ≡ true))
    test = any-iff (λ i. lt_z (last_fine a b x y z i) (first_fine a b x y z i)) (from (pos 0) n)

-- no other kind empties a granule
never : (o : Operation Row) → emptied o ≡ false → (emptied o ≡ true) ↔ ⊥
never o e = (λ h. true≢false h e, λ h. absurd h)

pub emptied-iff : (o : Operation Row) → Operands Valid o → Factor o → FullOperands (meaning o) → Aligned (meaning o) → (emptied o ≡ true) ↔ Emptied (meaning o)
unfolding emptied
emptied-iff bottom v f full aligned = never bottom refl
emptied-iff (unary u a) v f full aligned = never (unary u a) refl
emptied-iff (binary (alter x y z) a b) v f full aligned = alter-iff x y z a b v f full aligned
emptied-iff (binary combine a b) v f full aligned = never (binary combine a b) refl
emptied-iff (binary anchor a b) v f full aligned = never (binary anchor a b) refl
emptied-iff (binary (select s) a b) v f full aligned = never (binary (select s) a b) refl
emptied-iff (binary (by-labels s) a b) v f full aligned = never (binary (by-labels s) a b) refl
