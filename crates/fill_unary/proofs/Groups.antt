-- Group: its labels, and the labels of one group.
-- Assumes nothing.
use mathlib.Core.Path.{◌≡◌, ap}
use mathlib.Core.Option.{Option, map}
use Prim.Native.Nat.{ℕ, ◌≤◌, ◌<◌, ◌^◌}
use native.Mathlib.Omega.{arith}
use lib.IntN.{ℤ, pos, negsuc, neg_ℤ, ◌+ℤ◌, ◌-ℤ◌, ◌*ℤ◌}
use lib.Signed.{◌≤ℤ◌}
use mir.Syntax.{w64}
use mir.Val.{SFits}
use Rattle.integers.specs.Parts.{up}
use Rattle.integers.specs.Floor.{floor_mod, ceil_div}
use Rattle.integers.proofs.Linear.{ints, ◌∴◌}
use Rattle.integers.proofs.Order.{pos-up}
use Rattle.integers.proofs.Floor.{floor-lt, ceil-eq, ceil-unique}
use Rattle.calendar.specs.Meaning.{Row, meant}
use Rattle.calendar.specs.Operation.Unary.{group}
use Rattle.calendar.specs.Operation.Operation.{unary}
use Rattle.calendar.specs.Limits.{million}
use Rattle.calendar.specs.Compute.{result}
use Rattle.cursors.specs.Found.{Within}

-- the result, by a's label
pub group_of : (x : ℕ) (a : Row) (t : ℤ) (l : Option ℤ) → meant a t ≡ l → result (unary (group x) a) t ≡ map (λ j. ceil_div j x) l
unfolding result
group_of x a t l e = ap (map (λ j. ceil_div j x)) e

-- the labels of the group q end with q * x and are x in number: the numbers on the way fit, and all of them have this quotient
pub record Group (x q : ℤ) : Type 0 where
  pub high_fits : SFits w64 (q *ℤ x)
  pub less-fits : SFits w64 (q *ℤ x -ℤ x)
  pub low_fits : SFits w64 (q *ℤ x -ℤ x +ℤ pos 1)
  pub same : (i : ℤ) → (q *ℤ x -ℤ x +ℤ pos 1) ≤ℤ i → i ≤ℤ (q *ℤ x) → ceil_div i (up x) ≡ q

module _ (P : ℕ) (low : 1 ≤ P) where
  -- the labels from q * P - P + 1 to q * P are in the group q
  same-group : (q i : ℤ) → (q *ℤ pos P -ℤ pos P +ℤ pos 1) ≤ℤ i → i ≤ℤ (q *ℤ pos P) → ceil_div i P ≡ q
  same-group q i lo hi =
      let d : pos 0 ≤ℤ (pos P *ℤ q -ℤ i) = hi ∴ simp ints (omega arith) in
      ceil-unique P low i q (up (pos P *ℤ q -ℤ i)) (pos-up d ∴ simp ints (omega arith)) (pos-up d ∴ lo ∴ simp ints (omega arith))

  -- for q the number of the group of j
  ends-fit : P ≤ 1000000 → (j q : ℤ) (r : ℕ) → Within (2 ^ 40) j → j ≡ pos P *ℤ q -ℤ pos r → r < P
      → SFits w64 (q *ℤ pos P) × SFits w64 (q *ℤ pos P -ℤ pos P) × SFits w64 (q *ℤ pos P -ℤ pos P +ℤ pos 1)
  ends-fit high j q r w e l = w ∴ e ∴ simp ints (omega arith)

-- the group of j
pub group_at_lem : (x j q : ℤ) → pos 1 ≤ℤ x → x ≤ℤ million → Within (2 ^ 40) j → q ≡ ceil_div j (up x) → Group x q
group_at_lem (pos P) j q low high w e =
    let l : 1 ≤ P = low ∴ simp ints (omega arith) in
    let h : P ≤ 1000000 = high ∴ simp ints (omega arith) in
    let f = ends-fit P l h j q (floor_mod (neg_ℤ j) P) w (rw e (ceil-eq P l j)) (floor-lt P l (neg_ℤ j)) in
    record { high_fits = f.0; less-fits = f.1; low_fits = f.2; same = same-group P l q }
group_at_lem (negsuc n) j q low high w e = absurd low.le

-- j is one of its labels
pub group-has : (x j q : ℤ) → pos 1 ≤ℤ x → q ≡ ceil_div j (up x) → ((q *ℤ x -ℤ x +ℤ pos 1) ≤ℤ j) × (j ≤ℤ (q *ℤ x))
group-has (pos P) j q low e =
    let l : 1 ≤ P = low ∴ simp ints (omega arith) in
    within P q j (floor_mod (neg_ℤ j) P) (rw e (ceil-eq P l j)) (floor-lt P l (neg_ℤ j))
  where
    within : (P : ℕ) (q j : ℤ) (r : ℕ) → j ≡ pos P *ℤ q -ℤ pos r → r < P → ((q *ℤ pos P -ℤ pos P +ℤ pos 1) ≤ℤ j) × (j ≤ℤ (q *ℤ pos P))
    within P q j r e l = e ∴ simp ints (omega arith)
group-has (negsuc n) j q low e = absurd low.le
