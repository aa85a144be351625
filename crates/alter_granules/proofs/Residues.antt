-- Which integers a number x divides after some steps of A: those that the greatest common divisor g of A and x divides.
--     By Bezout's equation g is A-as-X + x·Y. If d is g·q, then d − A·X·q is x·Y·q.
-- So what holds of i and of i + A, and of an i with x dividing i − y, holds of one of A integers in a row with g dividing i − y; and the other way.
-- Assumes nothing.
use mathlib.Core.Path.{◌≡◌, refl, ◌∙◌, ap}
use mathlib.Core.Logic.{◌↔◌}
use Prim.Native.Nat.{ℕ, ◌*◌, ◌/◌, ◌<◌}
use native.Mathlib.Nat.{mul-div_cancel'}
use native.Mathlib.Omega.{arith}
use lib.IntN.{ℤ, pos, neg_ℤ, ◌+ℤ◌, ◌-ℤ◌, ◌*ℤ◌}
use lib.Signed.{◌≤ℤ◌, ◌<ℤ◌}
use Rattle.integers.specs.Floor.{floor_div, floor_mod}
use Rattle.integers.specs.Gcd.{gcd}
use Rattle.integers.proofs.Linear.{ints, ◌∴◌}
use Rattle.integers.proofs.Floor.{floor-eq, floor-lt, floor-unique, floor_mod-shift}
use Rattle.integers.proofs.Divisors.{gcd-dvd, gcd-pos, bezout}

-- n divides d: as a remainder, and by an equation
module _ (n : ℕ) (above : 0 < n) where
  multiple : (d k : ℤ) → d ≡ pos n *ℤ k → floor_mod d n ≡ 0
  multiple d k e = (floor-unique n above d k 0 (e ∴ simp ints (omega arith)) above).1

  quotient : (d : ℤ) → floor_mod d n ≡ 0 → d ≡ pos n *ℤ floor_div d n
  quotient d e = floor-eq n above d ∴ e ∴ simp ints (omega arith)

-- the sums of the two steps
times : (d q : ℤ) (g x m : ℕ) → g * m ≡ x → d ≡ pos x *ℤ q → d ≡ pos g *ℤ (pos m *ℤ q)
times d q g x m e h = h ∴ ap (λ (n : ℕ). pos n *ℤ q) e ∴ simp ints (omega arith)

bezout-step : (d q u v : ℤ) (g A x : ℕ) → pos g ≡ pos A *ℤ u +ℤ pos x *ℤ v → d ≡ pos g *ℤ q → d +ℤ pos A *ℤ neg_ℤ (u *ℤ q) ≡ pos x *ℤ (v *ℤ q)
bezout-step d q u v g A x e h = h ∴ ap (λ (z : ℤ). z *ℤ q) e ∴ simp ints (omega arith)

module _ (A x : ℕ) (above : 0 < A) (factor : 0 < x) where
  abbrev pub g : ℕ
  g = gcd A x

  g-above : 0 < g
  g-above = gcd-pos A x above

  -- g divides what x divides
  narrower : (d : ℤ) → floor_mod d x ≡ 0 → floor_mod d g ≡ 0
  narrower d e =
      multiple g g-above d (pos (x / g) *ℤ floor_div d x) (times d (floor_div d x) g x (x / g) (mul-div_cancel' g (gcd-dvd A x).1) (quotient x factor d e))

  -- and x divides what g divides, after some steps of A
  wider : (d : ℤ) → floor_mod d g ≡ 0 → (m : ℤ) × (floor_mod (d +ℤ pos A *ℤ m) x ≡ 0)
  wider d e =
      let w = bezout A x in
      let q = floor_div d g in
      (neg_ℤ (w.x *ℤ q), multiple x factor _ (w.y *ℤ q) (bezout-step d q w.x w.y g A x w.sum (quotient g g-above d e)))

  -- steps of A leave the remainder by g
  kept : (d k : ℤ) → floor_mod (d +ℤ pos A *ℤ k) g ≡ floor_mod d g
  kept d k =
      ap (λ (z : ℤ). floor_mod (d +ℤ z) g) (times (pos A *ℤ k) k g A (A / g) (mul-div_cancel' g (gcd-dvd A x).0) refl)
      ∙ floor_mod-shift g g-above d (pos (A / g) *ℤ k)

  apart : (i y k : ℤ) → i +ℤ pos A *ℤ k -ℤ y ≡ i -ℤ y +ℤ pos A *ℤ k
  apart i y k = simp ints (omega arith)

  pub in_window : (Q : ℤ → Type 0) → ((i k : ℤ) → Q i → Q (i +ℤ pos A *ℤ k)) → (y s : ℤ)
      → ((i : ℤ) × (floor_mod (i -ℤ y) x ≡ 0) × Q i) ↔ ((i : ℤ) × (s ≤ℤ i) × (i <ℤ (s +ℤ pos A)) × (floor_mod (i -ℤ y) g ≡ 0) × Q i)
  in_window Q moves y s = (
    λ h. let i = h.0 in
        let k = neg_ℤ (floor_div (i -ℤ s) A) in
        let e = floor-eq A above (i -ℤ s) in (
          i +ℤ pos A *ℤ k,
          e ∴ simp ints (omega arith),
          e ∴ floor-lt A above (i -ℤ s) ∴ simp ints (omega arith),
          ap (λ (z : ℤ). floor_mod z g) (apart i y k) ∙ kept (i -ℤ y) k ∙ narrower (i -ℤ y) h.1,
          moves i k h.2,
        ),
    λ h. let i = h.0 in
        let m = wider (i -ℤ y) h.3 in
        (i +ℤ pos A *ℤ m.0, ap (λ (z : ℤ). floor_mod z x) (apart i y m.0) ∙ m.1, moves i m.0 h.4),
  )
