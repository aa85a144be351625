-- The machine's signed division and remainder, which round toward zero, by a positive number: a correction by one divisor rounds them down, or up.
-- Assumes nothing.
use mathlib.Core.Path.{◌≡◌, ◌∙◌, ap, subst}
use Prim.Native.Nat.{ℕ, zero, suc, ◌<◌}
use native.Mathlib.Nat.{div-add-mod, mod-lt, div-le_self}
use native.Mathlib.Omega.{arith}
use lib.IntN.{ℤ, pos, negsuc, neg_ℤ, ◌+ℤ◌, ◌-ℤ◌, ◌*ℤ◌}
use lib.Signed.{◌≤ℤ◌, ◌<ℤ◌, quot_z, rem_z}
use mir.Syntax.{Width}
use mir.Val.{SFits, of_z, to_z}
use Rattle.integers.proofs.Linear.{ints, ◌∴◌}
use Rattle.integers.specs.Parts.{up}
use Rattle.integers.proofs.Machine.{plain, quot_fits}
use Rattle.integers.proofs.Order.{pos-up}
use Rattle.integers.specs.Floor.{floor_div, floor_mod, ceil_div}
use Rattle.integers.proofs.Floor.{floor-unique, ceil-unique}

quot-rem : (t : ℤ) (n : ℕ) → t ≡ pos n *ℤ quot_z t (pos n) +ℤ rem_z t (pos n)
quot-rem (pos a) n = simp ints (omega (arith, div-add-mod a n))
quot-rem (negsuc a) n = simp ints (omega (arith, div-add-mod (suc a) n))

rem-small : (t : ℤ) (n : ℕ) → 0 < n → (neg_ℤ (pos n) <ℤ rem_z t (pos n)) × (rem_z t (pos n) <ℤ pos n)
rem-small (pos a) n h = simp ints (omega (arith, mod-lt a h))
rem-small (negsuc a) n h = simp ints (omega (arith, mod-lt (suc a) h))

-- what a division or a remainder by a positive number asks
pub div-needs : {w : Width} {t p : ℤ} → SFits w t → SFits w p → pos 0 <ℤ p → (0 < of_z w p) × SFits w (quot_z (to_z w (of_z w t)) (to_z w (of_z w p)))
div-needs {w} {t} {p} f g h = (bits_pos w p h, simp plain (quot_fits f h))
  where
    bits_pos : (w : Width) (p : ℤ) → pos 0 <ℤ p → 0 < of_z w p
    bits_pos w (pos n) h = omega (arith, simp ints at h)
    bits_pos w (negsuc n) h = absurd h.lt

-- ---- rounded down
pub floor-fits : {w : Width} {t : ℤ} (P : ℕ) → SFits w t → SFits w (floor_div t P)
unfolding floor_div
floor-fits {t = pos a} P f = simp ints (omega (arith, simp ints at f, div-le_self a P))
floor-fits {t = negsuc a} P f = simp ints (omega (arith, simp ints at f, div-le_self a P))

-- a remainder of at least zero is the remainder of rounding down
pub floor-same : (t p : ℤ) → pos 0 <ℤ p → pos 0 ≤ℤ rem_z t p → (floor_div t (up p) ≡ quot_z t p) × (pos (floor_mod t (up p)) ≡ rem_z t p)
floor-same t (negsuc n) h k = absurd h.lt
floor-same t (pos n) h k =
    let above : 0 < n = omega (arith, simp ints at h) in
    let small = rem-small t n above in
    let u = floor-unique n above t (quot_z t (pos n)) (up (rem_z t (pos n))) (quot-rem t n ∴ pos-up k ∴ simp ints (omega arith)) (omega (arith, simp ints at small, simp ints at (pos-up k))) in
    (u.0, ap pos u.1 ∙ pos-up k)

-- a negative one wants one divisor more
pub floor-less : (t p : ℤ) → pos 0 <ℤ p → rem_z t p <ℤ pos 0 → (floor_div t (up p) ≡ quot_z t p -ℤ pos 1) × (pos (floor_mod t (up p)) ≡ rem_z t p +ℤ p)
floor-less t (negsuc n) h k = absurd h.lt
floor-less t (pos n) h k =
    let above : 0 < n = omega (arith, simp ints at h) in
    let small = rem-small t n above in
    let r : pos 0 ≤ℤ (rem_z t (pos n) +ℤ pos n) = small ∴ simp ints (omega arith) in
    let u = floor-unique n above t (quot_z t (pos n) -ℤ pos 1) (up (rem_z t (pos n) +ℤ pos n)) (quot-rem t n ∴ pos-up r ∴ simp ints (omega arith)) (omega (arith, simp ints at k, simp ints at (pos-up r))) in
    (u.0, ap pos u.1 ∙ pos-up r)

pub less-fits : {w : Width} {t p : ℤ} → SFits w t → pos 0 <ℤ p → rem_z t p <ℤ pos 0 → SFits w (quot_z t p -ℤ pos 1)
less-fits {w} {t} {p} f h k = subst (SFits w) (floor-less t p h k).0 (floor-fits (up p) f)

-- ---- rounded up
pub ceil-fits : {w : Width} {t : ℤ} (P : ℕ) → SFits w t → SFits w (ceil_div t P)
unfolding ceil_div floor_div
ceil-fits {t = pos zero} P f = simp ints (omega (arith, simp ints at f, div-le_self 0 P))
ceil-fits {t = pos (suc a)} P f = simp ints (omega (arith, simp ints at f, div-le_self a P))
ceil-fits {t = negsuc a} P f = simp ints (omega (arith, simp ints at f, div-le_self (suc a) P))

-- a remainder of at most zero leaves the quotient rounded up
pub ceil-same : (t p : ℤ) → pos 0 <ℤ p → rem_z t p ≤ℤ pos 0 → ceil_div t (up p) ≡ quot_z t p
ceil-same t (negsuc n) h k = absurd h.lt
ceil-same t (pos n) h k =
    let above : 0 < n = omega (arith, simp ints at h) in
    let small = rem-small t n above in
    let r : pos 0 ≤ℤ (neg_ℤ (rem_z t (pos n))) = k ∴ simp ints (omega arith) in
    ceil-unique n above t (quot_z t (pos n)) (up (neg_ℤ (rem_z t (pos n)))) (quot-rem t n ∴ pos-up r ∴ simp ints (omega arith)) (omega (arith, simp ints at small, simp ints at (pos-up r)))

-- a positive one wants one more
pub ceil-more : (t p : ℤ) → pos 0 <ℤ p → pos 0 <ℤ rem_z t p → ceil_div t (up p) ≡ quot_z t p +ℤ pos 1
ceil-more t (negsuc n) h k = absurd h.lt
ceil-more t (pos n) h k =
    let above : 0 < n = omega (arith, simp ints at h) in
    let small = rem-small t n above in
    let r : pos 0 ≤ℤ (pos n -ℤ rem_z t (pos n)) = small ∴ simp ints (omega arith) in
    ceil-unique n above t (quot_z t (pos n) +ℤ pos 1) (up (pos n -ℤ rem_z t (pos n))) (quot-rem t n ∴ pos-up r ∴ simp ints (omega arith)) (omega (arith, simp ints at k, simp ints at (pos-up r)))

pub more-fits : {w : Width} {t p : ℤ} → SFits w t → pos 0 <ℤ p → pos 0 <ℤ rem_z t p → SFits w (quot_z t p +ℤ pos 1)
more-fits {w} {t} {p} f h k = subst (SFits w) (ceil-more t p h k) (ceil-fits (up p) f)
