-- Calendars that repeat: whole periods forward and back, and what two periods have to do with one another.
use mathlib.Core.Path.{◌≡◌, refl, sym, ◌∙◌, ap}
use mathlib.Core.Logic.{◌↔◌, ◌⊎◌, inl, inr}
use mathlib.Core.Option.{Option, none, some}
use Prim.Native.Nat.{ℕ, zero, suc, ◌≤◌, ◌*◌}
use native.Mathlib.Omega.{arith}
use lib.IntN.{ℤ, pos, negsuc, neg_ℤ, ◌+ℤ◌, ◌-ℤ◌, ◌*ℤ◌}
use lib.Signed.{◌≤ℤ◌, ◌<ℤ◌}
use Rattle.integers.proofs.Linear.{ints, ◌∴◌}
use Rattle.integers.proofs.Order.{le-or-lt}
use Rattle.integers.specs.Floor.{floor_div}
use Rattle.integers.proofs.Floor.{floor-eq, floor-lt}
use Rattle.calendar.specs.Meaning.{Calendar, Has, Ordered, Repeats, raise}
use Rattle.granules.proofs.Tests.{some_inj, none≢some}

-- ---- raising a label

pub raise_zero : (o : Option ℤ) → raise (pos 0) o ≡ o
raise_zero none = refl
raise_zero (some j) = ap some (simp ints (omega arith))

pub raise-raise : (m n : ℤ) (o : Option ℤ) → raise n (raise m o) ≡ raise (m +ℤ n) o
raise-raise m n none = refl
raise-raise m n (some j) = ap some (simp ints (omega arith))

pub raise-some : (n j : ℤ) (o : Option ℤ) → (raise n o ≡ some j) ↔ (o ≡ some (j -ℤ n))
raise-some n j none = (λ e. absurd (none≢some e), λ e. absurd (none≢some e))
raise-some n j (some k) = (λ e. ap some (some_inj e ∴ simp ints (omega arith)), λ e. ap some (some_inj e ∴ simp ints (omega arith)))

-- ---- whole periods

module _ (c : Calendar) (P N : ℕ) (repeats : Repeats P N c) where
  forward : (n : ℕ) (t : ℤ) → c (t +ℤ pos P *ℤ pos n) ≡ raise (pos N *ℤ pos n) (c t)
  forward zero t = ap c (simp ints (omega arith)) ∙ sym (raise_zero (c t)) ∙ ap (λ (z : ℤ). raise z (c t)) (simp ints (omega arith))
  forward (suc n) t =
      ap c (simp ints (omega arith))
      ∙ repeats (t +ℤ pos P *ℤ pos n)
      ∙ ap (raise (pos N)) (forward n t)
      ∙ raise-raise (pos N *ℤ pos n) (pos N) (c t)
      ∙ ap (λ (z : ℤ). raise z (c t)) (simp ints (omega arith))

  pub repeats_many : (k t : ℤ) → c (t +ℤ pos P *ℤ k) ≡ raise (pos N *ℤ k) (c t)
  repeats_many (pos n) t = forward n t
  repeats_many (negsuc n) t =
      let u : ℤ = t +ℤ pos P *ℤ negsuc n in
      let back : raise (pos N *ℤ pos (suc n)) (c u) ≡ c t = sym (forward (suc n) u) ∙ ap c (simp ints (omega arith)) in
      sym (raise_zero (c u))
      ∙ ap (λ (z : ℤ). raise z (c u)) (simp ints (omega arith))
      ∙ sym (raise-raise (pos N *ℤ pos (suc n)) (pos N *ℤ negsuc n) (c u))
      ∙ ap (raise (pos N *ℤ negsuc n)) back

  -- the label j at t stands as j + N·k at t + P·k
  pub label-moved : (k t j : ℤ) → c t ≡ some j → c (t +ℤ pos P *ℤ k) ≡ some (j +ℤ pos N *ℤ k)
  label-moved k t j e = repeats_many k t ∙ ap (raise (pos N *ℤ k)) e

  pub has-moved : (k j : ℤ) → Has c j → Has c (j +ℤ pos N *ℤ k)
  has-moved k j h = (h.0 +ℤ pos P *ℤ k, label-moved k h.0 j h.1)

  -- two instants of one granule are less than a period apart
  pub granule-near : 1 ≤ N → Ordered c → (s t j : ℤ) → c s ≡ some j → c t ≡ some j → t <ℤ (s +ℤ pos P)
  granule-near above ordered s t j e f = by (le-or-lt (s +ℤ pos P) t)
    where
      by : ((s +ℤ pos P) ≤ℤ t) ⊎ (t <ℤ (s +ℤ pos P)) → t <ℤ (s +ℤ pos P)
      by (inl h) =
          let l = ordered (s +ℤ pos P) t (j +ℤ pos N) j h (repeats s ∙ ap (raise (pos N)) e) f in
          absurd (omega (arith, simp ints at l))
      by (inr h) = h

  -- every window of P instants has one with a label, if any instant has
  pub labelled-near : 1 ≤ P → (j : ℤ) → Has c j → (s : ℤ) → (t : ℤ) × (i : ℤ) × (s ≤ℤ t) × (t <ℤ (s +ℤ pos P)) × (c t ≡ some i)
  labelled-near above j h s =
      let u : ℤ = h.0 -ℤ s in
      let k : ℤ = neg_ℤ (floor_div u P) in
      let e = floor-eq P above u in
      let l = floor-lt P above u in
      (h.0 +ℤ pos P *ℤ k, j +ℤ pos N *ℤ k, e ∴ simp ints (omega arith), e ∴ simp ints (omega arith), label-moved k h.0 j h.1)

-- two periods of one labelled calendar have distances in proportion
pub periods-proportional : (c : Calendar) (P N Q M : ℕ) → Repeats P N c → Repeats Q M c → (j : ℤ) → Has c j → N * Q ≡ M * P
periods-proportional c P N Q M r s j h =
    let one = label-moved c P N r (pos Q) h.0 j h.1 in
    let other = label-moved c Q M s (pos P) h.0 j h.1 in
    let e = some_inj (sym one ∙ ap c (simp ints (omega arith)) ∙ other) in
    omega (arith, simp ints at e)
