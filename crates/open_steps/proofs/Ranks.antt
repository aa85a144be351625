-- Steps along open instants by their ranks: n steps add n to the rank, and the number between two instants is a
-- difference of ranks.
-- Assumes nothing.
use mathlib.Core.Path.{◌≡◌, refl, sym, ◌∙◌}
use mathlib.Core.Bool.{Bool, true, false, cond}
use Prim.Native.Nat.{ℕ, zero, suc}
use native.Mathlib.Omega.{arith}
use lib.IntN.{ℤ, pos, neg_ℤ, ◌+ℤ◌, ◌-ℤ◌}
use lib.Signed.{◌<ℤ◌, le_z}
use Rattle.integers.proofs.Linear.{ints, ◌∴◌}
use Rattle.integers.proofs.Machine.{test-le, test-not-le}
use Rattle.open_map.specs.Instants.{open_in, next_open, last_open}
use Rattle.open_map.proofs.Ranks as K
use Rattle.open_map.proofs.Ranks.{one}
use Rattle.open_steps.specs.Steps.{steps, between_open}

module _ (f : ℤ → Bool) (R : ℤ → ℤ) (step : (t : ℤ) → R (t +ℤ pos 1) ≡ R t +ℤ pos (one (f t))) where
  pub between-open : (x y : ℤ) → between_open f x y ≡ R (y +ℤ pos 1) -ℤ R (x +ℤ pos 1)
  unfolding between_open
  between-open x y = by (le_z x y) refl
    where
      by : (b : Bool) → le_z x y ≡ b
          → cond b (pos (open_in f (x +ℤ pos 1) (y +ℤ pos 1))) (neg_ℤ (pos (open_in f (y +ℤ pos 1) (x +ℤ pos 1)))) ≡ R (y +ℤ pos 1) -ℤ R (x +ℤ pos 1)
      by true e = K.open-in f R step (x +ℤ pos 1) (y +ℤ pos 1) ((test-le x y).0 e ∴ simp ints (omega arith))
      by false e = K.open-in f R step (y +ℤ pos 1) (x +ℤ pos 1) ((test-not-le x y).0 e ∴ simp ints (omega arith)) ∴ simp ints (omega arith)

  -- ---- n steps. In P instants the rank rises
  module _ (P : ℕ) (busy : (x : ℤ) → R x <ℤ R (x +ℤ pos P)) where
    next-steps : (n : ℕ) (x : ℤ) → (f (steps (next_open P f) (suc n) x) ≡ true) × (R (steps (next_open P f) (suc n) x) ≡ R (x +ℤ pos 1) +ℤ pos n)
    unfolding steps
    next-steps zero x = let r = K.next-is-first f R step P busy x in (r.opens, r.rank ∴ simp ints (omega arith))
    next-steps (suc n) x =
        let y = steps (next_open P f) (suc n) x in
        let i = next-steps n x in
        let r = K.next-is-first f R step P busy y in
        (r.opens, r.rank ∴ K.open_step f R step y i.0 ∴ i.1 ∴ simp ints (omega arith))

    last-steps : (n : ℕ) (x : ℤ) → (f (steps (last_open P f) (suc n) x) ≡ true) × (R (steps (last_open P f) (suc n) x) +ℤ pos (suc n) ≡ R x)
    unfolding steps
    last-steps zero x =
        let r = K.last-is-last f R step P busy x in
        (r.opens, r.rank ∴ K.open_step f R step (last_open P f x) r.opens ∴ simp ints (omega arith))
    last-steps (suc n) x =
        let y = steps (last_open P f) (suc n) x in
        let i = last-steps n x in
        let r = K.last-is-last f R step P busy y in
        (r.opens, r.rank ∴ K.open_step f R step (last_open P f y) r.opens ∴ i.1 ∴ simp ints (omega arith))

    pub nth_after : (n : ℕ) (x t : ℤ) → f t ≡ true → R t ≡ R (x +ℤ pos 1) +ℤ pos n → steps (next_open P f) (suc n) x ≡ t
    nth_after n x t o e = let i = next-steps n x in K.rank_same f R step (steps (next_open P f) (suc n) x) t i.0 o (i.1 ∙ sym e)

    pub nth-before : (n : ℕ) (x t : ℤ) → f t ≡ true → R t +ℤ pos (suc n) ≡ R x → steps (last_open P f) (suc n) x ≡ t
    nth-before n x t o e =
        let i = last-steps n x in
        K.rank_same f R step (steps (last_open P f) (suc n) x) t i.0 o (i.1 ∴ e ∴ simp ints (omega arith))

    -- "going n forward from an open x and n back gives x"
    pub there_and_back : (n : ℕ) (x : ℤ) → f x ≡ true → steps (last_open P f) n (steps (next_open P f) n x) ≡ x
    unfolding steps
    there_and_back zero x o = refl
    there_and_back (suc n) x o =
        let i = next-steps n x in
        nth-before n (steps (next_open P f) (suc n) x) x o (i.1 ∴ K.open_step f R step x o ∴ simp ints (omega arith))

    -- between x and the n-th open instant after it there are n
    pub between-steps : (n : ℕ) (x : ℤ) → between_open f x (steps (next_open P f) n x) ≡ pos n
    unfolding steps
    between-steps zero x = between-open x x ∴ simp ints (omega arith)
    between-steps (suc n) x =
        let y = steps (next_open P f) (suc n) x in
        let i = next-steps n x in
        between-open x y ∴ K.open_step f R step y i.0 ∴ i.1 ∴ simp ints (omega arith)
