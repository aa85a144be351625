-- Room in the lent lists, and what a batch leaves in each.
-- Assumes nothing.
use mathlib.Core.Path.{◌≡◌, sym, ◌∙◌, ap}
use mathlib.Core.Bool.{Bool, true, false, ◌&&◌}
use mathlib.Core.List.{List, ◌∷◌}
use Prim.Native.Nat.{ℕ, ◌-◌, ◌≤◌, ◌<◌}
use native.Mathlib.Omega.{arith}
use lib.IntN.{ℤ, pos}
use lib.ListN.{length, replicate, length-replicate}
use Rattle.granules.proofs.Tests.{leb-iff, false-iff}
use Rattle.batches.specs.Left.{room, answers_left}
use Rattle.batches.specs.Front.{front}
use Rattle.batches.proofs.Fronts.{front-cleared}

-- ---- list by list

pub room-more : (n m : ℕ) (l : List ℕ) → n ≤ m → room n (m ∷ l) ≡ room n l
room-more n m l h = ap (λ (b : Bool). b && room n l) ((leb-iff n m).1 h)

pub room-less : (n m : ℕ) (l : List ℕ) → m < n → room n (m ∷ l) ≡ false
room-less n m l h = ap (λ (b : Bool). b && room n l) ((false-iff (leb-iff n m)).1 (λ k. omega arith))

-- ---- what is left

pub cleared-length : (n : ℕ) {p : List ℤ} → p ≡ replicate n (pos 0) → length p ≡ n
cleared-length n e = ap length e ∙ length-replicate n (pos 0)

pub left-none : (f : ℤ → ℤ) (qs : List ℤ) (n : ℕ) {b : Bool} {p : List ℤ} → b ≡ false → p ≡ replicate n (pos 0) → p ≡ answers_left b n f qs
left-none f qs n e h =
    let all : n ≡ n - 0 = omega arith in
    h ∙ ap (λ (k : ℕ). replicate k (pos 0)) all ∙ sym (ap (λ (b : Bool). answers_left b n f qs) e)

pub left-all : (f : ℤ → ℤ) (qs : List ℤ) (n : ℕ) {b : Bool} {q p : List ℤ} → b ≡ true → length qs ≤ n → q ≡ replicate n (pos 0)
    → p ≡ front f qs q → p ≡ answers_left b n f qs
left-all f qs n e h z w =
    w
    ∙ ap (front f qs) z
    ∙ front-cleared f qs n h
    ∙ sym (ap (λ (b : Bool). answers_left b n f qs) e)
