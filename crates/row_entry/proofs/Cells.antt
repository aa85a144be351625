-- Lists in parts, and the numbers of headings.
-- Assumes nothing.
use mathlib.Core.Path.{◌≡◌, sym, ◌∙◌, ap, ap₂}
use mathlib.Core.List.{List, [], ◌∷◌, ◌++◌, append_assoc}
use Prim.Native.Nat.{ℕ, zero, suc, ◌+◌, ◌-◌, ◌*◌, ◌≤◌}
use native.Mathlib.Omega.{arith}
use native.Mathlib.Numerals.{add-one, add-two, add-three}
use lib.ListN.{length, get_or, take, drop, set, replicate}
use lib.Seq.{sets-eq, take-take, take-add}
use Rattle.calendar.specs.Limits.{heading_length}

-- ---- a list of equal elements

pub drop-alike : {A : Type 0} (a : A) (n m : ℕ) → drop m (replicate n a) ≡ replicate (n - m) a
drop-alike a n zero = let e : n ≡ n - 0 = omega arith in ap (λ (n : ℕ). replicate n a) e
drop-alike a zero (suc m) = let e : 0 ≡ 0 - suc m = omega arith in ap (λ (n : ℕ). replicate n a) e
drop-alike a (suc n) (suc m) = let e : n - m ≡ suc n - suc m = omega arith in drop-alike a n m ∙ ap (λ (n : ℕ). replicate n a) e

-- ---- the first elements of a part are kept

pub take_part : {A : Type 0} (l : List A) (s n q : ℕ) → q ≤ n → take (s + q) l ≡ take s l ++ take q (take n (drop s l))
take_part l s n q h = take-add s q l ∙ ap (λ (x : List _). take s l ++ x) (sym (take-take q n (drop s l) h))

-- ---- four numbers that are stored one behind the other

pub four-stored : (l : List ℕ) (i a b c d : ℕ) → i + 4 ≤ length l
    → set (set (set (set l i a) (i + 1) b) (i + 2) c) (i + 3) d ≡ take i l ++ (a ∷ b ∷ c ∷ d ∷ drop (i + 4) l)
four-stored l i a b c d h =
    ap₂ (λ (m n : ℕ). set (set (set (set l i a) m b) n c) (i + 3) d) (add-one i) (add-two i)
    ∙ ap (λ (n : ℕ). set (set (set (set l i a) (suc i) b) (suc (suc i)) c) n d) (add-three i)
    ∙ sets-eq (a ∷ b ∷ c ∷ d ∷ []) l i h
    ∙ append_assoc (take i l) (a ∷ b ∷ c ∷ d ∷ []) (drop (i + 4) l)

-- ---- a number of the heading k + 1 is that of the heading k where the first is taken away

pub start-suc : (a b c d : ℕ) (l : List ℕ) (k : ℕ) → get_or (a ∷ b ∷ c ∷ d ∷ l) (heading_length * suc k) 0 ≡ get_or l (heading_length * k) 0
start-suc a b c d l k =
    let e : heading_length * suc k ≡ suc (suc (suc (suc (heading_length * k)))) = omega arith in
    ap (λ (i : ℕ). get_or (a ∷ b ∷ c ∷ d ∷ l) i 0) e

pub number-suc : (a b c d : ℕ) (l : List ℕ) (k j : ℕ) → get_or (a ∷ b ∷ c ∷ d ∷ l) (heading_length * suc k + j) 0 ≡ get_or l (heading_length * k + j) 0
number-suc a b c d l k j =
    let e : heading_length * suc k + j ≡ suc (suc (suc (suc (heading_length * k + j)))) = omega arith in
    ap (λ (i : ℕ). get_or (a ∷ b ∷ c ∷ d ∷ l) i 0) e
