-- The list in which the civil table is left, number by number.
-- Assumes nothing.
use mathlib.Core.Path.{◌≡◌, refl, sym, ◌∙◌, ap, subst}
use mathlib.Core.Logic.{◌⊎◌, inl, inr}
use mathlib.Core.Bool.{Bool, true, false, cond}
use mathlib.Core.List.{List, ◌++◌}
use Prim.Native.Nat.{ℕ, zero, suc, ◌+◌, ◌-◌, ◌≤◌, ◌<◌}
use native.Mathlib.Omega.{arith}
use lib.Dec.{eqb, leb}
use lib.IntN.{ℤ, pos}
use lib.ListN.{length, get_or, set, replicate, length-append, length-set, length-replicate, get_or-append}
use lib.Seq.{get_or-append-add, get_or-set_same, get_or-set_other, ext_get_or}
use borrow.Author.Tests.{le-leb, lt-leb}
use Rattle.granules.proofs.Tests.{true-or-false, false-iff, eqb-iff, leb-iff}
use Rattle.civil.specs.Table.{civil_table}
use Rattle.civil_api.specs.Codes.{table_left}

-- ---- the number at a place

zeros : (n i : ℕ) → get_or (replicate n (pos 0)) i (pos 0) ≡ pos 0
zeros zero i = refl
zeros (suc n) zero = refl
zeros (suc n) (suc i) = zeros n i

module _ (n i : ℕ) where
  pub number_short : n < 66 → pos 0 ≡ get_or (table_left n) i (pos 0)
  number_short h = rw (lt-leb 66 n h) (sym (zeros n i))

  module _ (enough : 66 ≤ n) where
    pub number_behind : 66 ≤ i → pos 0 ≡ get_or (table_left n) i (pos 0)
    number_behind h =
        let e : 66 + (i - 66) ≡ i = omega arith in
        rw (le-leb 66 n enough)
        (sym (zeros (n - 66) (i - 66))
        ∙ sym (get_or-append-add civil_table (replicate (n - 66) (pos 0)) (i - 66) (pos 0))
        ∙ ap (λ (k : ℕ). get_or (civil_table ++ replicate (n - 66) (pos 0)) k (pos 0)) e)

    pub number-within : i < 66 → get_or civil_table i (pos 0) ≡ get_or (table_left n) i (pos 0)
    number-within h =
        rw (le-leb 66 n enough) (sym (get_or-append civil_table (replicate (n - 66) (pos 0)) (pos 0) i h))

-- ---- the loop

left-length : (n : ℕ) → length (table_left n) ≡ n
left-length n = by (leb 66 n) refl
  where
    by : (b : Bool) → leb 66 n ≡ b
        → length (cond b (civil_table ++ replicate (n - 66) (pos 0)) (replicate n (pos 0))) ≡ n
    by true e =
        length-append civil_table (replicate (n - 66) (pos 0)) ∙ simp length-replicate (omega (arith, (leb-iff 66 n).0 e))
    by false e = length-replicate n (pos 0)

-- of a list of n numbers those before i are written
pub record Written (n i : ℕ) (l : List ℤ) : Type 0 where
  pub whole : length l ≡ n
  pub is : (k : ℕ) → k < i → get_or l k (pos 0) ≡ get_or (table_left n) k (pos 0)

pub written_none : (l : List ℤ) → Written (length l) 0 l
written_none l = record { whole = refl; is = λ k h. absurd (omega arith) }

module _ {n i : ℕ} {l : List ℤ} (w : Written n i l) where
  pub written-more : i < n → (z : ℤ) → z ≡ get_or (table_left n) i (pos 0) → Written n (i + 1) (set l i z)
  written-more h z e =
      record { whole = length-set l i z ∙ w.whole; is = λ k b. by k b (true-or-false (eqb k i)) }
    where
      by : (k : ℕ) → k < i + 1 → (eqb k i ≡ true) ⊎ (eqb k i ≡ false)
          → get_or (set l i z) k (pos 0) ≡ get_or (table_left n) k (pos 0)
      by k b (inl f) =
          subst (λ (k : ℕ). get_or (set l i z) k (pos 0) ≡ get_or (table_left n) k (pos 0)) (sym ((eqb-iff k i).0 f))
          (get_or-set_same l i z (pos 0) (omega (arith, w.whole)) ∙ e)
      by k b (inr f) =
          let other = (false-iff (eqb-iff k i)).0 f in
          get_or-set_other l i k z (pos 0) other ∙ w.is k (omega arith)

  pub written_all : n ≤ i → l ≡ table_left n
  written_all h =
      ext_get_or (pos 0) l (table_left n) (w.whole ∙ sym (left-length n)) (λ k b. w.is k (omega (arith, w.whole)))
