-- An append that is cut after any byte: the former table or the new one is found.
use mathlib.Core.Path.{◌≡◌, sym, ap, ◌∙◌}
use mathlib.Core.Logic.{⊎_elim}
use mathlib.Core.Bool.{true, false, cond}
use mathlib.Core.Option.{Option, some}
use mathlib.Core.List.{List, ◌++◌, append_assoc}
use Prim.Native.Nat.{ℕ, zero, suc, ◌+◌, ◌-◌, ◌≤◌, ◌<◌}
use native.Mathlib.Nat.{le_dest}
use native.Mathlib.Omega.{arith}
use lib.Dec.{eqb, leb}
use lib.ListN.{length, take, drop, length-append, length-take, get_or-eq_default, get_or-append}
use lib.Seq.{get_or-append-add, get_or-take, drop-append_seam, take-length}
use borrow.Author.Tests.{leb-true, leb-false, eqb-true, eqb-false}
use Rattle.granules.proofs.Tests.{true-or-false}
use Rattle.journal.specs.Journal.{end_mark, byte_at, trailer, record_of, opened}
use Rattle.journal.proofs.Bytes.{Plain}
use Rattle.journal.proofs.Cuts.{Quiet, quiet-behind, whole-behind}

-- ---- what a cut leaves ends no trailer

-- the bytes of a trailer but the last
trailer-quiet : (n m : ℕ) → m < 5 → byte_at (trailer n) m ≡ end_mark → ⊥
trailer-quiet n zero h e = omega arith
trailer-quiet n (suc zero) h e = omega arith
trailer-quiet n (suc (suc zero)) h e = omega arith
trailer-quiet n (suc (suc (suc zero))) h e = omega arith
trailer-quiet n (suc (suc (suc (suc zero)))) h e = omega arith
trailer-quiet n (suc (suc (suc (suc (suc m))))) h e = omega arith

module _ (s : List ℕ) (plain : Plain s) where
  record-quiet : (i : ℕ) → suc i < length (record_of s) → byte_at (record_of s) i ≡ end_mark → ⊥
  record-quiet i h e = ⊎_elim in_body in-trailer (true-or-false (leb (suc i) (length s)))
    where
      in_body : leb (suc i) (length s) ≡ true → ⊥
      in_body t = omega (arith, plain i, sym (get_or-append s (trailer (length s)) 0 i (leb-true _ _ t)) ∙ e)

      at : (m : ℕ) → length s + m ≡ i → ⊥
      at m q =
          trailer-quiet (length s) m (omega (arith, length-append s (trailer (length s))))
          (sym (get_or-append-add s (trailer (length s)) m 0) ∙ ap (byte_at (record_of s)) q ∙ e)

      in-trailer : leb (suc i) (length s) ≡ false → ⊥
      in-trailer t = let h : length s ≤ i = omega (arith, leb-false (suc i) (length s) t) in at (le_dest h).0 (le_dest h).1

  cut-quiet : (k : ℕ) → k < length (record_of s) → Quiet (take k (record_of s))
  cut-quiet k h i e = ⊎_elim inside outside (true-or-false (leb (suc i) k))
    where
      inside : leb (suc i) k ≡ true → ⊥
      inside t = let l : i < k = leb-true (suc i) k t in record-quiet i (omega arith) (sym (get_or-take k (record_of s) i 0 l) ∙ e)

      outside : leb (suc i) k ≡ false → ⊥
      outside t =
          let l : length (take k (record_of s)) ≤ i = omega (arith, length-take k (record_of s), leb-false (suc i) k t) in
          omega (arith, sym (get_or-eq_default (take k (record_of s)) 0 l) ∙ e)

-- ---- the whole record is found

whole : (book s : List ℕ) → 1 ≤ length s → length s ≤ 4096 → opened (book ++ record_of s) ≡ some s
whole book s p q =
    ap opened (sym (append_assoc book s (trailer (length s))))
    ∙ whole-behind (book ++ s) (length s) p q (omega (arith, length-append book s))
    ∙ ap {B = Option (List ℕ)} some
    (ap (λ (m : ℕ). take (length s) (drop m (book ++ s)))
    (let e : length (book ++ s) - length s ≡ length book = omega (arith, length-append book s) in e)
    ∙ ap (take (length s)) (drop-append_seam book s)
    ∙ take-length s)

-- ---- "A cut after any byte of an append leaves either the former table (or the empty book, where there was none) or
-- the new one readable, and the new one exactly when its last byte is there": for any file, whatever it holds

pub cut-append : (book s : List ℕ) → Plain s → 1 ≤ length s → length s ≤ 4096 → (k : ℕ) → k ≤ length (record_of s)
    → opened (book ++ take k (record_of s)) ≡ cond (eqb k (length (record_of s))) (some s) (opened book)
cut-append book s plain p q k h = ⊎_elim all_there torn (true-or-false (eqb k (length (record_of s))))
  where
    all_there : eqb k (length (record_of s)) ≡ true
        → opened (book ++ take k (record_of s)) ≡ cond (eqb k (length (record_of s))) (some s) (opened book)
    all_there e = rw (e, eqb-true k (length (record_of s)) e, take-length (record_of s)) (whole book s p q)

    torn : eqb k (length (record_of s)) ≡ false
        → opened (book ++ take k (record_of s)) ≡ cond (eqb k (length (record_of s))) (some s) (opened book)
    torn e = rw e (quiet-behind book (take k (record_of s)) (cut-quiet s plain k (below (eqb-false k (length (record_of s)) e))))
      where
        below : (k ≡ length (record_of s) → ⊥) → k < length (record_of s)
        below f = ⊎_elim
            (λ t. leb-true _ _ t)
            (λ t. absurd (f (omega (arith, leb-false (suc k) (length (record_of s)) t))))
            (true-or-false (leb (suc k) (length (record_of s))))
