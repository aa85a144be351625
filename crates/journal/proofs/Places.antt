-- Where a complete trailer can stand in a file, and that bytes behind it do not change what it points to.
use mathlib.Core.Path.{◌≡◌, refl, sym, ap, ◌∙◌}
use mathlib.Core.Logic.{⊎_elim}
use mathlib.Core.Bool.{true, false}
use mathlib.Core.Option.{Option, none, some}
use mathlib.Core.List.{List, ◌++◌}
use Prim.Native.Nat.{ℕ, zero, suc, ◌+◌, ◌-◌, ◌≤◌, ◌<◌}
use native.Mathlib.Nat.{add-zero, add-suc}
use native.Mathlib.Omega.{arith}
use lib.Dec.{leb}
use lib.ListN.{length, take, drop, get_or-eq_default, get_or-append, length-drop}
use lib.Seq.{take-append-le, drop-append-le}
use borrow.Author.Tests.{leb-true, leb-false, eqb-true}
use Rattle.granules.proofs.Tests.{true-or-false, and-iff}
use Rattle.journal.specs.Journal.{end_mark, byte_at, length_at, points_back, body_before, open_before}

-- ---- what a trailer that points back shows

module _ (book : List ℕ) (p : ℕ) (points : points_back book p ≡ true) where
  pub end_mark_lem : byte_at book (p + 5) ≡ end_mark
  unfolding points_back
  end_mark_lem = eqb-true _ _ (simp and-iff at points).0.1.1.1.1.1

  pub within : length_at book p ≤ p
  unfolding points_back
  within = leb-true _ _ (simp and-iff at points).1.1.1

  -- it stands in the file
  pub stands : p + 5 < length book
  stands = ⊎_elim
      (λ e. leb-true _ _ e)
      (λ e. absurd (outside (get_or-eq_default book 0 (leb-le e))))
      (true-or-false (leb (suc (p + 5)) (length book)))
    where
      leb-le : leb (suc (p + 5)) (length book) ≡ false → length book ≤ p + 5
      leb-le e = omega (arith, leb-false (suc (p + 5)) (length book) e)

      outside : byte_at book (p + 5) ≡ 0 → ⊥
      outside e = omega (arith, end_mark_lem, e)

-- ---- bytes behind

module _ (book more : List ℕ) (p : ℕ) (inside : p + 5 < length book) where
  byte-kept : (i : ℕ) → i ≤ p + 5 → byte_at (book ++ more) i ≡ byte_at book i
  byte-kept i h = get_or-append book more 0 i (omega arith)

  pub points_kept : points_back (book ++ more) p ≡ points_back book p
  unfolding points_back
  points_kept =
      rw (byte-kept p (omega arith), byte-kept (p + 1) (omega arith), byte-kept (p + 2) (omega arith))
      (rw (byte-kept (p + 3) (omega arith), byte-kept (p + 4) (omega arith), byte-kept (p + 5) (omega arith)))

  length-kept : length_at (book ++ more) p ≡ length_at book p
  length-kept =
      rw (byte-kept (p + 1) (omega arith), byte-kept (p + 2) (omega arith))
      (rw (byte-kept (p + 3) (omega arith), byte-kept (p + 4) (omega arith)))

  pub body_kept : points_back book p ≡ true → body_before (book ++ more) p ≡ body_before book p
  unfolding body_before
  body_kept e =
      let n : ℕ = length_at book p in
      let w : n ≤ p = within book p e in
      ap (λ (m : ℕ). take m (drop (p - m) (book ++ more))) length-kept
      ∙ ap (take n) (drop-append-le (p - n) book more (omega arith))
      ∙ take-append-le n (drop (p - n) book) more (omega (arith, length-drop (p - n) book))

-- ---- the search from the end

pub nothing : (book : List ℕ) → open_before book 0 ≡ none
unfolding open_before
nothing book = refl

pub take-it : (book : List ℕ) (p : ℕ) → points_back book p ≡ true → open_before book (suc p) ≡ some (body_before book p)
unfolding open_before
take-it book p e = rw (e, open_before)

pub skip : (book : List ℕ) (p : ℕ) → points_back book p ≡ false → open_before book (suc p) ≡ open_before book p
unfolding open_before
skip book p e = rw (e, open_before)

-- places at which nothing points back are passed
pub passed : (book : List ℕ) (q m : ℕ) → ((p : ℕ) → q ≤ p → points_back book p ≡ false) → open_before book (q + m) ≡ open_before book q
passed book q zero h = ap (open_before book) (add-zero q)
passed book q (suc m) h = rw add-suc (skip book (q + m) (h (q + m) (omega arith)) ∙ passed book q m h)

-- two files in which the same trailers point back to the same bodies
module _ (a b : List ℕ) (same : (p : ℕ) → points_back a p ≡ points_back b p) (bodies : (p : ℕ) → points_back b p ≡ true → body_before a p ≡ body_before b p) where
  pub same-opened : (q : ℕ) → open_before a q ≡ open_before b q
  same-opened zero = nothing a ∙ sym (nothing b)
  same-opened (suc p) =
      ⊎_elim
      (λ e. take-it a p (same p ∙ e) ∙ ap {B = Option (List ℕ)} some (bodies p e) ∙ sym (take-it b p e))
      (λ e. skip a p (same p ∙ e) ∙ same-opened p ∙ sym (skip b p e))
      (true-or-false (points_back b p))
