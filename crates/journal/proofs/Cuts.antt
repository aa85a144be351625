-- What opening finds in a file, whatever it holds, behind which a record is appended, whole or cut.
use mathlib.Core.Path.{◌≡◌, refl, sym, ap, ◌∙◌}
use mathlib.Core.Logic.{⊎_elim}
use mathlib.Core.Bool.{Bool, true, false, ◌&&◌}
use mathlib.Core.Option.{Option, some}
use mathlib.Core.List.{List, ◌++◌}
use Prim.Native.Nat.{ℕ, suc, ◌+◌, ◌-◌, ◌*◌, ◌/◌, ◌%◌, ◌≤◌, ◌<◌}
use native.Mathlib.Nat.{le_dest}
use native.Mathlib.Omega.{arith}
use lib.Dec.{leb, ltb}
use lib.ListN.{length, take, drop, length-append, length-drop}
use lib.Seq.{take-append-le, drop-append-le, get_or-append-add, get_or-append_seam}
use borrow.Author.Tests.{leb-true, leb-false, lt-ltb, le-leb}
use Rattle.table_text.specs.Text.{text_limit}
use Rattle.granules.proofs.Tests.{true-or-false, and-iff}
use Rattle.journal.specs.Journal.{end_mark, byte_at, trailer, trailer_at, length_at, points_back, body_before, open_before, opened}
use Rattle.journal.proofs.Places.{end_mark_lem, stands, points_kept, body_kept, take-it, passed, same-opened}

-- ---- bytes that end no trailer

-- no byte is an end mark
abbrev pub Quiet : List ℕ → Type 0
Quiet l = (i : ℕ) → byte_at l i ≡ end_mark → ⊥

false_of : (t : Bool) → (t ≡ true → ⊥) → t ≡ false
false_of true h = absurd (h refl)
false_of false h = refl

module _ (book more : List ℕ) (quiet : Quiet more) where
  points_none : (p : ℕ) → length book ≤ p + 5 → points_back book p ≡ false
  points_none p h = false_of (points_back book p) (λ e. let s : p + 5 < length book = stands book p e in omega arith)

  points-none-behind : (p : ℕ) → length book ≤ p + 5 → points_back (book ++ more) p ≡ false
  points-none-behind p h = false_of (points_back (book ++ more) p) (λ e. quiet (le_dest h).0 (at (le_dest h).0 (le_dest h).1 e))
    where
      at : (m : ℕ) → length book + m ≡ p + 5 → points_back (book ++ more) p ≡ true → byte_at more m ≡ end_mark
      at m eq e = sym (get_or-append-add book more m 0) ∙ ap (byte_at (book ++ more)) eq ∙ end_mark_lem (book ++ more) p e

  same_points : (p : ℕ) → points_back (book ++ more) p ≡ points_back book p
  same_points p =
      ⊎_elim
      (λ e. points_kept book more p (leb-true _ _ e))
      (λ e.
      let h : length book ≤ p + 5 = omega (arith, leb-false (suc (p + 5)) (length book) e) in
      points-none-behind p h ∙ sym (points_none p h))
      (true-or-false (leb (suc (p + 5)) (length book)))

  pub quiet-behind : opened (book ++ more) ≡ opened book
  unfolding opened
  quiet-behind =
      ap (open_before (book ++ more)) (length-append book more)
      ∙ same-opened (book ++ more) book same_points (λ p e. body_kept book more p (stands book p e) e) (length book + length more)
      ∙ passed book (length book) (length more) (λ p h. points_none p (omega arith))

-- ---- a whole record

-- the four length bytes give the length back
length_back : (n : ℕ) → n ≤ 4096 → n % 128 + 128 * (n / 128 % 128) + 16384 * (n / 16384 % 128) + 2097152 * (n / 2097152 % 128) ≡ n
length_back n h = omega arith

seven-bits : (n : ℕ) → ltb (n % 128) 128 ≡ true
seven-bits n = lt-ltb (n % 128) 128 (omega arith)

module _ (front : List ℕ) (n : ℕ) (positive : 1 ≤ n) (short : n ≤ 4096) (before : n ≤ length front) where
  byte : (m : ℕ) → byte_at (front ++ trailer n) (length front + m) ≡ byte_at (trailer n) m
  byte m = get_or-append-add front (trailer n) m 0

  length-there : length_at (front ++ trailer n) (length front) ≡ n
  length-there = rw (byte 1, byte 2, byte 3, byte 4) (length_back n short)

  trailer-there : trailer_at (front ++ trailer n) (length front) ≡ true
  trailer-there =
      rw (get_or-append_seam front, byte 1, byte 2, byte 3, byte 4, byte 5)
      (simp and-iff (seven-bits n, (seven-bits (n / 128), (seven-bits (n / 16384), (seven-bits (n / 2097152), refl)))))

  points-there : points_back (front ++ trailer n) (length front) ≡ true
  unfolding points_back
  points-there =
      rw length-there
      ((and-iff (trailer_at (front ++ trailer n) (length front)) (leb 1 n && (leb n text_limit && leb n (length front)))).1
      (trailer-there, simp and-iff (le-leb 1 n positive, (le-leb n text_limit short, le-leb n (length front) before))))

  body-there : body_before (front ++ trailer n) (length front) ≡ take n (drop (length front - n) front)
  unfolding body_before
  body-there =
      ap (λ (m : ℕ). take m (drop (length front - m) (front ++ trailer n))) length-there
      ∙ ap (take n) (drop-append-le (length front - n) front (trailer n) (omega arith))
      ∙ take-append-le n (drop (length front - n) front) (trailer n) (omega (arith, length-drop (length front - n) front))

  pub whole-behind : opened (front ++ trailer n) ≡ some (take n (drop (length front - n) front))
  unfolding opened
  whole-behind =
      ap (open_before (front ++ trailer n)) (length-append front (trailer n))
      ∙ six-more
      ∙ take-it (front ++ trailer n) (length front) points-there
      ∙ ap {B = Option (List ℕ)} some body-there
    where
      last : (p : ℕ) → suc (length front) ≤ p → points_back (front ++ trailer n) p ≡ false
      last p h =
          false_of _
          (λ e.
          let s : p + 5 < length (front ++ trailer n) = stands (front ++ trailer n) p e in
          omega (arith, length-append front (trailer n)))

      six-more : open_before (front ++ trailer n) (length front + 6) ≡ open_before (front ++ trailer n) (suc (length front))
      six-more =
          ap (open_before (front ++ trailer n)) (let e : length front + 6 ≡ suc (length front) + 5 = omega arith in e)
          ∙ passed (front ++ trailer n) (suc (length front)) 5 last
