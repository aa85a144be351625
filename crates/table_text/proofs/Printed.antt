-- What is printed determines the outcome: the rows, or the refusal.
use mathlib.Core.Path.{◌≡◌, refl, sym, ap, ap₂, ◌∙◌}
use mathlib.Core.Logic.{⊎_elim}
use mathlib.Core.Bool.{true, false}
use mathlib.Core.Option.{some-injective}
use mathlib.Core.List.{List, [], ◌∷◌, ◌++◌, map, append_assoc, append_cancel_right, nil≢cons, head-eq_of_cons-eq, tail-eq_of_cons-eq}
use Prim.Native.Nat.{ℕ, suc, ◌≤◌, ◌<◌}
use native.Mathlib.Omega.{arith}
use lib.IntN.{ℤ, pos, negsuc}
use borrow.Author.Tests.{eqb-true}
use Rattle.granules.proofs.Tests.{true-or-false, true≢false}
use Rattle.calendar.specs.Meaning.{Row, empty, is_empty}
use Rattle.calendar.specs.Outcome.{Outcome}
use Rattle.calendar.specs.Outcome.Outcome.{refused_at, rows}
use Rattle.table_text.specs.Numerals.{decimal, numeral}
use Rattle.table_text.specs.Words.{space, line_feed, joined_by, lines}
use Rattle.table_text.specs.Parse.{natural, all_digits, split}
use Rattle.table_text.specs.SheetWords.{cell_word, row_words, refused_word, at_word, refusal_words}
use Rattle.table_text.specs.Sheet.{sheet_lines, printed}
use Rattle.table_text.proofs.Decimal.{starts, natural-decimal, decimal-digits}
use Rattle.table_text.proofs.Numbers.{Each, Visible, numeral-pos, numeral-negsuc, decimal-visible, numeral-visible}
use Rattle.table_text.proofs.Pieces.{Without, EachPiece, EachWithout, each-joined, split-nil, split-seam, joined-split}
use Rattle.table_text.proofs.Entries.{visible_without}

-- ---- numbers and cells

pub decimal_injective : (m n : ℕ) → decimal m ≡ decimal n → m ≡ n
decimal_injective m n e = some-injective m n (sym (natural-decimal m) ∙ ap natural e ∙ natural-decimal n)

-- the first byte, 0 where there is none
abbrev first_byte : List ℕ → ℕ
first_byte [] = 0
first_byte (b ∷ w) = b

decimal-first : (n : ℕ) → 48 ≤ first_byte (decimal n)
decimal-first n = rw (starts n).digits (starts n).digit

pub numeral-injective : (y z : ℤ) → numeral y ≡ numeral z → y ≡ z
numeral-injective (pos m) (pos n) e = ap pos (decimal_injective m n (sym (numeral-pos m) ∙ e ∙ numeral-pos n))
numeral-injective (pos m) (negsuc n) e = absurd (omega (arith, decimal-first m, ap first_byte (sym (numeral-pos m) ∙ e ∙ numeral-negsuc n)))
numeral-injective (negsuc m) (pos n) e = absurd (omega (arith, decimal-first n, ap first_byte (sym (numeral-pos n) ∙ sym e ∙ numeral-negsuc m)))
numeral-injective (negsuc m) (negsuc n) e =
    let h : suc m ≡ suc n = decimal_injective (suc m) (suc n) (tail-eq_of_cons-eq (sym (numeral-negsuc m) ∙ e ∙ numeral-negsuc n)) in
    ap negsuc (let i : m ≡ n = omega arith in i)

numeral-first : (z : ℤ) → first_byte (numeral z) ≡ 46 → ⊥
numeral-first (pos n) e = omega (arith, decimal-first n, ap first_byte (sym (numeral-pos n)) ∙ e)
numeral-first (negsuc n) e = omega (arith, ap first_byte (sym (numeral-negsuc n)) ∙ e)

pub cell-empty : (z : ℤ) → is_empty z ≡ true → cell_word z ≡ 46 ∷ []
unfolding cell_word
cell-empty z e = rw e

pub cell-label : (z : ℤ) → is_empty z ≡ false → cell_word z ≡ numeral z
unfolding cell_word
cell-label z e = rw e

empty-is : (z : ℤ) → is_empty z ≡ true → z ≡ empty
empty-is (pos n) e = absurd (true≢false e refl)
empty-is (negsuc n) e = ap negsuc (eqb-true n 2147483647 e)

pub cell-injective : (y z : ℤ) → cell_word y ≡ cell_word z → y ≡ z
cell-injective y z e = ⊎_elim
    (λ p. ⊎_elim (λ q. empty-is y p ∙ sym (empty-is z q)) (λ q. absurd (numeral-first z (ap first_byte (sym (cell-label z q) ∙ sym e ∙ cell-empty y p)))) (true-or-false (is_empty z)))
    (λ p. ⊎_elim (λ q. absurd (numeral-first y (ap first_byte (sym (cell-label y p) ∙ e ∙ cell-empty z q)))) (λ q. numeral-injective y z (sym (cell-label y p) ∙ e ∙ cell-label z q)) (true-or-false (is_empty z)))
    (true-or-false (is_empty y))

cells-injective : (l m : List ℤ) → map cell_word l ≡ map cell_word m → l ≡ m
cells-injective [] [] e = refl
cells-injective [] (z ∷ m) e = absurd (nil≢cons e)
cells-injective (y ∷ l) [] e = absurd (nil≢cons (sym e))
cells-injective (y ∷ l) (z ∷ m) e = ap₂ (λ (a : ℤ) (r : List ℤ). a ∷ r) (cell-injective y z (head-eq_of_cons-eq e)) (cells-injective l m (tail-eq_of_cons-eq e))

-- ---- rows

pub row_words_lem : (r : Row) → row_words r ≡ decimal r.period ∷ decimal r.distance ∷ map cell_word r.cells
unfolding row_words
row_words_lem r = refl

pub row-injective : (r s : Row) → row_words r ≡ row_words s → r ≡ s
row-injective r s e =
    let q = sym (row_words_lem r) ∙ e ∙ row_words_lem s in
    let period : r.period ≡ s.period = decimal_injective r.period s.period (head-eq_of_cons-eq q) in
    let distance : r.distance ≡ s.distance = decimal_injective r.distance s.distance (head-eq_of_cons-eq (tail-eq_of_cons-eq q)) in
    let cells : r.cells ≡ s.cells = cells-injective r.cells s.cells (tail-eq_of_cons-eq (tail-eq_of_cons-eq q)) in
    λ i. record { period = period i; distance = distance i; cells = cells i }

rows-injective : (l m : List Row) → map row_words l ≡ map row_words m → l ≡ m
rows-injective [] [] e = refl
rows-injective [] (s ∷ m) e = absurd (nil≢cons e)
rows-injective (r ∷ l) [] e = absurd (nil≢cons (sym e))
rows-injective (r ∷ l) (s ∷ m) e = ap₂ (λ (a : Row) (k : List Row). a ∷ k) (row-injective r s (head-eq_of_cons-eq e)) (rows-injective l m (tail-eq_of_cons-eq e))

-- ---- words and lines are found again

-- a line has a word, and no word has a space or a line feed
abbrev GoodLine : List (List ℕ) → Type 0
GoodLine [] = ⊥
GoodLine (w ∷ l) = EachPiece Visible (w ∷ l)

abbrev GoodLines : List (List (List ℕ)) → Type 0
GoodLines [] = Unit {0}
GoodLines (l ∷ ls) = GoodLine l × GoodLines ls

each-without : (b : ℕ) → b < 33 → (l : List (List ℕ)) → EachPiece Visible l → EachWithout b l
each-without b h [] v = tt
each-without b h (w ∷ l) v = (visible_without b h w v.0, each-without b h l v.1)

good-pieces : (l : List (List ℕ)) → GoodLine l → EachPiece Visible l
good-pieces [] g = absurd g
good-pieces (w ∷ l) g = g

-- the words of each line, with the nothing behind the last line feed
words_of : List ℕ → List (List (List ℕ))
words_of s = map (split space) (split line_feed s)

line-words : (l : List (List ℕ)) → GoodLine l → split space (joined_by space l) ≡ l
line-words [] g = absurd g
line-words (w ∷ l) g = joined-split space w l (each-without space (omega arith) (w ∷ l) g)

lines-words : (ls : List (List (List ℕ))) → GoodLines ls → words_of (lines ls) ≡ ls ++ (([] ∷ []) ∷ [])
unfolding words_of
lines-words [] g = ap (map (split space)) (split-nil line_feed) ∙ ap (λ (l : List (List ℕ)). l ∷ []) (split-nil space)
lines-words (l ∷ ls) g =
    ap (map (split space)) (ap (split line_feed) (append_assoc (joined_by space l) (line_feed ∷ []) (lines ls)) ∙ split-seam line_feed (joined_by space l) (lines ls) without)
    ∙ ap₂ (λ (a : List (List ℕ)) (r : List (List (List ℕ))). a ∷ r) (line-words l g.0) (lines-words ls g.1)
  where
    without : Without line_feed (joined_by space l)
    without = each-joined (λ c. c ≡ line_feed → ⊥) space (λ e. omega arith) l (each-without line_feed (omega arith) l (good-pieces l g.0))

lines-injective : (ls ms : List (List (List ℕ))) → GoodLines ls → GoodLines ms → lines ls ≡ lines ms → ls ≡ ms
lines-injective ls ms g h e = append_cancel_right ls ms (([] ∷ []) ∷ []) (sym (lines-words ls g) ∙ ap words_of e ∙ lines-words ms h)

-- ---- what is printed

cell-visible : (z : ℤ) → Each Visible (cell_word z)
cell-visible z = ⊎_elim (λ e. rw (cell-empty z e) ((omega arith, omega arith), tt)) (λ e. rw (cell-label z e) (numeral-visible z)) (true-or-false (is_empty z))

cells-visible : (l : List ℤ) → EachPiece Visible (map cell_word l)
cells-visible [] = tt
cells-visible (z ∷ l) = (cell-visible z, cells-visible l)

rows-good : (l : List Row) → GoodLines (map row_words l)
rows-good [] = tt
rows-good (r ∷ l) = (rw (row_words_lem r) (decimal-visible r.period, (decimal-visible r.distance, cells-visible r.cells)), rows-good l)

pub refusal-lines : (n k : ℕ) → sheet_lines (refused_at n k) ≡ refusal_words n k ∷ []
unfolding sheet_lines
refusal-lines n k = refl

pub row-lines : (l : List Row) → sheet_lines (rows l) ≡ map row_words l
unfolding sheet_lines
row-lines l = refl

refused-visible : Each Visible refused_word
refused-visible = omega arith

at-visible : Each Visible at_word
at-visible = omega arith

pub sheet-good : (o : Outcome) → GoodLines (sheet_lines o)
sheet-good (refused_at n k) = rw (refusal-lines n k) ((refused-visible, (decimal-visible n, (at-visible, (decimal-visible k, tt)))), tt)
sheet-good (rows l) = rw (row-lines l) (rows-good l)

-- a row's line starts with a digit, a refusal's does not
not-refused : (n k : ℕ) (l : List Row) → sheet_lines (refused_at n k) ≡ sheet_lines (rows l) → ⊥
not-refused n k [] e = nil≢cons (sym (sym (refusal-lines n k) ∙ e ∙ row-lines []))
not-refused n k (r ∷ l) e =
    let q = head-eq_of_cons-eq (head-eq_of_cons-eq (sym (refusal-lines n k) ∙ e ∙ row-lines (r ∷ l)) ∙ row_words_lem r) in
    true≢false (ap all_digits q ∙ decimal-digits r.period) refl

pub printed-lines : (o : Outcome) → printed o ≡ lines (sheet_lines o)
unfolding printed
printed-lines o = refl

-- the printed text determines the outcome
pub printed-injective : (o p : Outcome) → printed o ≡ printed p → o ≡ p
printed-injective o p e = outcome-injective o p (lines-injective (sheet_lines o) (sheet_lines p) (sheet-good o) (sheet-good p) (sym (printed-lines o) ∙ e ∙ printed-lines p))
  where
    outcome-injective : (o p : Outcome) → sheet_lines o ≡ sheet_lines p → o ≡ p
    outcome-injective (refused_at n k) (refused_at m j) e =
        let q = head-eq_of_cons-eq (sym (refusal-lines n k) ∙ e ∙ refusal-lines m j) in
        ap₂ refused_at (decimal_injective n m (head-eq_of_cons-eq (tail-eq_of_cons-eq q))) (decimal_injective k j (head-eq_of_cons-eq (tail-eq_of_cons-eq (tail-eq_of_cons-eq (tail-eq_of_cons-eq q)))))
    outcome-injective (refused_at n k) (rows l) e = absurd (not-refused n k l e)
    outcome-injective (rows l) (refused_at n k) e = absurd (not-refused n k l (sym e))
    outcome-injective (rows l) (rows m) e = ap rows (rows-injective l m (sym (row-lines l) ∙ e ∙ row-lines m))
