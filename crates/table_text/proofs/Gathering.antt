-- The lines of a text read one by one, and their numbers gathered in a table.
use mathlib.Core.Path.{◌≡◌, refl, sym, ap, ap₂, ◌∙◌}
use mathlib.Core.Option.{Option, none, some}
use mathlib.Core.List.{List, [], ◌∷◌, ◌++◌, map, append_assoc, append-nil}
use Prim.Native.Nat.{ℕ, suc, ◌+◌, ◌-◌, ◌*◌, ◌≤◌, ◌<◌}
use native.Mathlib.Nat.{sub-zero}
use native.Mathlib.Numerals.{add-one}
use native.Mathlib.Omega.{arith}
use lib.IntN.{ℤ, pos, negsuc}
use lib.ListN.{length, take, drop, replicate, length-append, length-take, length-drop, length-replicate, replicate-append-replicate, drop_of_length-le}
use lib.Seq.{paste, take_all, take_at, drop_at, drop-append-add}
use Rattle.table_text.specs.Numerals.{numeral}
use Rattle.table_text.specs.Words.{space, line_feed, joined_by}
use Rattle.table_text.specs.Text.{text_limit}
use Rattle.table_text.specs.Parse.{split, Reading, entry_of, entry_before, read_lines, parse}
use Rattle.table_text.specs.Parse.Reading.{bad, table}
use Rattle.table_text.specs.Lines.{EndsAt}
use Rattle.table_text.specs.Tables.{Left}
use Rattle.std.specs.Prelude.{Result, Ok, Err}
use Rattle.table_text.proofs.Decimal.{starts}
use Rattle.table_text.proofs.Numbers.{numeral-pos, numeral-negsuc}
use Rattle.table_text.proofs.Pieces.{first_piece, split-nil}
use Rattle.table_text.proofs.Entries.{entry-back}
use Rattle.table_text.proofs.Texts.{next-line, text-end, text-cut, parse-short, parse-long}
use Rattle.table_text.proofs.Cutting.{cut_off, cut-last}

-- ---- the length of a line

numeral-some : (z : ℤ) → 1 ≤ length (numeral z)
numeral-some (pos n) = rw (numeral-pos n, (starts n).digits) (omega arith)
numeral-some (negsuc n) = rw (numeral-negsuc n) (omega arith)

line-length : (e : List ℤ) → 2 * length e ≤ length (joined_by space (map numeral e)) + 1
line-length [] = omega arith
line-length (z ∷ []) = omega (arith, numeral-some z)
line-length (z ∷ y ∷ e) = omega (arith, numeral-some z, line-length (y ∷ e), length-append (numeral z) (space ∷ joined_by space (map numeral (y ∷ e))))

pub entry_length : (l : List ℕ) (e : List ℤ) → entry_of l ≡ some e → (length e ≡ 6) × (11 ≤ length l)
entry_length l e q = let h = entry-back l e q in (h.six, omega (arith, ap length h.text, line-length e, h.six))

-- ---- lines one by one

-- what is read behind the numbers of acc
abbrev pub after : List ℤ → Reading → Reading
after acc (bad k) = bad k
after acc (table t) = table (acc ++ t)

after_nothing : (r : Reading) → r ≡ after [] r
after_nothing (bad k) = refl
after_nothing (table t) = refl

after-entry : (acc e : List ℤ) (k : ℕ) (r : Reading) → after acc (entry_before (some e) k r) ≡ after (acc ++ e) r
after-entry acc e k (bad m) = refl
after-entry acc e k (table t) = ap {B = Reading} table (sym (append_assoc acc e t))

lines_of : ℕ → List ℕ → Reading
lines_of k s = read_lines k (split line_feed s)

module _ (s : List ℕ) (from r : ℕ) (ends : EndsAt line_feed s from r) where
  abbrev line : List ℕ
  line = take (r - from) (drop from s)

  a-line : (k : ℕ) → r < length s → read_lines k (split line_feed (drop from s)) ≡ entry_before (entry_of line) k (read_lines (suc k) (split line_feed (drop (r + 1) s)))
  a-line k h =
      let f = first_piece line_feed (drop (r + 1) s) in
      ap (read_lines k) (cut_off line_feed s from r ends h ∙ ap (λ (l : List (List ℕ)). line ∷ l) f.pieces)
      ∙ next-line k line f.piece f.others
      ∙ ap (λ (l : List (List ℕ)). entry_before (entry_of line) k (read_lines (suc k) l)) (sym f.pieces)

  pub good-line : (k : ℕ) (acc e : List ℤ) → r < length s → entry_of line ≡ some e
      → after acc (read_lines k (split line_feed (drop from s))) ≡ after (acc ++ e) (read_lines (suc k) (split line_feed (drop (r + 1) s)))
  good-line k acc e h q =
      ap (after acc) (a-line k h ∙ ap (λ (o : Option (List ℤ)). entry_before o k (read_lines (suc k) (split line_feed (drop (r + 1) s)))) q)
      ∙ after-entry acc e k (read_lines (suc k) (split line_feed (drop (r + 1) s)))

  pub bad-line : (k : ℕ) → r < length s → entry_of line ≡ none → read_lines k (split line_feed (drop from s)) ≡ bad k
  bad-line k h q = a-line k h ∙ ap (λ (o : Option (List ℤ)). entry_before o k (read_lines (suc k) (split line_feed (drop (r + 1) s)))) q

  pub open-line : (k : ℕ) → from < length s → r ≡ length s → read_lines k (split line_feed (drop from s)) ≡ bad k
  open-line k h q = ap (read_lines k) (cut-last line_feed s from r ends q) ∙ go line (omega (arith, length-take (r - from) (drop from s), length-drop from s))
    where
      go : (l : List ℕ) → 0 < length l → read_lines k (l ∷ []) ≡ bad k
      go [] h = absurd (omega arith)
      go (b ∷ l) h = text-cut k b l

no_more : (k : ℕ) (s : List ℕ) (from : ℕ) → length s ≤ from → read_lines k (split line_feed (drop from s)) ≡ table []
no_more k s from h = ap (λ (l : List ℕ). read_lines k (split line_feed l)) (drop_of_length-le s {i = from} h) ∙ ap (read_lines k) (split-nil line_feed) ∙ text-end k

-- ---- the numbers in a table of `lent`

drop-replicate : (n m : ℕ) → m ≤ n → drop m (replicate n (pos 0)) ≡ replicate (n - m) (pos 0)
drop-replicate n m h =
    ap (λ (k : ℕ). drop m (replicate k (pos 0))) (let e : n ≡ m + (n - m) = omega arith in e)
    ∙ ap (drop m) (sym (replicate-append-replicate m (n - m) (pos 0)))
    ∙ drop_at (replicate m (pos 0)) (replicate (n - m) (pos 0)) m (length-replicate m (pos 0))

-- the lines before `from`, `number` of them, have been read, and their numbers, `at` of them, stand in the table
pub record Gathered (lent : ℕ) (text : List ℕ) (from at number : ℕ) (numbers : List ℤ) : Type 0 where
  pub read : List ℤ
  pub count : length read ≡ at
  pub inside : from ≤ length text
  pub room : 2 * at ≤ from
  pub lines : number ≤ from
  pub stored : numbers ≡ read ++ replicate (lent - at) (pos 0)
  pub reads : read_lines 0 (split line_feed text) ≡ after read (read_lines number (split line_feed (drop from text)))

pub gathered_none : (lent : ℕ) (text : List ℕ) (numbers : List ℤ) → numbers ≡ replicate lent (pos 0) → Gathered lent text 0 0 0 numbers
gathered_none lent text numbers e = record {
  read = [];
  count = refl;
  inside = omega arith;
  room = omega arith;
  lines = omega arith;
  stored = e ∙ ap (λ (n : ℕ). replicate n (pos 0)) (sym (sub-zero lent));
  reads = after_nothing (read_lines 0 (split line_feed text));
}

module _ {lent : ℕ} {text : List ℕ} {from at number : ℕ} {numbers : List ℤ} (g : Gathered lent text from at number numbers) where
  pub gathered-length : at ≤ lent → length numbers ≡ lent
  gathered-length h = ap length g.stored ∙ length-append g.read (replicate (lent - at) (pos 0)) ∙ ap₂ (λ (a b : ℕ). a + b) g.count (length-replicate (lent - at) (pos 0)) ∙ (let e : at + (lent - at) ≡ lent = omega arith in e)

  pub gathered-all : length text ≤ from → Left lent (read_lines 0 (split line_feed text)) (Ok at) numbers
  gathered-all h =
      let all : read_lines 0 (split line_feed text) ≡ table g.read = g.reads ∙ ap (after g.read) (no_more number text from h) ∙ ap {B = Reading} table (append-nil g.read) in
      rw all (record { answer = ap Ok (sym g.count); numbers = g.stored ∙ ap (λ (n : ℕ). g.read ++ replicate (lent - n) (pos 0)) (sym g.count) })

  pub gathered-bad : read_lines number (split line_feed (drop from text)) ≡ bad number → (cleared : List ℤ) → cleared ≡ replicate lent (pos 0) → Left lent (read_lines 0 (split line_feed text)) (Err number) cleared
  gathered-bad e cleared q = rw (g.reads ∙ ap (after g.read) e) (record { answer = refl; numbers = q ∙ ap (λ (n : ℕ). replicate n (pos 0)) (sym (sub-zero lent)) })

  -- an entry's line has 12 bytes or more
  pub gathered-long : (r : ℕ) → EndsAt line_feed text from r → r < length text → (e : List ℤ) → entry_of (take (r - from) (drop from text)) ≡ some e → 2 * (at + 6) ≤ r + 1
  gathered-long r ends h e q = let a = ends.after in let l = g.room in omega (arith, (entry_length _ e q).1, length-take (r - from) (drop from text), length-drop from text)

  pub gathered-more : (r : ℕ) → EndsAt line_feed text from r → r < length text → (e : List ℤ) → entry_of (take (r - from) (drop from text)) ≡ some e → at + 6 ≤ lent
      → Gathered lent text (r + 1) (at + 6) (number + 1) (paste numbers at e 6)
  gathered-more r ends h e q room = record {
    read = g.read ++ e;
    count = length-append g.read e ∙ ap₂ (λ (a b : ℕ). a + b) g.count six;
    inside = omega arith;
    room = gathered-long r ends h e q;
    lines = let a = ends.after in let l = g.lines in omega arith;
    stored = ap₂ (λ (x y : List ℤ). x ++ y) (ap₂ (λ (x y : List ℤ). x ++ y) front (take_all 6 e (omega (arith, six)))) back;
    reads = g.reads ∙ good-line text from r ends number g.read e h q ∙ ap (λ (n : ℕ). after (g.read ++ e) (read_lines n (split line_feed (drop (r + 1) text)))) (sym (add-one number));
  }
    where
      six : length e ≡ 6
      six = (entry_length _ e q).0

      front : take at numbers ≡ g.read
      front = ap (take at) g.stored ∙ take_at g.read (replicate (lent - at) (pos 0)) at g.count

      back : drop (at + 6) numbers ≡ replicate (lent - (at + 6)) (pos 0)
      back =
          ap (drop (at + 6)) g.stored
          ∙ ap (λ (n : ℕ). drop (n + 6) (g.read ++ replicate (lent - at) (pos 0))) (sym g.count)
          ∙ drop-append-add g.read (replicate (lent - at) (pos 0)) 6
          ∙ drop-replicate (lent - at) 6 (omega arith)
          ∙ ap (λ (n : ℕ). replicate n (pos 0)) (let e : lent - at - 6 ≡ lent - (at + 6) = omega arith in e)

-- ---- the whole text

pub read-long : (lent : ℕ) (text : List ℕ) (l : List ℤ) → text_limit < length text → l ≡ replicate lent (pos 0) → Left lent (parse text) (Err 0) l
read-long lent text l h e = rw (parse-long text h) (record { answer = refl; numbers = e ∙ ap (λ (n : ℕ). replicate n (pos 0)) (sym (sub-zero lent)) })

pub read_short : (lent : ℕ) (text : List ℕ) (a : (Result ℕ ℕ)) (l : List ℤ) → length text ≤ text_limit → Left lent (read_lines 0 (split line_feed text)) a l → Left lent (parse text) a l
read_short lent text a l h e = rw (parse-short text h) e
