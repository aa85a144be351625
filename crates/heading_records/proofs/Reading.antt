-- What headings come to that are read one after the other.
-- Assumes nothing.
use borrow.Author.Tests.{ltb-true, ltb-false, lt-ltb, le-ltb}
use mathlib.Core.Path.{◌≡◌, refl, sym, ◌∙◌, ap, ap₂}
use mathlib.Core.Bool.{Bool, true, false, ◌&&◌, cond}
use mathlib.Core.List.{List, [], ◌∷◌, ◌++◌}
use Prim.Native.Nat.{ℕ, zero, suc, ◌+◌, ◌*◌, ◌≤◌, ◌<◌}
use native.Mathlib.Omega.{arith}
use lib.Dec.{eqb, ltb}
use lib.ListN.{length, get_or, take, drop, length-set, length-replicate, drop_of_length-le}
use lib.Seq.{length-take-le, take_all, take-nil, drop-nil, take-append-add, drop-append-le, take-take, take-add}
use mir.Val.{Val}
use denote.Laws.{Is}
use denote.Struct.Laws as LL
use Rattle.calendar.specs.Limits.{entry_limit, heading_length}
use Rattle.headings.specs.declared.Heading.{Heading}
use Rattle.headings.specs.Records.{no_heading, numbers_of}
use Rattle.row_entry.proofs.Cells.{four-stored}
use Rattle.standing.specs.Tests.{all_zero}
use Rattle.heading_records.specs.declared.Read.{Read}
use Rattle.heading_records.specs.Reading.{is_zero, stored, read_next, read_upto, at_most, ReadsAll}
use Rattle.heading_records.specs.contracts.Read as D
use Rattle.heading_records.proofs.Read.TheLaws as D'

-- ---- tests

pub and-true : (a : Bool) → a && true ≡ a
and-true true = refl
and-true false = refl

pub and-false : (a : Bool) → a && false ≡ false
and-false true = refl
and-false false = refl

pub and_assoc : (a b c : Bool) → a && (b && c) ≡ (a && b) && c
and_assoc true b c = refl
and_assoc false b c = refl

zero-append : (x y : List ℕ) → all_zero (x ++ y) ≡ all_zero x && all_zero y
zero-append [] y = refl
zero-append (n ∷ x) y = ap (λ (b : Bool). eqb n 0 && b) (zero-append x y) ∙ and_assoc (eqb n 0) (all_zero x) (all_zero y)

-- ---- the numbers of headings

abbrev four : Heading → List ℕ
four h = numbers_of (h ∷ [])

four-zero : (h : Heading) → is_zero h ≡ all_zero (four h)
four-zero h =
    ap (λ (b : Bool). eqb h.start 0 && (eqb h.period 0 && (eqb h.distance 0 && b))) (sym (and-true (eqb h.granules 0)))

pub numbers-length : (hs : List Heading) → length (numbers_of hs) ≡ heading_length * length hs
numbers-length [] = refl
numbers-length (h ∷ hs) = omega (arith, numbers-length hs)

four-at : (hs : List Heading) (i : ℕ) → i < length hs → take heading_length (drop (heading_length * i) (numbers_of hs)) ≡ four (get_or hs i no_heading)
four-at [] i b = absurd (omega arith)
four-at (h ∷ hs) zero b = refl
four-at (h ∷ hs) (suc i) b =
    let e : heading_length * suc i ≡ suc (suc (suc (suc (heading_length * i)))) = omega arith in
    ap (λ (k : ℕ). take heading_length (drop k (numbers_of (h ∷ hs)))) e ∙ four-at hs i (omega arith)

-- ---- one heading after the other

stored-length : (l : List ℕ) (at : ℕ) (h : Heading) → length (stored l at h) ≡ length l
stored-length l at h = simp length-set

abbrev most : ℕ
most = heading_length * entry_limit

-- what is read of the first i headings
record ReadTo (hs : List Heading) (i : ℕ) (r : Read) : Type 0 where
  pub long : length r.numbers ≡ most
  pub front : take (heading_length * i) r.numbers ≡ take most (take (heading_length * i) (numbers_of hs))
  pub rest : r.zero ≡ all_zero (drop most (take (heading_length * i) (numbers_of hs)))

module _ (hs : List Heading) (i : ℕ) (b : i < length hs) (r : Read) (to : ReadTo hs i r) where
  abbrev l : List ℕ
  l = numbers_of hs

  abbrev at : ℕ
  at = heading_length * i

  abbrev h : Heading
  h = get_or hs i no_heading

  next-at : heading_length * suc i ≡ at + heading_length
  next-at = omega arith

  fits : at + heading_length ≤ length l
  fits = omega (arith, numbers-length hs)

  more : take (heading_length * suc i) l ≡ take at l ++ four h
  more = ap (λ (k : ℕ). take k l) next-at ∙ take-add at heading_length l ∙ ap (λ (x : List ℕ). take at l ++ x) (four-at hs i b)

  -- a heading that an entry may have
  module _ (few : i < entry_limit) where
    short : at + heading_length ≤ most
    short = omega arith

    numbers : take (heading_length * suc i) (stored r.numbers at h) ≡ take at r.numbers ++ four h
    numbers =
        let x = take at r.numbers in
        let y = h.start ∷ h.period ∷ h.distance ∷ h.granules ∷ drop (at + 4) r.numbers in
        let n : length x ≡ at = length-take-le at r.numbers (omega (arith, to.long, short)) in
        ap₂ (λ (k : ℕ) (z : List ℕ). take k z) next-at
        (four-stored r.numbers at h.start h.period h.distance h.granules (omega (arith, to.long, short)))
        ∙ ap (λ (k : ℕ). take (k + heading_length) (x ++ y)) (sym n)
        ∙ take-append-add x y heading_length

    first : ReadTo hs (suc i) (record { numbers = stored r.numbers at h; zero = r.zero })
    first =
        let before : length (take at l) ≤ most = omega (arith, length-take-le at l (omega (arith, fits)), short) in
        let after : length (take (heading_length * suc i) l) ≤ most = omega (arith, length-take-le (heading_length * suc i) l (omega (arith, fits)), short) in
        record {
          long = stored-length r.numbers at h ∙ to.long;
          front =
              numbers
              ∙ ap (λ (x : List ℕ). x ++ four h) (to.front ∙ take_all most (take at l) before)
              ∙ sym more
              ∙ sym (take_all most (take (heading_length * suc i) l) after);
          rest = to.rest ∙ ap all_zero (drop_of_length-le (take at l) before ∙ sym (drop_of_length-le (take (heading_length * suc i) l) after));
        }

  -- a heading beyond those
  module _ (many : entry_limit ≤ i) where
    long : most ≤ at
    long = omega arith

    further : ReadTo hs (suc i) (record { numbers = r.numbers; zero = r.zero && is_zero h })
    further =
        let n : length (take at l) ≡ at = length-take-le at l (omega (arith, fits)) in
        record {
          long = to.long;
          front =
              take_all (heading_length * suc i) r.numbers (omega (arith, to.long, long))
              ∙ sym (take_all at r.numbers (omega (arith, to.long, long)))
              ∙ to.front
              ∙ take-take most at l long
              ∙ sym (take-take most (heading_length * suc i) l (omega (arith, long)));
          rest =
              ap₂ (λ (x y : Bool). x && y) to.rest (four-zero h)
              ∙ sym (zero-append (drop most (take at l)) (four h))
              ∙ ap all_zero (sym (ap (drop most) more ∙ drop-append-le most (take at l) (four h) (omega (arith, n, long))));
        }

  next : ReadTo hs (suc i) (read_next r i h)
  next = by (ltb i entry_limit) refl
    where
      by : (c : Bool) → ltb i entry_limit ≡ c
          → ReadTo hs (suc i) (cond c (record { numbers = stored r.numbers at h; zero = r.zero }) (record { numbers = r.numbers; zero = r.zero && is_zero h }))
      by true e = first (ltb-true i entry_limit e)
      by false e = further (ltb-false i entry_limit e)

read-to : (hs : List Heading) (i : ℕ) → i ≤ length hs → ReadTo hs i (read_upto hs i)
read-to hs zero b = record { long = length-replicate {A = ℕ} most 0; front = sym (take-nil most); rest = sym (ap all_zero (drop-nil most)) }
read-to hs (suc i) b = next hs i (omega arith) (read_upto hs i) (read-to hs i (omega arith))

-- ---- all headings

-- there are four numbers for each entry that a table may have
pub read_length : (r : Read) (vs : List Val) → Is D.the_row r vs → length r.numbers ≡ most
read_length r vs is = (LL.owed D.the_type D'.the_laws r vs is).0.1.0.1

pub most-few : (n : ℕ) → n < entry_limit → at_most n ≡ n
most-few n b = ap (λ (c : Bool). cond c n entry_limit) (lt-ltb n entry_limit b)

pub most-many : (n : ℕ) → entry_limit ≤ n → at_most n ≡ entry_limit
most-many n b = ap (λ (c : Bool). cond c n entry_limit) (le-ltb n entry_limit b)

pub reads_all : (hs : List Heading) → ReadsAll hs (read_upto hs (length hs))
reads_all hs =
    let n = length hs in
    let l = numbers_of hs in
    let r = read_upto hs n in
    let to = read-to hs n (omega arith) in
    let whole : take (heading_length * n) l ≡ l = take_all (heading_length * n) l (omega (arith, numbers-length hs)) in
    let all : take (heading_length * n) r.numbers ≡ take most l = to.front ∙ ap (take most) whole in
    record { numbers = by (ltb n entry_limit) refl r to.long all; zero = to.rest ∙ ap (λ (x : List ℕ). all_zero (drop most x)) whole }
  where
    by : (c : Bool) → ltb (length hs) entry_limit ≡ c → (r : Read) → length r.numbers ≡ most → take (heading_length * length hs) r.numbers ≡ take most (numbers_of hs)
        → take (heading_length * cond c (length hs) entry_limit) r.numbers ≡ take most (numbers_of hs)
    by true e r long all = all
    by false e r long all =
        take_all most r.numbers (omega (arith, long))
        ∙ sym (take_all (heading_length * length hs) r.numbers (omega (arith, long, ltb-false (length hs) entry_limit e)))
        ∙ all

pub most-limit : (n : ℕ) → at_most n ≤ entry_limit
most-limit n = by (ltb n entry_limit) refl
  where
    by : (c : Bool) → ltb n entry_limit ≡ c → cond c n entry_limit ≤ entry_limit
    by true e = omega (arith, ltb-true n entry_limit e)
    by false e = omega arith
