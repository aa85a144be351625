-- Headings as plain numbers, four each, and as records.
-- Assumes nothing.
use mathlib.Core.Path.{◌≡◌, refl, sym, ◌∙◌, ap, ap₂, subst}
use mathlib.Core.Bool.{Bool, true, false, ◌&&◌}
use mathlib.Core.List.{List, [], ◌∷◌, ◌++◌, append_assoc}
use Prim.Native.Nat.{ℕ, zero, suc, ◌+◌, ◌-◌, ◌*◌, ◌/◌, ◌%◌, ◌≤◌, ◌<◌}
use native.Mathlib.Nat.{sub-zero}
use native.Mathlib.Omega.{arith}
use lib.Dec.{eqb, leb}
use lib.IntN.{ℤ}
use lib.ListN.{length, get_or, drop, replicate, replicate-append-replicate}
use Rattle.calendar.specs.Meaning.{Row}
use Rattle.calendar.specs.Limits.{pool_limit, entry_limit, heading_length}
use Rattle.calendar.specs.Reply.{Reply, require}
use Rattle.calendar.specs.Reply.Reply.{answer}
use Rattle.calendar.specs.Granules.{granules}
use Rattle.calendar.specs.Outcome.{Outcome, outcome}
use Rattle.calendar.specs.Outcome.Outcome.{refused_at, rows}
use Rattle.calendar.specs.Stored.{pool_after, headings_from, headings_after}
use Rattle.calendar.specs.Lists.{filled}
use Rattle.granules.proofs.Tests.{and-iff, leb-iff}
use Rattle.algebra.specs.Agrees.{Agrees}
use Rattle.algebra.specs.TableMeaning.TableReply.{means}
use Rattle.algebra.proofs.Demand2.{demand-2-only, represents-length}
use Rattle.algebra.proofs.Steps.{after_table, outcome-is}
use Rattle.laws.proofs.Answered.{stored-means}
use Rattle.row_entry.proofs.Cells.{drop-alike, start-suc, number-suc}
use Rattle.conversion.specs.Conversion.{Conversion}
use Rattle.conversion.specs.Answers.{answered}
use Rattle.conversion.specs.Left.{Left}
use Rattle.conversion.proofs.Headings.{filled-behind, headings-length}
use Rattle.conversion.proofs.LeftRows.{means-length}
use Rattle.hand_proofs.specs.Tabled.{tabled}
use Rattle.headings.specs.declared.Heading.{Heading}
use Rattle.headings.specs.Records.{no_heading, numbers_of}
use Rattle.headings.specs.LeftRecords.{records_from, records_after, record_at, records_of, LeftRecords}

-- ---- how many headings are lent

-- check 2 asks for no more headings than a table has entries at most: check 1 comes first
require-few : (b : Bool) (k n : ℕ) (r : Reply ℕ) → (b ≡ true → k ≤ entry_limit) → entry_limit ≤ n
    → require 1 b (require 2 (leb k entry_limit) r) ≡ require 1 b (require 2 (leb k n) r)
require-few true k n r h l = ap (λ (c : Bool). require 2 c r) ((leb-iff k entry_limit).1 (h refl) ∙ sym ((leb-iff k n).1 (omega (arith, h refl))))
require-few false k n r h l = refl

outcome-few : (t : List ℤ) (n p : ℕ) → entry_limit ≤ n → outcome t entry_limit p ≡ outcome t n p
outcome-few t n p l =
    let k = length t / 6 in
    let b = eqb (length t % 6) 0 && (leb 1 k && leb k entry_limit) in
    let few : b ≡ true → k ≤ entry_limit = λ e. (leb-iff k entry_limit).0 ((and-iff (leb 1 k) _).0 ((and-iff (eqb (length t % 6) 0) _).0 e).1).1 in
    outcome-is t entry_limit p
    ∙ ap (after_table t p) (require-few b k n (require 3 (leb p pool_limit) (answer k)) few l)
    ∙ sym (outcome-is t n p)

-- of n headings that are lent, m are asked for
pub record Asked (n m : ℕ) : Type 0 where
  pub few : m ≤ entry_limit
  pub alike : (t : List ℤ) (p : ℕ) → outcome t m p ≡ outcome t n p

pub asked-all : (n m : ℕ) → n < entry_limit → m ≡ n → Asked n m
asked-all n m l e = record { few = omega arith; alike = λ t p. ap (λ (k : ℕ). outcome t k p) e }

pub asked-most : (n m : ℕ) → entry_limit ≤ n → m ≡ entry_limit → Asked n m
asked-most n m l e = record { few = omega arith; alike = λ t p. ap (λ (k : ℕ). outcome t k p) e ∙ outcome-few t n p l }

-- there is a heading for each row
abbrev pub Headed : ℕ → Outcome → Type 0
Headed n o = (l : List Row) → o ≡ rows l → length l ≤ n

outcome-headed : (t : List ℤ) (n p : ℕ) → Headed n (outcome t n p)
outcome-headed t n p l e =
    let (ms, h) = stored-means t n p l e in
    let a = subst (Agrees (means ms)) e (demand-2-only t n p (means ms) h) in
    omega (arith, (means-length h).1, represents-length ms l a)

-- ---- the numbers, with zeros behind them

filled_on : {A : Type 0} (k n : ℕ) (d : A) (l : List A) → length l ≤ k → k ≤ n → filled k d l ++ drop k (replicate n d) ≡ filled n d l
filled_on k n d l h b =
    let e : k - length l + (n - k) ≡ n - length l = omega arith in
    append_assoc l (replicate (k - length l) d) (drop k (replicate n d))
    ∙ ap (λ (x : List _). l ++ x)
    (ap (λ (x : List _). replicate (k - length l) d ++ x) (drop-alike d n k)
    ∙ replicate-append-replicate (k - length l) (n - k) d
    ∙ ap (λ (i : ℕ). replicate i d) e)

numbers_on : (o : Outcome) (m : ℕ) → Headed m o → m ≤ entry_limit → headings_after (heading_length * m) o ++ drop (heading_length * m) (replicate (heading_length * entry_limit) 0) ≡ headings_after (heading_length * entry_limit) o
unfolding headings_after
numbers_on (refused_at n k) m h b = filled_on (heading_length * m) (heading_length * entry_limit) 0 [] (omega arith) (omega arith)
numbers_on (rows l) m h b = filled_on (heading_length * m) (heading_length * entry_limit) 0 (headings_from 0 l) (omega (arith, headings-length 0 l, h l refl)) (omega arith)

pub outcome-numbers : (t : List ℤ) (m p : ℕ) → m ≤ entry_limit
    → headings_after (heading_length * m) (outcome t m p) ++ drop (heading_length * m) (replicate (heading_length * entry_limit) 0) ≡ headings_after (heading_length * entry_limit) (outcome t m p)
outcome-numbers t m p = numbers_on (outcome t m p) m (outcome-headed t m p)

-- ---- records

pub tabled-ext : {A : Type 0} (f g : ℕ → A) → ((k : ℕ) → f k ≡ g k) → (n : ℕ) → tabled f n ≡ tabled g n
tabled-ext f g h zero = refl
tabled-ext f g h (suc n) = ap₂ (λ (a : _) (l : List _). a ∷ l) (h 0) (tabled-ext (λ k. f (suc k)) (λ k. g (suc k)) (λ k. h (suc k)) n)

tabled-alike : {A : Type 0} (a : A) (n : ℕ) → tabled (λ k. a) n ≡ replicate n a
tabled-alike a zero = refl
tabled-alike a (suc n) = ap (λ (l : List _). a ∷ l) (tabled-alike a n)

-- equal numbers make equal headings
pub record-ext : {s p d g s' p' d' g' : ℕ} → s ≡ s' → p ≡ p' → d ≡ d' → g ≡ g'
    → ◌≡◌ {A = Heading} (record { start = s; period = p; distance = d; granules = g }) (record { start = s'; period = p'; distance = d'; granules = g' })
record-ext e f g h = λ i. record { start = e i; period = f i; distance = g i; granules = h i }

-- the heading k + 1 is the heading k where the first is taken away
pub record-behind : (a b c d : ℕ) (l : List ℕ) (k : ℕ) → record_at (a ∷ b ∷ c ∷ d ∷ l) (suc k) ≡ record_at l k
record-behind a b c d l k =
    let number = number-suc a b c d l k in
    record-ext (start-suc a b c d l k) (number 1) (number 2) (number 3)

records-from : (l : List Row) (s : ℕ) (behind : List ℕ) (n : ℕ) → length l ≤ n
    → records_of (headings_from s l ++ behind) n ≡ records_from s l ++ records_of behind (n - length l)
records-from [] s behind n h = ap (records_of behind) (sym (sub-zero n))
records-from (r ∷ l) s behind zero h = absurd (omega arith)
records-from (r ∷ l) s behind (suc n) h =
    let next : ℕ = s + r.period in
    let rest : List ℕ = headings_from next l ++ behind in
    let e : n - length l ≡ suc n - suc (length l) = omega arith in
    ap (λ (x : List Heading). record_at (s ∷ r.period ∷ r.distance ∷ granules r ∷ rest) 0 ∷ x)
    (tabled-ext _ (record_at rest) (record-behind s r.period r.distance (granules r) rest) n
    ∙ records-from l next behind n (omega arith)
    ∙ ap (λ (i : ℕ). records_from next l ++ records_of behind i) e)

-- zeros
zero-at : (k i : ℕ) → ◌≡◌ {A = ℕ} (get_or (replicate k 0) i 0) 0
zero-at k i = simp sub-zero at (filled-behind {A = ℕ} k 0 [] i (omega arith))

pub zero-records : (k n : ℕ) → records_of (replicate k 0) n ≡ replicate n no_heading
zero-records k n =
    tabled-ext (record_at (replicate k 0)) (λ i. no_heading) (λ i. record-ext (zero-at k _) (zero-at k _) (zero-at k _) (zero-at k _)) n ∙ tabled-alike no_heading n

numbers-records : (i : ℕ) (o : Outcome) (n : ℕ) → Headed n o → records_of (headings_after i o) n ≡ records_after n o
unfolding headings_after records_after
numbers-records i (refused_at m k) n h = zero-records (i - 0) n ∙ ap (λ (i : ℕ). replicate i no_heading) (sym (sub-zero n))
numbers-records i (rows l) n h =
    records-from l 0 (replicate (i - length (headings_from 0 l)) 0) n (h l refl)
    ∙ ap (λ (x : List Heading). records_from 0 l ++ x)
    (zero-records (i - length (headings_from 0 l)) (n - length l) ∙ ap (λ (k : ℕ). replicate (n - k) no_heading) (sym (records-length 0 l)))
  where
    records-length : (s : ℕ) (l : List Row) → length (records_from s l) ≡ length l
    records-length s [] = refl
    records-length s (r ∷ l) = ap suc (records-length (s + r.period) l)

-- the records of the numbers are those that the conversion is to leave
pub outcome-records : (t : List ℤ) (n p : ℕ) → records_of (headings_after (heading_length * entry_limit) (outcome t n p)) n ≡ records_after n (outcome t n p)
outcome-records t n p = numbers-records (heading_length * entry_limit) (outcome t n p) n (outcome-headed t n p)

-- ---- records whose numbers a conversion left

records-back : (hs : List Heading) → records_of (numbers_of hs) (length hs) ≡ hs
records-back [] = refl
records-back (h ∷ hs) =
    ap (λ (l : List Heading). h ∷ l)
    (tabled-ext _ (record_at (numbers_of hs)) (record-behind h.start h.period h.distance h.granules (numbers_of hs)) (length hs) ∙ records-back hs)

-- they are those that it leaves with records
pub left-records : (t : List ℤ) (hs : List Heading) (p : ℕ) (c : Conversion) (pool : List ℤ)
    → Left t (heading_length * length hs) p c (numbers_of hs) pool → LeftRecords t (length hs) p c hs pool
left-records t hs p c pool h =
    let n = length hs in
    let count : heading_length * n / heading_length ≡ n = omega arith in
    let o : outcome t (heading_length * n / heading_length) p ≡ outcome t n p = ap (λ (i : ℕ). outcome t i p) count in
    record {
      answer = h.answer ∙ ap answered o;
      records =
          sym (records-back hs)
          ∙ ap (λ (l : List ℕ). records_of l n) (h.numbers ∙ ap (headings_after (heading_length * n)) o)
          ∙ numbers-records (heading_length * n) (outcome t n p) n (outcome-headed t n p);
      cells = h.cells ∙ ap (pool_after p) o;
    }
