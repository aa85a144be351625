-- A record in a lent list, byte by byte, and what writing it answers and leaves.
use Rattle.std.specs.Prelude.{Result, Err, Ok}
use mathlib.Core.Path.{◌≡◌, refl, sym, ap, subst, ◌∙◌}
use mathlib.Core.Logic.{◌⊎◌, inl, inr, ⊎_elim}
use mathlib.Core.Bool.{Bool, true, false, cond}
use mathlib.Core.List.{List, [], ◌∷◌}
use Prim.Native.Nat.{ℕ, zero, suc, ◌+◌, ◌-◌, ◌≤◌, ◌<◌}
use native.Mathlib.Omega.{arith}
use lib.Dec.{eqb, leb}
use lib.ListN.{length, get_or, set, replicate, length-append, length-set, length-replicate, get_or-append, get_or-eq_default}
use lib.Seq.{get_or-append-add, get_or-set_same, get_or-set_other, ext_get_or}
use borrow.Author.Tests.{le-leb, lt-leb, leb-true, leb-false}
use Rattle.calendar.specs.Lists.{filled}
use Rattle.granules.proofs.Tests.{true-or-false, false-iff, eqb-iff}
use Rattle.table_text.specs.Text.{bad_text}
use Rattle.table_text.specs.Parse.{Reading, parse}
use Rattle.table_text.specs.Parse.Reading.{bad, table}
use Rattle.table_text.specs.Tables.{reading_answer}
use Rattle.journal.specs.Journal.{byte_at, trailer, record_of}
use Rattle.journal.specs.Append.{Append}
use Rattle.journal.specs.Append.Append.{refused_at, writes}
use Rattle.journal.specs.Lent.{recorded_in, bytes_in, RecordShows}
use Rattle.journal.specs.Writing.{append_read, append_of, RecordLeft}
use Rattle.journal.specs.declared.records.RecordError.{RecordError}
use Rattle.journal.specs.declared.records.RecordError.TheVariants.{Refused, TooShort}
use Rattle.journal.proofs.Appending.{append-nothing, append-some, append-computed}

-- ---- the byte at a place of a record

pub record-length : (s : List ℕ) → length (record_of s) ≡ length s + 6
record-length s = length-append s (trailer (length s))

module _ (s : List ℕ) (i : ℕ) where
  pub byte-body : i < length s → get_or s i 0 ≡ byte_at (record_of s) i
  byte-body h = sym (get_or-append s (trailer (length s)) 0 i h)

  pub byte-trailer : length s ≤ i → byte_at (trailer (length s)) (i - length s) ≡ byte_at (record_of s) i
  byte-trailer h =
      let e : length s + (i - length s) ≡ i = omega arith in
      sym (get_or-append-add s (trailer (length s)) (i - length s) 0) ∙ ap (byte_at (record_of s)) e

  pub byte-behind : length s ≤ i → 6 ≤ i - length s → 0 ≡ byte_at (record_of s) i
  byte-behind h b = sym (get_or-eq_default (record_of s) 0 (omega (arith, record-length s)))

-- ---- the loop that lays it

zeros : (n i : ℕ) → ◌≡◌ {A = ℕ} (get_or (replicate n 0) i 0) 0
zeros zero i = refl
zeros (suc n) zero = refl
zeros (suc n) (suc i) = zeros n i

-- a list filled up with zeros has zeros behind its end, as the list itself
filled_at : (m : ℕ) (l : List ℕ) (i : ℕ) → get_or (filled m 0 l) i 0 ≡ get_or l i 0
filled_at m l i = ⊎_elim
    (λ e. get_or-append l (replicate (m - length l) 0) 0 i (leb-true (suc i) (length l) e))
    (λ e.
    let h : length l ≤ i = omega (arith, leb-false (suc i) (length l) e) in
    let q : i ≡ length l + (i - length l) = omega arith in
    ap (λ (k : ℕ). get_or (filled m 0 l) k 0) q
    ∙ get_or-append-add l (replicate (m - length l) 0) (i - length l) 0
    ∙ zeros (m - length l) (i - length l)
    ∙ sym (get_or-eq_default l 0 h))
    (true-or-false (leb (suc i) (length l)))

filled-length : (m : ℕ) (l : List ℕ) → length l ≤ m → length (filled m 0 l) ≡ m
filled-length m l h = length-append l (replicate (m - length l) 0) ∙ simp length-replicate (omega arith)

-- of a list of m bytes those before i are the bytes of t, and 0 behind its end
pub record Laid (t : List ℕ) (m i : ℕ) (l : List ℕ) : Type 0 where
  pub whole : length l ≡ m
  pub is : (k : ℕ) → k < i → get_or l k 0 ≡ byte_at t k

pub laid_none : (t l : List ℕ) → Laid t (length l) 0 l
laid_none t l = record { whole = refl; is = λ k h. absurd (omega arith) }

module _ {t : List ℕ} {m i : ℕ} {l : List ℕ} (w : Laid t m i l) where
  pub laid_more : i < m → (b : ℕ) → b ≡ byte_at t i → Laid t m (i + 1) (set l i b)
  laid_more h b e = record { whole = length-set l i b ∙ w.whole; is = λ k q. by k q (true-or-false (eqb k i)) }
    where
      by : (k : ℕ) → k < i + 1 → (eqb k i ≡ true) ⊎ (eqb k i ≡ false) → get_or (set l i b) k 0 ≡ byte_at t k
      by k q (inl f) =
          subst (λ (k : ℕ). get_or (set l i b) k 0 ≡ byte_at t k) (sym ((eqb-iff k i).0 f))
          (get_or-set_same l i b 0 (omega (arith, w.whole)) ∙ e)
      by k q (inr f) = let other = (false-iff (eqb-iff k i)).0 f in get_or-set_other l i k b 0 other ∙ w.is k (omega arith)

  pub laid-all : length t ≤ m → m ≤ i → l ≡ filled m 0 t
  laid-all b h =
      ext_get_or 0 l (filled m 0 t) (w.whole ∙ sym (filled-length m t b))
      (λ k q. w.is k (omega (arith, w.whole)) ∙ sym (filled_at m t k))

-- ---- the answer

pub recorded-nothing : (s : List ℕ) (m : ℕ) → length s ≡ 0 → Err (Refused 0) ≡ recorded_in m (append_of s)
recorded-nothing [] m h = sym (ap (recorded_in m) append-nothing)
recorded-nothing (b ∷ s) m h = absurd (omega arith)

module _ (s : List ℕ) (some : (length s ≡ 0 → ⊥)) (m : ℕ) where
  read_as : (r : Reading) → parse s ≡ r → append_of s ≡ append_read s r
  read_as r e = append-some s (positive (length s) some) ∙ ap (append_read s) e
    where
      positive : (n : ℕ) → (n ≡ 0 → ⊥) → 1 ≤ n
      positive zero h = absurd (h refl)
      positive (suc n) h = omega arith

  pub recorded-bad : (k : ℕ) → Err k ≡ reading_answer (parse s) → Err (Refused k) ≡ recorded_in m (append_of s)
  recorded-bad k q = by (parse s) refl q
    where
      by : (r : Reading) → parse s ≡ r → Err k ≡ reading_answer r → Err (Refused k) ≡ recorded_in m (append_of s)
      by (bad j) p q =
          let same : k ≡ j = cc in
          ap (λ (i : ℕ). Err (Refused i)) same ∙ sym (ap (recorded_in m) (read_as (bad j) p))
      by (table t) p q = let z : ◌≡◌ {A = ℕ} 0 1 = cc in absurd (omega arith)

  module _ (n : ℕ) (q : Ok n ≡ reading_answer (parse s)) where
    writing : append_of s ≡ writes (record_of s)
    writing = by (parse s) refl q
      where
        by : (r : Reading) → parse s ≡ r → Ok n ≡ reading_answer r → append_of s ≡ writes (record_of s)
        by (bad j) p q = let z : ◌≡◌ {A = ℕ} 0 1 = cc in absurd (omega arith)
        by (table t) p q = read_as (table t) p

    pub recorded-short : m < length s + 6 → Err TooShort ≡ recorded_in m (append_of s)
    recorded-short h =
        let test = lt-leb (length (record_of s)) m (omega (arith, record-length s)) in
        sym (ap (recorded_in m) writing ∙ rw test refl)

    pub recorded-whole : length s + 6 ≤ m → Ok (length s + 6) ≡ recorded_in m (append_of s)
    recorded-whole h =
        let test = le-leb (length (record_of s)) m (omega (arith, record-length s)) in
        ap Ok (sym (record-length s)) ∙ sym (ap (recorded_in m) writing ∙ rw test refl)

-- ---- the list

-- what is written is the record
writes-record : (s w : List ℕ) → append_of s ≡ writes w → w ≡ record_of s
writes-record [] w e = let q : refused_at bad_text 0 ≡ writes w = sym append-nothing ∙ e in let z : ◌≡◌ {A = ℕ} 0 1 = cc in absurd (omega arith)
writes-record (b ∷ s) w e = by (parse (b ∷ s)) (sym (append-some (b ∷ s) (omega arith)) ∙ e)
  where
    by : (r : Reading) → append_read (b ∷ s) r ≡ writes w → w ≡ record_of (b ∷ s)
    by (bad k) q = let z : ◌≡◌ {A = ℕ} 0 1 = cc in absurd (omega arith)
    by (table t) q = cc

module _ (s : List ℕ) (m : ℕ) {r : Result ℕ RecordError} (q : r ≡ recorded_in m (append_of s)) where
  -- where a number of bytes is answered, the record fits, and is what is written
  record-with : (n : ℕ) → r ≡ Ok n → (length (record_of s) ≤ m) × (bytes_in m (append_of s) ≡ record_of s)
  record-with n e = by (append_of s) refl (sym e ∙ q)
    where
      fits : (w : List ℕ) (t : Bool) → leb (length w) m ≡ t → append_of s ≡ writes w → Ok n ≡ cond t (Ok (length w)) (Err TooShort)
          → (length (record_of s) ≤ m) × (bytes_in m (append_of s) ≡ record_of s)
      fits w true b p f =
          let same : w ≡ record_of s = writes-record s w p in (
            omega (arith, leb-true (length w) m b, ap length same),
            ap (bytes_in m) p ∙ rw b same,
          )
      fits w false b p f = let z : ◌≡◌ {A = ℕ} 0 1 = cc in absurd (omega arith)

      by : (a : Append) → append_of s ≡ a → Ok n ≡ recorded_in m a → (length (record_of s) ≤ m) × (bytes_in m (append_of s) ≡ record_of s)
      by (refused_at j k) p f = let z : ◌≡◌ {A = ℕ} 0 1 = cc in absurd (omega arith)
      by (writes w) p f = fits w (leb (length w) m) refl p f

  pub record-fits : (n : ℕ) → r ≡ Ok n → length (record_of s) ≤ m
  record-fits n e = (record-with n e).0

  pub left-record : (n : ℕ) → r ≡ Ok n → (out : List ℕ) → out ≡ filled m 0 (record_of s) → RecordLeft s m r out
  left-record n e out f =
      record { answer = q; bytes = f ∙ ap (λ (l : List ℕ). filled m 0 l) (sym (record-with n e).1) }

  -- where an error is, nothing is written
  pub left-nothing : (x : RecordError) → r ≡ Err x → (out : List ℕ) → out ≡ filled m 0 [] → RecordLeft s m r out
  left-nothing x e out g =
      record { answer = q; bytes = g ∙ ap (λ (l : List ℕ). filled m 0 l) (sym (by (append_of s) (sym e ∙ q))) }
    where
      short : (w : List ℕ) (t : Bool) → Err x ≡ cond t (Ok (length w)) (Err TooShort) → cond t w [] ≡ []
      short w true f = let z : ◌≡◌ {A = ℕ} 0 1 = cc in absurd (omega arith)
      short w false f = refl

      by : (a : Append) → Err x ≡ recorded_in m a → bytes_in m a ≡ []
      by (refused_at j k) f = refl
      by (writes w) f = short w (leb (length w) m) f

-- ---- what a caller knows of the answer

-- what appending the text comes to is shown
pub left-shows : {s : List ℕ} {m : ℕ} {r : Result ℕ RecordError} {out : List ℕ} → RecordLeft s m r out → RecordShows s m r out
left-shows {s = s} left =
    record { append = append_of s; appends = append-computed s; answer = left.answer; bytes = left.bytes }

module _ {s : List ℕ} {m n : ℕ} {r : Result ℕ RecordError} {out : List ℕ} (left : RecordLeft s m r out) (q : r ≡ Ok n) where
  -- it takes no more bytes than the list has
  pub recorded-fit : n ≤ m
  recorded-fit = by (append_of s) (sym q ∙ left.answer)
    where
      fits : (w : List ℕ) (t : Bool) → leb (length w) m ≡ t → Ok n ≡ cond t (Ok (length w)) (Err TooShort) → n ≤ m
      fits w true b e = let same : n ≡ length w = cc in omega (arith, leb-true (length w) m b)
      fits w false b e = let z : ◌≡◌ {A = ℕ} 0 1 = cc in absurd (omega arith)

      by : (a : Append) → Ok n ≡ recorded_in m a → n ≤ m
      by (refused_at j k) e = let z : ◌≡◌ {A = ℕ} 0 1 = cc in absurd (omega arith)
      by (writes w) e = fits w (leb (length w) m) refl e
