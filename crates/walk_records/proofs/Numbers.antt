-- The numbers of records that are written.
-- Assumes nothing.
use mathlib.Core.Path.{◌≡◌, refl, sym, ◌∙◌, ap}
use mathlib.Core.List.{List, [], ◌∷◌, ◌++◌}
use Prim.Native.Nat.{ℕ, zero, suc, ◌+◌, ◌-◌, ◌*◌, ◌≤◌, ◌<◌}
use native.Mathlib.Omega.{arith}
use lib.ListN.{length, replicate}
use Rattle.calendar.specs.Limits.{heading_length}
use Rattle.calendar.specs.Outcome.{Outcome}
use Rattle.calendar.specs.Outcome.Outcome.{refused_at, rows}
use Rattle.calendar.specs.Stored.{headings_from, headings_after}
use Rattle.conversion.proofs.Headings.{filled-length, headings-length}
use Rattle.headings.specs.Records.{no_heading, numbers_of}
use Rattle.headings.specs.LeftRecords.{record_at, records_of}
use Rattle.headings.proofs.Plain.{Headed, tabled-ext, record-behind, zero-records}
use Rattle.heading_records.proofs.Beyond.{filled_more}

-- ---- records of numbers

zero-numbers : (n : ℕ) → numbers_of (replicate n no_heading) ≡ replicate (heading_length * n) 0
zero-numbers zero = refl
zero-numbers (suc n) =
    let same : suc (suc (suc (suc (heading_length * n)))) ≡ heading_length * suc n = omega arith in
    ap (λ (l : List ℕ). 0 ∷ 0 ∷ 0 ∷ 0 ∷ l) (zero-numbers n) ∙ ap (λ (i : ℕ). replicate i 0) same

-- n records of the numbers of m headings, with `rest` behind them where these are all: beyond them they are zero
records-numbers : (m n : ℕ) (H rest : List ℕ) → length H ≡ heading_length * m → m ≤ n → (m < n → rest ≡ [])
    → numbers_of (records_of (H ++ rest) n) ≡ H ++ replicate (heading_length * (n - m)) 0
records-numbers zero zero [] rest e b h = refl
records-numbers zero (suc n) [] rest e b h =
    let all : heading_length * suc n ≡ heading_length * (suc n - 0) = omega arith in
    ap (λ (l : List ℕ). numbers_of (records_of l (suc n))) (h (omega arith))
    ∙ ap numbers_of (zero-records 0 (suc n))
    ∙ zero-numbers (suc n)
    ∙ ap (λ (i : ℕ). replicate i 0) all
records-numbers zero n (a ∷ H) rest e b h = absurd (omega (arith, e))
records-numbers (suc m) zero H rest e b h = absurd (omega (arith, b))
records-numbers (suc m) (suc n) [] rest e b h = absurd (omega (arith, e))
records-numbers (suc m) (suc n) (i ∷ []) rest e b h = absurd (omega (arith, e))
records-numbers (suc m) (suc n) (i ∷ j ∷ []) rest e b h = absurd (omega (arith, e))
records-numbers (suc m) (suc n) (i ∷ j ∷ k ∷ []) rest e b h = absurd (omega (arith, e))
records-numbers (suc m) (suc n) (i ∷ j ∷ k ∷ l ∷ H) rest e b h =
    let same : heading_length * (n - m) ≡ heading_length * (suc n - suc m) = omega arith in
    ap (λ (x : List ℕ). i ∷ j ∷ k ∷ l ∷ x)
    (ap numbers_of (tabled-ext _ (record_at (H ++ rest)) (record-behind i j k l (H ++ rest)) n)
    ∙ records-numbers m n H rest (omega (arith, e)) (omega (arith, b)) (λ s. h (omega (arith, s)))
    ∙ ap (λ (x : ℕ). H ++ replicate x 0) same)

-- ---- the headings that an outcome leaves

headings-fill : (m : ℕ) (o : Outcome) → Headed m o → length (headings_after (heading_length * m) o) ≡ heading_length * m
unfolding headings_after
headings-fill m (refused_at i k) h = filled-length (heading_length * m) 0 [] (omega arith)
headings-fill m (rows l) h = filled-length (heading_length * m) 0 (headings_from 0 l) (omega (arith, headings-length 0 l, h l refl))

headings-more : (m n : ℕ) (o : Outcome) → Headed m o → m ≤ n → headings_after (heading_length * n) o ≡ headings_after (heading_length * m) o ++ replicate (heading_length * (n - m)) 0
unfolding headings_after
headings-more m n (refused_at i k) h b =
    let all : heading_length * n ≡ heading_length * m + heading_length * (n - m) = omega arith in
    ap (λ (x : ℕ). headings_after x (refused_at i k)) all ∙ filled_more (heading_length * m) (heading_length * (n - m)) [] (omega arith)
headings-more m n (rows l) h b =
    let all : heading_length * n ≡ heading_length * m + heading_length * (n - m) = omega arith in
    ap (λ (x : ℕ). headings_after x (rows l)) all
    ∙ filled_more (heading_length * m) (heading_length * (n - m)) (headings_from 0 l) (omega (arith, headings-length 0 l, h l refl))

-- the numbers of n records that are written by what an outcome leaves of m headings
pub written-numbers : (m n : ℕ) (o : Outcome) (rest : List ℕ) → Headed m o → m ≤ n → (m < n → rest ≡ [])
    → numbers_of (records_of (headings_after (heading_length * m) o ++ rest) n) ≡ headings_after (heading_length * n) o
written-numbers m n o rest h b r = records-numbers m n (headings_after (heading_length * m) o) rest (headings-fill m o h) b r ∙ sym (headings-more m n o h b)
