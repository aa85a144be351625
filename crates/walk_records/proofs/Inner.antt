-- The test and a call over all headings, by those over the first.
-- Assumes nothing.
use borrow.Author.Tests.{leb-true, leb-false}
use mathlib.Core.Path.{◌≡◌, refl, sym, ◌∙◌, ap, ap₂}
use mathlib.Core.Bool.{Bool, true, false, ◌&&◌, cond}
use mathlib.Core.List.{List, [], ◌∷◌, ◌++◌}
use Prim.Native.Nat.{ℕ, zero, suc, ◌+◌, ◌-◌, ◌*◌, ◌/◌, ◌≤◌, ◌<◌}
use native.Mathlib.Omega.{arith}
use lib.Dec.{eqb, leb}
use lib.IntN.{ℤ}
use lib.ListN.{length, get_or, take, drop, length-append, take-append-drop, get_or-append}
use lib.Seq.{length-take-le, take_all}
use Rattle.calendar.specs.Limits.{entry_limit, heading_length}
use Rattle.calendar.specs.Meaning.{Row}
use Rattle.calendar.specs.Reply.{Reply}
use Rattle.calendar.specs.Table.{entry_at, admitted}
use Rattle.calendar.specs.Outcome.{Outcome, judged}
use Rattle.calendar.specs.Stored.{joined}
use Rattle.granules.proofs.Tests.{eqb-iff}
use Rattle.conversion.specs.Shows.{row_at}
use Rattle.standing.specs.Standing.{rows_at, all_least, holds, standing}
use Rattle.standing.specs.Tests.{all_zero}
use Rattle.standing.proofs.Decides.{rows-length, standing-is}
use Rattle.walks.specs.Walk.{Lengths, admits, is_entry, ready, entered, stepped}
use Rattle.walks.proofs.Came.{admitted-gives, entry_of, ready-iff, step_to, entered-is, stepped-is, Came, came}
use Rattle.walks.proofs.Came.Came.{failed, declined, took}
use Rattle.headings.proofs.Plain.{Headed}
use Rattle.heading_records.specs.Reading.{at_most}
use Rattle.heading_records.proofs.Reading.{and-true, and-false, and_assoc, most-few, most-many}
use Rattle.heading_records.proofs.Beyond.{holds_more, admitted-enough}
use Rattle.walk_records.specs.Passing.{told_of}

-- ---- headings F with B behind them

module _ (pool : List ℤ) (F B : List ℕ) where
  row_more : (k : ℕ) → heading_length * suc k ≤ length F → row_at (F ++ B) pool k ≡ row_at F pool k
  row_more k b =
      let at : (i : ℕ) → i < heading_length * suc k → get_or (F ++ B) i 0 ≡ get_or F i 0 = λ i h. get_or-append F B 0 i (omega (arith, b, h)) in
      let start = at (heading_length * k) (omega arith) in
      let period = at (heading_length * k + 1) (omega arith) in
      let distance = at (heading_length * k + 2) (omega arith) in
      λ i. record { period = period i; distance = distance i; cells = take (period i) (drop (start i) pool) }

  rows_more : (k : ℕ) → heading_length * k ≤ length F → rows_at (F ++ B) pool k ≡ rows_at F pool k
  rows_more zero b = refl
  rows_more (suc k) b = ap₂ (λ (l : List Row) (r : Row). l ++ (r ∷ [])) (rows_more k (omega (arith, b))) (row_more k b)

  standing-more : (k : ℕ) → heading_length * k ≤ length F → standing k (F ++ B) pool ≡ standing k F pool && all_zero B
  standing-more k b =
      let l = rows_at F pool k in
      standing-is k (F ++ B) pool
      ∙ ap (λ (x : List Row). all_least x && holds x (F ++ B) pool) (rows_more k b)
      ∙ ap (λ (x : Bool). all_least l && x) (holds_more pool F B l (omega (arith, b, rows-length F pool k)))
      ∙ and_assoc (all_least l) (holds l F pool) (all_zero B)
      ∙ ap (λ (x : Bool). x && all_zero B) (sym (standing-is k F pool))

  entered-more : (t : List ℤ) (k : ℕ) → heading_length * k ≤ length F → entered k t (F ++ B) pool ≡ entered k t F pool
  entered-more t k b =
      entered-is k t (F ++ B) pool
      ∙ ap (λ (l : List Row). step_to k l (judged l (length pool - length (joined l)) (entry_at t k))) (rows_more k b)
      ∙ sym (entered-is k t F pool)

-- ---- tests

told_same : (x : Bool) (m : ℕ) → eqb m (cond x m (m + 1)) ≡ x
told_same true m = (eqb-iff m m).1 refl
told_same false m = by (eqb m (m + 1)) refl
  where
    by : (c : Bool) → eqb m (m + 1) ≡ c → c ≡ false
    by true e = absurd (omega (arith, (eqb-iff m (m + 1)).0 e))
    by false e = refl

and-inner : (T E P z S : Bool) → (T && (E && P)) && (S && z) ≡ (T && ((z && E) && P)) && S
and-inner T E P true S = ap (λ (x : Bool). (T && (E && P)) && x) (and-true S)
and-inner true E P false S = ap (λ (x : Bool). (E && P) && x) (and-false S) ∙ and-false (E && P)
and-inner false E P false S = refl

-- ---- the first of n headings

abbrev most : ℕ
most = heading_length * entry_limit

module _ (L : List ℕ) (n : ℕ) (long : length L ≡ heading_length * n) where
  abbrev pub F : List ℕ
  F = take most L

  abbrev pub z : Bool
  z = all_zero (drop most L)

  abbrev first : ℕ
  first = at_most n

  pub first-length : length F ≡ heading_length * first
  first-length = by (leb entry_limit n) refl
    where
      by : (c : Bool) → leb entry_limit n ≡ c → length F ≡ heading_length * first
      by true e = let b = leb-true entry_limit n e in omega (arith, long, b, most-many n b, length-take-le most L (omega (arith, long, b)))
      by false e = let b = leb-false entry_limit n e in omega (arith, long, most-few n b, ap length (take_all most L (omega (arith, long, b))))

  pub admits-first : (t : List ℤ) (p : ℕ) → admitted t first p ≡ admitted t n p
  admits-first t p = by (leb entry_limit n) refl
    where
      by : (c : Bool) → leb entry_limit n ≡ c → admitted t first p ≡ admitted t n p
      by true e = let b = leb-true entry_limit n e in admitted-enough t first n p (omega (arith, most-many n b)) b
      by false e = ap (λ (i : ℕ). admitted t i p) (most-few n (leb-false entry_limit n e))

  module _ (t : List ℤ) (pool : List ℤ) (began : Lengths) (k : ℕ) where
    abbrev pub inner : Lengths
    inner = record { table = began.table; headings = told_of began.headings z n; pool = began.pool }

    same-admits : admits t L pool ≡ admits t F pool
    same-admits =
        let all : length L / heading_length ≡ n = omega (arith, long) in
        let some : first ≡ length F / heading_length = omega (arith, first-length) in
        ap (λ (i : ℕ). admitted t i (length pool)) all
        ∙ sym (admits-first t (length pool))
        ∙ ap (λ (i : ℕ). admitted t i (length pool)) some

    entry-fits : is_entry k (admits t F pool) ≡ true → heading_length * suc k ≤ length F
    entry-fits e =
        let (i, a, b) = entry_of k (admits t F pool) e in
        omega (arith, b, (admitted-gives t (length F / heading_length) (length pool) i a).has-headings)

    told-length : eqb (length F) inner.headings ≡ z && eqb (length L) began.headings
    told-length =
        ap (λ (i : ℕ). eqb i inner.headings) first-length
        ∙ told_same (z && eqb (heading_length * n) began.headings) (heading_length * first)
        ∙ ap (λ (i : ℕ). z && eqb i began.headings) (sym long)

    -- the test over all headings is that over the first
    same_test : (T P I : Bool) → is_entry k (admits t F pool) ≡ I
        → (T && (eqb (length L) began.headings && P)) && (I && standing k L pool)
        ≡ (T && ((z && eqb (length L) began.headings) && P)) && (I && standing k F pool)
    same_test T P false e = and-false (T && (eqb (length L) began.headings && P)) ∙ sym (and-false (T && ((z && eqb (length L) began.headings) && P)))
    same_test T P true e =
        ap (λ (x : Bool). (T && (eqb (length L) began.headings && P)) && x)
        (ap (λ (l : List ℕ). standing k l pool) (sym (take-append-drop most L)) ∙ standing-more pool F (drop most L) k (omega (arith, entry-fits e)))
        ∙ and-inner T (eqb (length L) began.headings) P z (standing k F pool)

    same-ready : ready began k t L pool ≡ ready inner k t F pool
    unfolding ready
    same-ready =
        let T = eqb (length t) began.table in
        let P = eqb (length pool) began.pool in
        ap (λ (x : Reply ℕ). (T && (eqb (length L) began.headings && P)) && (is_entry k x && standing k L pool)) same-admits
        ∙ same_test T P (is_entry k (admits t F pool)) refl
        ∙ ap (λ (x : Bool). (T && (x && P)) && (is_entry k (admits t F pool) && standing k F pool)) (sym told-length)

    -- a call over all headings comes to what one over the first comes to
    pub same-stepped : stepped began k t L pool ≡ stepped inner k t F pool
    same-stepped =
        stepped-is began k t L pool
        ∙ ap (λ (b : Bool). cond b (entered k t L pool) (Outcome.refused_at 13 k)) same-ready
        ∙ by (ready inner k t F pool) refl
        ∙ sym (stepped-is inner k t F pool)
      where
        by : (b : Bool) → ready inner k t F pool ≡ b
            → cond b (entered k t L pool) (Outcome.refused_at 13 k) ≡ cond b (entered k t F pool) (Outcome.refused_at 13 k)
        by true e =
            ap (λ (l : List ℕ). entered k t l pool) (sym (take-append-drop most L))
            ∙ entered-more pool F (drop most L) t k (omega (arith, entry-fits ((ready-iff inner k t F pool).0 e).1))
        by false e = refl

    -- there is a heading among the first for each row that then stands
    pub stepped-headed : Headed first (stepped inner k t F pool)
    stepped-headed = by (stepped inner k t F pool) (came inner k t F pool)
      where
        by : (o : Outcome) → Came inner k t F pool o → Headed first o
        by _ (failed e) l q = let c : ◌≡◌ {A = ℕ} 0 1 = cc q in absurd (omega (arith, c))
        by _ (declined e j) l q = let c : ◌≡◌ {A = ℕ} 0 1 = cc q in absurd (omega (arith, c))
        by _ (took {r} e j) l q =
            let same : rows_at F pool k ++ (r ∷ []) ≡ l = cc q in
            omega (
              arith,
              ap length same,
              length-append (rows_at F pool k) (r ∷ []),
              rows-length F pool k,
              first-length,
              entry-fits ((ready-iff inner k t F pool).0 e).1,
            )
