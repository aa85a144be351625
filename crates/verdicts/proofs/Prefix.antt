-- The first entries of a table by themselves, and what they mean.
-- Assumes nothing.
use mathlib.Core.Path.{◌≡◌, refl, sym, ◌∙◌, ap, subst}
use mathlib.Core.Bool.{◌&&◌}
use mathlib.Core.List.{List, [], ◌∷◌, ◌++◌}
use Prim.Native.Nat.{ℕ, zero, suc, ◌+◌, ◌-◌, ◌*◌, ◌/◌, ◌%◌, ◌≤◌, ◌<◌}
use native.Mathlib.Omega.{arith}
use lib.Dec.{eqb, leb}
use lib.IntN.{ℤ, pos}
use lib.ListN.{length, get_or, take}
use lib.Seq.{get_or-take, length-take-le}
use Rattle.calendar.specs.Limits.{pool_limit, entry_limit}
use Rattle.calendar.specs.Meaning.{Row}
use Rattle.calendar.specs.Reply.{Reply}
use Rattle.calendar.specs.Reply.Reply.{refused, answer}
use Rattle.calendar.specs.Table.{Entry, entry_at, admitted}
use Rattle.calendar.specs.Outcome.{Outcome, judged, entries, outcome}
use Rattle.calendar.specs.Outcome.Outcome.{rows}
use Rattle.granules.proofs.Tests.{and-iff, eqb-iff, leb-iff}
use Rattle.granules.proofs.Replies.{require-answer}
use Rattle.algebra.specs.TableMeaning.{Meant, EntryJudged, Entries, TableReply, TableMeans}
use Rattle.algebra.specs.TableMeaning.Entries.{done, stop, next}
use Rattle.algebra.specs.TableMeaning.TableReply.{refused_at, means}
use Rattle.algebra.specs.TableMeaning.TableMeans.{entries as by_entries}
use Rattle.algebra.specs.Agrees.{RepresentsAll, Agrees}
use Rattle.algebra.proofs.Steps.{after_entry, entries-zero, entries-suc, after_table, outcome-is}
use Rattle.algebra.proofs.Demand2.{demand-2, demand-2-only}
use Rattle.verdicts.specs.Begins.{first_entries}

-- ---- tables whose first k entries are the same

abbrev Alike : List ℤ → List ℤ → ℕ → Type 0
Alike t u k = (j : ℕ) → j < k → entry_at t j ≡ entry_at u j

-- their relation to calendars, and their rows
entries-move : {t u : List ℤ} (k : ℕ) → Alike t u k → {m i room : ℕ} {before : List Meant} {r : TableReply} → i + m ≤ k → Entries t m i before room r → Entries u m i before room r
entries-move k h b done = done
entries-move {t} {u} k h {i} {room} {before} b (stop {m} j) = stop (subst (λ (e : Entry). EntryJudged before room e (refused m)) (h i (omega arith)) j)
entries-move {t} {u} k h {i} {room} {before} b (next {m} j l) =
    next (subst (λ (e : Entry). EntryJudged before room e (answer m)) (h i (omega arith)) j) (entries-move k h (omega arith) l)

rows-move : (t u : List ℤ) (k : ℕ) → Alike t u k → (m i : ℕ) → i + m ≤ k → (l : List Row) (room : ℕ) → entries t m i l room ≡ entries u m i l room
rows-move t u k h zero i b l room = entries-zero t i l room ∙ sym (entries-zero u i l room)
rows-move t u k h (suc m) i b l room =
    entries-suc t m i l room
    ∙ ap (λ (e : Entry). after_entry t m i l room (judged l room e)) (h i (omega arith))
    ∙ by (judged l room (entry_at u i)) (rows-move t u k h m (suc i) (omega arith))
    ∙ sym (entries-suc u m i l room)
  where
    by : (x : Reply Row) → ((l : List Row) (room : ℕ) → entries t m (suc i) l room ≡ entries u m (suc i) l room) → after_entry t m i l room x ≡ after_entry u m i l room x
    by (refused n) ih = refl
    by (answer r) ih = ih (l ++ (r ∷ [])) (room - r.period)

-- ---- the first k entries as a table of their own

alike-take : (t : List ℤ) (k : ℕ) → Alike (take (6 * k) t) t k
alike-take t k j b =
    let at : (i : ℕ) → i < 6 → get_or (take (6 * k) t) (6 * j + i) (pos 0) ≡ get_or t (6 * j + i) (pos 0) = λ i l. get_or-take (6 * k) t (6 * j + i) (pos 0) (omega arith) in
    let kind = get_or-take (6 * k) t (6 * j) (pos 0) (omega arith) in
    let first = at 1 (omega arith) in
    let second = at 2 (omega arith) in
    let x = at 3 (omega arith) in
    let y = at 4 (omega arith) in
    let z = at 5 (omega arith) in
    λ i. record { kind = kind i; first = first i; second = second i; x = x i; y = y i; z = z i }

admitted_of : (t : List ℤ) (h p k : ℕ) → length t ≡ 6 * k → 1 ≤ k → k ≤ entry_limit → k ≤ h → p ≤ pool_limit → admitted t h p ≡ answer k
admitted_of t h p k e a b c d =
    let n : length t / 6 ≡ k = omega arith in
    let m : length t % 6 ≡ 0 = omega arith in
    rw (n, m, (leb-iff 1 k).1 a, (leb-iff k entry_limit).1 b, (leb-iff k h).1 c, (leb-iff p pool_limit).1 d)

-- checks 1 to 3 passed
pub record Admitted (t : List ℤ) (h p n : ℕ) : Type 0 where
  pub whole : length t ≡ 6 * n
  pub few : n ≤ entry_limit
  pub headed : n ≤ h
  pub short : p ≤ pool_limit

pub admitted-gives : (t : List ℤ) (h p n : ℕ) → admitted t h p ≡ answer n → Admitted t h p n
admitted-gives t h p n e =
    let r₁ = require-answer 1 (eqb (length t % 6) 0 && (leb 1 (length t / 6) && leb (length t / 6) entry_limit)) _ e in
    let r₂ = require-answer 2 (leb (length t / 6) h) _ r₁.1 in
    let r₃ = require-answer 3 (leb p pool_limit) _ r₂.1 in
    let b = (and-iff (eqb (length t % 6) 0) _).0 r₁.0 in
    let multiple = (eqb-iff (length t % 6) 0).0 b.0 in
    let few = (leb-iff (length t / 6) entry_limit).0 ((and-iff (leb 1 (length t / 6)) _).0 b.1).1 in
    let headed = (leb-iff (length t / 6) h).0 r₂.0 in
    let short = (leb-iff p pool_limit).0 r₃.0 in
    let n-is : length t / 6 ≡ n = cc r₃.1 in
    record { whole = omega arith; few = omega arith; headed = omega arith; short = omega arith }

module _ (t : List ℤ) (h p n : ℕ) (a : Admitted t h p n) (k : ℕ) (low : 1 ≤ k) (b : k ≤ n) where
  abbrev own : List ℤ
  own = take (6 * k) t

  own-admitted : admitted own h p ≡ answer k
  own-admitted =
      admitted_of own h p k (length-take-le (6 * k) t (omega (arith, a.whole))) low (omega (arith, a.few)) (omega (arith, a.headed)) a.short

  own-outcome : outcome own h p ≡ first_entries t k p
  own-outcome = outcome-is own h p ∙ ap (after_table own p) own-admitted ∙ rows-move own t k (alike-take t k) k 0 (omega arith) [] p

  -- rows and what they mean
  means-of : (l : List Row) → first_entries t k p ≡ rows l → (ms : List Meant) × Entries t k 0 [] p (means ms) × RepresentsAll ms l
  means-of l e = let d = demand-2 own h p in by d.0 d.1 (subst (Agrees d.0) (own-outcome ∙ e) d.2)
    where
      read : {ms : List Meant} → TableMeans own h p (means ms) → Entries t k 0 [] p (means ms)
      read {ms} (by_entries {n} q j) =
          let same : n ≡ k = cc (sym q ∙ own-admitted) in
          entries-move k (alike-take t k) (omega arith) (subst (λ (i : ℕ). Entries own i 0 [] p (means ms)) same j)

      by : (x : TableReply) → TableMeans own h p x → Agrees x (rows l) → (ms : List Meant) × Entries t k 0 [] p (means ms) × RepresentsAll ms l
      by (refused_at m i) j x = absurd x
      by (means ms) j x = (ms, read j, x)

  rows_of : (ms : List Meant) → Entries t k 0 [] p (means ms) → (l : List Row) × (first_entries t k p ≡ rows l) × RepresentsAll ms l
  rows_of ms j =
      let back : Alike t own k = λ i c. sym (alike-take t k i c) in
      let m : TableMeans own h p (means ms) = by_entries own-admitted (entries-move k back (omega arith) j) in
      by (outcome own h p) refl (demand-2-only own h p (means ms) m)
    where
      by : (o : Outcome) → outcome own h p ≡ o → Agrees (means ms) o → (l : List Row) × (first_entries t k p ≡ rows l) × RepresentsAll ms l
      by (Outcome.refused_at m i) e x = absurd x
      by (rows l) e x = (l, sym own-outcome ∙ e, x)

-- ---- for any number of first entries

pub first-means : (t : List ℤ) (h p n : ℕ) → Admitted t h p n → (k : ℕ) → k ≤ n → (l : List Row) → first_entries t k p ≡ rows l
    → (ms : List Meant) × Entries t k 0 [] p (means ms) × RepresentsAll ms l
first-means t h p n a zero b l e =
    let none : [] ≡ l = cc (sym (entries-zero t 0 [] p) ∙ e) in
    ([], done, subst (RepresentsAll []) none tt)
first-means t h p n a (suc k) b l e = means-of t h p n a (suc k) (omega arith) b l e

pub first_rows : (t : List ℤ) (h p n : ℕ) → Admitted t h p n → (k : ℕ) → k ≤ n → (ms : List Meant) → Entries t k 0 [] p (means ms)
    → (l : List Row) × (first_entries t k p ≡ rows l) × RepresentsAll ms l
first_rows t h p n a zero b ms done = ([], entries-zero t 0 [] p, tt)
first_rows t h p n a (suc k) b ms j = rows_of t h p n a (suc k) (omega arith) b ms j

-- a refusal is at one of the entries
pub stops-below : {t : List ℤ} {n i room m k : ℕ} {before : List Meant} → Entries t n i before room (refused_at m k) → k < i + n
stops-below (stop j) = omega arith
stops-below (next j l) = omega (arith, stops-below l)
