-- What the check of finished lists decides, by what our conversion comes to.
-- Assumes nothing.
use mathlib.Core.Path.{◌≡◌, refl, sym, ◌∙◌, ap, ap₂, subst}
use mathlib.Core.Logic.{◌↔◌, ◌⊎◌, inl, inr}
use mathlib.Core.Bool.{Bool, true, false, cond, ◌&&◌}
use mathlib.Core.List.{List, [], ◌∷◌, ◌++◌}
use Prim.Native.Nat.{ℕ, suc, ◌+◌, ◌-◌, ◌/◌, ◌%◌, ◌≤◌, ◌<◌}
use native.Mathlib.Omega.{arith}
use lib.Dec.{eqb, leb}
use lib.IntN.{ℤ}
use lib.ListN.{length}
use Rattle.calendar.specs.Meaning.{Row}
use Rattle.calendar.specs.Limits.{pool_limit, entry_limit, heading_length}
use Rattle.calendar.specs.Reply.{Reply}
use Rattle.calendar.specs.Reply.Reply.{refused, answer}
use Rattle.calendar.specs.Table.{entry_at, admitted}
use Rattle.calendar.specs.Outcome.{Outcome, judged}
use Rattle.calendar.specs.Outcome.Outcome.{rows}
use Rattle.calendar.specs.Stored.{headings_after, pool_after, joined}
use Rattle.granules.proofs.Tests.{true≢false, true-or-false, leb-iff}
use Rattle.granules.proofs.Replies.{require-answer}
use Rattle.algebra.proofs.Steps.{after_entry, entries-zero, entries-suc, after_table, outcome-is}
use Rattle.standing.specs.Standing.{holds}
use Rattle.verdicts.specs.Check.{stands, check_entries, check}
use Rattle.verdicts.specs.declared.Verdict.{Verdict}
use Rattle.verdicts.specs.declared.Verdict.TheVariants.{Accepted, Refused, Wrong}
use Rattle.verdicts.specs.Begins.{admits, converts, first_entries, Begins}
use Rattle.verdicts.proofs.Begun.{begins-none, stands-iff, begins-held}
use Rattle.verdicts.proofs.Firsts.{step_to, whole_of, more, first_more, first-suc, first_count, refused-here}
use Rattle.verdicts.proofs.Passing.{check_after, Found, found, led-entry, led-end, lists-iff}
use Rattle.verdicts.proofs.Passing.Found.{refusal, wrong-entry, wrong-rest, all_right}

-- ---- the whole check

-- by checks 1 to 3
abbrev check_all : List ℤ → List ℕ → List ℤ → Reply ℕ → Verdict
check_all t headings pool x = elim x [ refused m ↦ Refused m 0 | answer n ↦ check_entries t headings pool n 0 [] ]

check-is : (t : List ℤ) (headings : List ℕ) (pool : List ℤ) → check t headings pool ≡ check_all t headings pool (admits t headings pool)
unfolding check
check-is t headings pool = refl

-- checks 1 to 3 bound the pool
admitted-short : (t : List ℤ) (headings pool n : ℕ) → admitted t headings pool ≡ answer n → pool ≤ pool_limit
admitted-short t headings pool n e =
    let r₁ = require-answer 1 (eqb (length t % 6) 0 && (leb 1 (length t / 6) && leb (length t / 6) entry_limit)) _ e in
    let r₂ = require-answer 2 (leb (length t / 6) headings) _ r₁.1 in
    let r₃ = require-answer 3 (leb pool pool_limit) _ r₂.1 in
    (leb-iff pool pool_limit).0 r₃.0

module _ (t : List ℤ) (headings : List ℕ) (pool : List ℤ) where
  abbrev P : ℕ
  P = length pool

  converts-is : (x : Reply ℕ) → admits t headings pool ≡ x → converts t headings pool ≡ after_table t P x
  converts-is x e = outcome-is t (length headings / heading_length) P ∙ ap (after_table t P) e

  checks-is : (x : Reply ℕ) → admits t headings pool ≡ x → check t headings pool ≡ check_all t headings pool x
  checks-is x e = check-is t headings pool ∙ ap (check_all t headings pool) e

  short : (n : ℕ) → admits t headings pool ≡ answer n → P ≤ pool_limit
  short n e = admitted-short t (length headings / heading_length) P n e

  -- ---- accepted

  abbrev LeftHere : Type 0
  LeftHere =
      (l : List Row)
      × (converts t headings pool ≡ rows l)
      × (headings ≡ headings_after (length headings) (rows l))
      × (pool ≡ pool_after P (rows l))

  accepted-found : (n : ℕ) (e : admits t headings pool ≡ answer n) (v : Verdict) → Found t headings pool (short n e) n v → v ≡ Accepted → LeftHere
  accepted-found n e _ (refusal l a f b h j) q = let z : ◌≡◌ {A = ℕ} 0 1 = cc in absurd (omega arith)
  accepted-found n e _ (wrong-entry l r a f b h j nb) q = let z : ◌≡◌ {A = ℕ} 0 1 = cc in absurd (omega arith)
  accepted-found n e _ (wrong-rest l a b h) q = let z : ◌≡◌ {A = ℕ} 0 1 = cc in absurd (omega arith)
  accepted-found n e _ (all_right l a h) q = let d = (lists-iff t headings pool (short n e) l).0 h in (l, converts-is (answer n) e ∙ a, d.0, d.1)

  accepted-only : (x : Reply ℕ) → admits t headings pool ≡ x → check t headings pool ≡ Accepted → LeftHere
  accepted-only (refused m) e q =
      let w : Refused m 0 ≡ Accepted = sym (checks-is (refused m) e) ∙ q in
      let z : ◌≡◌ {A = ℕ} 0 1 = cc in absurd (omega arith)
  accepted-only (answer n) e q = accepted-found n e (check_entries t headings pool n 0 []) (found t headings pool (short n e) n) (sym (checks-is (answer n) e) ∙ q)

  accepted-if : (x : Reply ℕ) → admits t headings pool ≡ x → LeftHere → check t headings pool ≡ Accepted
  accepted-if (refused m) e (l, c, h, p) =
      let w : Outcome.refused_at m 0 ≡ rows l = sym (converts-is (refused m) e) ∙ c in
      let z : ◌≡◌ {A = ℕ} 0 1 = cc in absurd (omega arith)
  accepted-if (answer n) e (l, c, h, p) =
      let s = short n e in
      let ok = (lists-iff t headings pool s l).1 (h, p) in
      checks-is (answer n) e
      ∙ led-end t headings pool s n l (sym (converts-is (answer n) e) ∙ c) (begins-held l headings pool ok)
      ∙ ap (λ (v : Bool). cond v Accepted (Wrong n)) ok

  -- ---- refused

  abbrev RefusedHere : ℕ → ℕ → Type 0
  RefusedHere m k =
      (converts t headings pool ≡ Outcome.refused_at m k)
      × ((l : List Row) × (first_entries t k P ≡ rows l) × Begins l headings pool)

  refused-found : (n : ℕ) (e : admits t headings pool ≡ answer n) (v : Verdict) → Found t headings pool (short n e) n v → (m k : ℕ) → v ≡ Refused m k → RefusedHere m k
  refused-found n e _ (refusal {m = a} {k = i} l f g b h j) m k q =
      let x : a ≡ m = cc q in
      let y : i ≡ k = cc q in
      let s = short n e in
      let z : n ≡ i + suc (n - suc i) = omega arith in
      let c : converts t headings pool ≡ Outcome.refused_at a i =
      converts-is (answer n) e
      ∙ ap (λ (u : ℕ). first_entries t u P) z
      ∙ (first_more t P s i (suc (n - suc i)) l f).0
      ∙ entries-suc t (n - suc i) i l (P - length (joined l))
      ∙ ap (after_entry t (n - suc i) i l (P - length (joined l))) j in
      (c ∙ ap₂ Outcome.refused_at x y, (l, subst (λ (u : ℕ). first_entries t u P ≡ rows l) y f, b))
  refused-found n e _ (wrong-entry l r a f b h j nb) m k q = let z : ◌≡◌ {A = ℕ} 0 1 = cc in absurd (omega arith)
  refused-found n e _ (wrong-rest l a b h) m k q = let z : ◌≡◌ {A = ℕ} 0 1 = cc in absurd (omega arith)
  refused-found n e _ (all_right l a h) m k q = let z : ◌≡◌ {A = ℕ} 0 1 = cc in absurd (omega arith)

  refused-only : (x : Reply ℕ) → admits t headings pool ≡ x → (m k : ℕ) → check t headings pool ≡ Refused m k → RefusedHere m k
  refused-only (refused a) e m k q =
      let w : Refused a 0 ≡ Refused m k = sym (checks-is (refused a) e) ∙ q in
      let x : a ≡ m = cc w in
      let y : ◌≡◌ {A = ℕ} 0 k = cc w in
      (converts-is (refused a) e ∙ ap₂ Outcome.refused_at x y, ([], subst (λ (u : ℕ). first_entries t u P ≡ rows []) y (entries-zero t 0 [] P), begins-none headings pool))
  refused-only (answer n) e m k q = refused-found n e (check_entries t headings pool n 0 []) (found t headings pool (short n e) n) m k (sym (checks-is (answer n) e) ∙ q)

  refused-if : (x : Reply ℕ) → admits t headings pool ≡ x → (m k : ℕ) → RefusedHere m k → check t headings pool ≡ Refused m k
  refused-if (refused a) e m k (c, r) =
      let w : Outcome.refused_at a 0 ≡ Outcome.refused_at m k = sym (converts-is (refused a) e) ∙ c in
      let x : a ≡ m = cc w in
      let y : ◌≡◌ {A = ℕ} 0 k = cc w in
      checks-is (refused a) e ∙ ap₂ Refused x y
  refused-if (answer n) e m k (c, r) =
      let s = short n e in
      let l = r.0 in
      let d = refused-here t P s n m k l (sym (converts-is (answer n) e) ∙ c) r.1 in
      checks-is (answer n) e
      ∙ led-entry t headings pool s n k l d.0 r.1 r.2
      ∙ ap (check_after t headings pool s (n - suc k) k l) d.1

  -- ---- wrong

  abbrev WrongHere : ℕ → Type 0
  WrongHere k =
      (n : ℕ) × (l : List Row)
      × (admits t headings pool ≡ answer n)
      × (first_entries t k P ≡ rows l)
      × Begins l headings pool
      × (((k < n) × ((r : Row) × (first_entries t (suc k) P ≡ rows (l ++ (r ∷ []))) × ¬ (Begins (l ++ (r ∷ [])) headings pool)))
      ⊎ ((k ≡ n) × ¬ ((headings ≡ headings_after (length headings) (rows l)) × (pool ≡ pool_after P (rows l)))))

  wrong-found : (n : ℕ) (e : admits t headings pool ≡ answer n) (v : Verdict) → Found t headings pool (short n e) n v → (k : ℕ) → v ≡ Wrong k → WrongHere k
  wrong-found n e _ (refusal l f g b h j) k q = let z : ◌≡◌ {A = ℕ} 0 1 = cc in absurd (omega arith)
  wrong-found n e _ (wrong-entry {k = i} l r a f b h j nb) k q =
      let y : i ≡ k = cc q in
      subst WrongHere y (n, l, e, a, b, inl (h, (r, first-suc t P (short n e) i l a ∙ ap (step_to i l) j, nb)))
  wrong-found n e _ (wrong-rest l a b h) k q =
      let y : n ≡ k = cc q in
      subst WrongHere y (n, l, e, a, b, inr (refl, λ d. true≢false ((lists-iff t headings pool (short n e) l).1 d) h))
  wrong-found n e _ (all_right l a h) k q = let z : ◌≡◌ {A = ℕ} 0 1 = cc in absurd (omega arith)

  wrong-only : (x : Reply ℕ) → admits t headings pool ≡ x → (k : ℕ) → check t headings pool ≡ Wrong k → WrongHere k
  wrong-only (refused a) e k q =
      let w : Refused a 0 ≡ Wrong k = sym (checks-is (refused a) e) ∙ q in
      let z : ◌≡◌ {A = ℕ} 0 1 = cc in absurd (omega arith)
  wrong-only (answer n) e k q = wrong-found n e (check_entries t headings pool n 0 []) (found t headings pool (short n e) n) k (sym (checks-is (answer n) e) ∙ q)

  -- an entry whose heading or row is wrong
  wrong-at : (n k : ℕ) (e : admits t headings pool ≡ answer n) (l : List Row) → first_entries t k P ≡ rows l → Begins l headings pool → k < n
      → (x : Reply Row) → judged l (P - length (joined l)) (entry_at t k) ≡ x
      → (r : Row) → first_entries t (suc k) P ≡ rows (l ++ (r ∷ [])) → ¬ (Begins (l ++ (r ∷ [])) headings pool) → check t headings pool ≡ Wrong k
  wrong-at n k e l f b h (refused a) j r g nb =
      let w : Outcome.refused_at a k ≡ rows (l ++ (r ∷ [])) = sym (first-suc t P (short n e) k l f ∙ ap (step_to k l) j) ∙ g in
      let z : ◌≡◌ {A = ℕ} 0 1 = cc in absurd (omega arith)
  wrong-at n k e l f b h (answer u) j r g nb =
      let s = short n e in
      let w : rows (l ++ (u ∷ [])) ≡ rows (l ++ (r ∷ [])) = sym (first-suc t P s k l f ∙ ap (step_to k l) j) ∙ g in
      let same : l ++ (u ∷ []) ≡ l ++ (r ∷ []) = cc w in
      let fine = (first_more t P s k 0 l f).1 in
      let count = first_count t P s k l f in
      let iff = stands-iff l (whole_of l fine.all_sound) headings pool b u (more t P s l fine k u j).whole in
      let fails : stands headings pool k (length (joined l)) u ≡ false = not-stands k (length (joined l)) u count (λ y. nb (subst (λ (z : List Row). Begins z headings pool) same (iff.0 y))) in
      checks-is (answer n) e
      ∙ led-entry t headings pool s n k l h f b
      ∙ ap (check_after t headings pool s (n - suc k) k l) j
      ∙ ap (λ (v : Bool). cond v (check_entries t headings pool (n - suc k) (suc k) (l ++ (u ∷ []))) (Wrong k)) fails
    where
      not-stands : (i used : ℕ) (u : Row) → length l ≡ i → ¬ (stands headings pool (length l) used u ≡ true) → stands headings pool i used u ≡ false
      not-stands i used u c never = by (true-or-false (stands headings pool i used u))
        where
          by : (stands headings pool i used u ≡ true) ⊎ (stands headings pool i used u ≡ false) → stands headings pool i used u ≡ false
          by (inl y) = absurd (never (ap (λ (z : ℕ). stands headings pool z used u) c ∙ y))
          by (inr y) = y

  -- the rest
  wrong-behind : (n : ℕ) (e : admits t headings pool ≡ answer n) (l : List Row) → first_entries t n P ≡ rows l → Begins l headings pool
      → ¬ ((headings ≡ headings_after (length headings) (rows l)) × (pool ≡ pool_after P (rows l))) → check t headings pool ≡ Wrong n
  wrong-behind n e l f b never =
      checks-is (answer n) e ∙ led-end t headings pool (short n e) n l f b ∙ ap (λ (v : Bool). cond v Accepted (Wrong n)) (by (true-or-false (holds l headings pool)))
    where
      by : (holds l headings pool ≡ true) ⊎ (holds l headings pool ≡ false) → holds l headings pool ≡ false
      by (inl y) = absurd (never ((lists-iff t headings pool (short n e) l).0 y))
      by (inr y) = y

  wrong-if : (k : ℕ) → WrongHere k → check t headings pool ≡ Wrong k
  wrong-if k (n, l, e, f, b, c) = by c
    where
      by : ((k < n) × ((r : Row) × (first_entries t (suc k) P ≡ rows (l ++ (r ∷ []))) × ¬ (Begins (l ++ (r ∷ [])) headings pool)))
          ⊎ ((k ≡ n) × ¬ ((headings ≡ headings_after (length headings) (rows l)) × (pool ≡ pool_after P (rows l)))) → check t headings pool ≡ Wrong k
      by (inl (h, d)) = wrong-at n k e l f b h (judged l (P - length (joined l)) (entry_at t k)) refl d.0 d.1 d.2
      by (inr (same, never)) = wrong-behind n e l (subst (λ (u : ℕ). first_entries t u P ≡ rows l) same f) b never ∙ ap Wrong (sym same)

-- ---- the verdicts

-- "accept them .. exactly when our conversion answers the table and they are what it would leave in a pool of that length, cells behind the last row included"
pub accepted-iff : (t : List ℤ) (headings : List ℕ) (pool : List ℤ)
    → (check t headings pool ≡ Accepted)
    ↔ ((l : List Row)
    × (converts t headings pool ≡ rows l)
    × (headings ≡ headings_after (length headings) (rows l))
    × (pool ≡ pool_after (length pool) (rows l)))
accepted-iff t headings pool = (accepted-only t headings pool (admits t headings pool) refl, accepted-if t headings pool (admits t headings pool) refl)

-- "a refusal is answered with its number and entry": the conversion's own, where headings and rows of all earlier entries are right
pub refused-iff : (t : List ℤ) (headings : List ℕ) (pool : List ℤ) (m k : ℕ)
    → (check t headings pool ≡ Refused m k)
    ↔ ((converts t headings pool ≡ Outcome.refused_at m k)
    × ((l : List Row) × (first_entries t k (length pool) ≡ rows l) × Begins l headings pool))
refused-iff t headings pool m k = (refused-only t headings pool (admits t headings pool) refl m k, refused-if t headings pool (admits t headings pool) refl m k)

-- "else the entry is named as wrong. If only the rest is wrong it names the number of entries."
pub wrong-iff : (t : List ℤ) (headings : List ℕ) (pool : List ℤ) (k : ℕ)
    → (check t headings pool ≡ Wrong k)
    ↔ ((n : ℕ) × (l : List Row)
    × (admits t headings pool ≡ answer n)
    × (first_entries t k (length pool) ≡ rows l)
    × Begins l headings pool
    × (((k < n) × ((r : Row) × (first_entries t (suc k) (length pool) ≡ rows (l ++ (r ∷ []))) × ¬ (Begins (l ++ (r ∷ [])) headings pool)))
    ⊎ ((k ≡ n) × ¬ ((headings ≡ headings_after (length headings) (rows l)) × (pool ≡ pool_after (length pool) (rows l))))))
wrong-iff t headings pool k = (wrong-only t headings pool (admits t headings pool) refl k, wrong-if t headings pool k)
