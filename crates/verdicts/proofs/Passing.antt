-- The check of finished lists, entry by entry: what it finds, and how it passes over entries that are right.
-- Assumes nothing.
use mathlib.Core.Path.{◌≡◌, refl, sym, ◌∙◌, ap, ap₂, subst}
use mathlib.Core.Logic.{◌↔◌}
use mathlib.Core.Bool.{Bool, true, false, cond}
use mathlib.Core.List.{List, [], ◌∷◌, ◌++◌}
use Prim.Native.Nat.{ℕ, zero, suc, ◌+◌, ◌-◌, ◌≤◌, ◌<◌}
use native.Mathlib.Omega.{arith}
use lib.IntN.{ℤ}
use lib.ListN.{length, length-append}
use Rattle.calendar.specs.Meaning.{Row}
use Rattle.calendar.specs.Limits.{pool_limit}
use Rattle.calendar.specs.Reply.{Reply}
use Rattle.calendar.specs.Reply.Reply.{refused, answer}
use Rattle.calendar.specs.Table.{entry_at}
use Rattle.calendar.specs.Outcome.{Outcome, judged, entries}
use Rattle.calendar.specs.Outcome.Outcome.{rows}
use Rattle.calendar.specs.Stored.{headings_after, pool_after, joined}
use Rattle.granules.proofs.Tests.{true≢false}
use Rattle.algebra.proofs.Steps.{after_entry, entries-zero, entries-suc}
use Rattle.standing.specs.Standing.{holds}
use Rattle.standing.proofs.Decides.{holds-iff}
use Rattle.verdicts.specs.Check.{stands, check_entries}
use Rattle.verdicts.specs.Begins.{first_entries, Begins}
use Rattle.verdicts.specs.declared.Verdict.{Verdict}
use Rattle.verdicts.specs.declared.Verdict.TheVariants.{Accepted, Refused, Wrong}
use Rattle.verdicts.proofs.Begun.{begins-prefix, begins-none, stands-iff}
use Rattle.verdicts.proofs.Firsts as Firsts
use Rattle.verdicts.proofs.Firsts.{step_to, entries-prefix, whole_of}

module _ (t : List ℤ) (headings : List ℕ) (pool : List ℤ) (limit : length pool ≤ pool_limit) where
  abbrev room : List Row → ℕ
  room l = length pool - length (joined l)

  abbrev Fine : List Row → Type 0
  Fine l = Firsts.Fine t (length pool) limit l

  -- the check at the next entry, by the reply
  abbrev pub check_after : ℕ → ℕ → List Row → Reply Row → Verdict
  check_after m k l x =
      elim x [
        | refused j ↦ Refused j k
        | answer r ↦ cond (stands headings pool k (length (joined l)) r) (check_entries t headings pool m (suc k) (l ++ (r ∷ []))) (Wrong k)
      ]

  pub check-zero : (k : ℕ) (l : List Row) → check_entries t headings pool zero k l ≡ cond (holds l headings pool) Accepted (Wrong k)
  unfolding check_entries
  check-zero k l = refl

  pub check-suc : (m k : ℕ) (l : List Row) → check_entries t headings pool (suc m) k l ≡ check_after m k l (judged l (room l) (entry_at t k))
  unfolding check_entries
  check-suc m k l = refl

  -- ---- the check passes over entries that are right

  pass-over : (j m k : ℕ) (l : List Row) → Fine l → length l ≡ k → (rs : List Row) → entries t j k l (room l) ≡ rows rs → Begins rs headings pool
      → (check_entries t headings pool (j + m) k l ≡ check_entries t headings pool m (k + j) rs) × Fine rs
  pass-over zero m k l f c rs e b =
      let same : l ≡ rs = cc (sym (entries-zero t k l (room l)) ∙ e) in
      let x : 0 + m ≡ m = omega arith in
      let y : k ≡ k + 0 = omega arith in
      (ap (λ (i : ℕ). check_entries t headings pool i k l) x ∙ ap₂ (check_entries t headings pool m) y same, subst Fine same f)
  pass-over (suc j) m k l f c rs e b = by (judged l (room l) (entry_at t k)) refl (pass-over j m (suc k))
    where
      by : (x : Reply Row) → judged l (room l) (entry_at t k) ≡ x
          → ((l : List Row) → Fine l → length l ≡ suc k → (rs : List Row) → entries t j (suc k) l (room l) ≡ rows rs → Begins rs headings pool
          → (check_entries t headings pool (j + m) (suc k) l ≡ check_entries t headings pool m (suc k + j) rs) × Fine rs)
          → (check_entries t headings pool (suc j + m) k l ≡ check_entries t headings pool m (k + suc j) rs) × Fine rs
      by (refused i) p ih =
          let q : Outcome.refused_at i k ≡ rows rs = sym (entries-suc t j k l (room l) ∙ ap (after_entry t j k l (room l)) p) ∙ e in
          let z : ◌≡◌ {A = ℕ} 0 1 = cc in absurd (omega arith)
      by (answer r) p ih =
          let g = Firsts.more t (length pool) limit l f k r p in
          let l' = l ++ (r ∷ []) in
          let q = sym (Firsts.next-entries t (length pool) limit j k l f r p) ∙ e in
          let (s, grown) = entries-prefix t j (suc k) l' (room l') rs q in
          let b' = begins-prefix l' s headings pool (subst (λ (x : List Row). Begins x headings pool) grown b) in
          let ok : stands headings pool (length l) (length (joined l)) r ≡ true = (stands-iff l (whole_of l f.all_sound) headings pool (begins-prefix l (r ∷ []) headings pool b') r g.whole).1 b' in
          let d = ih l' g.fine (omega (arith, length-append l (r ∷ []), c)) rs q b in
          let x : suc j + m ≡ suc (j + m) = omega arith in
          let y : suc k + j ≡ k + suc j = omega arith in (
            ap (λ (i : ℕ). check_entries t headings pool i k l) x
                ∙ check-suc (j + m) k l
                ∙ ap (check_after (j + m) k l) p
                ∙ ap (λ (v : Bool). cond v (check_entries t headings pool (j + m) (suc k) l') (Wrong k)) (ap (λ (i : ℕ). stands headings pool i (length (joined l)) r) (sym c) ∙ ok)
                ∙ d.0
                ∙ ap (λ (i : ℕ). check_entries t headings pool m i rs) y,
            d.1,
          )

  -- ---- what the check found, of n entries

  pub data Found (n : ℕ) : Verdict → Type 0 where
    refusal : {m k : ℕ} (l : List Row) → first_entries t k (length pool) ≡ rows l → Fine l → Begins l headings pool → k < n → judged l (room l) (entry_at t k) ≡ refused m → Found n (Refused m k)
    wrong-entry : {k : ℕ} (l : List Row) (r : Row) → first_entries t k (length pool) ≡ rows l → Fine l → Begins l headings pool → k < n → judged l (room l) (entry_at t k) ≡ answer r
        → ¬ (Begins (l ++ (r ∷ [])) headings pool) → Found n (Wrong k)
    wrong-rest : (l : List Row) → first_entries t n (length pool) ≡ rows l → Begins l headings pool → holds l headings pool ≡ false → Found n (Wrong n)
    all_right : (l : List Row) → first_entries t n (length pool) ≡ rows l → holds l headings pool ≡ true → Found n Accepted

  -- ---- the check finds what it finds

  find : (n m k : ℕ) (l : List Row) → k + m ≡ n → first_entries t k (length pool) ≡ rows l → Begins l headings pool → Found n (check_entries t headings pool m k l)
  find n zero k l c e b = subst (Found n) (sym (check-zero k l)) (by (holds l headings pool) refl)
    where
      same : k ≡ n
      same = omega arith

      by : (v : Bool) → holds l headings pool ≡ v → Found n (cond v Accepted (Wrong k))
      by true h = all_right l (subst (λ (a : ℕ). first_entries t a (length pool) ≡ rows l) same e) h
      by false h = subst (λ (a : ℕ). Found n (Wrong a)) (sym same) (wrong-rest l (subst (λ (a : ℕ). first_entries t a (length pool) ≡ rows l) same e) b h)
  find n (suc m) k l c e b = subst (Found n) (sym (check-suc m k l)) (by (judged l (room l) (entry_at t k)) refl (find n m (suc k)))
    where
      fine : Fine l
      fine = (Firsts.first_more t (length pool) limit k 0 l e).1

      count : length l ≡ k
      count = Firsts.first_count t (length pool) limit k l e

      by : (x : Reply Row) → judged l (room l) (entry_at t k) ≡ x
          → ((l : List Row) → suc k + m ≡ n → first_entries t (suc k) (length pool) ≡ rows l → Begins l headings pool → Found n (check_entries t headings pool m (suc k) l))
          → Found n (check_after m k l x)
      by (refused i) p ih = refusal l e fine b (omega arith) p
      by (answer r) p ih = test (stands headings pool k (length (joined l)) r) refl
        where
          iff : (stands headings pool (length l) (length (joined l)) r ≡ true) ↔ Begins (l ++ (r ∷ [])) headings pool
          iff = stands-iff l (whole_of l fine.all_sound) headings pool b r (Firsts.more t (length pool) limit l fine k r p).whole

          at-k : (v : Bool) → stands headings pool k (length (joined l)) r ≡ v → stands headings pool (length l) (length (joined l)) r ≡ v
          at-k v q = ap (λ (i : ℕ). stands headings pool i (length (joined l)) r) count ∙ q

          test : (v : Bool) → stands headings pool k (length (joined l)) r ≡ v → Found n (cond v (check_entries t headings pool m (suc k) (l ++ (r ∷ []))) (Wrong k))
          test true q = ih (l ++ (r ∷ [])) (omega arith) (Firsts.first-suc t (length pool) limit k l e ∙ ap (step_to k l) p) (iff.0 (at-k true q))
          test false q = wrong-entry l r e fine b (omega arith) p (λ h. true≢false (iff.1 h) (at-k false q))

  pub found : (n : ℕ) → Found n (check_entries t headings pool n 0 [])
  found n = find n n 0 [] (omega arith) (entries-zero t 0 [] (length pool)) (begins-none headings pool)

  -- ---- and is led there by entries that are right

  led : (n k : ℕ) (l : List Row) → k ≤ n → first_entries t k (length pool) ≡ rows l → Begins l headings pool
      → check_entries t headings pool n 0 [] ≡ check_entries t headings pool (n - k) k l
  led n k l h e b =
      let x : n ≡ k + (n - k) = omega arith in
      let z : 0 + k ≡ k = omega arith in
      ap (λ (i : ℕ). check_entries t headings pool i 0 []) x
      ∙ (pass-over k (n - k) 0 [] (Firsts.fine-none t (length pool) limit) refl l (sym (Firsts.first-is t (length pool) limit k) ∙ e) b).0
      ∙ ap (λ (i : ℕ). check_entries t headings pool (n - k) i l) z

  -- at the entry k, of which there is one
  pub led-entry : (n k : ℕ) (l : List Row) → k < n → first_entries t k (length pool) ≡ rows l → Begins l headings pool
      → check_entries t headings pool n 0 [] ≡ check_after (n - suc k) k l (judged l (room l) (entry_at t k))
  led-entry n k l h e b =
      let x : n - k ≡ suc (n - suc k) = omega arith in
      led n k l (omega arith) e b ∙ ap (λ (i : ℕ). check_entries t headings pool i k l) x ∙ check-suc (n - suc k) k l

  pub led-end : (n : ℕ) (l : List Row) → first_entries t n (length pool) ≡ rows l → Begins l headings pool
      → check_entries t headings pool n 0 [] ≡ cond (holds l headings pool) Accepted (Wrong n)
  led-end n l e b =
      let x : n - n ≡ 0 = omega arith in
      led n n l (omega arith) e b ∙ ap (λ (i : ℕ). check_entries t headings pool i n l) x ∙ check-zero n l

  -- ---- the lists of all entries

  abbrev Lists : List Row → Type 0
  Lists l = (headings ≡ headings_after (length headings) (rows l)) × (pool ≡ pool_after (length pool) (rows l))

  pub lists-iff : (l : List Row) → (holds l headings pool ≡ true) ↔ Lists l
  unfolding headings_after pool_after
  lists-iff l = holds-iff l headings pool
