-- The verdict on finished lists is the one that the table means.
-- Assumes nothing.
use mathlib.Core.Path.{◌≡◌, refl, sym, ◌∙◌, ap, subst}
use mathlib.Core.Logic.{◌↔◌, ◌⊎◌, inl, inr}
use mathlib.Core.List.{List, [], ◌∷◌, ◌++◌}
use Prim.Native.Nat.{ℕ, suc, ◌+◌, ◌-◌, ◌*◌, ◌/◌, ◌≤◌, ◌<◌}
use native.Mathlib.Omega.{arith}
use lib.IntN.{ℤ}
use lib.ListN.{length}
use Rattle.calendar.specs.Limits.{heading_length}
use Rattle.calendar.specs.Meaning.{Row}
use Rattle.calendar.specs.Reply.{Reply}
use Rattle.calendar.specs.Reply.Reply.{refused, answer}
use Rattle.calendar.specs.Table.{entry_at}
use Rattle.calendar.specs.Outcome.{Outcome, judged}
use Rattle.calendar.specs.Outcome.Outcome.{rows}
use Rattle.calendar.specs.Stored.{headings_after, pool_after, joined}
use Rattle.algebra.specs.TableMeaning.{Meant, Entries, TableMeans}
use Rattle.algebra.specs.TableMeaning.Entries.{done}
use Rattle.algebra.specs.TableMeaning.TableReply.{refused_at, means}
use Rattle.algebra.specs.TableMeaning.TableMeans.{not-admitted, entries as by_entries}
use Rattle.algebra.specs.Agrees.{RepresentsAll}
use Rattle.algebra.proofs.Steps.{entries-zero, after_table, outcome-is}
use Rattle.algebra.proofs.Demand2.{represents-length, table-meaning-unique}
use Rattle.verdicts.specs.Check.{check}
use Rattle.verdicts.specs.Begins.{admits, converts, first_entries, Begins}
use Rattle.verdicts.specs.Means.{ShowsFirst, ShowsAll, VerdictMeans}
use Rattle.verdicts.specs.Means.VerdictMeans.{accepted as is-accepted, refused as is-refused, wrong as is-wrong, rest as only-rest}
use Rattle.verdicts.specs.declared.Verdict.{Verdict}
use Rattle.verdicts.specs.declared.Verdict.TheVariants.{Accepted, Refused, Wrong}
use Rattle.verdicts.proofs.Begun.{begins-none}
use Rattle.verdicts.proofs.Firsts.{Fine, step_to, first_more, first-suc, first_count, refused-here, rows-earlier}
use Rattle.verdicts.proofs.Checked.{accepted-iff, refused-iff, wrong-iff}
use Rattle.verdicts.proofs.Demands.{accepted-means, refused-means}
use Rattle.verdicts.proofs.Split.{last-means, last-stands, same-before}
use Rattle.verdicts.proofs.Prefix.{Admitted, admitted-gives, first-means, first_rows, stops-below}
use Rattle.verdicts.proofs.FirstShown.{begins-shows, shows-begins}

module _ (t : List ℤ) (headings : List ℕ) (pool : List ℤ) where
  abbrev H : ℕ
  H = length headings / heading_length

  abbrev P : ℕ
  P = length pool

  -- ---- so many first entries of a table that passes checks 1 to 3

  module _ (n : ℕ) (e : admits t headings pool ≡ answer n) where
    passed : Admitted t H P n
    passed = admitted-gives t H P n e

    fine : (k : ℕ) (l : List Row) → first_entries t k P ≡ rows l → Fine t P passed.short l
    fine k l f = (first_more t P passed.short k 0 l f).1

    room : (k : ℕ) (l : List Row) → k ≤ n → first_entries t k P ≡ rows l → heading_length * length l ≤ length headings
    room k l h f = omega (arith, passed.headed, first_count t P passed.short k l f)

    -- the right ones show what they mean
    shows : (k : ℕ) (l : List Row) → k ≤ n → first_entries t k P ≡ rows l → (ms : List Meant) → RepresentsAll ms l → Begins l headings pool → ShowsFirst ms headings pool
    shows k l h f ms r b = begins-shows ms l r (fine k l f).all_sound headings pool (room k l h f) (fine k l f).fit b

    begins : (k : ℕ) (l : List Row) → k ≤ n → first_entries t k P ≡ rows l → (ms : List Meant) → RepresentsAll ms l → ShowsFirst ms headings pool → Begins l headings pool
    begins k l h f ms r s = shows-begins ms l r (fine k l f).all_sound headings pool (room k l h f) s

    -- one entry fewer
    fewer : (k : ℕ) (l : List Row) (r : Row) → first_entries t (suc k) P ≡ rows (l ++ (r ∷ [])) → first_entries t k P ≡ rows l
    fewer k l r f =
        let z : suc k ≡ k + 1 = omega arith in
        let s = rows-earlier t P passed.short k 1 0 [] P (l ++ (r ∷ [])) (ap (λ (i : ℕ). first_entries t i P) (sym z) ∙ f) in
        by s.0 s.1 (judged s.0 (P - length (joined s.0)) (entry_at t k)) (sym (first-suc t P passed.short k s.0 s.1) ∙ f)
      where
        by : (s : List Row) → first_entries t k P ≡ rows s → (x : Reply Row) → step_to k s x ≡ rows (l ++ (r ∷ [])) → first_entries t k P ≡ rows l
        by s g (refused m) q = let z : ◌≡◌ {A = ℕ} 0 1 = cc in absurd (omega arith)
        by s g (answer u) q =
            let same : s ++ (u ∷ []) ≡ l ++ (r ∷ []) = cc q in
            g ∙ ap rows (same-before s l u r same).0

  -- ---- the verdict that is found is meant

  refused-meant : (m k : ℕ) → check t headings pool ≡ Refused m k → VerdictMeans t headings pool (Refused m k)
  refused-meant m k c = let q = (refused-means t headings pool m k).0 c in let i = (refused-iff t headings pool m k).0 c in by (admits t headings pool) refl q.0 i.0 q.1
    where
      by : (x : Reply ℕ) → admits t headings pool ≡ x → TableMeans t H P (refused_at m k) → converts t headings pool ≡ Outcome.refused_at m k
          → (l : List Row) × (first_entries t k P ≡ rows l) × Begins l headings pool → VerdictMeans t headings pool (Refused m k)
      by (refused a) e j o (l, f, b) =
          let w : Outcome.refused_at a 0 ≡ Outcome.refused_at m k = sym (outcome-is t H P ∙ ap (after_table t P) e) ∙ o in
          let zero_is : 0 ≡ k = cc w in
          is-refused j (subst (λ (i : ℕ). Entries t i 0 [] P (means [])) zero_is done) none
        where
          none : ShowsFirst [] headings pool
          none = record { rows = λ i h. absurd (omega arith); granules = λ i h. absurd (omega arith); first = λ h. absurd (omega arith); next = λ i h. absurd (omega arith) }
      by (answer n) e j o (l, f, b) =
          let a = passed n e in
          let c = refused-here t P a.short n m k l (sym (outcome-is t H P ∙ ap (after_table t P) e) ∙ o) f in
          let q = first-means t H P n a k (omega (arith, c.0)) l f in
          is-refused j q.1 (shows n e k l (omega (arith, c.0)) f q.0 q.2 b)

  wrong-meant : (k : ℕ) → check t headings pool ≡ Wrong k → VerdictMeans t headings pool (Wrong k)
  wrong-meant k c = let (n, l, e, f, b, w) = (wrong-iff t headings pool k).0 c in by n l e f b w
    where
      by : (n : ℕ) (l : List Row) → admits t headings pool ≡ answer n → first_entries t k P ≡ rows l → Begins l headings pool
          → ((k < n) × ((r : Row) × (first_entries t (suc k) P ≡ rows (l ++ (r ∷ []))) × ¬ (Begins (l ++ (r ∷ [])) headings pool)))
          ⊎ ((k ≡ n) × ¬ ((headings ≡ headings_after (length headings) (rows l)) × (pool ≡ pool_after P (rows l))))
          → VerdictMeans t headings pool (Wrong k)
      by n l e f b (inl (h, (r, g, never))) =
          let a = passed n e in
          let q = first-means t H P n a (suc k) (omega arith) (l ++ (r ∷ [])) g in
          let s = last-means l r q.0 q.2 in
          let many : length s.before ≡ k = represents-length s.before l s.represents ∙ first_count t P a.short k l f in
          let both : RepresentsAll (s.before ++ (s.last ∷ [])) (l ++ (r ∷ [])) = subst (λ (x : List Meant). RepresentsAll x (l ++ (r ∷ []))) s.is q.2 in
          let mean : Entries t (suc (length s.before)) 0 [] P (means (s.before ++ (s.last ∷ []))) =
          subst (λ (x : List Meant). Entries t (suc (length s.before)) 0 [] P (means x)) s.is (subst (λ (i : ℕ). Entries t (suc i) 0 [] P (means q.0)) (sym many) q.1) in
          subst (λ (i : ℕ). VerdictMeans t headings pool (Wrong i)) many
          (is-wrong s.before s.last e (omega (arith, many)) mean (shows n e k l (omega arith) f s.before s.represents b)
          (λ x. never (begins n e (suc k) (l ++ (r ∷ [])) (omega arith) g (s.before ++ (s.last ∷ [])) both x)))
      by n l e f b (inr (same, never)) =
          let a = passed n e in
          let q = first-means t H P n a k (omega arith) l f in
          let many : length q.0 ≡ k = represents-length q.0 l q.2 ∙ first_count t P a.short k l f in
          let j : TableMeans t H P (means q.0) = by_entries e (subst (λ (i : ℕ). Entries t i 0 [] P (means q.0)) same q.1) in
          subst (λ (i : ℕ). VerdictMeans t headings pool (Wrong i)) many
          (only-rest q.0 j (shows n e k l (omega arith) f q.0 q.2 b)
          (λ x. let w : Accepted ≡ Wrong k = sym ((accepted-means t headings pool).1 (q.0, j, x)) ∙ c in
          let z : ◌≡◌ {A = ℕ} 0 1 = cc in absurd (omega arith)))

  found-meant : (v : Verdict) → check t headings pool ≡ v → VerdictMeans t headings pool v
  found-meant Accepted c = let (ms, j, s) = (accepted-means t headings pool).0 c in is-accepted j s
  found-meant (Refused m k) c = refused-meant m k c
  found-meant (Wrong k) c = wrong-meant k c

  -- ---- the verdict that is meant is found

  -- the entries before a refusal
  right-before : (m k : ℕ) (ms : List Meant) → TableMeans t H P (refused_at m k) → Entries t k 0 [] P (means ms) → ShowsFirst ms headings pool
      → (l : List Row) × (first_entries t k P ≡ rows l) × Begins l headings pool
  right-before m _ ms (not-admitted e) i s = ([], entries-zero t 0 [] P, begins-none headings pool)
  right-before m k ms (by_entries {n} e o) i s =
      let a = passed n e in
      let h : k ≤ n = omega (arith, stops-below o) in
      let (l, f, r) = first_rows t H P n a k h ms i in
      (l, f, begins n e k l h f ms r s)

  refused-found : (m k : ℕ) (ms : List Meant) → TableMeans t H P (refused_at m k) → Entries t k 0 [] P (means ms) → ShowsFirst ms headings pool → check t headings pool ≡ Refused m k
  refused-found m k ms j i s = (refused-means t headings pool m k).1 (j, right-before m k ms j i s)

  wrong-found : (n : ℕ) (ms : List Meant) (m : Meant) → admits t headings pool ≡ answer n → length ms < n → Entries t (suc (length ms)) 0 [] P (means (ms ++ (m ∷ [])))
      → ShowsFirst ms headings pool → ¬ (ShowsFirst (ms ++ (m ∷ [])) headings pool) → check t headings pool ≡ Wrong (length ms)
  wrong-found n ms m e h i s never =
      let a = passed n e in
      let k = length ms in
      let (l', g, r) = first_rows t H P n a (suc k) (omega arith) (ms ++ (m ∷ [])) i in
      let q = last-stands ms m l' r in
      let g' : first_entries t (suc k) P ≡ rows (q.before ++ (q.last ∷ [])) = g ∙ ap rows q.is in
      let both : RepresentsAll (ms ++ (m ∷ [])) (q.before ++ (q.last ∷ [])) = subst (RepresentsAll (ms ++ (m ∷ []))) q.is r in
      let f = fewer n e k q.before q.last g' in
      (wrong-iff t headings pool k).1 (
        n,
        q.before,
        e,
        f,
        begins n e k q.before (omega arith) f ms q.represents s,
        inl (h, (q.last, g', λ x. never (shows n e (suc k) (q.before ++ (q.last ∷ [])) (omega arith) g' (ms ++ (m ∷ [])) both x))),
      )

  rest-found : (ms : List Meant) → TableMeans t H P (means ms) → ShowsFirst ms headings pool → ¬ (ShowsAll t headings pool ms) → check t headings pool ≡ Wrong (length ms)
  rest-found ms (by_entries {n} e i) s never =
      let a = passed n e in
      let (l, f, r) = first_rows t H P n a n (omega arith) ms i in
      let many : length ms ≡ n = represents-length ms l r ∙ first_count t P a.short n l f in
      let j : TableMeans t H P (means ms) = by_entries e i in
      (wrong-iff t headings pool (length ms)).1 (
        n,
        l,
        e,
        subst (λ (k : ℕ). first_entries t k P ≡ rows l) (sym many) f,
        begins n e n l (omega arith) f ms r s,
        inr (
          many,
          λ x.
              let c = (accepted-iff t headings pool).1 (l, outcome-is t H P ∙ ap (after_table t P) e ∙ f, x.0, x.1) in
              let (ns, k, y) = (accepted-means t headings pool).0 c in
              let w : means ns ≡ means ms = table-meaning-unique t H P (means ns) (means ms) k j in
              let same : ns ≡ ms = cc w in
              never (subst (ShowsAll t headings pool) same y),
        ),
      )

  meant-found : (v : Verdict) → VerdictMeans t headings pool v → check t headings pool ≡ v
  meant-found _ (is-accepted {ms} j s) = (accepted-means t headings pool).1 (ms, j, s)
  meant-found _ (is-refused {m} {k} {ms} j i s) = refused-found m k ms j i s
  meant-found _ (is-wrong {n} ms m e h i s never) = wrong-found n ms m e h i s never
  meant-found _ (only-rest ms j s never) = rest-found ms j s never

-- the verdict is the one that document 02 gives the lists, by what the table means
pub check-means : (t : List ℤ) (headings : List ℕ) (pool : List ℤ) (v : Verdict) → (check t headings pool ≡ v) ↔ VerdictMeans t headings pool v
check-means t headings pool v = (found-meant t headings pool v, meant-found t headings pool v)
