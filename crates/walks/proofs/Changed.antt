-- Walks over lists that the caller may have changed: demands 2 and 3.
use mathlib.Core.Path.{◌≡◌, refl, sym, ◌∙◌, ap, ap₂, subst}
use mathlib.Core.Logic.{inr, ◌↔◌}
use mathlib.Core.Bool.{Bool, true, false, cond}
use mathlib.Core.List.{List, [], ◌∷◌, ◌++◌}
use Prim.Native.Nat.{ℕ, zero, suc, ◌+◌, ◌-◌, ◌/◌, ◌≤◌, ◌<◌}
use native.Mathlib.Omega.{arith}
use lib.Dec.{eqb}
use lib.ListN.{length, get_or, take, length-append}
use lib.Seq.{length-take-le}
use Rattle.calendar.specs.Meaning.{Row, meant, bottom_row, IsCalendar, LeastRow, Same}
use Rattle.calendar.specs.Reply.{Reply}
use Rattle.calendar.specs.Reply.Reply.{refused, answer}
use Rattle.calendar.specs.Outcome.{Outcome}
use Rattle.calendar.specs.Outcome.Outcome.{rows}
use Rattle.calendar.specs.Limits.{heading_length}
use Rattle.granules.proofs.Tests.{eqb-iff}
use Rattle.granules.proofs.Equal.{equal-rows, row-ext}
use Rattle.algebra.proofs.Stored.{get_or-mem}
use Rattle.standing.specs.Standing.{rows_at}
use Rattle.walks.specs.Walk.{Lengths, Walk, Left, lengths_of, entries_of, progress_after, left, begun, start, stepped, admits}
use Rattle.walks.specs.Walk.Progress.{due, done, refused_at}
use Rattle.walks.specs.Runs.{Lent, call_on, through}
use Rattle.walks.specs.Demands.{due_at, Took, Finished, step_of, left_by, row_of, granules_of}
use Rattle.standing.proofs.Decides.{rows-length, Least, all-least}
use Rattle.walks.proofs.Kept.{least-means, standing-row, standing-counted}
use Rattle.walks.proofs.Came.{call-due, ended-stays, Came, came, left-walk, admitted-gives}
use Rattle.walks.proofs.Came.Came.{failed, declined, took}
use Rattle.walks.proofs.States.{start_is, took_it}
use Rattle.calendar.specs.Granules.{granules}

-- ---- calls one after the other

through-nil : (w : Walk) → through w [] ≡ w
unfolding through
through-nil w = refl

through-cons : (w : Walk) (l : Lent) (ls : List Lent) → through w (l ∷ ls) ≡ through (call_on w l).walk ls
unfolding through
through-cons w l ls = refl

call-on : (w : Walk) (k : ℕ) → w.progress ≡ due k → (l : Lent)
    → call_on w l ≡ left w.lengths (lengths_of l.table l.headings l.pool) (stepped w.lengths k l.table l.headings l.pool)
unfolding call_on
call-on w k e l = call-due w k e l.table l.headings l.pool

stays : (w : Walk) (m k : ℕ) → w.progress ≡ refused_at m k → (l : Lent) → call_on w l ≡ record { walk = w; headings = l.headings; pool = l.pool }
unfolding call_on
stays w m k e l = ended-stays w l.table l.headings l.pool (inr (m, k, e))

-- a refusal stays
through-refused : (w : Walk) (m k : ℕ) → w.progress ≡ refused_at m k → (ls : List Lent) → through w ls ≡ w
through-refused w m k e [] = through-nil w
through-refused w m k e (l ∷ ls) =
    through-cons w l ls ∙ ap (λ (q : Walk). through q ls) (ap (λ (s : Left). s.walk) (stays w m k e l)) ∙ through-refused w m k e ls

refused-not-done : (w : Walk) (m k : ℕ) → w.progress ≡ refused_at m k → (ls : List Lent) → (through w ls).progress ≡ done → ⊥
refused-not-done w m k e ls p =
    let q : refused_at m k ≡ done = sym e ∙ sym (ap (λ (x : Walk). x.progress) (through-refused w m k e ls)) ∙ p in
    let z : ◌≡◌ {A = ℕ} 0 1 = cc in absurd (omega arith)

-- ---- a walk that is done took each entry

module _ (L : Lengths) (d : Lent) where
  abbrev at : ℕ → Walk
  at k = record { lengths = L; progress = due k }

  abbrev TookAt : ℕ → Lent → Type 0
  TookAt k l = Took k l (call_on (at k) l)

  -- m + 1 entries from i on were taken by the first m + 1 calls
  pub record Ran (m i : ℕ) (ls : List Lent) : Type 0 where
    pub each : (j : ℕ) → j ≤ m → TookAt (i + j) (get_or ls j d)
    pub long : suc m ≤ length ls
    pub ends : (through (at i) (take (suc m) ls)).progress ≡ done

  -- what the call at the entry i came to
  abbrev Next : ℕ → Lent → Type 0
  Next i l = TookAt i l × ((call_on (at i) l).walk ≡ record { lengths = L; progress = cond (eqb (suc i) (entries_of L)) done (due (suc i)) })

  next-by : (i : ℕ) (l : Lent) (o : Outcome) → Came L i l.table l.headings l.pool o
      → call_on (at i) l ≡ left L (lengths_of l.table l.headings l.pool) o
      → (ls : List Lent) → (through (call_on (at i) l).walk ls).progress ≡ done → Next i l
  next-by i l _ (failed x) e ls p =
      absurd (refused-not-done (call_on (at i) l).walk 13 i (ap (λ (s : Left). s.walk.progress) e ∙ ap (λ (w : Walk). w.progress) (left-walk L _ _)) ls p)
  next-by i l _ (declined {m} x j) e ls p =
      absurd (refused-not-done (call_on (at i) l).walk m i (ap (λ (s : Left). s.walk.progress) e ∙ ap (λ (w : Walk). w.progress) (left-walk L _ _)) ls p)
  next-by i l _ (took {r} x j) e ls p =
      let rs = rows_at l.headings l.pool i ++ (r ∷ []) in
      let count : length rs ≡ suc i = omega (arith, length-append (rows_at l.headings l.pool i) (r ∷ []), rows-length l.headings l.pool i) in (
        subst (Took i l) (sym e) (took_it (at i) i l x r j),
        ap (λ (s : Left). s.walk) e ∙ left-walk L _ (rows rs) ∙ ap (λ (n : ℕ). record { lengths = L; progress = cond (eqb n (entries_of L)) done (due n) }) count,
      )

  next_of : (i : ℕ) (l : Lent) (ls : List Lent) → (through (at i) (l ∷ ls)).progress ≡ done → Next i l × ((through (call_on (at i) l).walk ls).progress ≡ done)
  next_of i l ls p =
      let q = sym (ap (λ (w : Walk). w.progress) (through-cons (at i) l ls)) ∙ p in
      (next-by i l (stepped L i l.table l.headings l.pool) (came L i l.table l.headings l.pool) (call-on (at i) i refl l) ls q, q)

  pub ran : (ls : List Lent) (m i : ℕ) → i + suc m ≡ entries_of L → (through (at i) ls).progress ≡ done → Ran m i ls
  ran [] m i c p = let q : due i ≡ done = sym (ap (λ (w : Walk). w.progress) (through-nil (at i))) ∙ p in let z : ◌≡◌ {A = ℕ} 0 1 = cc in absurd (omega arith)
  ran (l ∷ ls) zero i c p =
      let n = next_of i l ls p in
      let e : eqb (suc i) (entries_of L) ≡ true = (eqb-iff (suc i) (entries_of L)).1 (omega arith) in
      record {
        each = λ j b. let z : j ≡ 0 = omega arith in subst (λ (k : ℕ). TookAt (i + k) (get_or (l ∷ ls) k d)) (sym z) (subst (λ (k : ℕ). TookAt k l) (omega arith) n.0.0);
        long = omega arith;
        ends =
            ap (λ (w : Walk). w.progress) (through-cons (at i) l [] ∙ through-nil (call_on (at i) l).walk ∙ n.0.1)
            ∙ ap (λ (b : Bool). cond b done (due (suc i))) e;
      }
  ran (l ∷ ls) (suc m) i c p =
      let n = next_of i l ls p in
      let e : eqb (suc i) (entries_of L) ≡ false = not_equal (suc i) (entries_of L) (omega arith) in
      let w : (call_on (at i) l).walk ≡ at (suc i) = n.0.1 ∙ ap (λ (b : Bool). record { lengths = L; progress = cond b done (due (suc i)) }) e in
      let ih = ran ls m (suc i) (omega arith) (subst (λ (x : Walk). (through x ls).progress ≡ done) w n.1) in
      record {
        each = λ j b. by j b n.0.0 ih.each;
        long = omega (arith, ih.long);
        ends = ap (λ (x : Walk). x.progress) (through-cons (at i) l (take (suc m) ls) ∙ ap (λ (x : Walk). through x (take (suc m) ls)) w) ∙ ih.ends;
      }
    where
      not_equal : (a b : ℕ) → a < b → eqb a b ≡ false
      not_equal a b h = by-test (eqb a b) refl
        where
          by-test : (x : Bool) → eqb a b ≡ x → x ≡ false
          by-test true q = absurd (omega (arith, (eqb-iff a b).0 q))
          by-test false q = refl

      by : (j : ℕ) → j ≤ suc m → TookAt i l → ((k : ℕ) → k ≤ m → TookAt (suc i + k) (get_or ls k d)) → TookAt (i + j) (get_or (l ∷ ls) j d)
      by zero b h ih = subst (λ (k : ℕ). TookAt k l) (omega arith) h
      by (suc j) b h ih = subst (λ (k : ℕ). TookAt k (get_or ls j d)) (omega arith) (ih j (omega arith))

-- ---- from the start

abbrev lengths_at : Lent → Lengths
lengths_at b = lengths_of b.table b.headings b.pool

-- a walk that is done began with the entry 0 due
begins : (b : Lent) (ls : List Lent) → (through (start b.table b.headings b.pool).walk ls).progress ≡ done
    → (1 ≤ entries_of (lengths_at b)) × ((start b.table b.headings b.pool).walk ≡ due_at b 0)
begins b ls p = by (admits b.table b.headings b.pool) refl
  where
    L : Lengths
    L = lengths_at b

    walk : (x : Reply ℕ) → admits b.table b.headings b.pool ≡ x
        → (start b.table b.headings b.pool).walk ≡ record { lengths = L; progress = progress_after (entries_of L) (begun x) }
    walk x e = ap (λ (s : Left). s.walk) (start_is b.table b.headings b.pool) ∙ left-walk L L _ ∙ ap (λ (y : Reply ℕ). record { lengths = L; progress = progress_after (entries_of L) (begun y) }) e

    first : (n : ℕ) → 1 ≤ n → eqb 0 n ≡ false
    first n h = by-test (eqb 0 n) refl
      where
        by-test : (x : Bool) → eqb 0 n ≡ x → x ≡ false
        by-test true q = absurd (omega (arith, (eqb-iff 0 n).0 q))
        by-test false q = refl

    by : (x : Reply ℕ) → admits b.table b.headings b.pool ≡ x → (1 ≤ entries_of L) × ((start b.table b.headings b.pool).walk ≡ due_at b 0)
    by (refused m) e = absurd (refused-not-done (start b.table b.headings b.pool).walk m 0 (ap (λ (w : Walk). w.progress) (walk (refused m) e)) ls p)
    by (answer n) e =
        let a = admitted-gives b.table (length b.headings / heading_length) (length b.pool) n e in
        let one : 1 ≤ entries_of L = subst (λ (i : ℕ). 1 ≤ i) a.is_number a.some-entry in
        (one, walk (answer n) e ∙ ap (λ (x : Bool). record { lengths = L; progress = cond x done (due 0) }) (first (entries_of L) one))

ran-whole : (b : Lent) (ls : List Lent) → (through (start b.table b.headings b.pool).walk ls).progress ≡ done
    → (1 ≤ entries_of (lengths_at b)) × Ran (lengths_at b) b (entries_of (lengths_at b) - 1) 0 ls
ran-whole b ls p =
    let s = begins b ls p in
    (s.0, ran (lengths_at b) b ls (entries_of (lengths_at b) - 1) 0 (omega (arith, s.0)) (subst (λ (w : Walk). (through w ls).progress ≡ done) s.1 p))

-- ---- the statements

pub demand-2-changed : (x : Finished) (k : ℕ) → k < length x.steps → Took k (step_of x k) (left_by x k)
demand-2-changed x k h =
    let r = ran-whole x.begun x.steps x.ends in
    let z : 0 + k ≡ k = omega arith in
    subst (λ (i : ℕ). Took i (step_of x k) (call_on (due_at x.begun i) (step_of x k))) z (r.1.each k (omega (arith, x.number)))

pub finished-by :
    (b : Lent) (ls : List Lent) → (through (start b.table b.headings b.pool).walk ls).progress ≡ done
    → (x : Finished) × (x.begun ≡ b) × (x.steps ≡ take (entries_of (lengths_of b.table b.headings b.pool)) ls)
finished-by b ls p =
    let r = ran-whole b ls p in
    let n = entries_of (lengths_at b) in
    let s = begins b ls p in
    let q : suc (n - 1) ≡ n = omega (arith, r.0) in
    let ends : (through (start b.table b.headings b.pool).walk (take n ls)).progress ≡ done =
    ap₂ (λ (w : Walk) (i : ℕ). (through w (take i ls)).progress) s.1 (sym q) ∙ r.1.ends in
    (record { begun = b; steps = take n ls; number = length-take-le n ls (omega (arith, r.1.long)); ends = ends }, refl, refl)

-- the rows that stand are the ones that the headings show
-- the last step of a walk took its last entry
abbrev last-took : (x : Finished) (k : ℕ) → k < length x.steps → Took (length x.steps - 1) (step_of x (length x.steps - 1)) (left_by x (length x.steps - 1))
last-took x k h = demand-2-changed x (length x.steps - 1) (omega (arith, h))

module _ (x : Finished) (k : ℕ) (h : k < length x.steps) where
  abbrev ended : Left
  ended = left_by x (length x.steps - 1)

  abbrev all-rows : List Row
  all-rows = (last-took x k h).before ++ ((last-took x k h).row ∷ [])

  inside : k < length all-rows
  inside = let t = last-took x k h in omega (arith, length-append t.before (t.row ∷ []), t.number, h)

  row-least : Least (row_of x k)
  row-least =
      let s = (last-took x k h).stands in
      subst Least (sym (standing-row all-rows ended.headings ended.pool s k inside)) (all-least s (get_or all-rows k bottom_row) (get_or-mem all-rows bottom_row k inside))

  -- the fourth number is R of the row
  row-counted : granules_of x k ≡ granules (row_of x k)
  row-counted = standing-counted all-rows ended.headings ended.pool (last-took x k h).stands k inside

-- "an entry there meaning the calendar that its row means", in the least form
pub rows-mean : (x : Finished) (k : ℕ) → k < length x.steps → IsCalendar (meant (row_of x k)) × LeastRow (meant (row_of x k)) (row_of x k)
rows-mean x k h = least-means (row_of x k) (row-least x k h)

-- "demand 3 keeps only its rule of equal rows": period, distance, cells and the fourth number
pub demand-3-changed : (x y : Finished) (k l : ℕ) → k < length x.steps → l < length y.steps
    → Same (meant (row_of x k)) (meant (row_of y l)) ↔ ((row_of x k ≡ row_of y l) × (granules_of x k ≡ granules_of y l))
demand-3-changed x y k l h h' =
    let a = rows-mean x k h in
    let b = rows-mean y l h' in
    let e = equal-rows (meant (row_of x k)) (meant (row_of y l)) (row_of x k) (row_of y l) a.0 a.1 b.1 in (
      λ same.
          let (p, n, q) = e.0 same in
          let alike = row-ext (row_of x k) (row_of y l) p n q in
          (alike, row-counted x k h ∙ ap granules alike ∙ sym (row-counted y l h')),
      λ (same, count). e.1 (ap (λ (r : Row). r.period) same, ap (λ (r : Row). r.distance) same, ap (λ (r : Row). r.cells) same),
    )
