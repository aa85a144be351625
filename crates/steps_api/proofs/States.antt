-- A state that the functions for C wrote holds the walk that the definitions give.
-- Assumes nothing.
use mathlib.Core.Path.{◌≡◌, refl, sym, ◌∙◌, ap, ap₂, subst}
use mathlib.Core.Logic.{◌⊎◌, inl, inr}
use mathlib.Core.Option.{Option, none, some}
use mathlib.Core.Bool.{Bool, true, false, ◌&&◌, cond}
use mathlib.Core.List.{List, [], ◌∷◌, ◌++◌}
use Prim.Native.Nat.{ℕ, ◌+◌, ◌*◌, ◌/◌, ◌%◌, ◌≤◌, ◌<◌}
use native.Mathlib.Omega.{arith}
use lib.Dec.{eqb, leb}
use lib.IntN.{ℤ, pos}
use lib.ListN.{length, get_or, replicate, length-replicate}
use borrow.Author.Tests.{lt-ltb, eq-eqb}
use Rattle.integers.specs.Parts.{up}
use Rattle.calendar.specs.Limits.{entry_limit, heading_length, pool_limit}
use Rattle.calendar.specs.Reply.{Reply, require}
use Rattle.calendar.specs.Reply.Reply.{refused, answer}
use Rattle.calendar.specs.Table.{entry_at, admitted}
use Rattle.calendar.specs.Outcome.{Outcome}
use Rattle.granules.proofs.Replies.{no-refusal}
use Rattle.standing.specs.Standing.{rows_at}
use Rattle.walks.specs.Walk.{Lengths, Progress, Walk, Left, lengths_of, entries_of, admits, progress_after, left, begun, start, stepped}
use Rattle.walks.specs.Walk.Progress.{due, done, refused_at}
use Rattle.walks.specs.Runs.{Lent, call_on, Reached}
use Rattle.walks.specs.Runs.Reached.{started, called}
use Rattle.walks.proofs.Came.{call-due, ended-stays, judged-at-most, admitted-gives, room_at, Came, came, progress-rows, left-walk}
use Rattle.walks.proofs.Came.Came.{failed, declined, took}
use Rattle.walks.proofs.States.{start_is, reached-due}
use Rattle.steps_api.specs.Codes as Codes
use Rattle.steps_api.specs.Codes.{progressed, measured, stage, number}
use Rattle.steps_api.specs.Held.{progress_in, with_lengths, lengths_at, walk_in}
use Rattle.steps_api.proofs.Telling.{walk-eight}

-- ---- how far a walk may be

-- an entry is one of 64, and a refusal one of 13
abbrev Readable : Progress → Type 0
Readable (due k) = k < entry_limit
Readable done = 0 ≤ 0
Readable (refused_at m k) = (m ≤ 13) × (k < entry_limit)

due-readable : (w : Walk) (k : ℕ) → Reached w → w.progress ≡ due k → k < entry_limit
due-readable w k r e =
    let t : List ℤ = replicate w.lengths.table (pos 0) in
    let h : List ℕ = replicate w.lengths.headings 0 in
    let p : List ℤ = replicate w.lengths.pool (pos 0) in
    let same : lengths_of t h p ≡ w.lengths =
    λ i. record {
      table = length-replicate w.lengths.table (pos 0) i;
      headings = length-replicate {A = ℕ} w.lengths.headings 0 i;
      pool = length-replicate w.lengths.pool (pos 0) i;
    } in
    let d = reached-due w k r e t h p same in
    let g = admitted-gives t (length h / heading_length) (length p) (entries_of w.lengths) d.0 in
    omega (arith, d.1, g.few)

require-low : (n : ℕ) (b : Bool) (x : Reply ℕ) (m : ℕ) → require n b x ≡ refused m → ((x ≡ refused m) → m ≤ 13) → n ≤ 13 → m ≤ 13
require-low n true x m e h b = h e
require-low n false x m e h b = let z : n ≡ m = cc e in omega (arith, z, b)

admits-low : (t : List ℤ) (h p m : ℕ) → admitted t h p ≡ refused m → m ≤ 13
admits-low t h p m e =
    let n = length t / 6 in
    let r₃ : Reply ℕ = require 3 (leb p pool_limit) (answer n) in
    let r₂ : Reply ℕ = require 2 (leb n h) r₃ in
    let none : answer n ≡ refused m → m ≤ 13 = λ q. absurd (no-refusal q) in
    let three : r₃ ≡ refused m → m ≤ 13 = λ q. require-low 3 (leb p pool_limit) (answer n) m q none (omega arith) in
    let two : r₂ ≡ refused m → m ≤ 13 = λ q. require-low 2 (leb n h) r₃ m q three (omega arith) in
    require-low 1 (eqb (length t % 6) 0 && (leb 1 n && leb n entry_limit)) r₂ m e two (omega arith)

-- ---- one call

called-due : (w : Walk) (k : ℕ) → w.progress ≡ due k → (l : Lent)
    → call_on w l ≡ left w.lengths (lengths_of l.table l.headings l.pool) (stepped w.lengths k l.table l.headings l.pool)
unfolding call_on
called-due w k e l = call-due w k e l.table l.headings l.pool

called-ended : (w : Walk) (l : Lent) → ((w.progress ≡ done) ⊎ ((m : ℕ) × (k : ℕ) × (w.progress ≡ refused_at m k)))
    → call_on w l ≡ record { walk = w; headings = l.headings; pool = l.pool }
unfolding call_on
called-ended w l e = ended-stays w l.table l.headings l.pool e

lengths-stay : (w : Walk) (l : Lent) → (call_on w l).walk.lengths ≡ w.lengths
lengths-stay w l = by w.progress refl
  where
    by : (x : Progress) → w.progress ≡ x → (call_on w l).walk.lengths ≡ w.lengths
    by (due k) e = ap (λ (q : Left). q.walk.lengths) (called-due w k e l) ∙ ap (λ (q : Walk). q.lengths) (left-walk _ _ _)
    by done e = ap (λ (q : Left). q.walk.lengths) (called-ended w l (inl e))
    by (refused_at m k) e = ap (λ (q : Left). q.walk.lengths) (called-ended w l (inr (m, k, e)))

refused-readable : {w : Walk} → Reached w → (m k : ℕ) → w.progress ≡ refused_at m k → (m ≤ 13) × (k < entry_limit)
refused-readable (started l) m k e =
    by (admits l.table l.headings l.pool) refl
    (sym (ap (λ (q : Left). q.walk.progress) (start_is l.table l.headings l.pool) ∙ ap (λ (q : Walk). q.progress) (left-walk _ _ _)) ∙ e)
  where
    n : ℕ
    n = entries_of (lengths_of l.table l.headings l.pool)

    by : (x : Reply ℕ) → admits l.table l.headings l.pool ≡ x → progress_after n (begun x) ≡ refused_at m k → (m ≤ 13) × (k < entry_limit)
    by (refused j) p q =
        let a : j ≡ m = cc q in
        let b : 0 ≡ k = cc q in
        (subst (λ (i : ℕ). i ≤ 13) a (admits-low l.table (length l.headings / heading_length) (length l.pool) j p), omega (arith, b))
    by (answer j) p q = absurd (progress-rows n [] m k q)
refused-readable (called {w} r l) m k e = by w.progress refl (λ q. refused-readable r m k q)
  where
    L : Lengths
    L = lengths_of l.table l.headings l.pool

    same : (i : ℕ) (o : Outcome) → Came w.lengths i l.table l.headings l.pool o → w.progress ≡ due i
        → progress_after (entries_of w.lengths) o ≡ refused_at m k → (m ≤ 13) × (k < entry_limit)
    same i _ (failed x) d q =
        let a : 13 ≡ m = cc q in
        let b : i ≡ k = cc q in
        (omega (arith, a), subst (λ (j : ℕ). j < entry_limit) b (due-readable w i r d))
    same i _ (declined {m = n} x j) d q =
        let a : n ≡ m = cc q in
        let b : i ≡ k = cc q in
        (omega (arith, a, judged-at-most (rows_at l.headings l.pool i) (room_at l.headings l.pool i) (entry_at l.table i) n j), subst (λ (j : ℕ). j < entry_limit) b (due-readable w i r d))
    same i _ (took {r = row} x j) d q = absurd (progress-rows (entries_of w.lengths) (rows_at l.headings l.pool i ++ (row ∷ [])) m k q)

    by : (x : Progress) → w.progress ≡ x → (w.progress ≡ refused_at m k → (m ≤ 13) × (k < entry_limit)) → (m ≤ 13) × (k < entry_limit)
    by (due i) p ih =
        same i (stepped w.lengths i l.table l.headings l.pool) (came w.lengths i l.table l.headings l.pool) p
        (sym (ap (λ (q : Left). q.walk.progress) (called-due w i p l) ∙ ap (λ (q : Walk). q.progress) (left-walk _ _ _)) ∙ e)
    by done p ih =
        let q : done ≡ refused_at m k = sym p ∙ sym (ap (λ (q : Left). q.walk.progress) (called-ended w l (inl p))) ∙ e in
        let z : ◌≡◌ {A = ℕ} 0 1 = cc q in
        absurd (omega (arith, z))
    by (refused_at a b) p ih = ih (sym (ap (λ (q : Left). q.walk.progress) (called-ended w l (inr (a, b, p)))) ∙ e)

reached-readable : (w : Walk) → Reached w → Readable w.progress
reached-readable w r = by w.progress refl
  where
    by : (x : Progress) → w.progress ≡ x → Readable x
    by (due k) e = due-readable w k r e
    by done e = omega arith
    by (refused_at m k) e = refused-readable r m k e

-- ---- the numbers, read back

progress-back : (x : Progress) → Readable x → progress_in (up (stage x)) (up (number x)) ≡ some x
progress-back (due k) h = ap (λ (b : Bool). cond b (some (due k)) none) (lt-ltb k 64 h)
progress-back done h = refl
progress-back (refused_at m k) h =
    let n = 100 * m + k in
    let few : n < 1400 = omega (arith, h.0, h.1) in
    let a : n / 100 ≡ m = omega (arith, h.1) in
    let b : n % 100 ≡ k = omega (arith, h.1) in
    ap (λ (b : Bool). cond b (some (refused_at (n / 100) (n % 100))) none) (lt-ltb n 1400 few) ∙ ap₂ (λ (i j : ℕ). some (refused_at i j)) a b

back : (s : List ℤ) → length s ≡ 8 → (x : Progress) → Readable x → walk_in (progressed x s) ≡ some (record { lengths = lengths_at s; progress = x })
back [] e x h = absurd (omega (arith, e))
back (a ∷ []) e x h = absurd (omega (arith, e))
back (a ∷ b ∷ s) e x h =
    let inside = with_lengths (lengths_at (a ∷ b ∷ s)) (progress_in (up (stage x)) (up (number x))) in
    ap (λ (b : Bool). cond b inside none) (eq-eqb (length (a ∷ b ∷ s)) 8 e) ∙ ap (with_lengths (lengths_at (a ∷ b ∷ s))) (progress-back x h)

module _ (t h p : ℕ) where
  measured-is : (s : List ℤ) → length s ≡ 8
      → (length (measured (pos t) (pos h) (pos p) s) ≡ 8) × (lengths_at (measured (pos t) (pos h) (pos p) s) ≡ record { table = t; headings = h; pool = p })
  measured-is [] e = absurd (omega (arith, e))
  measured-is (a ∷ []) e = absurd (omega (arith, e))
  measured-is (a ∷ b ∷ []) e = absurd (omega (arith, e))
  measured-is (a ∷ b ∷ c ∷ []) e = absurd (omega (arith, e))
  measured-is (a ∷ b ∷ c ∷ d ∷ []) e = absurd (omega (arith, e))
  measured-is (a ∷ b ∷ c ∷ d ∷ f ∷ s) e = (e, refl)

-- a state that holds a walk has its lengths
held-lengths : (s : List ℤ) (w : Walk) → walk_in s ≡ some w → lengths_at s ≡ w.lengths
held-lengths s w e = by (eqb (length s) 8) (progress_in (up (get_or s 0 (pos 0))) (up (get_or s 1 (pos 0)))) e
  where
    by : (b : Bool) (x : Option Progress) → cond b (with_lengths (lengths_at s) x) none ≡ some w → lengths_at s ≡ w.lengths
    by true none q = let z : ◌≡◌ {A = ℕ} 0 1 = cc q in absurd (omega (arith, z))
    by true (some x) q = let z : record { lengths = lengths_at s; progress = x } ≡ w = cc q in ap (λ (v : Walk). v.lengths) z
    by false x q = let z : ◌≡◌ {A = ℕ} 0 1 = cc q in absurd (omega (arith, z))

-- ---- what is written is read

-- the state of a walk that begins
pub start-holds : (s t : List ℤ) (headings : List ℕ) (pool : List ℤ) → length s ≡ 8
    → let w = (start t headings pool).walk in walk_in (Codes.begun w s) ≡ some w
start-holds s t headings pool e =
    let w = (start t headings pool).walk in
    let r = reached-readable w (started (record { table = t; headings = headings; pool = pool })) in
    let m = measured-is w.lengths.table w.lengths.headings w.lengths.pool s e in
    back (measured (pos w.lengths.table) (pos w.lengths.headings) (pos w.lengths.pool) s) m.0 w.progress r
    ∙ ap (λ (l : Lengths). some (record { lengths = l; progress = w.progress })) m.1

-- the state behind a call
pub step-holds : (s : List ℤ) (w : Walk) → Reached w → walk_in s ≡ some w → (l : Lent)
    → let v = (call_on w l).walk in walk_in (progressed v.progress s) ≡ some v
step-holds s w r e l =
    let v = (call_on w l).walk in
    back s (walk-eight s w e) v.progress (reached-readable v (called r l))
    ∙ ap (λ (n : Lengths). some (record { lengths = n; progress = v.progress })) (held-lengths s w e ∙ sym (lengths-stay w l))
