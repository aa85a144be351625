-- What a call may come to: the test fails, the entry is refused, or its row is taken.
use mathlib.Core.Path.{◌≡◌, refl, sym, ◌∙◌, ap, subst}
use mathlib.Core.Logic.{◌↔◌, inl, inr, ◌⊎◌}
use mathlib.Core.Bool.{Bool, true, false, not, ◌&&◌, ◌||◌, cond}
use mathlib.Core.List.{List, [], ◌∷◌, ◌++◌}
use Prim.Native.Nat.{ℕ, suc, ◌-◌, ◌/◌, ◌%◌, ◌≤◌, ◌<◌}
use native.Mathlib.Omega.{arith}
use lib.Dec.{eqb, leb, ltb}
use lib.IntN.{ℤ, pos}
use lib.ListN.{length, get_or}
use Rattle.integers.specs.Parts.{up}
use Rattle.calendar.specs.Meaning.{Row}
use Rattle.calendar.specs.Operation.{Operation, map_operation}
use Rattle.calendar.specs.Size.{turn, span}
use Rattle.calendar.specs.Distance.{size}
use Rattle.calendar.specs.Compute.{working}
use Rattle.calendar.specs.Checks.{full_operands, aligned, emptied, unlabelled, labels_in_range}
use Rattle.calendar.specs.Limits.{between, pool_limit, entry_limit}
use Rattle.calendar.specs.Least.{least}
use Rattle.calendar.specs.Reply.{Reply, require, and_then}
use Rattle.calendar.specs.Reply.Reply.{refused, answer}
use Rattle.calendar.specs.Table.{no_operand, kinds, zero?, earlier, Entry, entry_at, named, admitted}
use Rattle.calendar.specs.Outcome.{Outcome, converted, judged, at_rows, entries}
use Rattle.calendar.specs.Outcome.Outcome.{rows}
use Rattle.calendar.specs.Stored.{joined}
use Rattle.granules.proofs.Tests.{true≢false, and-iff, eqb-iff, leb-iff, ltb_iff}
use Rattle.granules.proofs.Replies.{require-answer}
use Rattle.algebra.proofs.Steps.{judged-is, entries-zero, entries-suc}
use Rattle.standing.specs.Standing.{rows_at, standing}
use Rattle.walks.specs.Walk.{Lengths, Progress, Walk, Left, lengths_of, same_lengths, entries_of, progress_after, left, is_entry, ready, entered, stepped, call, admits}
use Rattle.walks.specs.Walk.Progress.{due, done, refused_at}

-- ---- the state at a call

-- a call, by the progress of its state
abbrev after : Walk → List ℤ → List ℕ → List ℤ → Progress → Left
after w t headings pool x =
    elim x [
      | due k ↦ left w.lengths (lengths_of t headings pool) (stepped w.lengths k t headings pool)
      | done ↦ record { walk = w; headings = headings; pool = pool }
      | refused_at m k ↦ record { walk = w; headings = headings; pool = pool }
    ]

pub call-is : (w : Walk) (t : List ℤ) (headings : List ℕ) (pool : List ℤ) → call w t headings pool ≡ after w t headings pool w.progress
unfolding call
call-is w t headings pool = refl

pub call-due : (w : Walk) (k : ℕ) → w.progress ≡ due k → (t : List ℤ) (headings : List ℕ) (pool : List ℤ)
    → call w t headings pool ≡ left w.lengths (lengths_of t headings pool) (stepped w.lengths k t headings pool)
call-due w k e t headings pool = call-is w t headings pool ∙ ap (after w t headings pool) e

pub ended-stays :
    (w : Walk) (t : List ℤ) (headings : List ℕ) (pool : List ℤ)
    → ((w.progress ≡ done) ⊎ ((m : ℕ) × (k : ℕ) × (w.progress ≡ refused_at m k)))
    → call w t headings pool ≡ record { walk = w; headings = headings; pool = pool }
ended-stays w t headings pool (inl e) = call-is w t headings pool ∙ ap (after w t headings pool) e
ended-stays w t headings pool (inr (m, k, e)) = call-is w t headings pool ∙ ap (after w t headings pool) e

-- ---- numbers of refusals

-- a refusal of an entry is one of document 01's 4 to 12
pub data AtMost {A : Type 0} : Reply A → Type 0 where
  low : {m : ℕ} → m ≤ 12 → AtMost (refused m)
  none : {a : A} → AtMost (answer a)

require-at-most : {A : Type 0} (n : ℕ) (b : Bool) (r : Reply A) → n ≤ 12 → AtMost r → AtMost (require n b r)
require-at-most n true r h k = k
require-at-most n false r h k = low h

converted-at-most : (o : Operation Row) (room : ℕ) → AtMost (converted o room)
unfolding converted
converted-at-most o room =
    let last : Reply Row = answer (least (working o)) in
    let r₁ = require 11 (labels_in_range o) last in
    let r₂ = require 12 (not (unlabelled o)) r₁ in
    let r₃ = require 8 (leb (size o).period room) r₂ in
    let r₄ = require 10 (not (emptied o)) r₃ in
    let r₅ = require 9 (aligned o) r₄ in
    let r₆ = require 8 (leb (span (map_operation turn o)) room) r₅ in
    require-at-most 7 (full_operands o) r₆ (omega arith) (require-at-most 8 (leb (span (map_operation turn o)) room) r₅ (omega arith)
    (require-at-most 9 (aligned o) r₄ (omega arith) (require-at-most 10 (not (emptied o)) r₃ (omega arith)
    (require-at-most 8 (leb (size o).period room) r₂ (omega arith) (require-at-most 12 (not (unlabelled o)) r₁ (omega arith)
    (require-at-most 11 (labels_in_range o) last (omega arith) none))))))

named-at-most : (k : ℕ) (e : Entry) → AtMost (named k e)
unfolding named
named-at-most k e =
    let m = get_or kinds (up e.kind) no_operand in
    let n = m.operands in
    let last : Reply (Operation ℕ) = answer (m.operation e) in
    let six = (leb 1 n || zero? e.first) && ((leb 2 n || zero? e.second) && m.numbers e) in
    let five = (ltb n 1 || earlier k e.first) && (ltb n 2 || earlier k e.second) in
    let four = between (pos 0) (pos 12) e.kind in
    require-at-most 4 four (require 5 five (require 6 six last)) (omega arith)
    (require-at-most 5 five (require 6 six last) (omega arith) (require-at-most 6 six last (omega arith) none))

then-at-most : {A B : Type 0} (r : Reply A) (f : A → Reply B) → AtMost r → ((a : A) → AtMost (f a)) → AtMost (and_then r f)
then-at-most (refused m) f (low h) k = low h
then-at-most (answer a) f h k = k a

number-low : (m : ℕ) → AtMost {A = Row} (refused m) → m ≤ 12
number-low m (low h) = h

pub judged-at-most : (l : List Row) (room : ℕ) (e : Entry) (m : ℕ) → judged l room e ≡ refused m → m ≤ 12
judged-at-most l room e m p =
    number-low m (subst AtMost (sym (judged-is l room e) ∙ p)
    (then-at-most (named (length l) e) (λ o. converted (at_rows l o) room) (named-at-most (length l) e) (λ o. converted-at-most (at_rows l o) room)))

-- ---- what the test gives

pub lengths-ext : (l m : Lengths) → l.table ≡ m.table → l.headings ≡ m.headings → l.pool ≡ m.pool → l ≡ m
lengths-ext l m a b c = λ i. record { table = a i; headings = b i; pool = c i }

same-lengths-iff : (l m : Lengths) → (same_lengths l m ≡ true) ↔ (l ≡ m)
same-lengths-iff l m =
    let a = and-iff (eqb l.table m.table) (eqb l.headings m.headings && eqb l.pool m.pool) in
    let b = and-iff (eqb l.headings m.headings) (eqb l.pool m.pool) in (
      λ e. let p = a.0 e in let q = b.0 p.1 in
          lengths-ext l m ((eqb-iff l.table m.table).0 p.0) ((eqb-iff l.headings m.headings).0 q.0) ((eqb-iff l.pool m.pool).0 q.1),
      λ e. a.1 (
        (eqb-iff l.table m.table).1 (ap (λ (x : Lengths). x.table) e),
        b.1 ((eqb-iff l.headings m.headings).1 (ap (λ (x : Lengths). x.headings) e), (eqb-iff l.pool m.pool).1 (ap (λ (x : Lengths). x.pool) e)),
      ),
    )

pub ready-iff : (began : Lengths) (k : ℕ) (t : List ℤ) (headings : List ℕ) (pool : List ℤ)
    → (ready began k t headings pool ≡ true)
    ↔ ((lengths_of t headings pool ≡ began) × (is_entry k (admits t headings pool) ≡ true) × (standing k headings pool ≡ true))
unfolding ready
ready-iff began k t headings pool =
    let a = and-iff (same_lengths (lengths_of t headings pool) began) (is_entry k (admits t headings pool) && standing k headings pool) in
    let b = and-iff (is_entry k (admits t headings pool)) (standing k headings pool) in
    let c = same-lengths-iff (lengths_of t headings pool) began in
    (λ e. (c.0 (a.0 e).0, (b.0 (a.0 e).1).0, (b.0 (a.0 e).1).1), λ h. a.1 (c.1 h.0, b.1 (h.1, h.2)))

-- checks 1 to 3 passed: n entries, a heading for each, and a pool that is not too long
pub record Admitted (n table headings pool : ℕ) : Type 0 where
  pub is_number : n ≡ table / 6
  pub some-entry : 1 ≤ n
  pub few : n ≤ entry_limit
  pub whole : table % 6 ≡ 0
  pub has-headings : n ≤ headings
  pub at-most : pool ≤ pool_limit

pub admitted-gives : (t : List ℤ) (headings pool n : ℕ) → admitted t headings pool ≡ answer n → Admitted n (length t) headings pool
admitted-gives t headings pool n e =
    let m = length t / 6 in
    let r₁ = require-answer 1 (eqb (length t % 6) 0 && (leb 1 m && leb m entry_limit)) _ e in
    let r₂ = require-answer 2 (leb m headings) _ r₁.1 in
    let r₃ = require-answer 3 (leb pool pool_limit) _ r₂.1 in
    let same : m ≡ n = cc r₃.1 in
    let a = (and-iff (eqb (length t % 6) 0) (leb 1 m && leb m entry_limit)).0 r₁.0 in
    let b = (and-iff (leb 1 m) (leb m entry_limit)).0 a.1 in
    record {
      is_number = sym same;
      some-entry = subst (λ (i : ℕ). 1 ≤ i) same ((leb-iff 1 m).0 b.0);
      few = subst (λ (i : ℕ). i ≤ entry_limit) same ((leb-iff m entry_limit).0 b.1);
      whole = (eqb-iff (length t % 6) 0).0 a.0;
      has-headings = subst (λ (i : ℕ). i ≤ headings) same ((leb-iff m headings).0 r₂.0);
      at-most = (leb-iff pool pool_limit).0 r₃.0;
    }

pub entry_of : (k : ℕ) (x : Reply ℕ) → is_entry k x ≡ true → (n : ℕ) × (x ≡ answer n) × (k < n)
entry_of k (refused m) e = absurd (true≢false e refl)
entry_of k (answer n) e = (n, refl, (ltb_iff k n).0 e)

-- ---- what a call may come to

-- the rows that stand, and the room behind them
abbrev pub room_at : List ℕ → List ℤ → ℕ → ℕ
room_at headings pool k = length pool - length (joined (rows_at headings pool k))

pub data Came (began : Lengths) (k : ℕ) (t : List ℤ) (headings : List ℕ) (pool : List ℤ) : Outcome → Type 0 where
  failed : ready began k t headings pool ≡ false → Came began k t headings pool (Outcome.refused_at 13 k)
  declined : {m : ℕ} → ready began k t headings pool ≡ true → judged (rows_at headings pool k) (room_at headings pool k) (entry_at t k) ≡ refused m
      → Came began k t headings pool (Outcome.refused_at m k)
  took : {r : Row} → ready began k t headings pool ≡ true → judged (rows_at headings pool k) (room_at headings pool k) (entry_at t k) ≡ answer r
      → Came began k t headings pool (rows (rows_at headings pool k ++ (r ∷ [])))

-- the outcome of the entry k, by the reply to it
abbrev pub step_to : ℕ → List Row → Reply Row → Outcome
step_to k l (refused m) = Outcome.refused_at m k
step_to k l (answer r) = rows (l ++ (r ∷ []))

pub entries-one : (t : List ℤ) (k : ℕ) (l : List Row) (room : ℕ) → entries t 1 k l room ≡ step_to k l (judged l room (entry_at t k))
entries-one t k l room = entries-suc t 0 k l room ∙ by (judged l room (entry_at t k))
  where
    by : (x : Reply Row) → elim x [ refused m ↦ Outcome.refused_at m k | answer r ↦ entries t 0 (suc k) (l ++ (r ∷ [])) (room - r.period) ] ≡ step_to k l x
    by (refused m) = refl
    by (answer r) = entries-zero t (suc k) (l ++ (r ∷ [])) (room - r.period)

pub entered-is : (k : ℕ) (t : List ℤ) (headings : List ℕ) (pool : List ℤ)
    → entered k t headings pool ≡ step_to k (rows_at headings pool k) (judged (rows_at headings pool k) (room_at headings pool k) (entry_at t k))
unfolding entered
entered-is k t headings pool = entries-one t k (rows_at headings pool k) (room_at headings pool k)

pub stepped-is : (began : Lengths) (k : ℕ) (t : List ℤ) (headings : List ℕ) (pool : List ℤ)
    → stepped began k t headings pool ≡ cond (ready began k t headings pool) (entered k t headings pool) (Outcome.refused_at 13 k)
unfolding stepped
stepped-is began k t headings pool = refl

pub came : (began : Lengths) (k : ℕ) (t : List ℤ) (headings : List ℕ) (pool : List ℤ) → Came began k t headings pool (stepped began k t headings pool)
came began k t headings pool =
    subst C (sym (stepped-is began k t headings pool)) (by (ready began k t headings pool) refl)
  where
    C : Outcome → Type 0
    C = Came began k t headings pool

    reply : (x : Reply Row) → ready began k t headings pool ≡ true → judged (rows_at headings pool k) (room_at headings pool k) (entry_at t k) ≡ x → C (step_to k (rows_at headings pool k) x)
    reply (refused m) e p = declined e p
    reply (answer r) e p = took e p

    by : (b : Bool) → ready began k t headings pool ≡ b → C (cond b (entered k t headings pool) (Outcome.refused_at 13 k))
    by true e = subst C (sym (entered-is k t headings pool)) (reply (judged (rows_at headings pool k) (room_at headings pool k) (entry_at t k)) e refl)
    by false e = failed e

-- ---- progress

pub progress-rows : (n : ℕ) (l : List Row) (m e : ℕ) → progress_after n (rows l) ≡ refused_at m e → ⊥
progress-rows n l m e = by (eqb (length l) n)
  where
    by : (b : Bool) → cond b done (due (length l)) ≡ refused_at m e → ⊥
    by true p = let z : ◌≡◌ {A = ℕ} 0 1 = cc in absurd (omega arith)
    by false p = let z : ◌≡◌ {A = ℕ} 0 1 = cc in absurd (omega arith)

pub left-progress : (began now : Lengths) (o : Outcome) → (left began now o).walk.progress ≡ progress_after (entries_of began) o
unfolding left
left-progress began now o = refl

pub left-walk : (began now : Lengths) (o : Outcome) → (left began now o).walk ≡ record { lengths = began; progress = progress_after (entries_of began) o }
unfolding left
left-walk began now o = refl
