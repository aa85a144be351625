-- The numbers of a refusal: below 100, and an entry of the table or a line of the text.
-- Assumes nothing.
use mathlib.Core.Path.{◌≡◌, refl, sym, ◌∙◌, ap, subst}
use mathlib.Core.Logic.{⊎_elim}
use mathlib.Core.Bool.{Bool, true, false, not, ◌&&◌, ◌||◌}
use mathlib.Core.List.{List, [], ◌∷◌, ◌++◌, map}
use Prim.Native.Nat.{ℕ, zero, suc, ◌+◌, ◌-◌, ◌/◌, ◌%◌, ◌≤◌, ◌<◌}
use native.Mathlib.Omega.{arith}
use lib.Dec.{eqb, leb, ltb}
use lib.IntN.{ℤ, pos}
use lib.ListN.{length, get_or, length-append}
use Rattle.integers.specs.Parts.{up}
use Rattle.calendar.specs.Limits.{pool_limit, entry_limit, between}
use Rattle.calendar.specs.Meaning.{Row}
use Rattle.calendar.specs.Operation.{Operation, map_operation}
use Rattle.calendar.specs.Reply.{Reply, require, and_then}
use Rattle.calendar.specs.Reply.Reply.{refused, answer}
use Rattle.calendar.specs.Size.{turn, span}
use Rattle.calendar.specs.Distance.{size}
use Rattle.calendar.specs.Checks.{full_operands, aligned, emptied, unlabelled, labels_in_range}
use Rattle.calendar.specs.Table.{Entry, entry_at, zero?, kinds, no_operand, earlier, named, admitted}
use Rattle.calendar.specs.Outcome.{converted, judged, at_rows, entries, outcome}
use Rattle.calendar.specs.Outcome.Outcome.{refused_at}
use Rattle.granules.proofs.Tests.{leb-iff}
use Rattle.granules.proofs.Replies.{require-answer}
use Rattle.algebra.proofs.Steps.{judged-is, after_entry, entries-zero, entries-suc, after_table, outcome-is}
use Rattle.table_text.specs.Numerals.{numeral}
use Rattle.table_text.specs.Words.{space, line_feed, joined_by}
use Rattle.table_text.specs.Text.{text_limit, entry_line, written}
use Rattle.table_text.specs.Parse.{parse}
use Rattle.table_text.specs.Parse.Reading.{bad}
use Rattle.table_text.proofs.Texts.{bad-back}

-- ---- the number

data Small {A : Type 0} : Reply A → Type 0 where
  refusing : {n : ℕ} → n < 100 → Small (refused n)
  answering : {a : A} → Small (answer a)

checked : {A : Type 0} (n : ℕ) (b : Bool) (r : Reply A) → n < 100 → Small r → Small (require n b r)
checked n true r h s = s
checked n false r h s = refusing h

converted-small : (o : Operation Row) (room : ℕ) → Small (converted o room)
unfolding converted
converted-small o room =
    checked 7 (full_operands o) _ (omega arith)
    (checked 8 (leb (span (map_operation turn o)) room) _ (omega arith)
    (checked 9 (aligned o) _ (omega arith)
    (checked 10 (not (emptied o)) _ (omega arith)
    (checked 8 (leb (size o).period room) _ (omega arith)
    (checked 12 (not (unlabelled o)) _ (omega arith)
    (checked 11 (labels_in_range o) _ (omega arith) answering))))))

named_small : (k : ℕ) (e : Entry) → Small (named k e)
unfolding named
named_small k e =
    let m = get_or kinds (up e.kind) no_operand in
    let n = m.operands in
    checked 4 (between (pos 0) (pos 12) e.kind) _ (omega arith)
    (checked 5 ((ltb n 1 || earlier k e.first) && (ltb n 2 || earlier k e.second)) _ (omega arith)
    (checked 6 ((leb 1 n || zero? e.first) && ((leb 2 n || zero? e.second) && m.numbers e)) _ (omega arith) answering))

judged-small : (before : List Row) (room : ℕ) (e : Entry) → Small (judged before room e)
judged-small before room e = subst Small (sym (judged-is before room e)) (by (named (length before) e) (named_small (length before) e))
  where
    by : (x : Reply (Operation ℕ)) → Small x → Small (and_then x (λ o. converted (at_rows before o) room))
    by (refused n) (refusing h) = refusing h
    by (answer o) s = converted-small (at_rows before o) room

admitted-small : (t : List ℤ) (headings pool : ℕ) → Small (admitted t headings pool)
admitted-small t headings pool =
    checked 1 (eqb (length t % 6) 0 && (leb 1 (length t / 6) && leb (length t / 6) entry_limit)) _ (omega arith)
    (checked 2 (leb (length t / 6) headings) _ (omega arith)
    (checked 3 (leb pool pool_limit) _ (omega arith) answering))

-- ---- the entry

entries-refused : (t : List ℤ) (n k : ℕ) (before : List Row) (room m j : ℕ) → entries t n k before room ≡ refused_at m j → (m < 100) × (j < k + n)
entries-refused t zero k before room m j e = let z : ◌≡◌ {A = ℕ} 0 1 = cc (entries-zero t k before room) in absurd (omega arith)
entries-refused t (suc n) k before room m j e =
    by (judged before room (entry_at t k)) (judged-small before room (entry_at t k)) (sym (entries-suc t n k before room) ∙ e) (entries-refused t n (suc k))
  where
    by : (x : Reply Row) → Small x → after_entry t n k before room x ≡ refused_at m j
        → ((before : List Row) (room m j : ℕ) → entries t n (suc k) before room ≡ refused_at m j → (m < 100) × (j < suc k + n)) → (m < 100) × (j < k + suc n)
    by (refused i) (refusing h) q ih =
        let number : i ≡ m = cc in
        let entry : k ≡ j = cc in
        (omega arith, omega arith)
    by (answer r) s q ih = let h = ih (before ++ (r ∷ [])) (room - r.period) m j q in (omega arith, omega arith)

pub outcome-refused : (t : List ℤ) (headings pool m j : ℕ) → outcome t headings pool ≡ refused_at m j → (m < 100) × (j ≤ headings)
outcome-refused t headings pool m j e = by (admitted t headings pool) refl (admitted-small t headings pool) (sym (outcome-is t headings pool) ∙ e)
  where
    by : (x : Reply ℕ) → admitted t headings pool ≡ x → Small x → after_table t pool x ≡ refused_at m j → (m < 100) × (j ≤ headings)
    by (refused i) p (refusing h) q =
        let number : i ≡ m = cc in
        let entry : ◌≡◌ {A = ℕ} 0 j = cc in
        (omega arith, omega arith)
    by (answer n) p s q =
        let r₁ = require-answer 1 (eqb (length t % 6) 0 && (leb 1 (length t / 6) && leb (length t / 6) entry_limit)) _ p in
        let r₂ = require-answer 2 (leb (length t / 6) headings) _ r₁.1 in
        let r₃ = require-answer 3 (leb pool pool_limit) _ r₂.1 in
        let same : length t / 6 ≡ n = cc r₃.1 in
        let h = entries-refused t n 0 [] pool m j q in
        (h.0, omega (arith, (leb-iff (length t / 6) headings).0 r₂.0))

-- ---- the line

written-length : (es : List (List ℤ)) → length es ≤ length (written es)
written-length [] = omega arith
written-length (e ∷ es) =
    omega (arith, written-length es, length-append (entry_line e) (written es), length-append (joined_by space (map numeral e)) (line_feed ∷ []))

pub bad-line : (s : List ℕ) (k : ℕ) → parse s ≡ bad k → k ≤ text_limit
bad-line s k e = ⊎_elim
    (λ h. omega (arith, h.1))
    (λ h. omega (arith, h.0, h.1.count, written-length h.1.before, ap length h.1.text, length-append (written h.1.before) h.1.rest))
    (bad-back s k e)
