-- What holds of every stored row: it is sound, and all of them fit the pool.
use mathlib.Core.Path.{◌≡◌, refl, sym, ◌∙◌, subst}
use mathlib.Core.Logic.{⊎_elim}
use mathlib.Core.Bool.{true, ◌&&◌}
use mathlib.Core.List.Memᴰ
use mathlib.Core.List.{List, [], ◌∷◌, ◌++◌, Memᴰ}
use Prim.Native.Nat.{ℕ, zero, suc, ◌+◌, ◌-◌, ◌/◌, ◌%◌, ◌≤◌, ◌<◌}
use native.Mathlib.Omega.{arith}
use lib.Dec.{eqb, leb}
use lib.IntN.{ℤ}
use lib.ListN.{length, get_or, length-append}
use Rattle.calendar.specs.Meaning.{Row, bottom_row}
use Rattle.calendar.specs.Operation.{Operation}
use Rattle.calendar.specs.Sound.{sound}
use Rattle.calendar.specs.Limits.{pool_limit, entry_limit}
use Rattle.calendar.specs.Reply.{Reply, and_then}
use Rattle.calendar.specs.Reply.Reply.{refused, answer}
use Rattle.calendar.specs.Table.{Entry, entry_at, named, admitted}
use Rattle.calendar.specs.Outcome.{converted, judged, at_rows, entries, outcome}
use Rattle.calendar.specs.Outcome.Outcome.{rows}
use Rattle.calendar.specs.Stored.{joined}
use Rattle.granules.proofs.Tests.{leb-iff}
use Rattle.granules.proofs.Sound.{sound-valid}
use Rattle.granules.proofs.Replies.{require-answer}
use Rattle.algebra.proofs.Operations.{operands-weaken, operands-map, factor-map}
use Rattle.algebra.proofs.Answered.{converted-sound}
use Rattle.algebra.proofs.Named.{named-operation}
use Rattle.algebra.proofs.Steps.{judged-is, after_entry, entries-zero, entries-suc, after_table, outcome-is}

-- ---- lists of rows

pub get_or-mem : {A : Type 0} (l : List A) (d : A) (k : ℕ) → k < length l → Memᴰ (get_or l k d) l
get_or-mem [] d k h = absurd (omega arith)
get_or-mem (a ∷ l) d zero h = Memᴰ.head refl
get_or-mem (a ∷ l) d (suc k) h = Memᴰ.tail (get_or-mem l d k (omega arith))

pub joined_length : (l : List Row) (r : Row) → length (joined (l ++ (r ∷ []))) ≡ length (joined l) + length r.cells
joined_length [] r = simp length-append (omega arith)
joined_length (s ∷ l) r = let ih = joined_length l r in simp length-append (omega arith)

-- ---- entry by entry

-- these rows and the room that they leave in the pool
pub record Stored (pool : ℕ) (l : List Row) (room : ℕ) : Type 0 where
  pub all_sound : (r : Row) → Memᴰ r l → sound r ≡ true
  pub fit : length (joined l) + room ≤ pool

pub entry-sound : (l : List Row) (room : ℕ) (e : Entry) (r : Row) → ((s : Row) → Memᴰ s l → sound s ≡ true) → room ≤ pool_limit
    → judged l room e ≡ answer r → (sound r ≡ true) × (r.period ≤ room)
entry-sound l room e r h limit j = by (named (length l) e) refl (sym (judged-is l room e) ∙ j)
  where
    by : (x : Reply (Operation ℕ)) → named (length l) e ≡ x → and_then x (λ o. converted (at_rows l o) room) ≡ answer r → (sound r ≡ true) × (r.period ≤ room)
    by (refused n) p q = let z : ◌≡◌ {A = ℕ} 0 1 = cc in absurd (omega arith)
    by (answer o) p q =
        let n = named-operation (length l) e o p in
        let at : ℕ → Row = λ k. get_or l k bottom_row in
        converted-sound (at_rows l o) room r
        (operands-map at (λ s. sound s ≡ true) o (operands-weaken (λ k b. h (at k) (get_or-mem l bottom_row k b)) o n.1))
        (factor-map at o n.0) limit q

entries-stored : (pool : ℕ) → pool ≤ pool_limit → (t : List ℤ) (n k : ℕ) (before : List Row) (room : ℕ) → Stored pool before room
    → (l : List Row) → entries t n k before room ≡ rows l → Stored pool l 0
entries-stored pool limit t zero k before room s l e =
    let same : before ≡ l = cc (sym (entries-zero t k before room) ∙ e) in
    subst (λ (l : List Row). Stored pool l 0) same (record { all_sound = s.all_sound; fit = omega arith })
entries-stored pool limit t (suc n) k before room s l e =
    by (judged before room (entry_at t k)) refl (sym (entries-suc t n k before room) ∙ e) (entries-stored pool limit t n (suc k))
  where
    by : (x : Reply Row) → judged before room (entry_at t k) ≡ x → after_entry t n k before room x ≡ rows l
        → ((before : List Row) (room : ℕ) → Stored pool before room → (l : List Row) → entries t n (suc k) before room ≡ rows l → Stored pool l 0) → Stored pool l 0
    by (refused m) p q ih = let z : ◌≡◌ {A = ℕ} 0 1 = cc in absurd (omega arith)
    by (answer r) p q ih =
        let h = entry-sound before room (entry_at t k) r s.all_sound (omega arith) p in
        let whole = (sound-valid r h.0).whole in
        ih (before ++ (r ∷ [])) (room - r.period)
        (record {
          all_sound = λ c m. ⊎_elim (s.all_sound c) (λ i. subst (λ (c : Row). sound c ≡ true) (sym (Memᴰ.eq_of_singleton i)) h.0) (Memᴰ.append_cases before m);
          fit = omega (arith, joined_length before r);
        }) l q

pub outcome-stored : (t : List ℤ) (headings pool : ℕ) (l : List Row) → outcome t headings pool ≡ rows l → Stored pool l 0
outcome-stored t headings pool l e = by (admitted t headings pool) refl (sym (outcome-is t headings pool) ∙ e)
  where
    by : (x : Reply ℕ) → admitted t headings pool ≡ x → after_table t pool x ≡ rows l → Stored pool l 0
    by (refused m) p q = let z : ◌≡◌ {A = ℕ} 0 1 = cc in absurd (omega arith)
    by (answer n) p q =
        let r₁ = require-answer 1 (eqb (length t % 6) 0 && (leb 1 (length t / 6) && leb (length t / 6) entry_limit)) _ p in
        let r₂ = require-answer 2 (leb (length t / 6) headings) _ r₁.1 in
        let r₃ = require-answer 3 (leb pool pool_limit) _ r₂.1 in
        entries-stored pool ((leb-iff pool pool_limit).0 r₃.0) t n 0 [] pool (record { all_sound = λ r m. absurd (Memᴰ.not-nil m); fit = omega arith }) l q
