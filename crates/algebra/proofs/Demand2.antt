-- Demand 2 over the definitions: each entry's row means the very calendar that the algebra gives it, and no shorter period could; refusals are
-- given exactly under document 01's numbers.
use mathlib.Core.Path.{◌≡◌, refl, sym, ◌∙◌, ap, subst}
use mathlib.Core.Bool.{true}
use mathlib.Core.List.{List, [], ◌∷◌, ◌++◌, Memᴰ}
use Prim.Native.Nat.{ℕ, zero, suc, ◌-◌, ◌≤◌, ◌<◌}
use native.Mathlib.Omega.{arith}
use lib.IntN.{ℤ}
use lib.ListN.{length, get_or}
use Rattle.calendar.specs.Meaning.{Row, bottom_row}
use Rattle.calendar.specs.Operation.{Operation, map_operation}
use Rattle.calendar.specs.Size.{Turn}
use Rattle.calendar.specs.Sound.{sound}
use Rattle.calendar.specs.Reply.{Reply, and_then}
use Rattle.calendar.specs.Reply.Reply.{refused, answer}
use Rattle.calendar.specs.Table.{Entry, entry_at, named, admitted}
use Rattle.calendar.specs.Outcome.{converted, judged, at_rows, entries, outcome}
use Rattle.calendar.specs.Outcome.Outcome.{rows}
use Rattle.calendar.specs.Stored.{joined}
use Rattle.algebra.specs.TableMeaning.{Meant, nothing, EntryJudged, Entries, TableReply, TableMeans}
use Rattle.algebra.specs.TableMeaning.EntryJudged.{unread, read}
use Rattle.algebra.specs.TableMeaning.Entries.{done, stop, next}
use Rattle.algebra.specs.TableMeaning.TableReply.{refused_at, means}
use Rattle.algebra.specs.TableMeaning.TableMeans.{not-admitted, entries as by_entries}
use Rattle.algebra.specs.Represents.{Represents}
use Rattle.algebra.specs.Agrees.{RepresentsAll, Agrees}
use Rattle.algebra.proofs.Operations.{operands-weaken}
use Rattle.algebra.proofs.Converted.{JudgedAs, converted-judged}
use Rattle.algebra.proofs.Named.{named-operation}
use Rattle.algebra.proofs.Steps.{judged-is, after_entry, entries-zero, entries-suc, after_table, outcome-is}
use Rattle.algebra.proofs.Unique.{table-unique}
use Rattle.algebra.proofs.Stored.{outcome-stored}

-- what a table means is determined
pub table-meaning-unique : (t : List ℤ) (headings pool : ℕ) (x y : TableReply) → TableMeans t headings pool x → TableMeans t headings pool y → x ≡ y
table-meaning-unique t headings pool x y = table-unique

-- ---- rows that stand for calendars

pub represents-length : (ms : List Meant) (rs : List Row) → RepresentsAll ms rs → length ms ≡ length rs
represents-length [] [] h = refl
represents-length [] (r ∷ rs) h = absurd h
represents-length (m ∷ ms) [] h = absurd h
represents-length (m ∷ ms) (r ∷ rs) h = ap suc (represents-length ms rs h.1)

pub represents-at : (ms : List Meant) (rs : List Row) → RepresentsAll ms rs → (k : ℕ) → k < length rs → Represents (get_or ms k nothing) (get_or rs k bottom_row)
represents-at [] [] h k l = absurd (omega arith)
represents-at [] (r ∷ rs) h k l = absurd h
represents-at (m ∷ ms) [] h k l = absurd h
represents-at (m ∷ ms) (r ∷ rs) h zero l = h.0
represents-at (m ∷ ms) (r ∷ rs) h (suc k) l = represents-at ms rs h.1 k (omega arith)

represents-more : (ms : List Meant) (rs : List Row) (m : Meant) (r : Row) → RepresentsAll ms rs → Represents m r → RepresentsAll (ms ++ (m ∷ [])) (rs ++ (r ∷ []))
represents-more [] [] m r h k = (k, tt)
represents-more [] (s ∷ rs) m r h k = absurd h
represents-more (n ∷ ms) [] m r h k = absurd h
represents-more (n ∷ ms) (s ∷ rs) m r h k = (h.0, represents-more ms rs m r h.1 k)

-- ---- entry by entry

-- the reply over rows is one over calendars
abbrev EntryJudgedAs : List Meant → ℕ → Entry → Reply Row → Type 0
EntryJudgedAs ms room e (refused n) = EntryJudged ms room e (refused n)
EntryJudgedAs ms room e (answer r) = (m : Meant) × EntryJudged ms room e (answer m) × Represents m r

entry-judged : (ms : List Meant) (rs : List Row) → RepresentsAll ms rs → (room : ℕ) (e : Entry) → EntryJudgedAs ms room e (judged rs room e)
entry-judged ms rs h room e = subst (EntryJudgedAs ms room e) (sym (judged-is rs room e)) (by (named (length rs) e) refl)
  where
    same : named (length ms) e ≡ named (length rs) e
    same = ap (λ (k : ℕ). named k e) (represents-length ms rs h)

    read_as : {o : Operation ℕ} (x : Reply Row) → named (length ms) e ≡ answer o → JudgedAs (map_operation (λ k. get_or ms k nothing) o) room x → EntryJudgedAs ms room e x
    read_as (refused n) p j = read p j
    read_as (answer r) p (m, j, h) = (m, read p j, h)

    by : (x : Reply (Operation ℕ)) → named (length rs) e ≡ x → EntryJudgedAs ms room e (and_then x (λ o. converted (at_rows rs o) room))
    by (refused n) p = unread (same ∙ p)
    by (answer o) p =
        let n = named-operation (length rs) e o p in
        read_as (converted (at_rows rs o) room) (same ∙ p)
        (converted-judged o (λ k. get_or ms k nothing) (λ k. get_or rs k bottom_row) room (operands-weaken (represents-at ms rs h) o n.1) n.0)

entries-mean : (t : List ℤ) (n k : ℕ) (ms : List Meant) (rs : List Row) (room : ℕ) → RepresentsAll ms rs
    → (x : TableReply) × Entries t n k ms room x × Agrees x (entries t n k rs room)
entries-mean t zero k ms rs room h = (means ms, done, subst (Agrees (means ms)) (sym (entries-zero t k rs room)) h)
entries-mean t (suc n) k ms rs room h =
    let a = by (judged rs room (entry_at t k)) (entry-judged ms rs h room (entry_at t k)) (entries-mean t n (suc k)) in
    (a.0, a.1, subst (Agrees a.0) (sym (entries-suc t n k rs room)) a.2)
  where
    by : (x : Reply Row) → EntryJudgedAs ms room (entry_at t k) x
        → ((ms : List Meant) (rs : List Row) (room : ℕ) → RepresentsAll ms rs → (x : TableReply) × Entries t n (suc k) ms room x × Agrees x (entries t n (suc k) rs room))
        → (y : TableReply) × Entries t (suc n) k ms room y × Agrees y (after_entry t n k rs room x)
    by (refused m) j ih = (refused_at m k, stop j, (refl, refl))
    by (answer r) (m, j, rep) ih =
        let a = ih (ms ++ (m ∷ [])) (rs ++ (r ∷ [])) (room - r.period) (represents-more ms rs m r h rep) in
        let same : r.period ≡ m.turn.period = ap (λ (p : Turn). p.period) (sym rep.turn) in
        (a.0, next j (subst (λ (p : ℕ). Entries t n (suc k) (ms ++ (m ∷ [])) (room - p) a.0) same a.1), a.2)

-- for every table, number of headings and pool length there is one meaning, and the outcome is it
pub demand-2 : (t : List ℤ) (headings pool : ℕ) → (m : TableReply) × TableMeans t headings pool m × Agrees m (outcome t headings pool)
demand-2 t headings pool =
    let a = by (admitted t headings pool) refl in
    (a.0, a.1, subst (Agrees a.0) (sym (outcome-is t headings pool)) a.2)
  where
    by : (x : Reply ℕ) → admitted t headings pool ≡ x → (m : TableReply) × TableMeans t headings pool m × Agrees m (after_table t pool x)
    by (refused m) p = (refused_at m 0, not-admitted p, (refl, refl))
    by (answer n) p = let a = entries-mean t n 0 [] [] pool tt in (a.0, by_entries p a.1, a.2)

-- and so every meaning of the table is the outcome's
pub demand-2-only : (t : List ℤ) (headings pool : ℕ) (m : TableReply) → TableMeans t headings pool m → Agrees m (outcome t headings pool)
demand-2-only t headings pool m h =
    let d = demand-2 t headings pool in
    subst (λ (x : TableReply). Agrees x (outcome t headings pool)) (table-meaning-unique t headings pool d.0 m d.1 h) d.2

-- ---- what holds of every stored row

pub stored-sound : (t : List ℤ) (headings pool : ℕ) (l : List Row) → outcome t headings pool ≡ rows l → (r : Row) → Memᴰ r l → sound r ≡ true
stored-sound t headings pool l e = (outcome-stored t headings pool l e).all_sound

pub stored-fit : (t : List ℤ) (headings pool : ℕ) (l : List Row) → outcome t headings pool ≡ rows l → length (joined l) ≤ pool
stored-fit t headings pool l e = let s = outcome-stored t headings pool l e in omega arith
