-- Every entry of an answered table is an operation that is allowed over the calendars of earlier entries, and means its result.
use mathlib.Core.Path.{◌≡◌, refl, sym, ap, subst, subst₂}
use mathlib.Core.List.{List, [], ◌∷◌, ◌++◌}
use Prim.Native.Nat.{ℕ, ◌<◌}
use native.Mathlib.Decide.{dec_lt}
use native.Mathlib.Omega.{arith}
use lib.IntN.{ℤ}
use lib.ListN.{length, get_or, length-append, get_or-append}
use lib.Seq.{get_or-append_seam}
use Rattle.calendar.specs.Meaning.{Calendar}
use Rattle.calendar.specs.Operation.{Operation, map_operation}
use Rattle.calendar.specs.Reply.Reply.{answer}
use Rattle.calendar.specs.Table.{entry_at, named}
use Rattle.algebra.specs.Ready.{Operands}
use Rattle.algebra.specs.Factor.{Factor}
use Rattle.algebra.specs.TableMeaning.{Meant, nothing, calendars, Judged, EntryJudged, Entries, TableMeans}
use Rattle.algebra.specs.TableMeaning.Judged.{answered}
use Rattle.algebra.specs.TableMeaning.EntryJudged.{read}
use Rattle.algebra.specs.TableMeaning.Entries.{done, next}
use Rattle.algebra.specs.TableMeaning.TableReply.{means}
use Rattle.algebra.specs.TableMeaning.TableMeans.{entries}
use Rattle.algebra.proofs.Operations.{operands-weaken, factor-map, map-operands}
use Rattle.algebra.proofs.Named.{named-operation}
use Rattle.laws.specs.Terms.{Defined}
use Rattle.laws.specs.Matches.{calendar_at}

-- an operation over entry numbers, at the calendars of these entries
abbrev pub at_calendars : List Meant → Operation ℕ → Operation Calendar
at_calendars ms o = calendars (map_operation (λ j. get_or ms j nothing) o)

-- what entry k names is allowed over the calendars of the entries, and its result is the calendar of entry k
abbrev pub EntryDefined : List ℤ → List Meant → ℕ → Type 0
EntryDefined t ms k = (o : Operation ℕ) → named k (entry_at t k) ≡ answer o → Defined (at_calendars ms o) (calendar_at ms k)

judged-defined : {o : Operation Meant} {room : ℕ} {m : Meant} → Factor o → Judged o room (answer m) → Defined (calendars o) m.calendar
judged-defined {o} f (answered w range result calendar turn) = record {
  factor = factor-map (λ m. m.calendar) o f;
  full = w.before.before.before.before.full;
  aligned = w.before.before.aligned;
  kept = w.before.kept;
  result = result;
  calendar = calendar;
}

-- an operation over these entries keeps its operands where more entries follow
operands-before : (ms more : List Meant) (o : Operation ℕ) → Operands (λ j. j < length ms) o → at_calendars ms o ≡ at_calendars (ms ++ more) o
operands-before ms more o h =
    map-operands (λ j. get_or ms j nothing) (λ j. get_or (ms ++ more) j nothing) (λ m. m.calendar) (λ m. m.calendar) o
    (operands-weaken (λ j l. ap (λ (m : Meant). m.calendar) (sym (get_or-append ms more nothing j l))) o h)

-- the entry that was answered behind those before it
entry-defined : {before : List Meant} {room : ℕ} {m : Meant} (t : List ℤ) → EntryJudged before room (entry_at t (length before)) (answer m)
    → EntryDefined t (before ++ (m ∷ [])) (length before)
entry-defined {before} {room} {m} t (read {o = p} q j) o e =
    let same : p ≡ o = cc in
    let n = named-operation (length before) (entry_at t (length before)) p q in
    let at : ℕ → Meant = λ j. get_or before j nothing in
    subst (λ (o : Operation ℕ). Defined (at_calendars (before ++ (m ∷ [])) o) (calendar_at (before ++ (m ∷ [])) (length before))) same
    (subst₂ Defined (operands-before before (m ∷ []) p n.1) (ap (λ (m : Meant). m.calendar) (sym (get_or-append_seam before m [] nothing)))
    (judged-defined (factor-map at p n.0) j))

-- and one of those before it
entry-before : (t : List ℤ) (ms more : List Meant) (k : ℕ) → k < length ms → EntryDefined t ms k → EntryDefined t (ms ++ more) k
entry-before t ms more k l d o e =
    let earlier = operands-weaken {Q = λ j. j < length ms} (λ j h. omega arith) o (named-operation k (entry_at t k) o e).1 in
    subst₂ Defined (operands-before ms more o earlier) (ap (λ (m : Meant). m.calendar) (sym (get_or-append ms more nothing k l))) (d o e)

entries-defined : {t : List ℤ} {n k room : ℕ} {before ms : List Meant} → Entries t n k before room (means ms) → k ≡ length before
    → ((i : ℕ) → i < length before → EntryDefined t before i) → (i : ℕ) → i < length ms → EntryDefined t ms i
entries-defined done e d = d
entries-defined {t} {before} (next {k} {room} {m} j l) e d = entries-defined l (simp length-append (omega arith)) (λ i h. by i h (dec_lt i (length before)))
  where
    by : (i : ℕ) → i < length (before ++ (m ∷ [])) → Dec (i < length before) → EntryDefined t (before ++ (m ∷ [])) i
    by i h (yes l) = entry-before t before (m ∷ []) i l (d i l)
    by i h (no n) =
        let is : i ≡ length before = omega (arith, length-append before (m ∷ [])) in
        subst (EntryDefined t (before ++ (m ∷ []))) (sym is)
        (entry-defined t (subst (λ (k : ℕ). EntryJudged before room (entry_at t k) (answer m)) e j))

pub table-defined : {t : List ℤ} {headings pool : ℕ} {ms : List Meant} → TableMeans t headings pool (means ms)
    → (k : ℕ) → k < length ms → EntryDefined t ms k
table-defined (entries p l) = entries-defined l refl (λ i h. absurd (omega arith))
