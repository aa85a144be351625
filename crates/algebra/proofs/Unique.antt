-- What a table means is determined.
use mathlib.Core.Path.{◌≡◌, refl, ap, subst}
use mathlib.Core.List.{List, [], ◌∷◌, ◌++◌}
use Prim.Native.Nat.{ℕ, suc, ◌-◌}
use lib.IntN.{ℤ}
use lib.ListN.{get_or}
use Rattle.calendar.specs.Operation.{Operation, map_operation}
use Rattle.calendar.specs.Reply.{Reply}
use Rattle.calendar.specs.Reply.Reply.{refused}
use Rattle.calendar.specs.Table.{Entry}
use Rattle.granules.proofs.Replies.{answer≢refused}
use Rattle.algebra.specs.TableMeaning.{Meant, nothing, Judged, EntryJudged, Entries, TableReply, TableMeans}
use Rattle.algebra.specs.TableMeaning.EntryJudged.{unread, read}
use Rattle.algebra.specs.TableMeaning.Entries.{done, stop, next}
use Rattle.algebra.specs.TableMeaning.TableReply.{refused_at}
use Rattle.algebra.specs.TableMeaning.TableMeans.{not-admitted, entries}
use Rattle.algebra.proofs.Converted.{judged-unique}

-- an entry has one reply
entry-unique : {before : List Meant} {room : ℕ} {e : Entry} {x y : Reply Meant} → EntryJudged before room e x → EntryJudged before room e y → x ≡ y
entry-unique (unread {n = m} p) (unread {n} q) = ap refused (cc)
entry-unique (unread p) (read q j) = absurd (answer≢refused q p)
entry-unique (read p i) (unread q) = absurd (answer≢refused p q)
entry-unique {before} {room} {x} {y} (read {o} p i) (read {o = o'} q j) =
    let e : o' ≡ o = cc in
    judged-unique (map_operation (λ k. get_or before k nothing) o) room x y i (subst (λ (o : Operation ℕ). Judged (map_operation (λ k. get_or before k nothing) o) room y) e j)

entries-unique : {t : List ℤ} {n k room : ℕ} {before : List Meant} {x y : TableReply} → Entries t n k before room x → Entries t n k before room y → x ≡ y
entries-unique done done = refl
entries-unique {k} (stop i) (stop j) = ap (λ (m : ℕ). refused_at m k) (cc (entry-unique i j))
entries-unique (stop i) (next j l) = absurd (answer≢refused refl (entry-unique j i))
entries-unique (next i l) (stop j) = absurd (answer≢refused refl (entry-unique i j))
entries-unique {t} {k} {room} {before} {y} (next {n} {m} i l) (next {m = m'} j l') =
    let e : m' ≡ m = cc (entry-unique i j) in
    entries-unique l (subst (λ (m : Meant). Entries t n (suc k) (before ++ (m ∷ [])) (room - m.turn.period) y) e l')

pub table-unique : {t : List ℤ} {headings pool : ℕ} {x y : TableReply} → TableMeans t headings pool x → TableMeans t headings pool y → x ≡ y
table-unique (not-admitted p) (not-admitted q) = ap (λ (m : ℕ). refused_at m 0) (cc)
table-unique (not-admitted p) (entries q j) = absurd (answer≢refused q p)
table-unique (entries p i) (not-admitted q) = absurd (answer≢refused p q)
table-unique {t} {pool} {y} (entries {n} p i) (entries {n = n'} q j) =
    let e : n' ≡ n = cc in
    entries-unique i (subst (λ (n : ℕ). Entries t n 0 [] pool y) e j)
