-- What the check of finished lists decides, by what the table means.
-- Assumes nothing.
use mathlib.Core.Path.{◌≡◌, refl}
use mathlib.Core.Logic.{◌↔◌}
use mathlib.Core.List.{List}
use Prim.Native.Nat.{ℕ, ◌/◌}
use lib.IntN.{ℤ}
use lib.ListN.{length}
use Rattle.calendar.specs.Limits.{heading_length}
use Rattle.calendar.specs.Meaning.{Row}
use Rattle.calendar.specs.Outcome.{Outcome}
use Rattle.calendar.specs.Outcome.Outcome.{rows}
use Rattle.calendar.specs.Stored.{headings_after, pool_after}
use Rattle.algebra.specs.TableMeaning.{Meant, TableReply, TableMeans}
use Rattle.algebra.specs.TableMeaning.TableReply.{refused_at, means}
use Rattle.algebra.specs.Agrees.{Agrees}
use Rattle.algebra.proofs.Demand2 as definitions
use Rattle.conversion.specs.Conversion.{Converted}
use Rattle.conversion.specs.Shows.{ShowsRows}
use Rattle.conversion.specs.Left.{Left}
use Rattle.conversion.proofs.LeftRows.{shows-rows}
use Rattle.conversion.proofs.Demands.{demand-2-only, converted-means}
use Rattle.verdicts.specs.Check.{check}
use Rattle.verdicts.specs.Begins.{converts, first_entries, Begins}
use Rattle.verdicts.specs.declared.Verdict.TheVariants.{Accepted, Refused}
use Rattle.verdicts.proofs.Shown.{numbers-same, cells_same}
use Rattle.verdicts.proofs.Checked.{accepted-iff, refused-iff}

module _ (t : List ℤ) (headings : List ℕ) (pool : List ℤ) where
  abbrev H : ℕ
  H = length headings

  abbrev P : ℕ
  P = length pool

  -- ---- accepted

  -- the entries mean these calendars, and the lists show them as a conversion would leave them
  abbrev ShowsTable : Type 0
  ShowsTable = (ms : List Meant) × TableMeans t (H / heading_length) P (means ms) × ShowsRows ms H P Converted headings pool

  shows : check t headings pool ≡ Accepted → ShowsTable
  shows e =
      let (l, o, numbers, cells) = (accepted-iff t headings pool).0 e in
      let left : Left t H P Converted headings pool = rw o (record { answer = refl; numbers = numbers; cells = cells }) in
      let m = converted-means t H P headings pool left in
      (m.0, m.1, demand-2-only t H P Converted headings pool left (means m.0) m.1)

  shown : ShowsTable → check t headings pool ≡ Accepted
  shown (ms, m, s) = by (converts t headings pool) refl (definitions.demand-2-only t (H / heading_length) P (means ms) m)
    where
      by : (o : Outcome) → converts t headings pool ≡ o → Agrees (means ms) o → check t headings pool ≡ Accepted
      by (Outcome.refused_at n k) e a = absurd a
      by (rows l) e a =
          let s' = shows-rows t H P l e ms m a in
          (accepted-iff t headings pool).1 (
            l,
            e,
            numbers-same ms H P Converted Converted headings (headings_after H (rows l)) pool (pool_after P (rows l)) s s',
            cells_same ms H P Converted Converted headings (headings_after H (rows l)) pool (pool_after P (rows l)) s s',
          )

  -- ---- refused

  abbrev RightBefore : ℕ → Type 0
  RightBefore k = (l : List Row) × (first_entries t k P ≡ rows l) × Begins l headings pool

  refusal-meant : (m k : ℕ) → converts t headings pool ≡ Outcome.refused_at m k → TableMeans t (H / heading_length) P (refused_at m k)
  refusal-meant m k e = let d = definitions.demand-2 t (H / heading_length) P in by d.0 d.1 (rw e at d.2)
    where
      by : (x : TableReply) → TableMeans t (H / heading_length) P x → Agrees x (Outcome.refused_at m k) → TableMeans t (H / heading_length) P (refused_at m k)
      by (refused_at n l) h (a, b) = rw (← a, ← b) h
      by (means ms) h a = absurd a

  refusal-found : (m k : ℕ) → TableMeans t (H / heading_length) P (refused_at m k) → converts t headings pool ≡ Outcome.refused_at m k
  refusal-found m k h = by (converts t headings pool) (definitions.demand-2-only t (H / heading_length) P (refused_at m k) h)
    where
      by : (o : Outcome) → Agrees (refused_at m k) o → o ≡ Outcome.refused_at m k
      by (Outcome.refused_at n l) (a, b) = rw (a, b) refl
      by (rows l) a = absurd a

-- "A checker shall accept them, whoever made them, exactly when our conversion answers the table and they are what it would leave": the lists show the
-- calendars that the entries mean, in the least form
pub accepted-means : (t : List ℤ) (headings : List ℕ) (pool : List ℤ)
    → (check t headings pool ≡ Accepted)
    ↔ ((ms : List Meant)
    × TableMeans t (length headings / heading_length) (length pool) (means ms)
    × ShowsRows ms (length headings) (length pool) Converted headings pool)
accepted-means t headings pool = (shows t headings pool, shown t headings pool)

-- "a refusal is answered with its number and entry": the one that the table means, where headings and rows of all earlier entries are right
pub refused-means : (t : List ℤ) (headings : List ℕ) (pool : List ℤ) (m k : ℕ)
    → (check t headings pool ≡ Refused m k)
    ↔ (TableMeans t (length headings / heading_length) (length pool) (refused_at m k)
    × ((l : List Row) × (first_entries t k (length pool) ≡ rows l) × Begins l headings pool))
refused-means t headings pool m k =
    let i = refused-iff t headings pool m k in (
      λ e. let q = i.0 e in (refusal-meant t headings pool m k q.0, q.1),
      λ h. i.1 (refusal-found t headings pool m k h.0, h.1),
    )
