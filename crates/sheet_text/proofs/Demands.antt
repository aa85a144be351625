-- A sheet shows what the text's table means, or names its first bad line.
-- Assumes nothing.
use Rattle.std.specs.Prelude.{Option}
use mathlib.Core.Path.{◌≡◌, refl, sym, ◌∙◌, ap, ap₂, subst}
use mathlib.Core.Logic.{inl, inr}
use mathlib.Core.List.{List}
use Prim.Native.Nat.{ℕ}
use native.Mathlib.Omega.{arith}
use lib.IntN.{ℤ}
use Rattle.calendar.specs.Limits.{entry_limit}
use Rattle.calendar.specs.Outcome.{Outcome, outcome}
use Rattle.algebra.specs.Agrees.{Agrees}
use Rattle.algebra.specs.TableMeaning.{TableReply, TableMeans}
use Rattle.algebra.specs.TableMeaning.TableReply.{refused_at, means}
use Rattle.algebra.proofs.Demand2.{demand-2, demand-2-only, represents-length, represents-at}
use Rattle.table_text.specs.Words.{lines}
use Rattle.table_text.specs.Text.{sheet_pool, joined, TextOf}
use Rattle.table_text.specs.Parse.{Reading, parse}
use Rattle.table_text.specs.Parse.Reading.{bad, table}
use Rattle.table_text.specs.Sheet.{printed, sheet}
use Rattle.table_text.proofs.Texts.{text-back, text-read, bad-back}
use Rattle.table_text.proofs.Printed.{row-lines, printed-lines}
use Rattle.sheet_lines.specs.RowLines.{refusal_line}
use Rattle.sheet_text.specs.Prints.{LinesOf, Prints, SheetShows}
use Rattle.sheet_text.specs.Left.{SheetLeft}
use Rattle.sheet_text.proofs.Rows.{refused-line}
use Rattle.sheet_text.proofs.Texts.{outcome_of, sheet-is}

-- what agrees with the meaning is printed as its lines
agreed-lines : (m : TableReply) (o : Outcome) → Agrees m o → LinesOf m (printed o)
agreed-lines (refused_at n k) (Outcome.refused_at m j) (e, f) = sym (ap₂ refusal_line e f ∙ refused-line m j)
agreed-lines (refused_at n k) (Outcome.rows l) a = absurd a
agreed-lines (means ms) (Outcome.refused_at m j) a = absurd a
agreed-lines (means ms) (Outcome.rows l) a =
    let e = represents-length ms l a in
    (l, sym e, λ k b. represents-at ms l a k (omega arith), printed-lines (Outcome.rows l) ∙ ap lines (row-lines l))

-- the sheet of a text of entries, by whatever its table means
pub sheet-shows : (s : List ℕ) (es : List (List ℤ)) → TextOf es s → (m : TableReply) → TableMeans (joined es) entry_limit sheet_pool m → LinesOf m (sheet s)
sheet-shows s es h m t =
    subst (LinesOf m) (sym (sheet-is s ∙ ap (λ (r : Reading). printed (outcome_of r)) (text-read es s h)))
    (agreed-lines m (outcome (joined es) entry_limit sheet_pool) (demand-2-only (joined es) entry_limit sheet_pool m t))

-- what is printed for any text is what is to be printed
pub sheet-prints : (s : List ℕ) → Prints s (sheet s)
sheet-prints s = by (parse s) refl
  where
    by : (r : Reading) → parse s ≡ r → Prints s (sheet s)
    by (bad k) e = inl (k, bad-back s k e, sheet-is s ∙ ap (λ (r : Reading). printed (outcome_of r)) e ∙ sym (refused-line _ k))
    by (table t) e =
        let (es, h, q) = text-back s t e in
        let d = demand-2 (joined es) entry_limit sheet_pool in
        inr (es, h, (d.0, d.1, sheet-shows s es h d.0 d.1))

-- and so the list that `sheet` leaves shows it
pub left-shows : (s : List ℕ) (m : ℕ) (r : Option ℕ) (out : List ℕ) → SheetLeft s m r out → SheetShows s m r out
left-shows s m r out left = record { text = sheet s; prints = sheet-prints s; answer = left.answer; bytes = left.bytes }
