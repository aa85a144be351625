-- Demands 2 and 3 read the table found: what opening gives is the text of a table's entries, which are read again from
-- it, and its sheet shows what that table means.
use mathlib.Core.Path.{◌≡◌}
use mathlib.Core.Option.{some}
use mathlib.Core.List.{List}
use Prim.Native.Nat.{ℕ}
use lib.IntN.{ℤ}
use Rattle.calendar.specs.Limits.{entry_limit}
use Rattle.algebra.specs.TableMeaning.{TableReply, TableMeans}
use Rattle.table_text.specs.Text.{sheet_pool, joined, TextOf}
use Rattle.table_text.specs.Parse.{parse}
use Rattle.table_text.specs.Parse.Reading.{table}
use Rattle.table_text.specs.Sheet.{sheet}
use Rattle.table_text.proofs.Texts.{text-read}
use Rattle.sheet_text.specs.Prints.{LinesOf}
use Rattle.sheet_text.proofs.Demands.{sheet-shows}
use Rattle.journal.specs.Journal.{opened}
use Rattle.journal.specs.History.{Journal}
use Rattle.journal.proofs.Promises.{found-text}

pub record TableFound (s : List ℕ) : Type 0 where
  pub entries : List (List ℤ)
  pub text : TextOf entries s
  pub reads : parse s ≡ table (joined entries)
  pub shows : (m : TableReply) → TableMeans (joined entries) entry_limit sheet_pool m → LinesOf m (sheet s)

pub found-table : {book : List ℕ} → Journal book → (s : List ℕ) → opened book ≡ some s → TableFound s
found-table j s e =
    let (es, h, q) = found-text j s e in
    record { entries = es; text = h; reads = text-read es s h; shows = λ m t. sheet-shows s es h m t }
