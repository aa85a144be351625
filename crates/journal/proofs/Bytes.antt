-- The bytes of a table's text are all below 128.
use mathlib.Core.Path.{sym, subst}
use mathlib.Core.List.{List, [], ◌∷◌, map}
use Prim.Native.Nat.{ℕ, zero, suc, ◌<◌}
use native.Mathlib.Omega.{arith}
use lib.IntN.{ℤ}
use lib.ListN.{get_or}
use Rattle.table_text.specs.Numerals.{numeral}
use Rattle.table_text.specs.Words.{space, line_feed, joined_by}
use Rattle.table_text.specs.Text.{TextOf, entry_line, written}
use Rattle.table_text.proofs.Numbers.{Each, Visible, numeral-visible}
use Rattle.table_text.proofs.Pieces.{EachPiece, each_append, each-joined}
use Rattle.journal.specs.Journal.{byte_at}

-- "its bytes are all below 128"
abbrev pub Plain : List ℕ → Type 0
Plain s = (i : ℕ) → byte_at s i < 128

abbrev Small : ℕ → Type 0
Small b = b < 128

visible-small : (w : List ℕ) → Each Visible w → Each Small w
visible-small [] h = tt
visible-small (b ∷ w) h = (h.0.1, visible-small w h.1)

numerals-small : (e : List ℤ) → EachPiece Small (map numeral e)
numerals-small [] = tt
numerals-small (z ∷ e) = (visible-small (numeral z) (numeral-visible z), numerals-small e)

line_small : (e : List ℤ) → Each Small (entry_line e)
line_small e =
    each_append Small (joined_by space (map numeral e)) (line_feed ∷ [])
    (each-joined Small space (omega arith) (map numeral e) (numerals-small e)) (omega arith, tt)

written_small : (es : List (List ℤ)) → Each Small (written es)
written_small [] = tt
written_small (e ∷ es) = each_append Small (entry_line e) (written es) (line_small e) (written_small es)

none-small : (i : ℕ) → get_or [] i 0 < 128
none-small zero = omega arith
none-small (suc i) = omega arith

small_plain : (s : List ℕ) → Each Small s → Plain s
small_plain [] h i = none-small i
small_plain (b ∷ s) h zero = h.0
small_plain (b ∷ s) h (suc i) = small_plain s h.1 i

pub text-plain : (es : List (List ℤ)) (s : List ℕ) → TextOf es s → Plain s
text-plain es s h = small_plain s (subst (Each Small) (sym h.text) (written_small es))
