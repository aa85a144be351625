-- A row's line, word by word.
use mathlib.Core.Path.{◌≡◌, refl, sym, ap, ◌∙◌}
use mathlib.Core.List.{List, [], ◌∷◌, ◌++◌, map, append_assoc, append-nil}
use Prim.Native.Nat.{ℕ, ◌+◌, ◌<◌}
use native.Mathlib.Numerals.{add-one}
use lib.IntN.{ℤ, pos}
use lib.ListN.{length, get_or, take}
use lib.Seq.{take-suc}
use Rattle.table_text.specs.Numerals.{decimal}
use Rattle.table_text.specs.Words.{space, line_feed, joined_by, line}
use Rattle.table_text.specs.SheetWords.{cell_word, refused_word, at_word}
use Rattle.table_text.proofs.Printed.{row_words_lem}
use Rattle.sheet_lines.specs.RowLines.{spaced_cells, row_line, refusal_line}

spaced-append : (l m : List ℤ) → spaced_cells (l ++ m) ≡ spaced_cells l ++ spaced_cells m
spaced-append [] m = refl
spaced-append (z ∷ l) m = ap (λ (w : List ℕ). space ∷ (cell_word z ++ w)) (spaced-append l m) ∙ ap (λ (w : List ℕ). space ∷ w) (sym (append_assoc (cell_word z) (spaced_cells l) (spaced_cells m)))

-- one cell more
pub spaced-more : (l : List ℤ) (i : ℕ) (z : ℤ) → i < length l → z ≡ get_or l i (pos 0) → (t : List ℕ)
    → ((t ++ spaced_cells (take i l)) ++ (space ∷ [])) ++ cell_word z ≡ t ++ spaced_cells (take (i + 1) l)
spaced-more l i z h e t =
    append_assoc (t ++ spaced_cells (take i l)) (space ∷ []) (cell_word z)
    ∙ append_assoc t (spaced_cells (take i l)) (space ∷ cell_word z)
    ∙ ap (λ (w : List ℕ). t ++ (spaced_cells (take i l) ++ (space ∷ w))) (sym (append-nil (cell_word z)))
    ∙ ap (λ (y : ℤ). t ++ (spaced_cells (take i l) ++ (space ∷ (cell_word y ++ [])))) e
    ∙ ap (λ (w : List ℕ). t ++ w) (sym (spaced-append (take i l) (get_or l i (pos 0) ∷ [])))
    ∙ ap (λ (m : List ℤ). t ++ spaced_cells m) (sym (take-suc l i (pos 0) h) ∙ ap (λ (n : ℕ). take n l) (sym (add-one i)))

spaced-words : (w : List ℕ) (l : List ℤ) → joined_by space (w ∷ map cell_word l) ≡ w ++ spaced_cells l
spaced-words w [] = sym (append-nil w)
spaced-words w (z ∷ l) = ap (λ (v : List ℕ). w ++ (space ∷ v)) (spaced-words (cell_word z) l)

pub row-line : (p d : ℕ) (l : List ℤ) (t : List ℕ) → ((((t ++ decimal p) ++ (space ∷ [])) ++ decimal d) ++ spaced_cells l) ++ (line_feed ∷ []) ≡ t ++ row_line (record { period = p; distance = d; cells = l })
row-line p d l t =
    simp append_assoc
    (ap (λ (w : List ℕ). t ++ w)
    (sym (ap line (row_words_lem (record { period = p; distance = d; cells = l }))
    ∙ append_assoc (decimal p) (space ∷ joined_by space (decimal d ∷ map cell_word l)) (line_feed ∷ [])
    ∙ ap (λ (v : List ℕ). decimal p ++ (space ∷ (v ++ (line_feed ∷ [])))) (spaced-words (decimal d) l)
    ∙ ap (λ (v : List ℕ). decimal p ++ (space ∷ v)) (append_assoc (decimal d) (spaced_cells l) (line_feed ∷ [])))))

-- one byte more of a word
pub word_more : (w : List ℕ) (i : ℕ) → i < length w → (t : List ℕ) → (t ++ take i w) ++ (get_or w i 0 ∷ []) ≡ t ++ take (i + 1) w
word_more w i h t = append_assoc t (take i w) (get_or w i 0 ∷ []) ∙ ap (λ (v : List ℕ). t ++ v) (sym (take-suc w i 0 h) ∙ ap (λ (n : ℕ). take n w) (sym (add-one i)))

-- "refused " and " at ", as the code has them
pub refusal-line : (n k : ℕ) (t : List ℕ)
    → ((((t ++ (refused_word ++ (space ∷ []))) ++ decimal n) ++ (space ∷ (at_word ++ (space ∷ [])))) ++ decimal k) ++ (line_feed ∷ []) ≡ t ++ refusal_line n k
refusal-line n k t = simp append_assoc
