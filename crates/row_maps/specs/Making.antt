-- The open map of a row (document 02, Req 12).
use Rattle.calendar.specs.declared.Refusal.{Refusal}
use Rattle.std.proofs.Math.Option.{Option, none, some}
use Rattle.std.specs.Prelude.{◌&&◌, cond, List, [], ◌∷◌, ℕ, zero, suc, ◌+◌, ◌*◌, ◌^◌, eqb, ℤ, length, get_or, replicate, Err, Ok, Result, ⊤}
use Rattle.calendar.specs.Meaning.{Row, empty, is_empty}
use Rattle.calendar.specs.Reply.{Reply, require}
use Rattle.calendar.specs.Reply.Reply.{refused, answer}
use Rattle.calendar.specs.Sound.{sound}
use Rattle.calendar.specs.Refusals.{number_of}
use Rattle.bitmaps.specs.Cells.{words_for}

-- 1 where the cell c has a label, and 0 elsewhere and past the last cell
abbrev pub labelled : List ℤ → ℕ → ℕ
labelled cells c = cond (is_empty (get_or cells c empty)) 0 1

-- the number whose bits are f at 0, 1, .. and n − 1
unfoldable pub packed : (ℕ → ℕ) → ℕ → ℕ
packed f zero = 0
packed f (suc n) = packed f n + f n * 2 ^ n

-- f at k, k + 1, .. : n of them
unfoldable pub listed : (ℕ → ℕ) → ℕ → ℕ → List ℕ
listed f k zero = []
listed f k (suc n) = f k ∷ listed f (suc k) n

-- the word i of a row's map: "cell c has weight 2^(c mod 64) in word floor(c/64)"
unfoldable pub word_of : List ℤ → ℕ → ℕ
unfolding packed
word_of cells i = packed (λ k. labelled cells (64 * i + k)) 64

unfoldable pub map_of : List ℤ → List ℕ
unfolding word_of listed
map_of cells = listed (word_of cells) 0 (words_for (length cells))

-- "Making the map takes a row and tests it by 13; a map list of the wrong length is 13 too": a list of n words
unfoldable pub map_reply : Row → ℕ → Reply (List ℕ)
unfolding sound map_of
map_reply r n = require 13 (sound r && eqb n (words_for r.period)) (answer (map_of r.cells))

-- the list then: "left all zero, as after any refusal there"
abbrev pub map_after : ℕ → Reply (List ℕ) → List ℕ
map_after n (refused k) = replicate n 0
map_after n (answer words) = words

-- the number of a refusal, or none
abbrev pub refusal : Reply (List ℕ) → Option ℕ
refusal (refused n) = some n
refusal (answer words) = none

abbrev pub made : Result ⊤ Refusal → Option ℕ
made (Ok tt) = none
made (Err x) = some (number_of x)
