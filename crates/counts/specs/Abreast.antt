-- Four parts of a row whose labels are counted side by side.
use Rattle.std.specs.Prelude.{◌≡◌, List, ℕ, ◌+◌, ◌*◌, ◌≤◌, ℤ, get_or, drop}
use Rattle.calendar.specs.Meaning.{empty}
use Rattle.counts.specs.declared.Tops.{Tops}
use Rattle.counts.specs.Labels.{rises, greatest}

-- the parts before their first cells: the label at `start` is counted, and the others begin with b, c and d
abbrev pub begun : List ℤ → ℕ → ℤ → ℤ → ℤ → Tops
begun cells start b c d = record { count = 1; a = get_or cells start empty; b = b; c = c; d = d }

-- what is counted, and what is left where each part is passed up to its cell i, and they stand q cells apart
abbrev pub in_all : List ℤ → ℕ → ℕ → Tops → ℕ
in_all cells i q t =
    t.count + (rises t.a (drop i cells) + rises t.b (drop (i + q) cells)
    + (rises t.c (drop (i + q + q) cells) + rises t.d (drop (i + q + q + q) cells)))

-- from `from` at the cell i to `to` at the cell k nothing is lost
pub record Abreast (cells : List ℤ) (i k q : ℕ) (from to : Tops) : Type 0 where
  pub few : to.count + 4 * i ≤ from.count + 4 * k
  pub sum : in_all cells i q from ≡ in_all cells k q to
  pub a : greatest from.a (drop i cells) ≡ greatest to.a (drop k cells)
  pub b : greatest from.b (drop (i + q) cells) ≡ greatest to.b (drop (k + q) cells)
  pub c : greatest from.c (drop (i + q + q) cells) ≡ greatest to.c (drop (k + q + q) cells)
  pub d : greatest from.d (drop (i + q + q + q) cells) ≡ greatest to.d (drop (k + q + q + q) cells)
