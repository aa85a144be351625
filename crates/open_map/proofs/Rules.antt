-- What document 02 says of open instants, as theorems on the definitions: for every map that passes check 13.
-- Assumes nothing.
use mathlib.Core.Path.{◌≡◌}
use mathlib.Core.Bool.{true}
use native.Mathlib.Omega.{arith}
use lib.IntN.{ℤ, pos}
use lib.Signed.{◌≤ℤ◌, ◌<ℤ◌}
use Rattle.integers.proofs.Linear.{ints, ◌∴◌}
use Rattle.open_map.specs.Instants.{next_open, last_open}
use Rattle.open_map.specs.Maps.{Map, is_open, map_sound}
use Rattle.open_map.specs.Turns.{rank}
use Rattle.open_map.proofs.Ranks.{next-is-first, next-least, last-is-last, last-greatest}
use Rattle.open_map.proofs.Given.{Given, given}
use Rattle.open_map.proofs.Shown.{rank_step, rank-busy}

module _ (m : Map) (s : map_sound m ≡ true) where
  g : Given (pos m.period) m.words
  g = given (pos m.period) m.words s

  abbrev next : ℤ → ℤ
  next = next_open m.period (is_open m)

  abbrev last : ℤ → ℤ
  last = last_open m.period (is_open m)

  -- "the next open instant above x": it is open, above x, and no other is less
  pub next-rule : (x : ℤ) → (x <ℤ next x) × (is_open m (next x) ≡ true) × ((u : ℤ) → x <ℤ u → is_open m u ≡ true → next x ≤ℤ u)
  next-rule x =
      let busy = rank-busy m g.low g.some in
      let step = rank_step m g.low in
      let r = next-is-first (is_open m) (rank m) step m.period busy x in
      (r.from ∴ simp ints (omega arith), r.opens, next-least (is_open m) (rank m) step m.period busy x)

  -- "the last below x"
  pub last-rule : (x : ℤ) → (last x <ℤ x) × (is_open m (last x) ≡ true) × ((u : ℤ) → u <ℤ x → is_open m u ≡ true → u ≤ℤ last x)
  last-rule x =
      let busy = rank-busy m g.low g.some in
      let step = rank_step m g.low in
      let r = last-is-last (is_open m) (rank m) step m.period busy x in
      (r.before, r.opens, last-greatest (is_open m) (rank m) step m.period busy x)
