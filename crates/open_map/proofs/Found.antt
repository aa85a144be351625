-- The open instant that a set cell stands for: the next and the last, by the turn and the cell of an instant.
-- Assumes nothing.
use Rattle.std.specs.Prelude.{None, Option, Some}
use mathlib.Core.Path.{◌≡◌, refl, sym, ◌∙◌, ap}
use mathlib.Core.Bool.{true}
use mathlib.Core.List.{List}
use Prim.Native.Nat.{ℕ, ◌+◌, ◌≤◌, ◌<◌}
use native.Mathlib.Omega.{arith}
use native.Mathlib.Decide.{dec_lt}
use borrow.Author.Tests.{eq-eqb}
use lib.IntN.{ℤ, pos, ◌+ℤ◌, ◌-ℤ◌, ◌*ℤ◌}
use Rattle.integers.specs.Parts.{up}
use Rattle.integers.proofs.Linear.{ints, ◌∴◌}
use Rattle.words.specs.Bits.{cell}
use Rattle.words.specs.Places.{Clear, Least, Greatest}
use Rattle.words.proofs.Tally.{tally-zero, tally-clear}
use Rattle.open_map.specs.Instants.{next_open, last_open}
use Rattle.open_map.specs.Maps.{Map, map_given, is_open}
use Rattle.open_map.specs.Turns.{rank, set_before}
use Rattle.open_map.proofs.Given.{Given}
use Rattle.open_map.proofs.Shown.{instant_of, rank-at, rank-end, open_at, rank_step, rank-busy}
use Rattle.open_map.proofs.Ranks.{next-is, last-is}

-- a place that is at no cell
pub nowhere : (p : Option ℕ) → ((i : ℕ) → ¬ (p ≡ Some i)) → p ≡ None
nowhere (Some i) h = absurd (h i refl)
nowhere None h = refl

module _ (period : ℤ) (words : List ℕ) (g : Given period words) where
  abbrev map : Map
  map = map_given period words

  -- a set cell is one of the period
  pub set_below : (i : ℕ) → cell words i ≡ 1 → i < up period
  set_below i e = by (dec_lt i (up period))
    where
      by : Dec (i < up period) → i < up period
      by (yes l) = l
      by (no l) = absurd (omega (arith, g.behind i (omega arith)))

  abbrev at : ℤ → ℕ → ℤ
  at = instant_of map g.low

  pub opens : (q : ℤ) (i : ℕ) → cell words i ≡ 1 → is_open map (at q i) ≡ true
  opens q i e = open_at map g.low q i (set_below i e) ∙ eq-eqb (cell words i) 1 e

  -- ---- the next
  next-by : (x t : ℤ) → is_open map t ≡ true → rank map t ≡ rank map (x +ℤ pos 1) → next_open (up period) (is_open map) x ≡ t
  next-by = next-is (is_open map) (rank map) (rank_step map g.low) (up period) (rank-busy map g.low g.some)

  pub next_here : (x q : ℤ) (c i : ℕ) → x +ℤ pos 1 ≡ at q c → c < up period → Least (cell words) c i → next_open (up period) (is_open map) x ≡ at q i
  next_here x q c i e h l =
      next-by x (at q i) (opens q i l.set)
      (rank-at map g.low q i (set_below i l.set)
      ∙ ap (λ (n : ℕ). pos (set_before map (up period)) *ℤ q +ℤ pos n) (tally-clear (cell words) c i l.from l.before)
      ∙ sym (ap (rank map) e ∙ rank-at map g.low q c h))

  pub next-turn : (x q : ℤ) (c i : ℕ) → x +ℤ pos 1 ≡ at q c → c < up period → ((j : ℕ) → c ≤ j → cell words j ≡ 0) → Least (cell words) 0 i
      → next_open (up period) (is_open map) x ≡ at (q +ℤ pos 1) i
  next-turn x q c i e h f l =
      let none = tally-clear (cell words) 0 i l.from l.before in
      let all = tally-clear (cell words) c (up period) (omega arith) (λ j a b. f j a) in
      next-by x (at (q +ℤ pos 1) i) (opens (q +ℤ pos 1) i l.set)
      (rank-at map g.low (q +ℤ pos 1) i (set_below i l.set)
      ∙ ((ap (rank map) e ∙ rank-at map g.low q c h) ∴ none ∴ all ∴ tally-zero (cell words) ∴ simp ints (omega arith)))

  -- ---- the last
  last-by : (x t : ℤ) → is_open map t ≡ true → rank map (t +ℤ pos 1) ≡ rank map x → last_open (up period) (is_open map) x ≡ t
  last-by = last-is (is_open map) (rank map) (rank_step map g.low) (up period) (rank-busy map g.low g.some)

  behind-it : (q : ℤ) (i : ℕ) → at q i +ℤ pos 1 ≡ at q (i + 1)
  behind-it q i = simp ints (omega arith)

  pub last-here : (x q : ℤ) (c i : ℕ) → x ≡ at q c → c < up period → Greatest (cell words) c i → last_open (up period) (is_open map) x ≡ at q i
  last-here x q c i e h l =
      last-by x (at q i) (opens q i l.set)
      (ap (rank map) (behind-it q i) ∙ rank-at map g.low q (i + 1) (omega (arith, l.below))
      ∙ ap (λ (n : ℕ). pos (set_before map (up period)) *ℤ q +ℤ pos n) (sym (tally-clear (cell words) (i + 1) c (omega (arith, l.below)) (λ j a b. l.after j (omega arith) b)))
      ∙ sym (ap (rank map) e ∙ rank-at map g.low q c h))

  pub last_turn : (x q : ℤ) (c i : ℕ) → x ≡ at q c → c < up period → Clear (cell words) 0 c → Greatest (cell words) (up period) i
      → last_open (up period) (is_open map) x ≡ at (q -ℤ pos 1) i
  last_turn x q c i e h f l =
      let none = tally-clear (cell words) 0 c (omega arith) f in
      let all = tally-clear (cell words) (i + 1) (up period) (omega (arith, l.below)) (λ j a b. l.after j (omega arith) b) in
      last-by x (at (q -ℤ pos 1) i) (opens (q -ℤ pos 1) i l.set)
      (ap (rank map) (behind-it (q -ℤ pos 1) i) ∙ rank-end map g.low (q -ℤ pos 1) (i + 1) (omega (arith, l.below))
      ∙ ((ap (rank map) e ∙ rank-at map g.low q c h) ∴ none ∴ all ∴ tally-zero (cell words) ∴ simp ints (omega arith)))
