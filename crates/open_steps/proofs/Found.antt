-- The n-th open instant of a map, by the ranks that the map gives.
-- Assumes nothing.
use mathlib.Core.Path.{◌≡◌, ◌∙◌, ap, subst}
use mathlib.Core.Bool.{true}
use mathlib.Core.Option.{some}
use mathlib.Core.List.{List}
use Prim.Native.Nat.{ℕ, zero, suc, ◌*◌, ◌<◌}
use native.Mathlib.Omega.{arith}
use lib.Signed.{◌<ℤ◌}
use lib.IntN.{ℤ, pos, negsuc, ◌+ℤ◌, ◌-ℤ◌, ◌*ℤ◌}
use Rattle.integers.specs.Parts.{up}
use Rattle.integers.proofs.Linear.{ints, ◌∴◌}
use Rattle.calendar.specs.Lists.{only}
use lib.ListN.{length}
use Rattle.words.specs.Bits.{cell, tally}
use Rattle.words.proofs.Tally.{tally-clear}
use Rattle.open_map.specs.Instants.{next_open, last_open}
use Rattle.open_map.specs.Maps.{Map, map_given, is_open}
use Rattle.open_map.specs.Turns.{rank, set_before}
use Rattle.open_map.proofs.Given.{Given, within}
use Rattle.open_map.proofs.Shown.{instant_of, rank-at, rank_step, rank-busy}
use Rattle.open_map.proofs.Found.{set_below, opens}
use Rattle.open_steps.specs.Steps.{steps, nth_open}
use Rattle.open_steps.specs.Ranked.{Nth, OpenFrom}
use Rattle.open_steps.proofs.Ranks.{nth_after, nth-before}

module _ (period : ℤ) (words : List ℕ) (g : Given period words) where
  abbrev map : Map
  map = map_given period words

  abbrev at : ℤ → ℕ → ℤ
  at = instant_of map g.low

  -- ---- n steps
  nth-after-by : (n : ℕ) (x t : ℤ) → is_open map t ≡ true → rank map t ≡ rank map (x +ℤ pos 1) +ℤ pos n → steps (next_open (up period) (is_open map)) (suc n) x ≡ t
  nth-after-by = nth_after (is_open map) (rank map) (rank_step map g.low) (up period) (rank-busy map g.low g.some)

  nth-before-by : (n : ℕ) (x t : ℤ) → is_open map t ≡ true → rank map t +ℤ pos (suc n) ≡ rank map x → steps (last_open (up period) (is_open map)) (suc n) x ≡ t
  nth-before-by = nth-before (is_open map) (rank map) (rank_step map g.low) (up period) (rank-busy map g.low g.some)

  pub nth-forward : (x n u : ℤ) → pos 0 <ℤ n → OpenFrom map (x +ℤ pos 1) (n -ℤ pos 1) u → nth_open (up period) (is_open map) x n ≡ some u
  unfolding nth_open
  nth-forward x (pos zero) u h o = absurd (h ∴ simp ints (omega arith))
  nth-forward x (pos (suc n)) u h o = ap some (nth-after-by n x u o.opens (o.ranked ∴ simp ints (omega arith)))
  nth-forward x (negsuc n) u h o = absurd h.lt

  pub nth-back : (x n u : ℤ) → n <ℤ pos 0 → OpenFrom map x n u → nth_open (up period) (is_open map) x n ≡ some u
  unfolding nth_open
  nth-back x (pos n) u h o = absurd (h ∴ simp ints (omega arith))
  nth-back x (negsuc n) u h o = ap some (nth-before-by n x u o.opens (o.ranked ∴ simp ints (omega arith)))

  pub nth_here : (x n : ℤ) → n ≡ pos 0 → nth_open (up period) (is_open map) x n ≡ only x (is_open map x)
  unfolding nth_open
  nth_here x n e = ap (nth_open (up period) (is_open map) x) e

  -- ---- the one with a rank: k open instants on from the cell c of the turn q
  pub open-from : (t k q p : ℤ) (c j i : ℕ) → t ≡ at q c → c < up period → pos (set_before map c) +ℤ k ≡ pos (set_before map (up period)) *ℤ p +ℤ pos j → Nth (cell words) j i
      → OpenFrom map t k (at (q +ℤ p) i)
  open-from t k q p c j i e h s l = record {
    opens = opens period words g (q +ℤ p) i l.set;
    ranked =
        rank-at map g.low (q +ℤ p) i (set_below period words g i l.set)
        ∙ ((ap (rank map) e ∙ rank-at map g.low q c h) ∴ s ∴ l.rank ∴ simp ints (omega arith));
  }

  -- in the turn of t itself
  pub open-here : (t k q : ℤ) (c j i : ℕ) → t ≡ at q c → c < up period → pos (set_before map c) +ℤ k ≡ pos j → Nth (cell words) j i → OpenFrom map t k (at q i)
  open-here t k q c j i e h s l =
      let z : q +ℤ pos 0 ≡ q = simp ints (omega arith) in
      subst (λ (p : ℤ). OpenFrom map t k (at p i)) z (open-from t k q (pos 0) c j i e h (s ∴ simp ints (omega arith)) l)

  -- the set cells of the words are those of the period
  pub all_set : tally (cell words) (64 * length words) ≡ set_before map (up period)
  all_set = tally-clear (cell words) (up period) (64 * length words) (within period words g (up period) (omega arith)).1 (λ j a b. g.behind j a)
