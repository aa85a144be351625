-- The number of the last label before the instant 0, as it is computed: by whole turns and the rest. All numbers on the way fit.
-- Assumes nothing.
use mathlib.Core.Path.{◌≡◌, sym, ap, subst}
use mathlib.Core.List.{List}
use Prim.Native.Nat.{ℕ, ◌<◌, ◌^◌}
use native.Mathlib.Omega.{arith}
use lib.IntN.{ℤ, pos, negsuc, ◌+ℤ◌, ◌-ℤ◌, ◌*ℤ◌}
use lib.Signed.{◌<ℤ◌}
use mir.Syntax.{w64}
use mir.Val.{SFits}
use Rattle.integers.specs.Parts.{up}
use Rattle.integers.specs.Floor.{floor_div, floor_mod}
use Rattle.integers.proofs.Linear.{ints, ◌∴◌}
use Rattle.integers.proofs.Floor.{floor-eq, floor-lt}
use Rattle.calendar.specs.Meaning.{Row}
use Rattle.calendar.specs.Granules.{granules}
use Rattle.calendar.specs.Compute.{count, renumbered, anchored}
use Rattle.calendar.specs.Questions.{given}
use Rattle.granules.specs.Valid.{Valid}
use Rattle.granules.proofs.Count.{granules-at-most}
use Rattle.cursors.specs.Found.{Sound, Within}
use Rattle.cursors.proofs.Numbers.{Numbers, numbers, valid, rise-bound}
use Rattle.fill_unary.proofs.Numbers.{number_bound, number-turns}
use Rattle.fill_unary.proofs.Latest.{Latest, is-label, last-latest, latest-bound}
use Rattle.fill_unary.proofs.Passed.{Over}

-- what is given: a row, its last label before the instant 0, and a number x
pub record Asked (x last period distance : ℤ) (cells : List ℤ) : Type 0 where
  pub sound : Sound period distance cells
  pub is_last : last ≡ anchored (given period distance cells) (negsuc 0)
  pub bound : Within 1000000000 x

module _ {x last period distance : ℤ} {cells : List ℤ} (a : Asked x last period distance cells) where
  abbrev pub row : Row
  row = given period distance cells

  v : Valid row
  v = valid period distance cells a.sound

  b : Numbers period distance cells
  b = numbers period distance cells a.sound

  abbrev N : ℕ
  N = up distance

  latest : Latest row (pos 0) last
  latest = subst (Latest row (pos 0)) (sym a.is_last) (last-latest row v (pos 0))

  last-bound : Within (2 ^ 30) last
  last-bound = latest-bound period distance cells a.sound (pos 0) last latest (simp ints (omega arith)) (simp ints (omega arith))

  -- from the last label on, and the turns in it
  abbrev apart : ℤ
  apart = x -ℤ last -ℤ pos 1

  abbrev pub turns : ℤ
  turns = floor_div apart N

  pub apart_fits : SFits w64 (x -ℤ last) × SFits w64 (x -ℤ last -ℤ pos 1)
  apart_fits = last-bound ∴ a.bound ∴ simp ints (omega arith)

  pub distance-positive : pos 0 <ℤ distance
  distance-positive = b.distance_is ∴ b.low ∴ simp ints (omega arith)

  -- the turns, by what they leave
  whole_is : turns *ℤ distance ≡ pos N *ℤ turns
  whole_is = ap (λ (d : ℤ). turns *ℤ d) b.distance_is ∴ simp ints (omega arith)

  split : (apart ≡ turns *ℤ distance +ℤ pos (floor_mod apart N)) × (floor_mod apart N < N)
  split = (floor-eq N b.low apart ∴ whole_is ∴ simp ints (omega arith), floor-lt N b.low apart)

  pub over : Over (x -ℤ turns *ℤ distance) last period distance cells
  over = record {
    sound = a.sound;
    is_last = a.is_last;
    low = split ∴ simp ints (omega arith);
    high = split ∴ b.distance_is ∴ simp ints (omega arith);
  }

  pub whole-fits : SFits w64 (turns *ℤ distance) × SFits w64 (x -ℤ turns *ℤ distance)
  whole-fits = split ∴ last-bound ∴ a.bound ∴ b.middle ∴ b.high ∴ simp ints (omega arith)

  -- as many labels
  pub labels-fit : SFits w64 (turns *ℤ pos (granules row)) × SFits w64 (pos 0 -ℤ turns *ℤ pos (granules row))
  labels-fit =
      rise-bound N (granules row) (2 ^ 32) b.low (granules-at-most row) apart (last-bound ∴ a.bound ∴ simp ints (omega arith)) (last-bound ∴ a.bound ∴ simp ints (omega arith))
      ∴ b.middle
      ∴ b.high
      ∴ simp ints (omega arith)

  pub reckoned : pos 0 -ℤ turns *ℤ pos (granules row) -ℤ pos (count row (last +ℤ pos 1) (x -ℤ turns *ℤ distance -ℤ pos 1)) ≡ renumbered row x last
  reckoned =
      let e : x -ℤ turns *ℤ distance ≡ x -ℤ pos N *ℤ turns = ap (λ (z : ℤ). x -ℤ z) whole_is in
      number-turns row v x last turns (is-label latest) (over.low ∴ whole_is ∴ simp ints (omega arith))
      ∴ ap (λ (z : ℤ). count row (last +ℤ pos 1) (z -ℤ pos 1)) e
      ∴ simp ints (omega arith)

  -- where there is no whole turn
  pub reckoned-rest : turns ≡ pos 0 → pos 0 -ℤ pos (count row (last +ℤ pos 1) (x -ℤ turns *ℤ distance -ℤ pos 1)) ≡ renumbered row x last
  reckoned-rest e = ap (λ (z : ℤ). z *ℤ pos (granules row)) e ∴ reckoned ∴ simp ints (omega arith)

  pub reckoned-fits : SFits w64 (renumbered row x last)
  reckoned-fits = number_bound row v (2 ^ 30) x last (is-label latest) (a.bound ∴ simp ints (omega arith)) last-bound ∴ simp ints (omega arith)
