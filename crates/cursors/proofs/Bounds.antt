-- How far labels and the ends of granules are from an instant.
-- Assumes nothing.
use mathlib.Core.Path.{◌≡◌}
use mathlib.Core.Logic.Iff
use mathlib.Core.Logic.{◌↔◌}
use mathlib.Core.Option.{some}
use mathlib.Core.Bool.{true}
use mathlib.Core.List.{List}
use Prim.Native.Nat.{ℕ, ◌+◌}
use native.Mathlib.Omega.{arith}
use lib.IntN.{ℤ, pos, neg_ℤ, ◌+ℤ◌, ◌-ℤ◌, ◌*ℤ◌}
use lib.Signed.{◌≤ℤ◌, ◌<ℤ◌}
use lib.ListN.{get_or}
use Rattle.integers.specs.Parts.{up}
use Rattle.integers.specs.Floor.{floor_div, floor_mod}
use Rattle.integers.proofs.Linear.{ints, ◌∴◌}
use Rattle.calendar.specs.Meaning.{Row, meant, label_of, empty}
use Rattle.calendar.specs.Lists.{first, last}
use Rattle.calendar.specs.Granules.{granule}
use Rattle.calendar.specs.Limits.{in_range}
use Rattle.calendar.specs.Sound.{labels_of}
use Rattle.calendar.specs.Questions.{given}
use Rattle.granules.specs.Valid.{Valid}
use Rattle.granules.proofs.Tests.{and-iff, le_z-iff}
use Rattle.granules.proofs.Lists.{all-iff, first-least, last-greatest}
use Rattle.granules.proofs.Calendars.{granule-near}
use Rattle.granules.proofs.Rows.{meant-repeats, meant-some, mem-labels}
use Rattle.granules.proofs.Sound.{sound-limits}
use Rattle.granules.proofs.Granule.{granule-lists}
use Rattle.cursors.specs.Found.{Sound, Within}
use Rattle.cursors.proofs.Numbers.{numbers, rise-bound}

-- the first and the last instant of the granule of t have its label, and are less than a period from t
module _ (r : Row) (v : Valid r) (t j : ℤ) (h : meant r t ≡ some j) where
  near : (u : ℤ) → meant r u ≡ some j → ((t -ℤ pos r.period) <ℤ u) × (u <ℤ (t +ℤ pos r.period))
  near u e =
      let g = granule-near (meant r) r.period r.distance (meant-repeats r v.positive.0) v.positive.1 v.ordered in
      g t u j h e ∴ g u t j e h ∴ simp ints (omega arith)

  pub first-bounds : (meant r (first (granule r j)) ≡ some j) × ((t -ℤ pos r.period) <ℤ first (granule r j)) × (first (granule r j) ≤ℤ t)
  first-bounds =
      let l = granule-lists r v j in
      let f = first-least t (granule r j) l.rising ((l.member t).0 h) in
      let e = (l.member (first (granule r j))).1 f.0 in
      (e, (near (first (granule r j)) e).0, f.1)

  pub last-bounds : (meant r (last (granule r j)) ≡ some j) × (t ≤ℤ last (granule r j)) × (last (granule r j) <ℤ (t +ℤ pos r.period))
  last-bounds =
      let l = granule-lists r v j in
      let f = last-greatest t (granule r j) l.rising ((l.member t).0 h) in
      let e = (l.member (last (granule r j))).1 f.0 in
      (e, f.1, (near (last (granule r j)) e).1)

-- the limit of labels and instants, as a test and as an order
pub in-range : (z : ℤ) → (in_range z ≡ true) ↔ Within 1000000000 z
in-range z = simp (and-iff, le_z-iff) Iff.rfl

module _ (period distance : ℤ) (cells : List ℤ) (s : Sound period distance cells) where
  -- a label of a cell is within ±1,000,000,000
  pub cell-bound : (m : ℕ) (j : ℤ) → label_of (get_or cells m empty) ≡ some j → Within 1000000000 j
  cell-bound m j e =
      let l = sound-limits (given period distance cells) s in
      (in-range j).0 ((all-iff in_range (labels_of cells)).0 l.2 j (mem-labels cells m j e))

  -- the label of an instant within ±B is within ±B of those
  pub label-bound : (B : ℕ) (u j : ℤ) → neg_ℤ (pos B) ≤ℤ u → u ≤ℤ pos B → meant (given period distance cells) u ≡ some j
      → (neg_ℤ (pos (B + 1004194304)) ≤ℤ j) × (j ≤ℤ pos (B + 1000000000))
  label-bound B u j lo hi e =
      let n = numbers period distance cells s in
      let P = up period in
      let q = floor_div u P in
      let i = j -ℤ pos (up distance) *ℤ q in
      let c = cell-bound (floor_mod u P) i ((meant-some (given period distance cells) u j).0 e) in
      let b = rise-bound P (up distance) B (omega (arith, n.low, n.middle)) n.middle u lo hi in
      c ∴ b ∴ n.high ∴ simp ints (omega arith)
