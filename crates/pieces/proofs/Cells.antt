-- A cell is that of its label.
-- Assumes nothing.
use mathlib.Core.Path.{◌≡◌, sym, ◌∙◌, ap}
use mathlib.Core.Logic.{◌⊎◌, inl, inr}
use mathlib.Core.Option.{none, some}
use lib.IntN.{ℤ}
use Rattle.calendar.specs.Meaning.{label_of, empty}
use Rattle.calendar.specs.Compute.{cell_of}
use Rattle.granules.proofs.Equal.{cell-cases}

pub label-cell : (z : ℤ) → cell_of (label_of z) ≡ z
label-cell z = by (cell-cases z)
  where
    by : ((label_of z ≡ none) × (z ≡ empty)) ⊎ (label_of z ≡ some z) → cell_of (label_of z) ≡ z
    by (inl p) = ap cell_of p.0 ∙ sym p.1
    by (inr p) = ap cell_of p
