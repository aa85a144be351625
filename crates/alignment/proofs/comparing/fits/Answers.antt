-- `alignment::comparing::fits` meets its contract.
-- Assumes nothing.
use mathlib.Core.Path.{sym, ◌∙◌, ap}
use mathlib.Core.Bool.{Bool}
use Rattle.cursors.specs.Found.{found}
use Rattle.alignment.specs.declared.Alignment.{Alignment}
use Rattle.alignment.specs.Fits.{fits, alignment_of}
use Rattle.alignment.proofs.comparing.fits.Goals as goal
use Rattle.alignment.proofs.comparing.fits.Goals.{Start}

-- what is asked of the labels, by the alignment
abbrev asked : Start → Alignment → Bool
asked s k = fits (alignment_of k) (found s.args.o) (found s.args.p) (found s.args.x) (found s.args.y)

pub returns-in-Free : goal.returns-in-Free
unfolding fits
returns-in-Free c = ap (asked (goal.at.returns-in-Free c).Start) (sym c.in-Free.is)

pub returns-in-Partition : goal.returns-in-Partition
unfolding fits
returns-in-Partition c = c.fits_partition.ensures ∙ ap (asked (goal.at.returns-in-Partition c).Start) (sym c.in-Partition.is)

pub returns-in-Subcalendar : goal.returns-in-Subcalendar
unfolding fits
returns-in-Subcalendar c = c.fits_subcalendar.ensures ∙ ap (asked (goal.at.returns-in-Subcalendar c).Start) (sym c.in-Subcalendar.is)

pub returns-in-Compatible : goal.returns-in-Compatible
unfolding fits
returns-in-Compatible c = c.fits_compatible.ensures ∙ ap (asked (goal.at.returns-in-Compatible c).Start) (sym c.in-Compatible.is)
