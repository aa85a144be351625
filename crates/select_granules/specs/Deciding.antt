-- A granule of a that is decided.
use Rattle.std.specs.Prelude.{◌≡◌, Bool, true, false, ℤ}
use Rattle.integers.specs.Parts.{up}
use Rattle.calendar.specs.Meaning.{Row}
use Rattle.calendar.specs.Algebra.{pick}
use Rattle.calendar.specs.Lists.{any, equal}
use Rattle.calendar.specs.Compute.{selects}
use Rattle.candidates.specs.Tallies.{candidates}
use Rattle.kinds.specs.declared.Pick.{Pick}
use Rattle.select_granules.specs.declared.Decision.{Decision}
use Rattle.kinds.specs.declared.Selection.{Selection}
use Rattle.kinds.specs.declared.Selection.TheVariants.{Down, Up, Intersecting}
use Rattle.kinds.specs.Operations.{selection_of}
use Rattle.select_granules.specs.Memos.{flag_of, Remembers}

-- Pick takes a's granule j for b's granule i
abbrev pub takes : Pick → Bool → Row → Row → ℤ → ℤ → Bool
takes p whole a b j i = any (equal j) (pick p.x (up p.y) (candidates whole a b i))

-- the selection that picks of the granules inside, or of those that meet
abbrev pub selection_by : Bool → Pick → Selection
selection_by true p = Down p
selection_by false p = Intersecting p

abbrev pub is_up : Selection → Bool
is_up (Down p) = false
is_up Up = true
is_up (Intersecting p) = false

-- whether a's granule j is kept, and what is remembered of Pick is so
pub record Decides (s : Selection) (a b : Row) (j : ℤ) (d : Decision) : Type 0 where
  pub holds : d.holds ≡ flag_of (selects (selection_of s) a b j)
  pub remembers : Remembers s a b d.picked
