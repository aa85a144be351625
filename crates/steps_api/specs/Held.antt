-- The walk that a state holds: any list of numbers holds one or none.
use Rattle.std.proofs.Math.Option as Math
use Rattle.std.proofs.Math.Option.{none, some}
use Rattle.std.specs.Prelude.{cond, List, ℕ, ◌/◌, ◌%◌, eqb, ltb, ℤ, pos, length, get_or, None, Option, Some}
use Rattle.steps.specs.declared.Walk.{Walk}
use Rattle.steps.specs.declared.Progress.{Progress}
use Rattle.integers.specs.Parts.{up}
use Rattle.walks.specs.Walk as W
use Rattle.walks.specs.Walk.Progress.{due, done, refused_at}
use Rattle.steps.specs.State.{progress_of, walk_of}

-- how far the walk is whose state begins with these two numbers, if it is one
abbrev pub progress_in : ℕ → ℕ → Math.Option W.Progress
progress_in z n =
    cond (eqb z 1) (cond (ltb n 64) (some (due n)) none)
    (cond (eqb z 2) (some done)
    (cond (eqb z 3) (cond (ltb n 1400) (some (refused_at (n / 100) (n % 100))) none)
    none))

abbrev pub with_lengths : W.Lengths → Math.Option W.Progress → Math.Option W.Walk
with_lengths l none = none
with_lengths l (some x) = some (record { lengths = l; progress = x })

abbrev pub lengths_at : List ℤ → W.Lengths
lengths_at s = record { table = up (get_or s 2 (pos 0)); headings = up (get_or s 3 (pos 0)); pool = up (get_or s 4 (pos 0)) }

-- the walk of a state: it has eight numbers, and the first two say how far it is
abbrev pub walk_in : List ℤ → Math.Option W.Walk
walk_in s = cond (eqb (length s) 8) (with_lengths (lengths_at s) (progress_in (up (get_or s 0 (pos 0))) (up (get_or s 1 (pos 0))))) none

-- ---- the same in code

abbrev pub staged_as : Option Progress → Math.Option W.Progress
staged_as (Some x) = some (progress_of x)
staged_as None = none

abbrev pub held_as : Option Walk → Math.Option W.Walk
held_as (Some w) = some (walk_of w)
held_as None = none
