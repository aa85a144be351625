-- The state of the code in the terms of the definitions, and the contract of `start` and `step`.
use Rattle.std.specs.Prelude.{◌≡◌, cond, List, ℕ, suc, eqb, ℤ}
use Rattle.walks.specs.Walk as W
use Rattle.walks.specs.Walk.Progress.{due, done, refused_at}
use Rattle.steps.specs.declared.Lengths.{Lengths}
use Rattle.steps.specs.declared.Progress.{Progress}
use Rattle.steps.specs.declared.Progress.TheVariants.{Due, Done, Refused}
use Rattle.steps.specs.declared.Walk.{Walk}

abbrev pub lengths_in : Lengths → W.Lengths
lengths_in l = record { table = l.table; headings = l.headings; pool = l.pool }

abbrev pub progress_of : Progress → W.Progress
progress_of (Due k) = due k
progress_of Done = done
progress_of (Refused m k) = refused_at m k

abbrev pub walk_of : Walk → W.Walk
walk_of w = record { lengths = lengths_in w.lengths; progress = progress_of w.progress }

-- the state that is given and both lists are those of s
pub record Gives (s : W.Left) (w : Walk) (headings : List ℕ) (pool : List ℤ) : Type 0 where
  pub state : walk_of w ≡ s.walk
  pub numbers : headings ≡ s.headings
  pub cells : pool ≡ s.pool

-- how far a walk is once k + 1 rows stand
abbrev pub behind : W.Lengths → ℕ → W.Progress
behind l k = cond (eqb (suc k) (W.entries_of l)) done (due (suc k))
