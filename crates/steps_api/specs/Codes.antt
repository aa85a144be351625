-- What a call answers as a number for C, and the numbers of a state.
use Rattle.std.specs.Prelude.{List, ◌∷◌, ◌++◌, ◌+◌, ◌*◌, ℤ, pos, take, drop}
use Rattle.walks.specs.Walk.{Progress, Walk}
use Rattle.walks.specs.Walk.Progress.{due, done, refused_at}

-- "0 more (or begun), 1 done, 100 times a refusal's number plus its entry"
abbrev pub progress_code : Progress → ℤ
progress_code (due k) = pos 0
progress_code done = pos 1
progress_code (refused_at m k) = pos (100 * m + k)

-- the first two numbers of a state: which of the three, and the entry due or the refusal's code
abbrev pub stage : Progress → ℤ
stage (due k) = pos 1
stage done = pos 2
stage (refused_at m k) = pos 3

abbrev pub number : Progress → ℤ
number (due k) = pos k
number done = pos 0
number (refused_at m k) = pos (100 * m + k)

-- a state with these two numbers
abbrev pub progressed : Progress → List ℤ → List ℤ
progressed x s = stage x ∷ number x ∷ drop 2 s

-- a state with these lengths of table, headings and pool, its numbers 2, 3 and 4. The last three of its eight numbers are not used
abbrev pub measured : ℤ → ℤ → ℤ → List ℤ → List ℤ
measured t h p s = take 2 s ++ (t ∷ h ∷ p ∷ drop 5 s)

-- the state of a walk that begins
abbrev pub begun : Walk → List ℤ → List ℤ
begun w s = progressed w.progress (measured (pos w.lengths.table) (pos w.lengths.headings) (pos w.lengths.pool) s)
