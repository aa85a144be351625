-- Answers that are written over the front of a list.
use Rattle.std.specs.Prelude.{List, ◌++◌, map, ℤ, length, drop}

-- f of each question, in order, and behind them what stood in p
abbrev pub front : (ℤ → ℤ) → List ℤ → List ℤ → List ℤ
front f qs p = map f qs ++ drop (length qs) p
