-- `fill_pointwise::fill_stepped` meets its contract: each turn of the loop writes the cell of one instant.
-- Assumes nothing.
use Prim.Native.Nat.{ℕ}
use lib.IntN.{ℤ, pos}
use Rattle.fill_shared.proofs.Filling.{Lent, Filling, row_of}
use Rattle.fill_pointwise.specs.Decided.{kind_of}
use Rattle.fill_pointwise.specs.Scanning.{Scans}
use Rattle.fill_pointwise.proofs.fill_stepped.Given as goal

-- a row as the loop holds it
abbrev pub lent_with : ℕ → ℕ → ℤ → ℤ → Lent
lent_with s e p n = record { start = s; end = e; period = p; distance = n }

abbrev pub invariant-loop-t : goal.invariant-loop-t
invariant-loop-t l =
    let a = lent_with l.a_start l.a_end l.a_period l.a_distance in
    let b = lent_with l.b_start l.b_end l.b_period l.b_distance in
    Filling (kind_of l.by) a b l.at l.period l.initial.pool l.pool l.labelled l.t × Scans (row_of a l.initial.pool) (row_of b l.initial.pool) (pos l.t) l.s
