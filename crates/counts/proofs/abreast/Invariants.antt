-- `counts::abreast` meets its contract: the loop keeps the count of all parts, by the greatest label of each so far.
-- Assumes nothing.
use mathlib.Core.List.{List}
use Prim.Native.Nat.{ℕ}
use lib.IntN.{ℤ}
use mir.Syntax.{w32}
use mir.Val.{SFits}
use Rattle.counts.specs.Abreast.{Abreast, begun}
use Rattle.counts.proofs.Steps.{tops}
use Rattle.counts.proofs.abreast.Given as goal

-- each part is passed up to its cell i
pub record Inv (cells : List ℤ) (start q : ℕ) (b : ℤ) (c : ℤ) (d : ℤ) (count : ℕ) (top-a : ℤ) (top-b : ℤ) (top-c : ℤ) (top-d : ℤ) (i : ℕ) : Type 0 where
  pub fits-a : SFits w32 top-a
  pub fits-b : SFits w32 top-b
  pub fits-c : SFits w32 top-c
  pub fits-d : SFits w32 top-d
  pub passed : Abreast cells start i q (begun cells start b c d) (tops count top-a top-b top-c top-d)

abbrev pub invariant-loop-i : goal.invariant-loop-i
invariant-loop-i l = Inv l.cells l.start l.q l.b l.c l.d l.count l.top_a l.top_b l.top_c l.top_d l.i
