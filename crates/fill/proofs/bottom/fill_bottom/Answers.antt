-- `fill::bottom::fill_bottom` meets its contract: the working row has one cell, the label of the instant 0.
-- Assumes nothing.
use Rattle.std.specs.Prelude.{Ok}
use mathlib.Core.Path.{◌≡◌, refl, sym, ◌∙◌, ap}
use mathlib.Core.Option.{some}
use mathlib.Core.Bool.{true, false}
use mathlib.Core.List.{List, ◌++◌}
use Prim.Native.Nat.{ℕ, ◌+◌, ◌≤◌}
use native.Mathlib.Omega.{arith}
use lib.IntN.{ℤ, pos}
use lib.ListN.{length, set, take, drop, length-set}
use Rattle.calendar.specs.Operation.Operation.{bottom}
use Rattle.calendar.specs.Distance.{size}
use Rattle.calendar.specs.Compute.{working}
use Rattle.fill_shared.specs.Placed.{filled_as}
use Rattle.fill_shared.proofs.Single.{bottom-of}
use Rattle.fill_shared.proofs.Working.{Writes, writes-none, writes_more, writes-before, writes-labelled, writes-all}
use Rattle.fill.proofs.bottom.fill_bottom.Goals as goal
use Rattle.fill.proofs.bottom.fill_bottom.Goals.{Start}

one : (size bottom).period ≡ 1
unfolding size
one = refl

module _ (at : ℕ) (old : List ℤ) (room : at + 1 ≤ length old) where
  fits : at + (size bottom).period ≤ length old
  fits = omega (arith, one)

  abbrev new : List ℤ
  new = set old (at + 0) (pos 0)

  writes : Writes bottom at old new true 1
  writes = writes_more bottom at old fits old false 0 (writes-none bottom at old fits) (some (pos 0)) (omega (arith, one)) (sym (bottom-of (pos 0))) refl

  answer : (Ok tt) ≡ filled_as bottom
  answer = writes-labelled bottom at old fits new true 1 writes (omega (arith, one)) refl

  before : take at new ≡ take at old
  before = writes-before bottom at old fits new true 1 writes

  cells : new ≡ take at old ++ ((working bottom).cells ++ drop (at + (size bottom).period) old)
  cells = writes-all bottom at old fits new true 1 writes (omega (arith, one))

room : (c : Start) → c.args.at + 1 ≤ length c.args.pool.now
room c = omega (arith, c.requires.room, c.requires.is-period, one)

pub slice_set_of-pool : goal.slice_set_of-pool
slice_set_of-pool c = let h = room c in omega arith

pub returns : goal.returns
returns c =
    let at = c.args.at in
    let old = c.args.pool.now in
    let h = room c in
    let here : set old at (pos 0) ≡ new at old h = ap (λ (n : ℕ). set old n (pos 0)) (omega arith) in
    record {
      answer = answer at old h;
      lengths = length-set old at (pos 0);
      before = ap (take at) here ∙ before at old h;
      row = λ q. here
          ∙ cells at old h
          ∙ ap (λ (n : ℕ). take at old ++ ((working bottom).cells ++ drop (at + n) old)) (sym c.requires.is-period);
    }
