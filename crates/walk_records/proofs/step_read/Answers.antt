-- `walk_records::step_read` meets its contract: the call over the first headings is told the length that is due.
-- Assumes nothing.
use mathlib.Core.Path.{◌≡◌, ◌∙◌, ap, ap₂}
use mathlib.Core.Bool.{Bool}
use mathlib.Core.List.{List, ◌++◌}
use Prim.Native.Nat.{ℕ, ◌*◌}
use lib.IntN.{ℤ}
use lib.ListN.{take, drop}
use Rattle.calendar.specs.Limits.{heading_length}
use Rattle.heading_records.specs.declared.Read.{Read}
use Rattle.heading_records.specs.Reading.{at_most}
use Rattle.walks.specs.Walk as W
use Rattle.steps.specs.declared.Walk.{Walk}
use Rattle.steps.specs.State.{progress_of, walk_of, Gives}
use Rattle.walk_records.specs.Passing.{told_of, inner_of, has_ended, Passes}
use Rattle.walk_records.proofs.step_read.Goals as goal

-- what the call ensures, with the walk's own lengths
passed : (w : Walk) (t : List ℤ) (x : Read) (n m told : ℕ) (pool : List ℤ) → m ≡ at_most n → told ≡ told_of w.lengths.headings x.zero n
    → (kept : Bool) → kept ≡ has_ended (progress_of w.progress) → (r : Walk) (numbers : List ℕ) (after : List ℤ)
    → Gives (W.call (record { lengths = record { table = w.lengths.table; headings = told; pool = w.lengths.pool }; progress = progress_of w.progress }) t (take (heading_length * m) x.numbers) pool) r numbers after
    → Passes (walk_of w).lengths (W.call (inner_of (walk_of w) x.zero n) t (take (heading_length * at_most n) x.numbers) pool) (drop (heading_length * at_most n) x.numbers) (has_ended (walk_of w).progress)
    (record { walk = record { lengths = w.lengths; progress = r.progress }; numbers = numbers ++ drop (heading_length * m) x.numbers; kept = kept }) after
passed w t x n m told pool e f kept k r numbers after g =
    let call : ℕ → ℕ → W.Left = λ i l. W.call (record { lengths = record { table = w.lengths.table; headings = l; pool = w.lengths.pool }; progress = progress_of w.progress }) t (take (heading_length * i) x.numbers) pool in
    let same : call m told ≡ call (at_most n) (told_of w.lengths.headings x.zero n) = ap₂ call e f in
    let p = ap (λ (v : W.Walk). v.progress) (g.state ∙ ap (λ (s : W.Left). s.walk) same) in
    record {
      state = λ i. record { lengths = (walk_of w).lengths; progress = p i };
      numbers = ap₂ (λ (l : List ℕ) (i : ℕ). l ++ drop (heading_length * i) x.numbers) (g.numbers ∙ ap (λ (s : W.Left). s.headings) same) e;
      stay = k;
      cells = g.cells ∙ ap (λ (s : W.Left). s.pool) same;
    }

pub returns : goal.returns
returns c =
    let a = c.args in
    passed a.walk a.table.now a.read a.lent c.at_most-first.result _ a.pool.now c.at_most-first.ensures c.told.ensures _ c.has_ended-kept.ensures
    c.step-stepped.result c.step-stepped.new.headings c.step-stepped.new.pool
    c.step-stepped.ensures
