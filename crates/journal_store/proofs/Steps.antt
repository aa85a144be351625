-- What a step over a window tells.
--     step_seen    a step over a window of at most m bytes tells what a look promises
use Rattle.std.specs.Prelude.{◌≡◌, ℕ, ◌≤◌, List, length}
use mathlib.Core.Path.{sym}
use native.Mathlib.Omega.{arith}
use Rattle.journal.specs.Answers.{step_in}
use Rattle.journal.specs.declared.opened.Step.{Step}
use Rattle.journal.proofs.Windows.{step-body, step-before, step-no-further}
use Rattle.journal_store.specs.Seen.{Seen}

pub step_seen : (window : List ℕ) (base m : ℕ) (s : Step) → s ≡ step_in window base → length window ≤ m → Seen base m s
step_seen window base m (Step.Body start n) e h =
    let b = step-body window base (sym e) in
    (b.1, (omega (arith, b.0, b.2, h), λ w. step-no-further window base (sym e) (omega (arith, h, w))))
step_seen window base m (Step.Before end) e h = step-before window base (sym e)
step_seen window base m Step.Empty e h = tt
