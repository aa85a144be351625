-- `checking::entry::claim_of` meets its contract: the test of the row by itself, and then of its turn.
-- Assumes nothing.
use Rattle.std.specs.Prelude.{is_some}
use mathlib.Core.Path.{◌≡◌, sym, ◌∙◌, ap}
use borrow.Author.Rules.{rules}
use Rattle.integers.specs.Parts.{up}
use Rattle.integers.proofs.Machine.{plain}
use Rattle.granules.proofs.Sound.{sound-valid, sound-limits}
use Rattle.row_entry.proofs.Writing.{ExtentFits}
use Rattle.conversion.specs.Shows.{row_at}
use Rattle.standing.proofs.Counted.{some-tests}
use Rattle.checking.proofs.Right.{row-iff}
use Rattle.checking.proofs.entry.claim_of.Goals as goal
use Rattle.checking.proofs.entry.claim_of.Goals.{Start}

pub is_multiple-requires : goal.is_multiple-requires
is_multiple-requires c =
    let a = c.args in
    let passes = ((row-iff a.headings.now a.pool.now a.k a.used c.requires.heading_length_in_bounds).0 (sym c.in_ok-end.ensures.test)).1.0 in
    ((sound-valid (row_at a.headings.now a.pool.now a.k) passes).positive.0, (sound-limits (row_at a.headings.now a.pool.now a.k) passes).0)

-- the working turn, as it is handed over
fits : (c : Start) → ExtentFits c.args.extent
fits c = search rules

pub returns-clause-test : goal.returns-clause-test
returns-clause-test c =
    let f = fits (goal.at.returns-clause-test c).Start in
    let period : c.number-period.result ≡ up c.args.extent.period = let p = f.period in simp plain at c.number-period.ensures in
    let distance : c.number-distance.result ≡ up c.args.extent.distance = let d = f.distance in simp plain at c.number-distance.ensures in
    let passes : is_some c.then_some.result ≡ c.is_multiple.result = ap is_some c.then_some.ensures ∙ some-tests _ _ in
    let m = c.is_multiple.ensures in (
      λ e. let t = m.0 (sym passes ∙ e) in record { stands = sym c.in_ok-end.ensures.test; turns = (t.0, sym period ∙ t.1, sym distance ∙ t.2) },
      λ h. let t = h.turns in passes ∙ m.1 (t.0, period ∙ t.1, distance ∙ t.2),
    )
