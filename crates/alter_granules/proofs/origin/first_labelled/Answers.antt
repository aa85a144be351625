-- `alter_granules::origin::first_labelled` meets its contract: it is the first label of the row.
-- Assumes nothing.
use mathlib.Core.Path.{◌≡◌, sym, ◌∙◌, ap, subst}
use Prim.Native.Nat.{ℕ, ◌^◌, ◌<◌}
use native.Mathlib.Omega.{arith}
use lib.IntN.{ℤ, pos}
use lib.ListN.{length, get_or}
use mir.Facts.{to_z-of_z, to_z_pos}
use mir.Syntax.{w64}
use Rattle.integers.proofs.Linear.{ints, ◌∴◌}
use Rattle.integers.proofs.Machine.{widened}
use Rattle.calendar.specs.Meaning.{empty}
use Rattle.calendar.specs.Questions.{given}
use Rattle.cursors.specs.Search.{leading}
use Rattle.cursors.proofs.Numbers.{numbers}
use Rattle.row_check.proofs.Instants.{has-label}
use Rattle.row_check.proofs.Leading.{leading-label, leading-first}
use Rattle.alter_granules.specs.declared.origin.Labelled.{Labelled}
use Rattle.alter_granules.specs.Follows.{Opens}
use Rattle.alter_granules.proofs.origin.first_labelled.Goals as goal
use Rattle.alter_granules.proofs.origin.first_labelled.Goals.{After-leading-i, Start}

some-label : (s : Start) → leading s.args.cells.now < length s.args.cells.now
some-label s = has-label s.args.period s.args.distance s.args.cells.now s.requires

few : (c : After-leading-i) → c.leading-i.result < 2 ^ 63
few c =
    let s = (goal.at.After-leading-i c).Start in
    let n = numbers s.args.period s.args.distance s.args.cells.now s.requires in
    omega (arith, some-label s, n.whole, n.high, c.leading-i.ensures)

pub overflow_cast-result : goal.overflow_cast-result
overflow_cast-result c = few c ∴ simp ints (omega arith)

pub wide-requires : goal.wide-requires
wide-requires c = omega (arith, some-label (goal.at.wide-requires c).Start, c.leading-i.ensures)

-- the first label, and what is returned
opens : (s : Start) → let l = s.args.cells.now in Opens (given s.args.period s.args.distance l) (record { t = pos (leading l); j = get_or l (leading l) empty })
opens s =
    let l = s.args.cells.now in
    let n = numbers s.args.period s.args.distance l s.requires in
    record {
      low = simp ints (omega arith);
      high = some-label s ∴ n.whole ∴ simp ints (omega arith);
      label = leading-label s.args.period s.args.distance l s.requires;
      is-first = leading-first s.args.period s.args.distance l s.requires;
    }

labelled-eq : (t u i j : ℤ) → t ≡ u → i ≡ j → ◌≡◌ {A = Labelled} (record { t = t; j = i }) (record { t = u; j = j })
labelled-eq t u i j p q = λ k. record { t = p k; j = q k }

pub returns : goal.returns
returns c =
    let s = (goal.at.returns c).Start in
    let l = s.args.cells.now in
    let e = c.leading-i.ensures in
    let j = to_z-of_z (widened c.wide.ensures.1) ∙ c.wide.ensures.0 ∙ ap (λ (i : ℕ). get_or l i empty) e in
    subst (Opens (given s.args.period s.args.distance l)) (sym (labelled-eq _ _ _ _ (to_z_pos w64 (few (goal.at.returns c).After-leading-i) ∙ ap pos e) j)) (opens s)
