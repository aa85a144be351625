-- `checking::entry::check_named` meets its contract: the checks of the operation come first, and then its claimed row is weighed.
-- Assumes nothing.
use Rattle.std.proofs.lemmas.Result.{err_from_is_err_and}
use mathlib.Core.Path.{◌≡◌, sym, ◌∙◌, ap, subst}
use Prim.Native.Nat.{◌-◌, ◌^◌, ◌<◌}
use native.Mathlib.Omega.{arith}
use borrow.Author.Rules.{rules}
use lib.IntN.{pos}
use lib.Signed.{◌≤ℤ◌}
use lib.ListN.{length}
use Rattle.integers.proofs.Linear.{ints}
use Rattle.integers.proofs.Machine.{plain}
use Rattle.calendar.specs.Meaning.{Row}
use Rattle.calendar.specs.Operation.{Operation}
use Rattle.calendar.specs.Reply.Reply.{answer}
use Rattle.calendar.specs.Outcome.{converted, at_rows}
use Rattle.kinds.specs.declared.Operand.{Operand}
use Rattle.kinds.specs.Stands.{row_in, Stands}
use Rattle.fill_shared.specs.Placed.{over}
use Rattle.operand_checks.specs.declared.Extent.{Extent}
use Rattle.operand_checks.specs.Admission.{admission, checked_reply}
use Rattle.row_entry.specs.Entering.{Enterable}
use Rattle.row_entry.proofs.Numbers.{number-limits}
use Rattle.row_entry.proofs.Admitted.{refused-before}
use Rattle.row_entry.proofs.Writing.{ExtentFits}
use Rattle.conversion.specs.Shows.{row_at}
use Rattle.checking.specs.Claims.{Judges}
use Rattle.checking.specs.Weighing.{weighed}
use Rattle.verdicts.proofs.LeftBy.{left_by}
use Rattle.checking.proofs.Right.{claim-stands}
use Rattle.checking.proofs.Judging as J
use Rattle.checking.proofs.entry.check_named.Goals as goal
use Rattle.checking.proofs.entry.check_named.Goals.{After-check_in, After-claim_of-claim, After-operand_at-r, After-operand_before-b, In_ok-extent, Start}

pub operand_before-a-requires : goal.operand_before-a-requires
operand_before-a-requires c = omega (arith, c.requires.has-heading)

pub operand_before-b-requires : goal.operand_before-b-requires
operand_before-b-requires c = omega (arith, c.requires.has-heading)

-- ---- the checks
abbrev start : After-operand_before-b → Start
start c = (goal.at.After-operand_before-b c).Start

entered : (c : After-operand_before-b) → let s = start c in
    Enterable s.args.named.kind c.operand_before-a.result c.operand_before-b.result s.args.k s.args.used
    (left_by s.requires.rows.0 s.args.headings.now) s.args.pool.now
entered c =
    let s = start c in
    let a = s.args in
    let p = s.requires in
    J.entered p.rows.0 a.k a.headings.now a.pool.now a.used p.rows.1 p.rows.2 p.has-heading p.at-most a.named p.names.0 p.names.1
    c.operand_before-a.result c.operand_before-b.result c.operand_before-a.ensures c.operand_before-b.ensures

pub overflow_sub-room : goal.overflow_sub-room
overflow_sub-room c = omega (arith, (start c).requires.rows.2.fits)

pub check_in-requires : goal.check_in-requires
check_in-requires c =
    let s = start c in
    let e = entered c in
    let f = s.requires.rows.2.fits in
    record {
      numbers = e.numbers;
      sound_first = e.sounds;
      counted_first = e.counted;
      before = record { period = e.a-before.period; ends = omega (arith, e.a-before.ends, f) };
      before_2 = record { period = e.b-before.period; ends = omega (arith, e.b-before.ends, f) };
      pool_len_bound = s.requires.at-most;
      pos_bound = number-limits (length s.args.pool.now - s.args.used) (omega (arith, s.requires.at-most));
    }

-- what they come to
checks : (c : After-check_in) → let s = start (goal.at.After-check_in c).After-operand_before-b in let a = s.args in
    checked_reply c.check_in.result
    ≡ admission (over a.named.kind a.pool.now c.operand_before-a.result c.operand_before-b.result) (length a.pool.now - a.used)
checks c =
    let s = start (goal.at.After-check_in c).After-operand_before-b in
    let u : length s.args.pool.now - s.args.used < 2 ^ 63 = omega (arith, s.requires.at-most) in
    simp plain at c.check_in.ensures

-- a refusal of theirs is that of the operation
pub returns-in_err-extent : goal.returns-in_err-extent
returns-in_err-extent c =
    let t = (goal.at.returns-in_err-extent c).After-check_in in
    let b = (goal.at.After-check_in t).After-operand_before-b in
    let s = start b in
    let a = s.args in
    let refused = refused-before _ _ _ (sym (checks t) ∙ ap checked_reply c.in_err-extent.was) in
    let p = err_from_is_err_and c.from_residual.result c.from_residual.ensures.1 in rw (p.1, p.2)
    (λ l o many behind names.
    let same = J.over-rows l a.k a.headings.now a.pool.now a.used many behind s.requires.has-heading s.requires.at-most a.named o names
    b.operand_before-a.result b.operand_before-b.result b.operand_before-a.ensures b.operand_before-b.ensures in
    ap (λ (p : Operation Row). converted p (length a.pool.now - a.used)) (sym same) ∙ refused)

-- ---- they are passed
abbrev told : In_ok-extent → After-check_in
told c = (goal.at.In_ok-extent c).After-check_in

abbrev entering : In_ok-extent → After-operand_before-b
entering c = (goal.at.In_ok-extent c).After-operand_before-b

abbrev extent : In_ok-extent → Extent
extent c = c.in_ok-extent.extent

fits : (c : In_ok-extent) → ExtentFits (extent c)
fits c = search rules

admits : (c : In_ok-extent) → let a = (start (entering c)).args in
    admission (over a.named.kind a.pool.now (entering c).operand_before-a.result (entering c).operand_before-b.result) (length a.pool.now - a.used)
    ≡ answer (extent c)
admits c = sym (checks (told c)) ∙ ap checked_reply c.in_ok-extent.was

pub claim_of-claim-requires : goal.claim_of-claim-requires
claim_of-claim-requires c =
    let b = entering c in
    let s = start b in
    let a = s.args in
    let p = s.requires in
    let x = extent c in
    record {
      heading_length_in_bounds = p.has-heading;
      used_in_bounds = (p.rows.2.fits, p.at-most);
      pos_bound = J.period-limits p.rows.0 a.k a.headings.now a.pool.now a.used p.rows.1 p.rows.2 p.has-heading p.at-most a.named p.names.0 p.names.1
          b.operand_before-a.result b.operand_before-b.result b.operand_before-a.ensures b.operand_before-b.ensures x (admits c) (fits c);
      pos_bound_2 = J.distance-limits p.rows.0 a.k a.headings.now a.pool.now a.used p.rows.1 p.rows.2 p.has-heading p.at-most a.named p.names.0 p.names.1
          b.operand_before-a.result b.operand_before-b.result b.operand_before-a.ensures b.operand_before-b.ensures x (admits c) (fits c);
    }

pub operand_at-r-requires : goal.operand_at-r-requires
operand_at-r-requires c = (start (entering (goal.at.operand_at-r-requires c).In_ok-extent)).requires.has-heading

pub weigh-requires : goal.weigh-requires
weigh-requires c =
    let m = (goal.at.weigh-requires c).After-claim_of-claim in
    let t = (goal.at.After-claim_of-claim m).In_ok-extent in
    let b = entering t in
    let s = start b in
    let a = s.args in
    let p = s.requires in
    record {
      weighable = J.weighable p.rows.0 a.k a.headings.now a.pool.now a.used p.rows.1 p.rows.2 p.has-heading p.at-most a.named p.names.0 p.names.1
          b.operand_before-a.result b.operand_before-b.result b.operand_before-a.ensures b.operand_before-b.ensures (extent t) (admits t) (fits t);
      pos_bound = λ e.
          let claim = m.claim_of-claim.ensures in
          let stood = claim-stands a.headings.now a.pool.now a.k a.used p.has-heading (claim.test.0 e).stands _ e claim.ends in
          subst (λ (r : Operand). (pos 0 ≤ℤ r.period) × Stands a.pool.now r) (sym c.operand_at-r.ensures) (simp ints (omega arith), stood);
    }

pub returns : goal.returns
returns c =
    let r = (goal.at.returns c).After-operand_at-r in
    let m = (goal.at.After-operand_at-r r).After-claim_of-claim in
    let t = (goal.at.After-claim_of-claim m).In_ok-extent in
    let b = entering t in
    let s = start b in
    let a = s.args in
    let p = s.requires in
    let claim = m.claim_of-claim in
    let o' = over a.named.kind a.pool.now b.operand_before-a.result b.operand_before-b.result in
    let is : c.weigh.result ≡ weighed o' (row_at a.headings.now a.pool.now a.k) claim.result =
    c.weigh.ensures ∙ ap (λ (x : Operand). weighed o' (row_in a.pool.now x) claim.result) r.operand_at-r.ensures in
    λ l o many behind names.
    subst (Judges a.k a.used a.headings.now a.pool.now (converted (at_rows l o) (length a.pool.now - a.used))) (sym is)
    (J.judged-entry l a.k a.headings.now a.pool.now a.used many behind p.has-heading p.at-most a.named o names
    b.operand_before-a.result b.operand_before-b.result b.operand_before-a.ensures b.operand_before-b.ensures (extent t) (admits t) (fits t)
    claim.result claim.ensures.test claim.ensures.ends)
