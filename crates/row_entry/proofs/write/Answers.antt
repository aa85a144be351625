-- `row_entry::write` meets its contract: what the working row's labels are decides, by checks 12 and 11; where they pass, its least row is entered.
-- Assumes nothing.
use Rattle.std.proofs.lemmas.Result.{err_from_is_err_and}
use mathlib.Core.Path.{refl}
use borrow.Author.Rules.{rules}
use Rattle.integers.proofs.Machine.{plain}
use Rattle.row_entry.proofs.Numbers.{cast-wide}
use Rattle.row_entry.proofs.Admitted.{labels-refused}
use Rattle.row_entry.proofs.Writing.{ExtentFits, passed, period-low, is-given, placed, is-worked, became}
use Rattle.row_entry.proofs.write.Goals as goal
use Rattle.row_entry.proofs.write.Goals.{After-fill, After-finish, After-struct_told-2-1, Start}

fits : (c : Start) → ExtentFits c.args.extent
fits c = search rules

pub overflow_cast-extent : goal.overflow_cast-extent
overflow_cast-extent c =
    let s = (goal.at.overflow_cast-extent c).Start in
    let a = s.args in
    let f = (fits s).period in
    simp plain (cast-wide f (period-low a.kind a.extent a.a a.b a.k a.used a.headings.now a.pool.now s.requires.enterable s.requires.used_value (fits s)))

pub fill-requires : goal.fill-requires
fill-requires c =
    let s = (goal.at.fill-requires c).Start in
    let a = s.args in
    record { fillable = is-given a.kind a.extent a.a a.b a.k a.used a.headings.now a.pool.now s.requires.enterable s.requires.used_value (fits s); placed = placed a.kind a.extent a.a a.b a.k a.used a.headings.now a.pool.now s.requires.enterable s.requires.used_value (fits s) }

pub finish-requires : goal.finish-requires
finish-requires c =
    let l = (goal.at.finish-requires c).After-fill in
    let s = (goal.at.finish-requires c).Start in
    let a = s.args in
    let f = fits s in
    let p = f.period in
    let d = f.distance in
    record {
      worked = simp plain (is-worked a.kind a.extent a.a a.b a.k a.used a.headings.now a.pool.now s.requires.enterable s.requires.used_value f _ _ l.fill.ensures.answer c.in_ok-fill.was l.fill.ensures.row);
      heading_length_in_bounds = s.requires.enterable.has-heading;
    }

pub returns-in_err-fill : goal.returns-in_err-fill
returns-in_err-fill c =
    let a = c.args in
    record {
      lengths = (search rules, c.fill.ensures.lengths);
      became = let p = err_from_is_err_and c.from_residual.result c.from_residual.ensures.1 in rw (p.1, p.2) (
        labels-refused _ _ _ (passed a.kind a.extent a.a a.b a.k a.used a.headings.now a.pool.now c.requires.enterable c.requires.used_value (fits (goal.at.returns-in_err-fill c).Start)) _ c.fill.ensures.answer _ c.in_err-fill.was,
        record { numbers = refl; cells = c.fill.ensures.before },
      );
    }

pub shape_of-headings : goal.shape_of-headings
shape_of-headings c = search rules

pub shape_of-pool : goal.shape_of-pool
shape_of-pool c = search rules

pub returns : goal.returns
returns c =
    let n = (goal.at.returns c).After-finish in
    let l = (goal.at.returns c).After-fill in
    let s = (goal.at.returns c).Start in
    let a = s.args in
    let f = fits s in
    let p = f.period in
    let d = f.distance in
    record {
      lengths = (shape_of-headings c, shape_of-pool c);
      became = became a.kind a.extent a.a a.b a.k a.used a.headings.now a.pool.now s.requires.enterable s.requires.used_value f _ _ l.fill.ensures.answer c.in_ok-fill.was l.fill.ensures.row _ _ _ (simp plain at n.finish.ensures);
    }
