-- `fill_pointwise::step` meets its contract: the labels of the instant decide its label, and the last label of b is then that up to t.
-- Assumes nothing.
use borrow.Author.Rules.{rules}
use mathlib.Core.Path.{◌≡◌, ◌∙◌, ap}
use mathlib.Core.Option.{Option}
use mathlib.Core.Bool.{true}
use lib.IntN.{ℤ, pos, ◌+ℤ◌}
use mir.Facts.{to_z-of_z}
use mir.Syntax.{w64}
use mir.Val.{SFits, to_z, of_z}
use Rattle.integers.proofs.Machine.{plain}
use Rattle.calendar.specs.Meaning.{Row, meant}
use Rattle.calendar.specs.Compute.{anchored}
use Rattle.calendar.specs.Sound.{sound}
use Rattle.calendar.specs.Questions.{given}
use Rattle.granules.specs.Valid.{Valid}
use Rattle.cursors.specs.Found.{found, Near}
use Rattle.cursors.specs.Cursor.{cursor_at}
use Rattle.cursors.proofs.Numbers.{valid}
use Rattle.fill_pointwise.specs.Decided.{decided_label, later_label}
use Rattle.fill_shared.proofs.Points.{is-near, next_low, next-high}
use Rattle.fill_pointwise.proofs.Labels.{sound-both, decided-is, later-is, anchored-next}
use Rattle.fill_pointwise.proofs.step.Goals as goal
use Rattle.fill_pointwise.proofs.step.Goals.{After-cursor_label-arg-1, After-cursor_label-arg-2-1, After-cursor_label-label, After-cursor_label-other, After-cursor_next-arg-1, After-cursor_next-next, After-cursor_next-next-2, After-later, Start}

abbrev a-row : Start → Row
a-row s = given s.args.a_period s.args.a_distance s.args.a_cells.now

abbrev b-row : Start → Row
b-row s = given s.args.b_period s.args.b_distance s.args.b_cells.now

sounds : (s : Start) → (sound (a-row s) ≡ true) × (sound (b-row s) ≡ true)
sounds s = sound-both s.args.by (a-row s) (b-row s) s.requires.fillable.sounds

b-rules : (s : Start) → Valid (b-row s)
b-rules s = valid s.args.b_period s.args.b_distance s.args.b_cells.now (sounds s).1

near : (s : Start) → Near s.args.t
near s = is-near s.args.t s.requires.scans.low s.requires.scans.high

pub cursor_label-label-requires : goal.cursor_label-label-requires
cursor_label-label-requires c =
    let s = (goal.at.cursor_label-label-requires c).Start in
    let p = s.ranges.a_period in
    let n = s.ranges.a_distance in
    record { sound = simp plain ((sounds s).0); standing = simp plain ((s.args.t, near s, s.requires.scans.cursors.0)) }

pub cursor_label-other-requires : goal.cursor_label-other-requires
cursor_label-other-requires c =
    let s = (goal.at.cursor_label-other-requires c).Start in
    let p = s.ranges.b_period in
    let n = s.ranges.b_distance in
    record { sound = simp plain ((sounds s).1); standing = simp plain ((s.args.t, near s, s.requires.scans.cursors.1)) }

pub cursor_next-next-requires : goal.cursor_next-next-requires
cursor_next-next-requires c =
    let x = cursor_label-label-requires (goal.at.cursor_next-next-requires c).After-cursor_label-arg-1 in
    record { sound = x.sound; standing = x.standing }

pub cursor_next-next-requires-2 : goal.cursor_next-next-requires-2
cursor_next-next-requires-2 c =
    let x = cursor_label-other-requires (goal.at.cursor_next-next-requires-2 c).After-cursor_label-arg-2-1 in
    record { sound = x.sound; standing = x.standing }

-- the labels of the instant, and the cursors of the next
a-label : (c : After-cursor_label-label) → let s = (goal.at.After-cursor_label-label c).Start in found c.cursor_label-label.result ≡ meant (a-row s) s.args.t
a-label c =
    let s = (goal.at.After-cursor_label-label c).After-cursor_label-arg-1 in
    let p = s.ranges.a_period in
    let n = s.ranges.a_distance in
    (simp plain at c.cursor_label-label.ensures) s.args.t s.requires.scans.cursors.0

b-label : (c : After-cursor_label-other) → let s = (goal.at.After-cursor_label-other c).Start in found c.cursor_label-other.result ≡ meant (b-row s) s.args.t
b-label c =
    let s = (goal.at.After-cursor_label-other c).After-cursor_label-label in
    let p = s.ranges.b_period in
    let n = s.ranges.b_distance in
    (simp plain at c.cursor_label-other.ensures) s.args.t s.requires.scans.cursors.1

a-next : (c : After-cursor_next-next) → let s = (goal.at.After-cursor_next-next c).Start in c.cursor_next-next.result ≡ cursor_at (a-row s) (s.args.t +ℤ pos 1)
a-next c =
    let s = (goal.at.After-cursor_next-next c).After-cursor_label-arg-2-1 in
    let p = s.ranges.a_period in
    let n = s.ranges.a_distance in
    (simp plain at c.cursor_next-next.ensures) s.args.t s.requires.scans.cursors.0

b-next : (c : After-cursor_next-next-2) → let s = (goal.at.After-cursor_next-next-2 c).Start in c.cursor_next-next-2.result ≡ cursor_at (b-row s) (s.args.t +ℤ pos 1)
b-next c =
    let s = (goal.at.After-cursor_next-next-2 c).After-cursor_label-other in
    let p = s.ranges.b_period in
    let n = s.ranges.b_distance in
    (simp plain at c.cursor_next-next-2.ensures) s.args.t s.requires.scans.cursors.1

-- the last label of b, up to the instant
later-at : (c : After-later) → let s = (goal.at.After-later c).Start in c.later.result ≡ anchored (b-row s) s.args.t
later-at c =
    let l = (goal.at.After-later c).After-cursor_label-other in
    let s = (goal.at.After-cursor_label-other l).Start in
    let f : SFits w64 s.args.s.last = search rules in
    c.later.ensures
    ∙ ap (λ (z : ℤ). later_label z (found l.cursor_label-other.result)) (to_z-of_z f)
    ∙ ap (later_label s.args.s.last) (b-label l)
    ∙ later-is (b-row s) (b-rules s) s.args.t s.args.s.last s.requires.scans.keeps

pub returns : goal.returns
returns c =
    let e = (goal.at.returns c).After-later in
    let n = (goal.at.After-later e).After-cursor_next-next-2 in
    let l = (goal.at.After-cursor_next-next-2 n).After-cursor_label-other in
    let s = (goal.at.After-cursor_label-other l).Start in
    let by = s.args.by in
    let z = anchored (b-row s) s.args.t in
    let is_last = later-at e in
    let f : SFits w64 e.later.result = search rules in record {
      label = c.decided.ensures
          ∙ ap (decided_label by (found l.cursor_label-label.result) (found l.cursor_label-other.result)) (ap (λ (y : ℤ). to_z w64 (of_z w64 y)) (to_z-of_z f) ∙ to_z-of_z f ∙ is_last)
          ∙ ap (λ (x : Option ℤ). decided_label by x (found l.cursor_label-other.result) z) (a-label (goal.at.After-cursor_label-other l).After-cursor_label-label)
          ∙ ap (λ (y : Option ℤ). decided_label by (meant (a-row s) s.args.t) y z) (b-label l)
          ∙ decided-is by (a-row s) (b-row s) s.requires.fillable.ready s.args.t;
      next = record {
        low = next_low s.args.t s.requires.scans.low;
        high = next-high s.args.t s.requires.t_bound;
        cursors = (a-next (goal.at.After-cursor_next-next-2 n).After-cursor_next-next, b-next n);
        keeps = simp plain (is_last ∙ anchored-next (b-row s) (b-rules s) s.args.t);
      };
    }
