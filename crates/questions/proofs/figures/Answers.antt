-- `questions::figures` meets its contract: 13, or the figures of its three counts, none of which passes the limit.
use borrow.Author.Tests.{not-false}
use borrow.Author.Rules.{sfits_of}
use mathlib.Core.Path.{◌≡◌, refl, sym, ◌∙◌, ap}
use mathlib.Core.Bool.{true}
use Prim.Native.Nat.{ℕ, ◌≤◌}
use native.Mathlib.Omega.{arith}
use lib.IntN.{pos, nat_abs}
use mir.Facts.{to_z-of_z}
use mir.Syntax.{w64}
use mir.Val.{of_z, to_z}
use Rattle.integers.specs.Parts.{up}
use Rattle.integers.proofs.Machine.{plain, test-eq}
use Rattle.calendar.specs.Limits.{pool_limit}
use Rattle.calendar.specs.Meaning.{Row, label_of}
use Rattle.calendar.specs.Lists.{is_some}
use Rattle.calendar.specs.Granules.{granules}
use Rattle.calendar.specs.Sound.{sound}
use Rattle.calendar.specs.Questions.{given, labelled_instants}
use Rattle.calendar.specs.declared.Refusal.TheVariants.{RowNotSound}
use Rattle.floats.specs.Figures.{Quotients}
use Rattle.floats.specs.declared.Figures.{Figures}
use Rattle.granules.proofs.Tests.{true≢false, not_iff}
use Rattle.granules.proofs.Count.{count-at-most, granules-positive, granules-at-most}
use Rattle.cursors.proofs.Numbers.{valid, Numbers, numbers}
use Rattle.questions.proofs.Casts.{cast}
use Rattle.questions.proofs.WithGranules.{figures-13, figures-answer}
use Rattle.questions.proofs.figures.Goals as goal
use Rattle.questions.proofs.figures.Goals.{After-granules, After-labelled_instants-labelled, After-sound, Else-granules, Else-not-sound, Start}

abbrev row : Start → Row
row s = given s.args.period s.args.distance s.args.cells.now

tested : (c : After-sound) → c.sound.result ≡ sound (row (goal.at.After-sound c).Start)
tested c =
    let p = c.ranges.period in
    let n = c.ranges.distance in
    simp plain at c.sound.ensures

pub returns-then-not-sound : goal.returns-then-not-sound
returns-then-not-sound c =
    let s = (goal.at.returns-then-not-sound c).Start in
    let e = sym (tested (goal.at.returns-then-not-sound c).After-sound) ∙ (not_iff _).0 c.if-not-sound.true-raw in
    (figures-13 (row s) s.args.granules RowNotSound).1 (λ h. true≢false h.0 e, refl)

is-sound : (c : Else-not-sound) → sound (row (goal.at.Else-not-sound c).Start) ≡ true
is-sound c = sym (tested (goal.at.Else-not-sound c).After-sound) ∙ not-false _ c.if-not-sound.false-raw

known : (c : Else-not-sound) → let s = (goal.at.Else-not-sound c).Start in Numbers s.args.period s.args.distance s.args.cells.now
known c = let s = (goal.at.Else-not-sound c).Start in numbers s.args.period s.args.distance s.args.cells.now (is-sound c)

pub granules-requires : goal.granules-requires
granules-requires c =
    let s = (goal.at.granules-requires c).Start in
    let p = s.ranges.period in
    let n = s.ranges.distance in
    simp plain (is-sound c)

counted : (c : After-granules) → c.granules.result ≡ pos (granules (row (goal.at.After-granules c).Start))
counted c =
    let s = (goal.at.After-granules c).Start in
    let p = s.ranges.period in
    let n = s.ranges.distance in
    simp plain at c.granules.ensures

pub returns-then-granules : goal.returns-then-granules
returns-then-granules c =
    let d = (goal.at.returns-then-granules c).After-granules in
    let s = (goal.at.After-granules d).Start in
    (figures-13 (row s) s.args.granules RowNotSound).1 (λ h. c.if-granules.true (ap (of_z w64) (counted d ∙ sym h.1)), refl)

-- R is right
is_right : (c : Else-granules) → let s = (goal.at.Else-granules c).Start in s.args.granules ≡ pos (granules (row s))
is_right c =
    let d = (goal.at.Else-granules c).After-granules in
    let s = (goal.at.After-granules d).Start in
    sym ((test-eq w64 d.granules.result s.args.granules (sfits_of d.granules.type_inv) s.ranges.granules).0 c.if-granules.false) ∙ counted d

-- the counts, and their limits
abbrev checked : After-labelled_instants-labelled → Else-not-sound
checked c = (goal.at.After-labelled_instants-labelled c).Else-not-sound

abbrev begun : After-labelled_instants-labelled → Start
begun c = (checked c).before.before

labelled-is : (c : After-labelled_instants-labelled) → to_z w64 (of_z w64 c.labelled_instants-labelled.result) ≡ pos (labelled_instants (row (begun c)))
labelled-is c = to_z-of_z {w = w64} (sfits_of c.labelled_instants-labelled.type_inv) ∙ c.labelled_instants-labelled.ensures

period-is : (c : After-labelled_instants-labelled) → to_z w64 (of_z w64 (begun c).args.period) ≡ pos (up (begun c).args.period)
period-is c = to_z-of_z (begun c).ranges.period ∙ (known (checked c)).period-is

granules-are : (c : After-labelled_instants-labelled) → to_z w64 (of_z w64 (begun c).args.granules) ≡ pos (granules (row (begun c)))
granules-are c = to_z-of_z (begun c).ranges.granules ∙ is_right (goal.at.After-labelled_instants-labelled c).Else-granules

record Limits (r : Row) : Type 0 where
  pub labelled : labelled_instants r ≤ r.period
  pub low : 1 ≤ granules r
  pub high : granules r ≤ r.period
  pub least : 1 ≤ r.period
  pub greatest : r.period ≤ pool_limit

limits : (c : Else-not-sound) → Limits (row (goal.at.Else-not-sound c).Start)
limits c =
    let s = (goal.at.Else-not-sound c).Start in
    let n = known c in
    record {
      labelled = omega (arith, n.whole, count-at-most (λ z. is_some (label_of z)) s.args.cells.now);
      low = granules-positive (row s) (valid s.args.period s.args.distance s.args.cells.now (is-sound c));
      high = omega (arith, n.middle, granules-at-most (row s));
      least = omega (arith, n.low, n.middle);
      greatest = n.high;
    }

pub overflow_cast-labelled : goal.overflow_cast-labelled
overflow_cast-labelled c = let l = limits (checked c) in cast (labelled_instants (row (begun c))) (labelled-is c) (omega (arith, l.labelled, l.greatest))

pub overflow_cast-period : goal.overflow_cast-period
overflow_cast-period c = let l = limits (checked c) in cast (up (begun c).args.period) (period-is c) (omega (arith, l.greatest))

pub overflow_cast-granules : goal.overflow_cast-granules
overflow_cast-granules c = let l = limits (checked c) in cast (granules (row (begun c))) (granules-are c) (omega (arith, l.high, l.greatest))

pub figures_of-shown-requires : goal.figures_of-shown-requires
figures_of-shown-requires c =
    let l = limits (checked c) in
    let a = ap nat_abs (labelled-is c) in
    let p = ap nat_abs (period-is c) in
    let g = ap nat_abs (granules-are c) in
    (omega (arith, a, p, l.labelled), omega (arith, p, l.least), omega (arith, p, l.greatest), omega (arith, g, l.low), omega (arith, g, l.high, l.greatest))

-- the same figures of equal counts
shown : {a b c d e f : ℕ} (v : Figures) → a ≡ b → c ≡ d → e ≡ f → Quotients a c e v → Quotients b d f v
shown v p q r h = rw r at (rw q at (rw p at h))

pub returns : goal.returns
returns c =
    let d = (goal.at.returns c).After-labelled_instants-labelled in
    let s = begun d in
    let v = c.figures_of-shown.result in
    (figures-answer (row s) s.args.granules v).1 (
      (is-sound (checked d), is_right (goal.at.After-labelled_instants-labelled d).Else-granules),
      shown v (ap nat_abs (labelled-is d)) (ap nat_abs (period-is d)) (ap nat_abs (granules-are d)) c.figures_of-shown.ensures,
    )
