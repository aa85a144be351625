-- One operation with its room: the computed verdict is the one that the calendars give.
use mathlib.Core.Path.{◌≡◌, refl, sym, ◌∙◌, ap, subst, fun_ext}
use mathlib.Core.Logic.Iff
use mathlib.Core.Logic.{◌↔◌}
use mathlib.Core.Bool.{Bool, true, false, not}
use Prim.Native.Nat.{ℕ, ◌*◌, ◌≤◌, ◌<◌}
use native.Mathlib.Nat.{eq_of_mul-eq-mul_right}
use borrow.Author.Tests.{not-false}
use native.Mathlib.Omega.{arith}
use lib.Dec.{leb}
use lib.IntN.{ℤ}
use Rattle.calendar.specs.Meaning.{Row, Calendar, meant, Has, IsCalendar, LeastRow}
use Rattle.calendar.specs.Operation.{Operation, map_operation}
use Rattle.calendar.specs.Algebra.{Result, FullOperands, Aligned, Emptied}
use Rattle.calendar.specs.Size.{Turn, turn, span, working_period}
use Rattle.calendar.specs.Distance.{size}
use Rattle.calendar.specs.Compute.{result, working}
use Rattle.calendar.specs.Checks.{full_operands, aligned, emptied, unlabelled, labels_in_range}
use Rattle.calendar.specs.Least.{least}
use Rattle.calendar.specs.Reply.{Reply, require}
use Rattle.calendar.specs.Reply.Reply.{refused, answer}
use Rattle.calendar.specs.Outcome.{converted}
use Rattle.granules.specs.Valid.{Valid}
use Rattle.granules.proofs.Tests.{not_iff, leb-iff, false-iff, label-ext}
use Rattle.granules.proofs.Calendars.{periods-proportional}
use Rattle.granules.proofs.Rows.{valid-of-least}
use Rattle.granules.proofs.Least.{least-row, least-repeats}
use Rattle.algebra.specs.Ready.{Operands, meaning, Ready, Right}
use Rattle.algebra.specs.Factor.{Factor}
use Rattle.algebra.specs.TableMeaning.{Meant, Judged, FullIn, SpanIn, AlignedIn, KeptIn, WorkingIn, Labelled, InRange, LeastTurn, calendars, turns}
use Rattle.algebra.specs.TableMeaning.Judged.{not_full, span-too-long, not_aligned, emptied as some-emptied, period-too-long, unlabelled as none-labelled, out_of_range, answered}
use Rattle.algebra.specs.Represents.{Represents}
use Rattle.algebra.proofs.Operations.{operands-weaken, operands-map, factor-map, map-operands}
use Rattle.algebra.proofs.OperandChecks.{full_operands-iff, aligned-iff}
use Rattle.algebra.proofs.EmptiedCheck.{emptied-iff}
use Rattle.algebra.proofs.Right.{right}
use Rattle.algebra.proofs.Working.{labelled-some, unlabelled-iff, labels_in_range-iff, working-means, result-calendar, working-valid}

-- the verdict over rows is one over calendars
abbrev pub JudgedAs : Operation Meant → ℕ → Reply Row → Type 0
JudgedAs o room (refused n) = Judged o room (refused n)
JudgedAs o room (answer r) = (m : Meant) × Judged o room (answer m) × Represents m r

-- ---- check by check

-- the checks of `converted`, one after the other
abbrev pub checks : Operation Row → ℕ → Reply Row
checks o room =
    require 7 (full_operands o)
    (require 8 (leb (span (map_operation turn o)) room)
    (require 9 (aligned o)
    (require 10 (not (emptied o))
    (require 8 (leb (size o).period room)
    (require 12 (not (unlabelled o))
    (require 11 (labels_in_range o)
    (answer (least (working o)))))))))

pub converted-checks : (o : Operation Row) (room : ℕ) → converted o room ≡ checks o room
unfolding converted
converted-checks o room = refl

-- a check passes, or a number is given
require-judged : {p : Operation Meant} {room : ℕ} (n : ℕ) (b : Bool) (r : Reply Row)
    → (b ≡ true → JudgedAs p room r) → (b ≡ false → Judged p room (refused n)) → JudgedAs p room (require n b r)
require-judged n true r pass fail = pass refl
require-judged n false r pass fail = fail refl

not-le : {m n : ℕ} → ¬ (m ≤ n) → n < m
not-le f = omega arith

-- the row of an operation that has passed every check
module _ (o : Operation Row) (r : Right o) (labelled : Labelled (meaning o)) (range : labels_in_range o ≡ true) where
  pub answer-row : LeastRow (result o) (least (working o))
  answer-row =
      subst (λ (c : Calendar). LeastRow c (least (working o))) (fun_ext (working-means o r range)) (least-row (working o) (working-valid o r range labelled))

  answer-turn : LeastTurn (result o) (turn (least (working o)))
  answer-turn = record {
    positive = answer-row.positive;
    repeats = least-repeats (result o) (least (working o)) answer-row;
    least = answer-row.least;
  }

  answer-represents : Represents (record { calendar = result o; turn = turn (least (working o)) }) (least (working o))
  answer-represents = record { calendar = result-calendar o r labelled; least = answer-row; turn = refl }

-- the operation q over rows, and p over what these rows stand for
module _ (q : Operation Row) (p : Operation Meant) (room : ℕ) (valid : Operands Valid q) (factor : Factor q)
    (same : meaning q ≡ calendars p) (sizes : map_operation turn q ≡ turns p) where
  -- a test over rows decides over the calendars
  on-calendars : {b : Bool} (P : Operation Calendar → Type 0) → (b ≡ true) ↔ P (meaning q) → (b ≡ true) ↔ P (calendars p)
  on-calendars {b} P h = subst (λ (o : Operation Calendar). (b ≡ true) ↔ P o) same h

  on-rows : (P : Operation Calendar → Type 0) → P (calendars p) → P (meaning q)
  on-rows P h = subst P (sym same) h

  span-iff : (leb (span (map_operation turn q)) room ≡ true) ↔ (span (turns p) ≤ room)
  span-iff = subst (λ (n : ℕ). (leb (span (map_operation turn q)) room ≡ true) ↔ (n ≤ room)) (ap span sizes) (leb-iff (span (map_operation turn q)) room)

  period-is : (size q).period ≡ working_period (turns p)
  unfolding size
  period-is = ap working_period sizes

  period-iff : (leb (size q).period room ≡ true) ↔ (working_period (turns p) ≤ room)
  period-iff = subst (λ (n : ℕ). (leb (size q).period room ≡ true) ↔ (n ≤ room)) period-is (leb-iff (size q).period room)

  full-iff : (full_operands q ≡ true) ↔ FullOperands (calendars p)
  full-iff = on-calendars FullOperands (full_operands-iff q valid)

  aligned-as : (aligned q ≡ true) ↔ Aligned (calendars p)
  aligned-as = on-calendars Aligned (aligned-iff q valid)

  emptied-as : AlignedIn p room → (emptied q ≡ true) ↔ Emptied (calendars p)
  emptied-as a = on-calendars Emptied (emptied-iff q valid factor (on-rows FullOperands a.before.before.full) (on-rows Aligned a.aligned))

  ready : KeptIn p room → Ready q
  ready k = record {
    valid = valid;
    factor = factor;
    full = on-rows FullOperands k.before.before.before.full;
    aligned = on-rows Aligned k.before.aligned;
    kept = on-rows (λ o. ¬ (Emptied o)) k.kept;
  }

  -- the last two checks
  working-judged : WorkingIn p room → JudgedAs p room (require 12 (not (unlabelled q)) (require 11 (labels_in_range q) (answer (least (working q)))))
  working-judged w =
      require-judged 12 (not (unlabelled q)) _
      (λ e. let l = labelled-some q done ((not_iff (unlabelled q)).0 e) in
      require-judged 11 (labels_in_range q) _
      (λ f. (
        record { calendar = result q; turn = turn (least (working q)) },
        answered w (range-iff.0 f) (subst (λ (o : Operation Calendar). Result o (result q)) same done.labels) (result-calendar q done l) (answer-turn q done l f),
        answer-represents q done l f,
      ))
      (λ f. out_of_range w (subst Labelled same l) ((false-iff range-iff).0 f)))
      (λ e. none-labelled w (unlabelled-as.0 (not-false (unlabelled q) e)))
    where
      done : Right q
      done = right q (ready w.before)

      unlabelled-as : (unlabelled q ≡ true) ↔ (¬ (Labelled (calendars p)))
      unlabelled-as = on-calendars (λ o. ¬ (Labelled o)) (unlabelled-iff q done)

      range-iff : (labels_in_range q ≡ true) ↔ InRange (calendars p) (working_period (turns p))
      range-iff = subst (λ (n : ℕ). (labels_in_range q ≡ true) ↔ InRange (calendars p) n) period-is (on-calendars (λ o. InRange o (size q).period) (labels_in_range-iff q done))

  converted_as : JudgedAs p room (converted q room)
  converted_as =
      subst (JudgedAs p room) (sym (converted-checks q room))
      (require-judged 7 (full_operands q) _
      (λ e. let full : FullIn p = record { full = full-iff.0 e } in
      require-judged 8 (leb (span (map_operation turn q)) room) _
      (λ e. let fits : SpanIn p room = record { before = full; fits = span-iff.0 e } in
      require-judged 9 (aligned q) _
      (λ e. let alike : AlignedIn p room = record { before = fits; aligned = aligned-as.0 e } in
      require-judged 10 (not (emptied q)) _
      (λ e. let kept : KeptIn p room = record { before = alike; kept = (false-iff (emptied-as alike)).0 ((not_iff (emptied q)).0 e) } in
      require-judged 8 (leb (size q).period room) _
      (λ e. working-judged (record { before = kept; fits = period-iff.0 e }))
      (λ e. period-too-long kept (not-le ((false-iff period-iff).0 e))))
      (λ e. some-emptied alike ((emptied-as alike).0 (not-false (emptied q) e))))
      (λ e. not_aligned fits ((false-iff aligned-as).0 e)))
      (λ e. span-too-long full (not-le ((false-iff span-iff).0 e))))
      (λ e. not_full ((false-iff full-iff).0 e)))

pub converted-judged : (o : Operation ℕ) (f : ℕ → Meant) (g : ℕ → Row) (room : ℕ) → Operands (λ k. Represents (f k) (g k)) o → Factor o
    → JudgedAs (map_operation f o) room (converted (map_operation g o) room)
converted-judged o f g room rep factor =
    converted_as (map_operation g o) (map_operation f o) room
    (operands-map g Valid o (operands-weaken (λ k h. valid-of-least (g k) (f k).calendar h.calendar h.least) o rep))
    (factor-map g o factor)
    (map-operands g f meant (λ m. m.calendar) o (operands-weaken (λ k h. fun_ext h.least.means) o rep))
    (map-operands g f turn (λ m. m.turn) o (operands-weaken (λ k h. sym h.turn) o rep))

-- ---- an operation has one reply

abbrev Unique : (Reply Meant → Type 0) → Type 0
Unique R = (x y : Reply Meant) → R x → R y → x ≡ y

-- a check that fails gives the number n, and one that passes leads on
data Check (n : ℕ) (P : Type 0) (R : Reply Meant → Type 0) (x : Reply Meant) : Type 0 where
  fails : ¬ P → x ≡ refused n → Check n P R x
  passes : P → R x → Check n P R x

check-unique : {n : ℕ} {P : Type 0} {R : Reply Meant → Type 0} → Unique R → Unique (Check n P R)
check-unique u x y (fails f e) (fails g d) = e ∙ sym d
check-unique u x y (fails f e) (passes p r) = absurd (f p)
check-unique u x y (passes p r) (fails f e) = absurd (f p)
check-unique u x y (passes p r) (passes q s) = u x y r s

-- the answer m
record Answer (o : Operation Meant) (x : Reply Meant) : Type 0 where
  m : Meant
  is : x ≡ answer m
  result : Result (calendars o) m.calendar
  calendar : IsCalendar m.calendar
  turn : LeastTurn m.calendar m.turn

least-turn-unique : (c : Calendar) (p q : Turn) (j : ℤ) → Has c j → LeastTurn c p → LeastTurn c q → p ≡ q
least-turn-unique c p q j h k l = λ i. record { period = same i; distance = distances i }
  where
    same : p.period ≡ q.period
    same =
        omega (
          arith,
          k.least q.period q.distance l.positive.0 l.positive.1 l.repeats,
          l.least p.period p.distance k.positive.0 k.positive.1 k.repeats,
        )

    distances : p.distance ≡ q.distance
    distances =
        eq_of_mul-eq-mul_right q.period l.positive.0 p.distance q.distance
        (periods-proportional c p.period p.distance q.period q.distance k.repeats l.repeats j h ∙ ap (λ (n : ℕ). q.distance * n) same)

answer-unique : (o : Operation Meant) → Unique (Answer o)
answer-unique o x y a b = a.is ∙ ap answer (λ i. record { calendar = same i; turn = turns i }) ∙ sym b.is
  where
    same : a.m.calendar ≡ b.m.calendar
    same = fun_ext (λ t. label-ext (λ j. Iff.trans (a.result t j) (Iff.symm (b.result t j))))

    turns : a.m.turn ≡ b.m.turn
    turns =
        least-turn-unique a.m.calendar a.m.turn b.m.turn a.calendar.label a.calendar.labelled a.turn
        (subst (λ (c : Calendar). LeastTurn c b.m.turn) (sym same) b.turn)

-- the checks in their order
module _ (o : Operation Meant) (room : ℕ) where
  abbrev InWorking : Reply Meant → Type 0
  InWorking = Check 12 (Labelled (calendars o)) (Check 11 (InRange (calendars o) (working_period (turns o))) (Answer o))

  abbrev InKept : Reply Meant → Type 0
  InKept = Check 8 (working_period (turns o) ≤ room) InWorking

  abbrev InAligned : Reply Meant → Type 0
  InAligned = Check 10 (¬ (Emptied (calendars o))) InKept

  abbrev InSpan : Reply Meant → Type 0
  InSpan = Check 9 (Aligned (calendars o)) InAligned

  abbrev InFull : Reply Meant → Type 0
  InFull = Check 8 (span (turns o) ≤ room) InSpan

  abbrev Verdict : Reply Meant → Type 0
  Verdict = Check 7 (FullOperands (calendars o)) InFull

  in_span : {x : Reply Meant} → SpanIn o room → InSpan x → Verdict x
  in_span s v = passes s.before.full (passes s.fits v)

  in-aligned : {x : Reply Meant} → AlignedIn o room → InAligned x → Verdict x
  in-aligned a v = in_span a.before (passes a.aligned v)

  in_kept : {x : Reply Meant} → KeptIn o room → InKept x → Verdict x
  in_kept k v = in-aligned k.before (passes k.kept v)

  in-working : {x : Reply Meant} → WorkingIn o room → InWorking x → Verdict x
  in-working w v = in_kept w.before (passes w.fits v)

  verdict : {x : Reply Meant} → Judged o room x → Verdict x
  verdict (not_full f) = fails f refl
  verdict (span-too-long h l) = passes h.full (fails (λ k. omega arith) refl)
  verdict (not_aligned h f) = in_span h (fails f refl)
  verdict (some-emptied h e) = in-aligned h (fails (λ f. f e) refl)
  verdict (period-too-long h l) = in_kept h (fails (λ k. omega arith) refl)
  verdict (none-labelled h f) = in-working h (fails f refl)
  verdict (out_of_range h l f) = in-working h (passes l (fails f refl))
  verdict (answered {m} h k r c t) =
      let l = c.labelled in
      in-working h (passes (l.0, c.label, (r l.0 c.label).0 l.1) (passes k (record { m = m; is = refl; result = r; calendar = c; turn = t })))

pub judged-unique : (o : Operation Meant) (room : ℕ) (x y : Reply Meant) → Judged o room x → Judged o room y → x ≡ y
judged-unique o room x y j k =
    check-unique (check-unique (check-unique (check-unique (check-unique (check-unique (check-unique (answer-unique o))))))) x y
    (verdict o room j) (verdict o room k)
