-- An entry whose operands' rows are right: what the checks before the comparison give, and what the comparison decides.
-- Assumes nothing.
use Rattle.std.specs.Prelude.{Option, Some, None, Ok, Err, IsSome, IfSome}
use mathlib.Core.Path.{◌≡◌, refl, sym, ◌∙◌, ap, ap₂, subst}
use mathlib.Core.Logic.{◌↔◌, ◌⊎◌, inl, inr}
use mathlib.Core.Bool.{Bool, true, false, cond}
use mathlib.Core.List.{List}
use Prim.Native.Nat.{ℕ, ◌+◌, ◌-◌, ◌*◌, ◌≤◌}
use native.Mathlib.Omega.{arith}
use lib.IntN.{ℤ, pos}
use lib.Signed.{◌≤ℤ◌}
use lib.ListN.{length, take}
use Rattle.integers.proofs.Linear.{ints}
use Rattle.calendar.specs.Limits.{pool_limit, heading_length}
use Rattle.calendar.specs.Meaning.{Row}
use Rattle.calendar.specs.Operation.{Operation}
use Rattle.calendar.specs.Sound.{sound}
use Rattle.calendar.specs.Distance.{size}
use Rattle.calendar.specs.Compute.{working}
use Rattle.calendar.specs.Checks.{unlabelled, labels_in_range}
use Rattle.calendar.specs.Least.{least}
use Rattle.calendar.specs.Reply.{and_then}
use Rattle.calendar.specs.Reply.Reply.{answer}
use Rattle.calendar.specs.Table.{Entry, entry_at, named}
use Rattle.calendar.specs.Outcome.{converted, at_rows, judged}
use Rattle.calendar.specs.Stored.{joined}
use Rattle.calendar.specs.declared.Refusal.TheVariants.{NothingLabelled, LabelOutsideLimits}
use Rattle.granules.proofs.Tests.{true≢false, true-or-false, leb-iff}
use Rattle.granules.proofs.Sound.{sound-limits}
use Rattle.algebra.specs.Ready.{Operands, Ready}
use Rattle.algebra.specs.Factor.{Factor}
use Rattle.algebra.proofs.Steps.{judged-is}
use Rattle.algebra.proofs.Operations.{operands-weaken}
use Rattle.algebra.proofs.Right.{size-dense}
use Rattle.algebra.proofs.Answered.{converted-sound}
use Rattle.kinds.specs.declared.Operand.{Operand}
use Rattle.kinds.specs.Stands.{row_in}
use Rattle.entries.specs.declared.Named.{Named}
use Rattle.entries.specs.Naming.{Names}
use Rattle.fill_shared.specs.Placed.{over, filled_as}
use Rattle.match_shared.specs.Matching.{agree}
use Rattle.operand_checks.specs.declared.Extent.{Extent}
use Rattle.operand_checks.specs.Admission.{admission}
use Rattle.row_entry.specs.Stores.{Stores}
use Rattle.row_entry.specs.Entering.{operand_of, Enterable}
use Rattle.row_entry.proofs.Sounds.{operands-sound, factor-positive}
use Rattle.row_entry.proofs.AtRows.{enterable, over-is}
use Rattle.row_entry.proofs.Admitted.{Admitted, none-labelled, out_of_range, all-labelled}
use Rattle.row_entry.proofs.Writing.{ExtentFits, passed, is-given}
use Rattle.conversion.specs.Shows.{row_at}
use Rattle.standing.specs.Tests.{Ends}
use Rattle.verdicts.specs.Check.{stands}
use Rattle.checking.specs.Claims.{Behind, Judges}
use Rattle.checking.specs.Weighing.{MayBeRight, Weighable, weighed}
use Rattle.verdicts.proofs.LeftBy.{left_by, left-length, left-stores, left-operand}
use Rattle.verdicts.proofs.Numbers.{stands-numbers}
use Rattle.checking.proofs.Right.{right-iff}

-- the reply to the entry k, by what is read of it
pub read-judged : (l : List Row) (k room : ℕ) (t : List ℤ) (e : Entry) → length l ≡ k → e ≡ entry_at t k
    → judged l room (entry_at t k) ≡ and_then (named k e) (λ o. converted (at_rows l o) room)
read-judged l k room t e many is =
    judged-is l room (entry_at t k) ∙ ap₂ (λ (i : ℕ) (x : Entry). and_then (named i x) (λ o. converted (at_rows l o) room)) many (sym is)

-- what is given of the entry k, which names the operation o, and of its operands
module _ (l : List Row) (k : ℕ) (headings : List ℕ) (pool : List ℤ) (used : ℕ) (many : length l ≡ k) (s : Behind l headings pool used)
    (heading : heading_length * k + heading_length ≤ length headings) (limit : length pool ≤ pool_limit)
    (n : Named) (o : Operation ℕ) (names : Names k o n)
    (a b : Operand) (a-is : a ≡ operand_of (take (heading_length * k) headings) n.first) (b-is : b ≡ operand_of (take (heading_length * k) headings) n.second) where
  abbrev room : ℕ
  room = length pool - used

  abbrev operation : Operation Row
  operation = over n.kind pool a b

  among : heading_length * length l ≤ length headings
  among = omega arith

  fits : length (joined l) ≤ length pool
  fits = omega (arith, s.ends, s.fits)

  stored : Stores l (left_by l headings) pool used
  stored = subst (Stores l (left_by l headings) pool) (sym s.ends) (left-stores l headings pool s.begins s.all_sound among fits)

  operand-left : (j : ℕ) → operand_of (take (heading_length * k) headings) j ≡ operand_of (left_by l headings) j
  operand-left j =
      ap (λ (i : ℕ). operand_of (take (heading_length * i) headings) j) (sym many) ∙ left-operand l headings pool s.begins s.all_sound among fits j

  a-left : a ≡ operand_of (left_by l headings) n.first
  a-left = a-is ∙ operand-left n.first

  b-left : b ≡ operand_of (left_by l headings) n.second
  b-left = b-is ∙ operand-left n.second

  pub entered : Enterable n.kind a b k used (left_by l headings) pool
  entered =
      enterable l k (left_by l headings) pool used many stored n o names a b a-left b-left limit (omega (arith, left-length l headings pool s.begins s.all_sound among fits))

  -- the operation is over the rows that the entry names
  pub over-rows : operation ≡ at_rows l o
  over-rows = over-is l k (left_by l headings) pool used many stored n o names a b a-left b-left

  sounds : Operands (λ r. sound r ≡ true) operation
  sounds = operands-sound (row_in pool a) (row_in pool b) n.kind entered.sounds

  factor : Factor operation
  factor = factor-positive (row_in pool a) (row_in pool b) n.kind entered.numbers

  -- it has passed the checks before its working row is made
  module _ (x : Extent) (h : admission operation room ≡ answer x) (f : ExtentFits x) where
    passes : Admitted operation room x
    passes = passed n.kind x a b k used (left_by l headings) pool entered h f

    pub weighable : Weighable n.kind x a b pool
    weighable = record {
      fillable = is-given n.kind x a b k used (left_by l headings) pool entered h f;
      a-period = entered.a-before.period;
      b-period = entered.b-before.period;
      a-end = omega (arith, entered.a-before.ends, s.fits);
      b_end = omega (arith, entered.b-before.ends, s.fits);
      room = omega (arith, (leb-iff (size operation).period room).0 passes.period-in);
      at-most = limit;
      is = passes.is;
    }

    ready : Ready operation
    ready = weighable.fillable.ready

    dense : (size operation).distance ≤ (size operation).period
    dense = size-dense operation ready (operands-weaken (λ r p. (sound-limits r p).0) operation sounds)

    pub period-limits : (pos 0 ≤ℤ x.period) × (x.period ≤ℤ pos pool_limit)
    period-limits =
        subst (λ (e : Extent). (pos 0 ≤ℤ e.period) × (e.period ≤ℤ pos pool_limit)) passes.is
        (simp ints (omega arith), simp ints (omega (arith, weighable.room)))

    pub distance-limits : (pos 0 ≤ℤ x.distance) × (x.distance ≤ℤ pos pool_limit)
    distance-limits =
        subst (λ (e : Extent). (pos 0 ≤ℤ e.distance) × (e.distance ≤ℤ pos pool_limit)) passes.is
        (simp ints (omega arith), simp ints (omega (arith, dense, weighable.room)))

    -- ---- what the comparison decides

    abbrev row : Row
    row = row_at headings pool k

    abbrev labels : Bool
    labels = agree operation row (size operation).period

    -- checks 12 and 11 pass
    module _ (some-label : unlabelled operation ≡ false) (in-range : labels_in_range operation ≡ true) where
      answered : converted operation room ≡ answer (least (working operation))
      answered =
          let e : filled_as operation ≡ (Ok tt) = rw (some-label, in-range) refl in
          (all-labelled operation room x passes (filled_as operation) refl e).2

      is-sound : sound (least (working operation)) ≡ true
      is-sound = (converted-sound operation room (least (working operation)) sounds factor (omega arith) answered).0

      right : (stands headings pool k used (least (working operation)) ≡ true) ↔ (MayBeRight x k used headings pool × (labels ≡ true))
      right = right-iff headings pool k used heading operation ready some-label in-range is-sound x passes.is

      fits-end : (end : ℕ) → Ends headings pool k used end → stands headings pool k used (least (working operation)) ≡ true → end ≡ used + (least (working operation)).period
      fits-end end ends t =
          let same = ((stands-numbers headings pool k used heading (least (working operation))).0 t).1 in
          ends.is-end ∙ ap (λ (r : Row). used + r.period) same

      wrong : ¬ (MayBeRight x k used headings pool × (labels ≡ true)) → Judges k used headings pool (converted operation room) (Ok None)
      wrong h = (least (working operation), answered, by (true-or-false (stands headings pool k used (least (working operation)))))
        where
          by : (stands headings pool k used (least (working operation)) ≡ true) ⊎ (stands headings pool k used (least (working operation)) ≡ false)
              → stands headings pool k used (least (working operation)) ≡ false
          by (inl t) = absurd (h (right.0 t))
          by (inr t) = t

      decides : (g : Bool) → labels ≡ g → (claim : Option ℕ) → IsSome claim ↔ MayBeRight x k used headings pool → IfSome claim (Ends headings pool k used)
          → Judges k used headings pool (converted operation room) (Ok (cond g claim None))
      decides false e claim may ends = wrong (λ h. true≢false h.1 e)
      decides true e None may ends = wrong (λ h. true≢false (may.1 h.0) refl)
      decides true e (Some end) may ends = let t = right.1 (may.0 refl, e) in (least (working operation), answered, t, fits-end end ends t)

    -- the claim, where it may be right
    module _ (claim : Option ℕ) (may : IsSome claim ↔ MayBeRight x k used headings pool) (ends : IfSome claim (Ends headings pool k used)) where
      here : Judges k used headings pool (converted operation room) (weighed operation row claim)
      here = by (unlabelled operation) (labels_in_range operation) refl refl
        where
          by : (u i : Bool) → unlabelled operation ≡ u → labels_in_range operation ≡ i
              → Judges k used headings pool (converted operation room)
              (cond u (Err NothingLabelled) (cond i (Ok (cond labels claim None)) (Err LabelOutsideLimits)))
          by true i e g = none-labelled operation room x passes (filled_as operation) refl (rw e refl)
          by false false e g = out_of_range operation room x passes (filled_as operation) refl (rw (e, g) refl)
          by false true e g = decides e g labels refl claim may ends

      pub judged-entry : Judges k used headings pool (converted (at_rows l o) room) (weighed operation row claim)
      judged-entry = subst (λ (p : Operation Row). Judges k used headings pool (converted p room) (weighed operation row claim)) over-rows here
