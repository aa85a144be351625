-- When the heading and the row of an entry are those that a conversion would leave.
-- Assumes nothing.
use Rattle.std.specs.Prelude.{Option, Some, None, IsSome, IfSome}
use mathlib.Core.Path.{◌≡◌, refl, sym, ◌∙◌, ap}
use mathlib.Core.Logic.{◌↔◌}
use mathlib.Core.Bool.{true, false}
use mathlib.Core.List.{List}
use Prim.Native.Nat.{ℕ, ◌+◌, ◌*◌, ◌≤◌}
use native.Mathlib.Omega.{arith}
use lib.Dec.{eqb}
use lib.IntN.{ℤ}
use lib.ListN.{length}
use Rattle.integers.specs.Parts.{up}
use Rattle.calendar.specs.Limits.{heading_length}
use Rattle.calendar.specs.Meaning.{Row}
use Rattle.calendar.specs.Operation.{Operation}
use Rattle.calendar.specs.Granules.{granules}
use Rattle.calendar.specs.Sound.{sound}
use Rattle.calendar.specs.Distance.{size}
use Rattle.calendar.specs.Compute.{working}
use Rattle.calendar.specs.Checks.{unlabelled, labels_in_range}
use Rattle.calendar.specs.Least.{least}
use Rattle.granules.proofs.Tests.{true≢false, and-iff, eqb-iff}
use Rattle.algebra.specs.Ready.{Ready}
use Rattle.operand_checks.specs.declared.Extent.{Extent}
use Rattle.operand_checks.specs.Admission.{extent}
use Rattle.kinds.specs.Stands.{Stands}
use Rattle.row_entry.specs.Entering.{operand_of}
use Rattle.conversion.specs.Shows.{start_at, granules_at, row_at}
use Rattle.standing.specs.Standing.{is_least}
use Rattle.standing.specs.Tests.{is_counted, row_stands, Ends}
use Rattle.match_shared.specs.Matching.{agree}
use Rattle.match_shared.proofs.RightRow.{right-row}
use Rattle.verdicts.specs.Check.{stands}
use Rattle.verdicts.proofs.Numbers.{stands-numbers}
use Rattle.checking.specs.Weighing.{MayBeRight}

module _ (headings : List ℕ) (pool : List ℤ) (k used : ℕ) (b : heading_length * k + heading_length ≤ length headings) where
  abbrev row : Row
  row = row_at headings pool k

  -- ---- the test of the row by itself

  pub row-iff : (row_stands headings pool k used ≡ true)
      ↔ ((start_at headings k ≡ used) × ((sound row ≡ true) × ((least row).period ≡ row.period)) × (granules row ≡ granules_at headings k))
  unfolding row_stands is_counted is_least
  row-iff =
      let a = and-iff (eqb (start_at headings k) used) (is_counted row (granules_at headings k)) in
      let b = and-iff (is_least row) (eqb (granules row) (granules_at headings k)) in
      let c = and-iff (sound row) (eqb (least row).period row.period) in
      let s = eqb-iff (start_at headings k) used in
      let l = eqb-iff (least row).period row.period in
      let g = eqb-iff (granules row) (granules_at headings k) in (
        λ e.
            let p = a.0 e in
            let q = b.0 p.1 in
            let r = c.0 q.0 in
            (s.0 p.0, (r.0, l.0 r.1), g.0 q.1),
        λ (h, (i, j), n). a.1 (s.1 h, b.1 (c.1 (i, l.1 j), g.1 n)),
      )

  -- a row that may be right stands in the pool
  pub claim-stands : row_stands headings pool k used ≡ true → (claim : Option ℕ) → IsSome claim → IfSome claim (Ends headings pool k used)
      → Stands pool (operand_of headings k)
  claim-stands e None some ends = absurd (true≢false some refl)
  claim-stands e (Some end) some ends =
      let (start, passes, count) = row-iff.0 e in
      record { is-sound = passes.0; fits = omega (arith, start, ends.is-end, ends.fits) }

  -- ---- right

  module _ (o : Operation Row) (ready : Ready o) (some-label : unlabelled o ≡ false) (in-range : labels_in_range o ≡ true) (is-sound : sound (least (working o)) ≡ true)
      (x : Extent) (is : extent o ≡ x) where
    period-is : up x.period ≡ (size o).period
    period-is = ap (λ (e : Extent). up e.period) (sym is)

    distance_is : up x.distance ≡ (size o).distance
    distance_is = ap (λ (e : Extent). up e.distance) (sym is)

    right_there : stands headings pool k used (least (working o)) ≡ true → MayBeRight x k used headings pool × (agree o row (size o).period ≡ true)
    right_there e =
        let (start, same, count) = (stands-numbers headings pool k used b (least (working o))).0 e in
        let passes : sound row ≡ true = ap sound same ∙ is-sound in
        let (short, (c, (p, n)), labels) = (right-row o ready some-label in-range row passes).0 same in (
          record {
            stands = row-iff.1 (start, (passes, short), ap granules same ∙ sym count);
            turns = (c, period-is ∙ p, distance_is ∙ n);
          },
          labels,
        )

    right-back : MayBeRight x k used headings pool → agree o row (size o).period ≡ true → stands headings pool k used (least (working o)) ≡ true
    right-back m labels =
        let (start, (passes, short), count) = row-iff.0 m.stands in
        let (c, p, n) = m.turns in
        let same = (right-row o ready some-label in-range row passes).1 (short, (c, (sym period-is ∙ p, sym distance_is ∙ n)), labels) in
        (stands-numbers headings pool k used b (least (working o))).1 (start, same, sym count ∙ ap granules same)

    -- the entry is right exactly if its row may be and has the labels of the result
    pub right-iff : (stands headings pool k used (least (working o)) ≡ true) ↔ (MayBeRight x k used headings pool × (agree o row (size o).period ≡ true))
    right-iff = (right_there, λ h. right-back h.0 h.1)
