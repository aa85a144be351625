-- The turns of the loop that renumbers labels: it keeps the last label and its number.
-- Assumes nothing.
use Rattle.calendar.specs.declared.Refusal.TheVariants.{NothingLabelled, LabelOutsideLimits}
use Rattle.std.specs.Prelude.{Err, Ok}
use mathlib.Core.Path.{◌≡◌, refl, sym, ◌∙◌, ap, subst}
use mathlib.Core.Option.{Option, map}
use mathlib.Core.Bool.{Bool, true, false, cond, ◌||◌}
use mathlib.Core.List.{List}
use Prim.Native.Nat.{ℕ, ◌+◌, ◌-◌, ◌≤◌, ◌<◌}
use native.Mathlib.Omega.{arith}
use lib.IntN.{ℤ, pos, ◌+ℤ◌}
use lib.ListN.{length, get_or, set, length-take}
use mir.Syntax.{w64}
use mir.Val.{SFits}
use Rattle.integers.specs.Parts.{up}
use Rattle.integers.proofs.Linear.{ints, ◌∴◌}
use Rattle.calendar.specs.Meaning.{Row, meant, label_of}
use Rattle.calendar.specs.Operation.{Operation}
use Rattle.calendar.specs.Operation.Unary.{renumber}
use Rattle.calendar.specs.Operation.Operation.{unary}
use Rattle.calendar.specs.Lists.{is_some, if_label}
use Rattle.calendar.specs.Distance.{size}
use Rattle.calendar.specs.Compute.{renumbered, cell_of}
use Rattle.calendar.specs.Limits.{in_range, pool_limit}
use Rattle.granules.specs.Valid.{Valid}
use Rattle.cursors.proofs.Numbers.{numbers, valid}
use Rattle.kinds.specs.declared.Kind.TheVariants.{Renumber}
use Rattle.fill_shared.specs.Placed.{Fills}
use Rattle.fill_shared.proofs.Filling.{Lent, Filling, row_of, a-kept, filling-length, filling-ends, filling-index, filling-more, filling-out, filling-done}
use Rattle.fill_unary.specs.Counts.{Counts}
use Rattle.fill_unary.proofs.Instants.{label-at, labelled-first}
use Rattle.fill_unary.proofs.Counting.{Step, result-is, count_fits}

renumber-period : (x : ℤ) (a : Row) → (size (unary (renumber x) a)).period ≡ a.period
unfolding size
renumber-period x a = refl

-- what holds before the instant t
pub record Renumbers (x : ℤ) (a : Lent) (at period : ℕ) (old new : List ℤ) (last number : ℤ) (t : ℕ) : Type 0 where
  pub labelled : Bool
  pub filling : Filling (Renumber x) a a at period old new labelled t
  pub counts : Counts (row_of a old) x (pos t) last number

module _ {x : ℤ} {a : Lent} {at period : ℕ} {old new : List ℤ} {last number : ℤ} {t : ℕ} (h : Renumbers x a at period old new last number t) where
  abbrev r : Row
  r = row_of a old

  abbrev o : Operation Row
  o = unary (renumber x) r

  pub rules : Valid r
  rules = valid a.period a.distance r.cells h.filling.lends.is-fillable.sounds.0

  pub renumbers-length : length new ≡ length old
  renumbers-length = filling-length (Renumber x) a a at period old new h.labelled t h.filling

  whole : period ≡ up a.period
  whole = h.filling.lends.is-period ∙ renumber-period x r

  module _ (m : t < period) where
    in_row : t < a.end - a.start
    in_row =
        let e = (numbers a.period a.distance r.cells h.filling.lends.is-fillable.sounds.0).whole in
        omega (arith, whole, simp length-take at e)

    -- the cells that a turn reads and writes
    pub renumbers-index : (a.start + t < length new) × ((at + t < length new) × (length new ≤ pool_limit))
    renumbers-index =
        let i = filling-index (Renumber x) a a at period old new h.labelled t h.filling m in
        let e = (filling-ends (Renumber x) a a at period old new h.labelled t h.filling).0 in
        (omega (arith, in_row), i)

    pub label_is : meant r (pos t) ≡ label_of (get_or new (a.start + t) (pos 0))
    label_is =
        ap (λ (y : Row). meant y (pos t)) (sym (a-kept (Renumber x) a a at period old new h.labelled t h.filling))
        ∙ label-at a.period a.distance (a.end - a.start) a.start t new (omega (arith, whole)) in_row renumbers-index.0

    -- the last label, its number and the next number fit
    pub renumbers-fit : SFits w64 last × SFits w64 number × SFits w64 (number +ℤ pos 1)
    renumbers-fit =
        let l = h.filling.lends in
        let few : t ≤ pool_limit = omega (arith, l.room, l.few) in
        count_fits a.period a.distance r.cells l.is-fillable.sounds.0 h.counts l.is-fillable.numbers (simp ints (omega arith)) (few ∴ simp ints (omega arith))

    -- one instant more
    module _ (l : Option ℤ) (low n : ℤ) (s : Step r x (pos t) l low n) where
      pub renumbers-more : (pool : List ℤ) → pool ≡ set new (at + t) (cell_of l) → if_label l in_range ≡ true → Renumbers x a at period old pool low n (t + 1)
      renumbers-more pool e i = record {
        labelled = is_some l || h.labelled;
        filling = filling-more (Renumber x) a a at period old new h.labelled t h.filling m l s.0 pool (is_some l || h.labelled) i e refl;
        counts = s.1;
      }

      pub renumbers-out : if_label l in_range ≡ false → Fills o at period old new (Err LabelOutsideLimits)
      renumbers-out i = filling-out (Renumber x) a a at period old new h.labelled t h.filling m l s.0 new refl i

  -- a sound row has a label
  pub renumbers-done : period ≤ t → Fills o at period old new (Ok tt)
  renumbers-done m =
      let l = labelled-first r rules in
      let e : h.labelled ≡ true =
      h.filling.writes.is-labelled.1 (l.0, omega (arith, l.2, whole), ap is_some (result-is x r (pos l.0) ∙ ap (map (renumbered r x)) l.3)) in
      subst (λ (b : Bool). Fills o at period old new (cond b (Ok tt) (Err NothingLabelled))) e (filling-done (Renumber x) a a at period old new h.labelled t h.filling m)
