-- `alter_granules::origin::walk_at` meets its contract: each number fits, and they are those of the altered granule that has the fine one.
-- Assumes nothing.
use borrow.Author.Rules.{sfits_of}
use mathlib.Core.Path.{◌≡◌, sym, ◌∙◌, ap₂, subst}
use native.Mathlib.Omega.{arith}
use lib.IntN.{ℤ, pos, ◌+ℤ◌, ◌-ℤ◌, ◌*ℤ◌}
use lib.Signed.{◌<ℤ◌}
use mir.Facts.{to_z-of_z}
use mir.Syntax.{w64}
use mir.Val.{SFits, to_z, of_z}
use Rattle.integers.specs.Parts.{up}
use Rattle.integers.specs.Floor.{floor_div, floor_mod}
use Rattle.integers.proofs.Linear.{ints, ◌∴◌}
use Rattle.integers.proofs.Machine.{plain}
use Rattle.calendar.specs.Algebra.{changes}
use Rattle.cursors.proofs.Numbers.{read_as}
use Rattle.kinds.specs.declared.Alteration.{Alteration}
use Rattle.alter_granules.specs.declared.coarse.Begin.{Begin}
use Rattle.alter_granules.proofs.Sized.{Small, small}
use Rattle.alter_granules.proofs.Started.{first_of, turns_of, started, Numbered, numbered}
use Rattle.alter_granules.proofs.origin.walk_at.Goals as goal
use Rattle.alter_granules.proofs.origin.walk_at.Goals.{After-first_fine, After-first_fine-f, After-floor_div-turns, After-floor_mod, After-struct_told-12-1, After-struct_told-14-1, After-struct_told-8-1, Start}

numbers : (s : Start) → Numbered s.args.by s.args.repeat s.args.first s.args.from s.args.begin
numbers s = numbered s.args.by s.args.repeat s.requires.0 s.requires.1 s.args.first s.args.from s.args.begin s.requires.2

factors : (s : Start) → Small s.args.by
factors s = small s.args.by s.requires.2.given.limits

-- what first_fine makes of a beginning
read_first : (by : Alteration) (c : Begin) (r : ℤ) → SFits w64 c.i → SFits w64 c.p → SFits w64 (first_of by c)
    → r ≡ to_z w64 (of_z w64 c.p) +ℤ changes (up by.x) (up by.y) (to_z w64 (of_z w64 c.i) -ℤ pos 1) *ℤ by.z → to_z w64 (of_z w64 r) ≡ first_of by c
read_first by c r i p f e = read_as {w = w64} (e ∙ ap₂ (λ (p i : ℤ). p +ℤ changes (up by.x) (up by.y) (i -ℤ pos 1) *ℤ by.z) (to_z-of_z p) (to_z-of_z i)) f

pub first_fine-f-requires : goal.first_fine-f-requires
first_fine-f-requires c =
    let s = (goal.at.first_fine-f-requires c).Start in
    let n = numbers s in
    let o = s.requires.2 in
    let i = n.i-fits in
    let p = n.p-fits in
    record {
      limits = o.given.limits;
      within = simp plain ((o.i-near.0 ∴ simp ints (omega arith), o.i-near.1 ∴ simp ints (omega arith)), (o.p-near.0 ∴ simp ints (omega arith), o.p-near.1 ∴ simp ints (omega arith)));
    }

-- the turns
abbrev start : After-first_fine-f → Start
start c = (goal.at.After-first_fine-f c).Start

apart : (c : After-first_fine-f) → let s = start c in to_z w64 (of_z w64 s.args.first.j) -ℤ to_z w64 (of_z w64 c.first_fine-f.result) ≡ s.args.first.j -ℤ first_of s.args.by s.args.from
apart c =
    let s = start c in
    let n = numbers s in
    ap₂ ◌-ℤ◌ (to_z-of_z n.j-fits) (read_first s.args.by s.args.from c.first_fine-f.result n.i-fits n.p-fits n.first_fits c.first_fine-f.ensures)

pub overflow_sub-first : goal.overflow_sub-first
overflow_sub-first c = let d = (goal.at.overflow_sub-first c).After-first_fine-f in subst (SFits w64) (sym (apart d)) (numbers (start d)).apart_fits

pub floor_div-turns-requires : goal.floor_div-turns-requires
floor_div-turns-requires c =
    let n = numbers (start (goal.at.floor_div-turns-requires c).After-first_fine-f) in
    subst (λ (z : ℤ). pos 0 <ℤ z) (sym (to_z-of_z n.fine-fits)) n.fine-positive

abbrev fined : After-floor_div-turns → After-first_fine-f
fined c = (goal.at.After-floor_div-turns c).After-first_fine-f

abbrev k : Start → ℤ
k s = turns_of s.args.by s.args.repeat s.args.first s.args.from

turns : (c : After-floor_div-turns) → to_z w64 (of_z w64 c.floor_div-turns.result) ≡ k (start (fined c))
turns c =
    let d = fined c in
    let n = numbers (start d) in
    read_as {w = w64} (c.floor_div-turns.ensures ∙ ap₂ (λ (t D : ℤ). floor_div t (up D)) (read_as {w = w64} (apart d) n.apart_fits) (to_z-of_z n.fine-fits)) n.turns-fits

-- the label
coarse-turns : (c : After-floor_div-turns) → let s = start (fined c) in to_z w64 (of_z w64 c.floor_div-turns.result) *ℤ to_z w64 (of_z w64 s.args.repeat.coarse) ≡ k s *ℤ s.args.repeat.coarse
coarse-turns c = ap₂ ◌*ℤ◌ (turns c) (to_z-of_z (numbers (start (fined c))).coarse-fits)

pub overflow_mul-result : goal.overflow_mul-result
overflow_mul-result c = let d = (goal.at.overflow_mul-result c).After-floor_div-turns in subst (SFits w64) (sym (coarse-turns d)) (numbers (start (fined d))).coarse-turns-fits

label : (c : After-floor_div-turns) → let s = start (fined c) in
    to_z w64 (of_z w64 s.args.from.i) +ℤ to_z w64 (of_z w64 (to_z w64 (of_z w64 c.floor_div-turns.result) *ℤ to_z w64 (of_z w64 s.args.repeat.coarse))) ≡ s.args.from.i +ℤ k s *ℤ s.args.repeat.coarse
label c = let n = numbers (start (fined c)) in ap₂ ◌+ℤ◌ (to_z-of_z n.i-fits) (read_as {w = w64} (coarse-turns c) n.coarse-turns-fits)

pub overflow_add-result : goal.overflow_add-result
overflow_add-result c = let d = (goal.at.overflow_add-result c).After-floor_div-turns in subst (SFits w64) (sym (label d)) (numbers (start (fined d))).label-fits

-- where the next one begins
abbrev divided : After-struct_told-8-1 → After-floor_div-turns
divided c = (goal.at.After-struct_told-8-1 c).After-floor_div-turns

pub first_fine-requires : goal.first_fine-requires
first_fine-requires c =
    let s = start (fined (divided c)) in
    let n = numbers s in
    let o = s.requires.2 in
    let i = n.next-i-fits in
    let p = n.next-p-fits in
    record {
      limits = o.given.limits;
      within = simp plain (n.next-i-near, (o.next-near.0 ∴ simp ints (omega arith), o.next-near.1 ∴ simp ints (omega arith)));
    }

abbrev before : After-first_fine → After-floor_div-turns
before c = divided (goal.at.After-first_fine c).After-struct_told-8-1

abbrev begun : After-first_fine → Start
begun c = start (fined (before c))

fine-turns : (c : After-first_fine) → let s = begun c in to_z w64 (of_z w64 (before c).floor_div-turns.result) *ℤ to_z w64 (of_z w64 s.args.repeat.fine) ≡ k s *ℤ s.args.repeat.fine
fine-turns c = ap₂ ◌*ℤ◌ (turns (before c)) (to_z-of_z (numbers (begun c)).fine-fits)

pub overflow_mul-result-2 : goal.overflow_mul-result-2
overflow_mul-result-2 c = let d = (goal.at.overflow_mul-result-2 c).After-first_fine in subst (SFits w64) (sym (fine-turns d)) (numbers (begun d)).fine-turns-fits

next : (c : After-first_fine) → let s = begun c in
    to_z w64 (of_z w64 c.first_fine.result) +ℤ to_z w64 (of_z w64 (to_z w64 (of_z w64 (before c).floor_div-turns.result) *ℤ to_z w64 (of_z w64 s.args.repeat.fine)))
    ≡ first_of s.args.by s.args.begin +ℤ k s *ℤ s.args.repeat.fine
next c =
    let s = begun c in
    let n = numbers s in
    ap₂ ◌+ℤ◌ (read_first s.args.by s.args.begin c.first_fine.result n.next-i-fits n.next-p-fits n.next_fits c.first_fine.ensures)
    (read_as {w = w64} (fine-turns c) n.fine-turns-fits)

pub overflow_add-result-2 : goal.overflow_add-result-2
overflow_add-result-2 c = let d = (goal.at.overflow_add-result-2 c).After-first_fine in subst (SFits w64) (sym (next d)) (numbers (begun d)).sum_fits

-- its residue
less : (s : Start) → to_z w64 (of_z w64 s.args.begin.i) -ℤ to_z w64 (of_z w64 s.args.by.y) ≡ s.args.begin.i -ℤ pos (up s.args.by.y)
less s = ap₂ ◌-ℤ◌ (to_z-of_z (numbers s).next-i-fits) (to_z-of_z (factors s).y-fits ∙ (factors s).y-is)

pub overflow_sub-begin : goal.overflow_sub-begin
overflow_sub-begin c = let s = begun (goal.at.overflow_sub-begin c).After-first_fine in subst (SFits w64) (sym (less s)) (numbers s).less-fits

abbrev nexted : After-struct_told-12-1 → After-first_fine
nexted c = (goal.at.After-struct_told-12-1 c).After-first_fine

pub floor_mod-requires : goal.floor_mod-requires
floor_mod-requires c =
    let f = factors (begun (nexted c)) in
    subst (λ (z : ℤ). pos 0 <ℤ z) (sym (to_z-of_z f.x_fits)) (f.x-is ∴ f.x-low ∴ simp ints (omega arith))

residue : (c : After-floor_mod) → let s = begun (nexted (goal.at.After-floor_mod c).After-struct_told-12-1) in to_z w64 (of_z w64 c.floor_mod.result) ≡ pos (floor_mod (s.args.begin.i -ℤ pos (up s.args.by.y)) (up s.args.by.x))
residue c =
    let s = begun (nexted (goal.at.After-floor_mod c).After-struct_told-12-1) in
    to_z-of_z {w = w64} (sfits_of c.floor_mod.type_inv)
    ∙ c.floor_mod.ensures
    ∙ ap₂ (λ (t x : ℤ). pos (floor_mod t (up x))) (read_as {w = w64} (less s) (numbers s).less-fits) (to_z-of_z (factors s).x_fits)

-- the end
end : (s : Start) → to_z w64 (of_z w64 s.args.first.j) +ℤ to_z w64 (of_z w64 s.args.repeat.fine) ≡ s.args.first.j +ℤ s.args.repeat.fine
end s = let n = numbers s in ap₂ ◌+ℤ◌ (to_z-of_z n.j-fits) (to_z-of_z n.fine-fits)

abbrev last : After-struct_told-14-1 → After-floor_mod
last c = (goal.at.After-struct_told-14-1 c).After-floor_mod

pub overflow_add-result-3 : goal.overflow_add-result-3
overflow_add-result-3 c = let s = begun (nexted (goal.at.After-floor_mod (last c)).After-struct_told-12-1) in subst (SFits w64) (sym (end s)) (numbers s).end_fits

pub returns : goal.returns
returns c a b o =
    let m = last c in
    let f = nexted (goal.at.After-floor_mod m).After-struct_told-12-1 in
    let d = before f in
    let s = begun f in
    let n = numbers s in
    started s.args.by s.args.repeat a b s.args.first s.args.from (k s) _ o n.turned (record {
      label = read_as {w = w64} (label d) n.label-fits;
      next = read_as {w = w64} (next f) n.sum_fits;
      residue = residue m;
      end = read_as {w = w64} (end s) n.end_fits;
    })
