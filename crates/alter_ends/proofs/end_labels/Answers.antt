-- `alter_ends::end_labels` meets its contract: the walk finds the altered granule of a's first granule from 0 on, and that of its last one before 0.
-- Assumes nothing.
use borrow.Author.Rules.{sfits_of}
use mathlib.Core.Path.{◌≡◌, sym, ◌∙◌, ap, subst, subst₂, ap₂}
use mathlib.Core.Bool.{true}
use mathlib.Core.List.{List}
use Prim.Native.Nat.{ℕ, ◌^◌, ◌≤◌}
use native.Mathlib.Omega.{arith}
use lib.IntN.{ℤ, pos, negsuc, ◌+ℤ◌, ◌-ℤ◌}
use lib.Signed.{◌≤ℤ◌, ◌<ℤ◌}
use mir.Facts.{to_z-of_z}
use mir.Syntax.{w64}
use mir.Val.{SFits, to_z, of_z}
use Rattle.integers.proofs.Linear.{ints, ◌∴◌}
use Rattle.integers.proofs.Machine.{test-le, test-not-le}
use Rattle.calendar.specs.Limits.{pool_limit}
use Rattle.calendar.specs.Meaning.{Row}
use Rattle.calendar.specs.Sound.{sound}
use Rattle.calendar.specs.Distance.{size}
use Rattle.calendar.specs.Compute.{anchored}
use Rattle.cursors.specs.Found.{Within}
use Rattle.cursors.proofs.Numbers.{read_as, numbers}
use Rattle.kinds.specs.declared.Alteration.{Alteration}
use Rattle.kinds.specs.declared.Operand.{Operand}
use Rattle.kinds.specs.Stands.{row_in}
use Rattle.alter_granules.specs.declared.Repeat.{Repeat}
use Rattle.alter_granules.specs.declared.ahead.Walk.{Walk}
use Rattle.alter_granules.specs.declared.origin.Labelled.{Labelled}
use Rattle.alter_granules.specs.Given.{altering, Alterable}
use Rattle.alter_granules.specs.Follows.{Altering, begins, Holds, CoarseWalk, Opens, Starts}
use Rattle.alter_granules.proofs.Reach.{Turns, turns_near}
use Rattle.alter_granules.proofs.Walking.{room}
use Rattle.alter_granules.proofs.Followed.{opens-same}
use Rattle.fill_shared.proofs.Points.{label_small}
use Rattle.match_shared.specs.Ends.{FirstIn, LastBefore}
use Rattle.fill_shared.proofs.Cells.{lent, lent_is, same_rows}
use Rattle.alter_ends.specs.Ending.{Turning, EndsOf}
use Rattle.alter_ends.proofs.Ending.{first-in, last-same, last-other, rises, turning}
use Rattle.alter_ends.proofs.end_labels.Goals as goal
use Rattle.alter_ends.proofs.end_labels.Goals.{After-advance_to-end, After-last_before, After-start_walk-start, After-struct_told-4-1, After-struct_told-5-1, After-struct_told-6-1, After-struct_told-8-1, After-struct_told-then-j-last_before-1, Start}

-- ---- the rows that are lent
positive : (pool : List ℤ) (a : Operand) → sound (row_in pool a) ≡ true → pos 0 ≤ℤ a.period
positive pool a s = (numbers a.period a.distance _ s).period-is ∴ simp ints (omega arith)

pub end_of-a_end-requires : goal.end_of-a_end-requires
end_of-a_end-requires c = let s = c.requires.lies.a-stands in record { pos_bound = positive c.args.pool.now c.args.a s.is-sound; a_bound = s.fits }

pub end_of-b_end-requires : goal.end_of-b_end-requires
end_of-b_end-requires c =
    let e = (goal.at.end_of-b_end-requires c).Start in
    let s = e.requires.lies.b-stands in
    record { pos_bound = positive e.args.pool.now e.args.b s.is-sound; a_bound = s.fits }

abbrev Told : Type 0
Told = After-struct_told-4-1

abbrev entry : Told → Start
entry c = (goal.at.After-struct_told-4-1 c).Start

abbrev by : Told → Alteration
by c = (entry c).args.by

abbrev rep : Told → Repeat
rep c = (entry c).args.repeat

abbrev A : Told → Row
A c = row_in (entry c).args.pool.now (entry c).args.a

abbrev B : Told → Row
B c = row_in (entry c).args.pool.now (entry c).args.b

-- as they are lent
abbrev A' : Told → Row
A' c = lent (entry c).args.a c.end_of-a_end.result (entry c).args.pool.now

abbrev B' : Told → Row
B' c = lent (entry c).args.b c.end_of-b_end.result (entry c).args.pool.now

a-fits : (c : Told) → SFits w64 (entry c).args.a.period × SFits w64 (entry c).args.a.distance
a-fits c = (sfits_of c.struct_told-1.given.1.0.1, sfits_of c.struct_told-2-1.given.1.1.0.1)

a-is : (c : Told) → A' c ≡ A c
a-is c = lent_is (entry c).args.a _ _ c.end_of-a_end.ensures (a-fits c).0 (a-fits c).1

b-is : (c : Told) → B' c ≡ B c
b-is c = lent_is (entry c).args.b _ _ c.end_of-b_end.ensures (sfits_of c.struct_told-3-1.given.1.0.1) (sfits_of c.struct_told-4-1.given.1.1.0.1)

-- what holds of the operands' rows holds of them as they are lent, and back
lends : (c : Told) (P : Row → Row → Type 0) → P (A c) (B c) → P (A' c) (B' c)
lends c P p = same_rows P (sym (a-is c)) (sym (b-is c)) p

lent_back : (c : Told) (P : Row → Row → Type 0) → P (A' c) (B' c) → P (A c) (B c)
lent_back c P p = same_rows P (a-is c) (b-is c) p

given : (c : Told) → Alterable (by c) (rep c) (A c) (B c)
given c = (entry c).requires.alterable

a-sound : (c : Told) → sound (A c) ≡ true
a-sound c = (entry c).requires.lies.a-stands.is-sound

b-sound : (c : Told) → sound (B c) ≡ true
b-sound c = (entry c).requires.lies.b-stands.is-sound

-- ---- the first granule
pub first_labelled-j-requires : goal.first_labelled-j-requires
first_labelled-j-requires c = lends c (λ x y. sound x ≡ true) (a-sound c)

abbrev Opened : Type 0
Opened = After-struct_told-5-1

abbrev told : Opened → Told
told c = (goal.at.After-struct_told-5-1 c).After-struct_told-4-1

abbrev first : Opened → Labelled
first c = c.first_labelled-j.result

opens : (c : Opened) → Opens (A (told c)) (first c)
opens c = lent_back (told c) (λ x y. Opens x (first c)) c.first_labelled-j.ensures

-- its label, as the machine has it
j-fits : (c : Opened) → SFits w64 (first c).j
j-fits c = sfits_of c.struct_told-5-1.given.1.0.1

abbrev j-of : Opened → ℤ
j-of c = to_z w64 (of_z w64 (first c).j)

j-read : (c : Opened) → j-of c ≡ (first c).j
j-read c = to_z-of_z {w = w64} (j-fits c)

pub start_walk-start-requires : goal.start_walk-start-requires
start_walk-start-requires c =
    let d = told c in
    let k = lends d (λ x y. (sound x ≡ true) × (sound y ≡ true) × Alterable (by d) (rep d) x y) (a-sound d, b-sound d, given d) in
    record { sound = k.0; sound_2 = k.1; alterable = k.2 }

abbrev Started : Type 0
Started = After-start_walk-start

starts : (c : Started) → let d = told (goal.at.After-start_walk-start c).After-struct_told-5-1 in Starts (by d) (A d) (B d) c.start_walk-start.result
starts c = let d = told (goal.at.After-start_walk-start c).After-struct_told-5-1 in lent_back d (λ x y. Starts (by d) x y c.start_walk-start.result) c.start_walk-start.ensures

-- n and D
turns : (c : Told) → Turns (rep c)
turns c =
    let a = (entry c).args.a in
    let b = (entry c).args.b in
    turns_near (by c) (rep c) (A c) (B c) (given c) (numbers a.period a.distance (A c).cells (a-sound c)).middle (numbers b.period b.distance (B c).cells (b-sound c)).middle

-- the walk ends D fine granules on
ends_at : (c : Started) → let o = (goal.at.After-start_walk-start c).After-struct_told-5-1 in c.start_walk-start.result.end ≡ (first o).j +ℤ (rep (told o)).fine
ends_at c =
    let o = (goal.at.After-start_walk-start c).After-struct_told-5-1 in
    let s = starts c in
    s.ends ∙ ap₂ ◌+ℤ◌ (opens-same (A (told o)) s.first (first o) s.opens (opens o)) (sym (given (told o)).fine)

pub advance_to-walk-requires : goal.advance_to-walk-requires
advance_to-walk-requires c =
    let o = (goal.at.advance_to-walk-requires c).After-struct_told-5-1 in
    let d = told o in
    let w = c.start_walk-start.result in
    let s = starts c in
    let n = turns d in
    let e = opens-same (A d) s.first (first o) s.opens (opens o) in
    let low : begins (by d) (A d) (B d) w.label ≤ℤ j-of o = s.reached ∴ e ∴ j-read o ∴ simp ints (omega arith) in
    let high : j-of o <ℤ w.end = ends_at c ∴ j-read o ∴ n.coarse-low ∴ n.middle ∴ simp ints (omega arith) in
    let q = lends d (λ x y. (sound x ≡ true) × (sound y ≡ true) × Altering (by d) x y × CoarseWalk (by d) x y w × ((begins (by d) x y w.label ≤ℤ j-of o) × (j-of o <ℤ w.end)))
    (a-sound d, b-sound d, (rep d, given d), s.walk, (low, high)) in
    record { sound = q.0; sound_2 = q.1; altering = q.2; coarse_walk = q.3; label_bound = q.4 }

-- ---- the distance, and the last granule before 0
turning-of : (c : Told) → Turning (entry c).args.a.period (entry c).args.a.distance (rep c)
turning-of c =
    let a = (entry c).args.a in
    let b = (entry c).args.b in
    turning (by c) (rep c) a.period a.distance (A c).cells b.period b.distance (B c).cells (a-sound c) (b-sound c) (given c) (entry c).requires.lies.few

pub distance_of-distance-requires : goal.distance_of-distance-requires
distance_of-distance-requires c = let d = told (goal.at.distance_of-distance-requires c).After-struct_told-5-1 in rw (to_z-of_z {w = w64} (a-fits d).0, to_z-of_z {w = w64} (a-fits d).1) (turning-of d)

pub last_before-requires : goal.last_before-requires
last_before-requires c = let d = told (goal.at.last_before-requires c).After-struct_told-5-1 in lends d (λ x y. sound x ≡ true) (a-sound d)

abbrev Known : Type 0
Known = After-last_before

abbrev opened_of : Known → Opened
opened_of c = (goal.at.After-last_before c).After-struct_told-5-1

abbrev base : Known → Told
base c = told (opened_of c)

abbrev walk : Known → Walk
walk c = c.advance_to-walk.result

walked : (c : Known) → let d = base c in
    CoarseWalk (by d) (A d) (B d) (walk c) × (Holds (by d) (A d) (B d) (first (opened_of c)).j (walk c).label × ((walk c).end ≡ c.start_walk-start.result.end))
walked c =
    let d = base c in
    let o = opened_of c in
    let s = c.start_walk-start.result in
    lent_back d (λ x y. CoarseWalk (by d) x y (walk c) × (Holds (by d) x y (first o).j (walk c).label × ((walk c).end ≡ s.end))) (c.advance_to-walk.ensures.walks, (rw (j-read o) at c.advance_to-walk.ensures.has, c.advance_to-walk.ensures.end))

label-near : (c : Known) (w : Walk) → let d = base c in CoarseWalk (by d) (A d) (B d) w → Within (2 ^ 56) w.label
label-near c w h =
    let d = base c in
    let a = (entry d).args.a in
    let b = (entry d).args.b in
    (room (by d) a.period a.distance b.period b.distance (A d).cells (B d).cells (a-sound d) (b-sound d) (rep d, given d) w h).label

label-fits : (c : Known) → SFits w64 (walk c).label
label-fits c = label-near c (walk c) (walked c).0 ∴ simp ints (omega arith)

-- the distance
abbrev rise : Known → ℕ
rise c = let d = base c in (size (altering (by d) (A d) (B d))).distance

rise-is : (c : Known) → c.distance_of-distance.result ≡ pos (rise c)
rise-is c =
    let d = base c in
    let a = (entry d).args.a in
    let b = (entry d).args.b in
    (rw (to_z-of_z {w = w64} (a-fits d).0, to_z-of_z {w = w64} (a-fits d).1) at c.distance_of-distance.ensures)
    ∙ ap pos (rises (by d) (rep d) a.period a.distance (A d).cells b.period b.distance (B d).cells (a-sound d) (b-sound d) (given d))

rise-low : (c : Known) → rise c ≤ pool_limit
rise-low c =
    let d = base c in
    let a = (entry d).args.a in
    let b = (entry d).args.b in
    omega (arith, (turning-of d).few, rises (by d) (rep d) a.period a.distance (A d).cells b.period b.distance (B d).cells (a-sound d) (b-sound d) (given d))

rise-read : (c : Known) → to_z w64 (of_z w64 c.distance_of-distance.result) ≡ pos (rise c)
rise-read c = let q = rise-low c in read_as {w = w64} (rise-is c) (simp ints (omega arith))

-- the last label of a before 0
last-is : (c : Known) → to_z w64 (of_z w64 c.last_before.result) ≡ anchored (A (base c)) (negsuc 0)
last-is c = to_z-of_z {w = w64} (sfits_of c.last_before.type_inv) ∙ lent_back (base c) (λ x y. c.last_before.result ≡ anchored x (negsuc 0)) c.last_before.ensures

-- both ends
ends_of : (c : Known) (x y u m : ℤ) → let d = base c in let o = altering (by d) (A d) (B d) in x ≡ (walk c).label → y ≡ m +ℤ pos (rise c) → LastBefore o u m → EndsOf o (record { first = x; last = y })
ends_of c x y u m e f l =
    let d = base c in
    let o = altering (by d) (A d) (B d) in
    let k = opened_of c in
    record {
      first-at = (first k).t;
      is-first = subst (FirstIn o (pos 0) (pos (size o).period) (first k).t) (sym e) (first-in (by d) (rep d) (A d) (B d) (given d) (first k) (opens k) (walk c).label (walked c).1.0);
      last-at = u;
      is_last = subst (LastBefore o u) (f ∴ simp ints (omega arith)) l;
    }

-- ---- it is the first granule too
abbrev Same : Type 0
Same = After-struct_told-then-j-last_before-1

abbrev same_of : Same → Known
same_of c = (goal.at.After-struct_told-then-j-last_before-1 c).After-last_before

abbrev sum : Known → ℤ
sum c = to_z w64 (of_z w64 (walk c).label) +ℤ to_z w64 (of_z w64 c.distance_of-distance.result)

sum_is : (c : Known) → sum c ≡ (walk c).label +ℤ pos (rise c)
sum_is c = ap₂ ◌+ℤ◌ (to_z-of_z {w = w64} (label-fits c)) (rise-read c)

sum_fits : (c : Known) → SFits w64 ((walk c).label +ℤ pos (rise c))
sum_fits c = label-near c (walk c) (walked c).0 ∴ rise-low c ∴ simp ints (omega arith)

pub overflow_add-result : goal.overflow_add-result
overflow_add-result c = let k = same_of c in subst (SFits w64) (sym (sum_is k)) (sum_fits k)

pub returns-then-j-last_before : goal.returns-then-j-last_before
returns-then-j-last_before c =
    let k = same_of (goal.at.returns-then-j-last_before c).After-struct_told-then-j-last_before-1 in
    let o = opened_of k in
    let d = base k in
    let h = subst₂ ◌≤ℤ◌ (j-read o) (last-is k) ((test-le _ _).0 c.if-j-last_before.true) in
    ends_of k _ _ _ (walk k).label (to_z-of_z {w = w64} (label-fits k)) (read_as {w = w64} (sum_is k) (sum_fits k)) (last-same (by d) (rep d) (A d) (B d) (given d) (first o) (opens o) h (walk k).label (walked k).1.0)

-- ---- it is the one before
abbrev Other : Type 0
Other = After-struct_told-6-1

abbrev other-of : Other → Known
other-of c = (goal.at.After-struct_told-6-1 c).After-last_before

fine-fits : (c : Told) → SFits w64 (rep c).fine
fine-fits c = let n = turns c in n.coarse-low ∴ n.middle ∴ n.fine-high ∴ simp ints (omega arith)

j-near : (c : Opened) → Within (2 ^ 40) (first c).j
j-near c =
    let d = told c in
    let a = (entry d).args.a in
    let o = opens c in
    let n = numbers a.period a.distance (A d).cells (a-sound d) in
    label_small a.period a.distance (A d).cells (a-sound d) (first c).t (first c).j o.low (o.high ∴ n.high ∴ simp ints (omega arith)) o.label

-- D fine granules on
abbrev on : Opened → ℤ
on c = (first c).j +ℤ (rep (told c)).fine

on-made : (c : Opened) → j-of c +ℤ to_z w64 (of_z w64 (rep (told c)).fine) ≡ on c
on-made c = ap₂ ◌+ℤ◌ (j-read c) (to_z-of_z {w = w64} (fine-fits (told c)))

on_fits : (c : Opened) → SFits w64 (on c) × SFits w64 (on c -ℤ pos 1)
on_fits c =
    let n = turns (told c) in
    (j-near c ∴ n.coarse-low ∴ n.middle ∴ n.fine-high ∴ simp ints (omega arith), j-near c ∴ n.coarse-low ∴ n.middle ∴ n.fine-high ∴ simp ints (omega arith))

pub overflow_add-j : goal.overflow_add-j
overflow_add-j c = let o = opened_of (other-of c) in subst (SFits w64) (sym (on-made o)) (on_fits o).0

-- the one before, as the machine has it
abbrev less : Opened → ℤ
less c = to_z w64 (of_z w64 (j-of c +ℤ to_z w64 (of_z w64 (rep (told c)).fine))) -ℤ pos 1

less-is : (c : Opened) → less c ≡ on c -ℤ pos 1
less-is c = ap (λ (z : ℤ). z -ℤ pos 1) (read_as {w = w64} (on-made c) (on_fits c).0)

pub overflow_sub-j : goal.overflow_sub-j
overflow_sub-j c = let o = opened_of (other-of c) in subst (SFits w64) (sym (less-is o)) (on_fits o).1

less-read : (c : Opened) → to_z w64 (of_z w64 (less c)) ≡ on c -ℤ pos 1
less-read c = read_as {w = w64} (less-is c) (on_fits c).1

pub advance_to-end-requires : goal.advance_to-end-requires
advance_to-end-requires c =
    let k = other-of c in
    let o = opened_of k in
    let d = base k in
    let w = walk k in
    let h = walked k in
    let n = turns d in
    let z = to_z w64 (of_z w64 (less o)) in
    let low : begins (by d) (A d) (B d) w.label ≤ℤ z = h.1.0.0 ∴ less-read o ∴ n.coarse-low ∴ n.middle ∴ simp ints (omega arith) in
    let high : z <ℤ w.end = h.1.1 ∴ ends_at (goal.at.After-last_before k).After-start_walk-start ∴ less-read o ∴ simp ints (omega arith) in
    let q = lends d (λ x y. (sound x ≡ true) × (sound y ≡ true) × Altering (by d) x y × CoarseWalk (by d) x y w × ((begins (by d) x y w.label ≤ℤ z) × (z <ℤ w.end)))
    (a-sound d, b-sound d, (rep d, given d), h.0, (low, high)) in
    record { sound = q.0; sound_2 = q.1; altering = q.2; coarse_walk = q.3; label_bound = q.4 }

abbrev Closed : Type 0
Closed = After-advance_to-end

abbrev known_of : Closed → Known
known_of c = other-of (goal.at.After-advance_to-end c).After-struct_told-6-1

abbrev close : Closed → Walk
close c = c.advance_to-end.result

closed : (c : Closed) → let d = base (known_of c) in
    CoarseWalk (by d) (A d) (B d) (close c) × Holds (by d) (A d) (B d) (on (opened_of (known_of c)) -ℤ pos 1) (close c).label
closed c =
    let d = base (known_of c) in
    let o = opened_of (known_of c) in
    let e = c.advance_to-end.ensures in
    lent_back d (λ x y. CoarseWalk (by d) x y (close c) × Holds (by d) x y (on o -ℤ pos 1) (close c).label) (e.walks, rw (less-read o) at e.has)

-- n less, and then the distance more
abbrev back : Closed → ℤ
back c = (close c).label -ℤ (rep (base (known_of c))).coarse

abbrev back-made : Closed → ℤ
back-made c = to_z w64 (of_z w64 (close c).label) -ℤ to_z w64 (of_z w64 (rep (base (known_of c))).coarse)

back_is : (c : Closed) → back-made c ≡ back c
back_is c =
    let n = turns (base (known_of c)) in
    let f : SFits w64 (close c).label = label-near (known_of c) (close c) (closed c).0 ∴ simp ints (omega arith) in
    let g : SFits w64 (rep (base (known_of c))).coarse = n.coarse-low ∴ n.middle ∴ n.fine-high ∴ simp ints (omega arith) in
    ap₂ ◌-ℤ◌ (to_z-of_z {w = w64} f) (to_z-of_z {w = w64} g)

back-near : (c : Closed) → Within (2 ^ 57) (back c)
back-near c =
    let n = turns (base (known_of c)) in
    label-near (known_of c) (close c) (closed c).0 ∴ n.coarse-low ∴ n.middle ∴ n.fine-high ∴ simp ints (omega arith)

back_fits : (c : Closed) → SFits w64 (back c)
back_fits c = back-near c ∴ simp ints (omega arith)

abbrev total : Closed → ℤ
total c = to_z w64 (of_z w64 (back-made c)) +ℤ to_z w64 (of_z w64 (known_of c).distance_of-distance.result)

total-is : (c : Closed) → total c ≡ back c +ℤ pos (rise (known_of c))
total-is c = ap₂ ◌+ℤ◌ (read_as {w = w64} (back_is c) (back_fits c)) (rise-read (known_of c))

total-fits : (c : Closed) → SFits w64 (back c +ℤ pos (rise (known_of c)))
total-fits c = back-near c ∴ rise-low (known_of c) ∴ simp ints (omega arith)

abbrev closed_of : After-struct_told-8-1 → Closed
closed_of c = (goal.at.After-struct_told-8-1 c).After-advance_to-end

pub overflow_sub-result : goal.overflow_sub-result
overflow_sub-result c = let k = closed_of c in subst (SFits w64) (sym (back_is k)) (back_fits k)

pub overflow_add-result-2 : goal.overflow_add-result-2
overflow_add-result-2 c = let k = closed_of c in subst (SFits w64) (sym (total-is k)) (total-fits k)

pub returns : goal.returns
returns c =
    let x = closed_of (goal.at.returns c).After-struct_told-8-1 in
    let k = known_of x in
    let o = opened_of k in
    let d = base k in
    let h = subst₂ ◌<ℤ◌ (last-is k) (j-read o) ((test-not-le _ _).0 x.if-j-last_before.false) in
    ends_of k _ _ _ (back x) (to_z-of_z {w = w64} (label-fits k)) (read_as {w = w64} (total-is x) (total-fits x)) (last-other (by d) (rep d) (A d) (B d) (given d) (first o) (opens o) h (close x).label (closed x).1)
