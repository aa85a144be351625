-- Each law of documents 01 and 02 holds in the algebra: where both sides are defined, they are the same calendar, or have the same labels.
use mathlib.Core.Path.{refl, sym, ◌∙◌, subst, fun_ext}
use mathlib.Core.Logic.{◌↔◌, inl, inr}
use Prim.Native.Nat.{ℕ, ◌*◌}
use lib.IntN.{ℤ, pos, neg_ℤ, ◌+ℤ◌, ◌-ℤ◌, ◌*ℤ◌}
use Rattle.calendar.specs.Meaning.{Calendar, Same, Has, IsCalendar}
use Rattle.calendar.specs.Operation.{Operation}
use Rattle.calendar.specs.Operation.SetOperation.{union, intersection, difference}
use Rattle.calendar.specs.Operation.Unary.{group, shift, renumber}
use Rattle.calendar.specs.Operation.Selection.{select-up}
use Rattle.calendar.specs.Operation.Binary.{alter, combine, anchor, select, by-labels}
use Rattle.calendar.specs.Algebra.{Result}
use Rattle.laws.specs.Terms.{Term, Value, Occurs}
use Rattle.laws.specs.Laws.{Law, LabelLaw, a, b, c, ◌∪◌, ◌∩◌, ◌∖◌}
use Rattle.laws.proofs.Values.{result-unique, unary-at, left_at, right-at, binary-at}
use Rattle.laws.proofs.Pointwise
use Rattle.laws.proofs.Sets
use Rattle.laws.proofs.SelfOperands
use Rattle.laws.proofs.Selections
use Rattle.laws.proofs.Alter
use Rattle.laws.proofs.Renumber

pub law-holds : (l r : Term) → Law l r → (v : ℕ → Calendar) → ((n : ℕ) → Occurs n l → IsCalendar (v n)) → (x y : Calendar) → Value v l x → Value v r y → Same x y
law-holds l r (Law.shift-shift s t) v is x y X Y =
    let (p, P, D) = X in
    Pointwise.shift-shift s t (v 0) p x y (unary-at v (shift s) 0 P).result D.result (unary-at v (shift (s +ℤ t)) 0 Y).result
law-holds l r Law.shift_zero v is x y X Y = λ t. Pointwise.shift_zero (v 0) x (unary-at v (shift (pos 0)) 0 X).result t ∙ sym (Y t)
law-holds l r Law.group-one v is x y X Y = λ t. Pointwise.group-one (v 0) x (unary-at v (group 1) 0 X).result t ∙ sym (Y t)
law-holds l r (Law.alter-zero m n) v is x y X Y = λ t.
    let D = binary-at v (alter m n (pos 0)) 0 1 X in
    Alter.alter-zero m n (v 0) (v 1) x D.full.0 D.full.1 (is 0 (inl refl)).ordered (is 1 (inr refl)).ordered D.aligned D.result t ∙ sym (Y t)
law-holds l r (Law.group-group m n) v is x y X Y =
    let (p, P, D) = X in
    Pointwise.group-group m n (v 0) p x y (unary-at v (group m) 0 P).result D.result (unary-at v (group (m * n)) 0 Y).result
law-holds l r (Law.group-shift m s) v is x y X Y =
    let (p, P, D) = X in
    let (q, Q, E) = Y in
    Pointwise.group-shift m s (v 0) p q x y D.factor (unary-at v (shift (pos m *ℤ s)) 0 P).result D.result (unary-at v (group m) 0 Q).result E.result
law-holds l r (Law.alter-back m n z) v is x y X Y = λ t.
    let (p, P, D) = left_at v (alter m n (neg_ℤ z)) 0 (Term.binary (alter m n z) a b) X in
    let E = binary-at v (alter m n z) 0 1 P in
    Alter.alter-back m n z (v 0) (v 1) p x D.full.0 D.full.1 E.kept E.result D.result t ∙ sym (Y t)
law-holds l r (Law.renumber-renumber m n) v is x y X Y =
    let (p, P, D) = X in
    let (q, Q, E) = Y in
    let F = unary-at v (renumber m) 0 P in
    let e = result-unique (Operation.unary (renumber m) (v 0)) q p (unary-at v (renumber m) 0 Q).result F.result in
    Renumber.renumber-renumber m n (v 0) p x y (is 0 refl) F.calendar F.result D.result
    (subst (λ (q : Calendar). Result (Operation.unary (shift (pos 1 -ℤ n)) q) y) (fun_ext e) E.result)
law-holds l r Law.union_comm v is x y X Y =
    Sets.union_comm (v 0) (v 1) x y (binary-at v (by-labels union) 0 1 X).result (binary-at v (by-labels union) 1 0 Y).result
law-holds l r Law.intersection-comm v is x y X Y =
    let D = binary-at v (by-labels intersection) 0 1 X in
    Sets.intersection-comm (v 0) (v 1) x y D.aligned D.result (binary-at v (by-labels intersection) 1 0 Y).result
law-holds l r Law.union_assoc v is x y X Y =
    let (p, P, D) = right-at v (by-labels union) (a ∪ b) 2 X in
    let (q, Q, E) = left_at v (by-labels union) 0 (b ∪ c) Y in
    Sets.union_assoc (v 0) (v 1) (v 2) p q x y (binary-at v (by-labels union) 0 1 P).result D.result (binary-at v (by-labels union) 1 2 Q).result E.result
law-holds l r Law.intersection-assoc v is x y X Y =
    let (p, P, D) = right-at v (by-labels intersection) (a ∩ b) 2 X in
    let (q, Q, E) = left_at v (by-labels intersection) 0 (b ∩ c) Y in
    Sets.intersection-assoc (v 0) (v 1) (v 2) p q x y (binary-at v (by-labels intersection) 0 1 P).result D.result (binary-at v (by-labels intersection) 1 2 Q).result E.result
law-holds l r Law.absorption v is x y X Y = λ t.
    let (p, P, D) = left_at v (by-labels union) 0 (a ∩ b) X in
    Sets.absorption (v 0) (v 1) p x (binary-at v (by-labels intersection) 0 1 P).result D.result t ∙ sym (Y t)
law-holds l r Law.distribution v is x y X Y =
    let (p, P, D) = left_at v (by-labels intersection) 0 (b ∪ c) X in
    let (q, s, Q, S, E) = Y in
    Sets.distribution (v 0) (v 1) (v 2) p q s x y (binary-at v (by-labels union) 1 2 P).result D.result
    (binary-at v (by-labels intersection) 0 1 Q).result (binary-at v (by-labels intersection) 0 2 S).result E.result
law-holds l r Law.double-difference v is x y X Y =
    let (p, P, D) = left_at v (by-labels difference) 0 (a ∖ b) X in
    let E = binary-at v (by-labels difference) 0 1 P in
    Sets.double-difference (v 0) (v 1) p x y E.aligned E.result D.result (binary-at v (by-labels intersection) 0 1 Y).result
law-holds l r Law.anchor-self v is x y X Y = λ t. SelfOperands.anchor-self (v 0) x (binary-at v anchor 0 0 X).result t ∙ sym (Y t)
law-holds l r Law.combine-self v is x y X Y = λ t. SelfOperands.combine-self (v 0) x (binary-at v combine 0 0 X).result t ∙ sym (Y t)
law-holds l r Law.select-up-twice v is x y X Y =
    let (p, P, D) = right-at v (select select-up) (Term.binary (select select-up) a b) 1 X in
    Selections.select-up-twice (v 0) (v 1) p x y (binary-at v (select select-up) 0 1 P).result D.result (binary-at v (select select-up) 0 1 Y).result
law-holds l r Law.combine-again v is x y X Y =
    let (p, P, D) = left_at v combine 0 (Term.binary combine a b) X in
    Selections.combine-again (v 0) (v 1) p x y (binary-at v combine 0 1 P).result D.result (binary-at v combine 0 1 Y).result

-- the labels of both sides are the same
pub label-law-holds : (l r : Term) → LabelLaw l r → (v : ℕ → Calendar) → (x y : Calendar) → Value v l x → Value v r y → (j : ℤ) → Has x j ↔ Has y j
label-law-holds l r LabelLaw.up-combine v x y X Y =
    Selections.up-combine (v 0) (v 1) x y (binary-at v (select select-up) 0 1 X).result (binary-at v combine 0 1 Y).result
