-- Operations with other operands.
use mathlib.Core.Path.{◌≡◌, refl, ap, ap₂}
use Rattle.calendar.specs.Operation.{Operation, map_operation}
use Rattle.calendar.specs.Operation.Operation.{bottom, unary, binary}
use Rattle.algebra.specs.Ready.{Operands}
use Rattle.algebra.specs.Factor.{Factor}

-- ---- operands

-- what follows of each operand follows of all
pub operands-weaken : {A : Type 0} {P Q : A → Type 0} → ((a : A) → P a → Q a) → (o : Operation A) → Operands P o → Operands Q o
operands-weaken h bottom p = tt
operands-weaken h (unary u a) p = h a p
operands-weaken h (binary b l r) p = (h l p.0, h r p.1)

pub operands-map : {A B : Type 0} (f : A → B) (Q : B → Type 0) (o : Operation A) → Operands (λ a. Q (f a)) o → Operands Q (map_operation f o)
operands-map f Q bottom p = tt
operands-map f Q (unary u a) p = p
operands-map f Q (binary b l r) p = p

pub factor-map : {A B : Type 0} (f : A → B) (o : Operation A) → Factor o → Factor (map_operation f o)
factor-map f bottom p = tt
factor-map f (unary u a) p = p
factor-map f (binary b l r) p = p

pub map-operands : {A B C D : Type 0} (f : A → B) (g : A → C) (h : B → D) (k : C → D) (o : Operation A)
    → Operands (λ a. h (f a) ≡ k (g a)) o → map_operation h (map_operation f o) ≡ map_operation k (map_operation g o)
map-operands f g h k bottom e = refl
map-operands f g h k (unary u a) e = ap (unary u) e
map-operands f g h k (binary b l r) e = ap₂ (binary b) e.0 e.1
