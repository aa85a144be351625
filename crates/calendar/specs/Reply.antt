-- One answer, or one numbered refusal (document 01, "When the desk says no").
use Rattle.std.specs.Prelude.{Bool, true, false, ℕ}

pub data Reply (A : Type 0) : Type 0 where
  refused : ℕ → Reply A
  answer : A → Reply A

-- refused under the number n unless the check passes
abbrev pub require : {A : Type 0} → ℕ → Bool → Reply A → Reply A
require n true r = r
require n false r = refused n

abbrev pub and_then : {A B : Type 0} → Reply A → (A → Reply B) → Reply B
and_then (refused n) f = refused n
and_then (answer a) f = f a
