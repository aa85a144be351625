-- A list by its rule.
use Rattle.std.specs.Prelude.{ℕ, zero, suc, List, [], ◌∷◌}

-- g 0, g 1, .. g (n - 1)
abbrev pub tabled : {A : Type 0} → (ℕ → A) → ℕ → List A
tabled g zero = []
tabled g (suc n) = g zero ∷ tabled (λ k. g (suc k)) n
