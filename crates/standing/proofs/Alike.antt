-- What the tests of whole lists decide.
-- Assumes nothing.
use mathlib.Core.Path.{◌≡◌, refl, ap, ap₂}
use mathlib.Core.Logic.{◌↔◌}
use mathlib.Core.Bool.{Bool, true}
use mathlib.Core.List.{List, [], ◌∷◌}
use native.Mathlib.Omega.{arith}
use lib.ListN.{length}
use Rattle.granules.proofs.Tests.{true≢false, and-iff}
use Rattle.standing.specs.Standing.{alike}

-- two lists are alike exactly if they are equal
pub alike-iff : {A : Type 0} (f : A → A → Bool) → ((x y : A) → (f x y ≡ true) ↔ (x ≡ y)) → (l m : List A) → (alike f l m ≡ true) ↔ (l ≡ m)
alike-iff f h [] [] = (λ e. refl, λ e. refl)
alike-iff f h [] (y ∷ m) = (λ e. absurd (true≢false e refl), λ e. absurd (omega (arith, ap length e)))
alike-iff f h (x ∷ l) [] = (λ e. absurd (true≢false e refl), λ e. absurd (omega (arith, ap length e)))
alike-iff f h (x ∷ l) (y ∷ m) =
    let ih = alike-iff f h l m in
    let a = and-iff (f x y) (alike f l m) in (
      λ e. ap₂ ◌∷◌ ((h x y).0 (a.0 e).0) (ih.0 (a.0 e).1),
      λ e. let p : x ≡ y = cc e in let q : l ≡ m = cc e in a.1 ((h x y).1 p, ih.1 q),
    )
