-- `omega` for the integers: `simp ints` turns a statement on integers into one on naturals, which `omega arith` proves.
--     a lemma                        f = simp ints (omega arith)
--     within a proof, from h and k   h ∴ k ∴ simp ints (omega arith)
--     from hypotheses on atoms       simp ints (omega orders)
-- Read are `≡`, `≤ℤ`, `<ℤ` and `SFits w` under `→`, `×`, `¬` and `↔`, between terms of `+ℤ`, `-ℤ`, `neg_ℤ`, `*ℤ`, `minℤ`, `maxℤ`, `suc_ℤ`, `pred_ℤ`, `pos n`, `negsuc n` and atoms. Any other term is an atom, and so is a product of atoms. So each identity of commutative rings is proved, and each fact that is linear in the products left after multiplying out; a fact to be multiplied by another is handed over multiplied (`Order`'s `mul_mono`).
-- Products are multiplied out and their factors sorted, a factor `pos n` becoming `scale n`. `Mark`, a shut identity, then goes down a term to its atoms, so that no equation fits a term twice. An atom z is read as `up z ⊖ dn z`.
-- In the set the order counts: `mark-atom` fits every term, so it stands after all others on `Mark`.
-- Assumes nothing.
use mathlib.Core.Path.{◌≡◌, refl, sym, ◌∙◌, subst}
use mathlib.Core.Logic.{◌↔◌}
use mathlib.Core.Bool.{Bool, true, false, cond}
use Prim.Native.Nat.{ℕ, suc, ◌+◌, ◌*◌, ◌^◌, ◌<◌, ◌≤◌, min, max}
use native.Mathlib.Omega.{arith}
use lib.IntN.{ℤ, pos, negsuc, neg_ℤ, suc_ℤ, pred_ℤ, sub_ℕ, ◌+ℤ◌, ◌-ℤ◌, ◌*ℤ◌, +ℤ_one, -ℤ_one, *ℤ_comm}
use lib.Dec.{T}
use lib.Signed.{◌≤ℤ◌, ◌<ℤ◌, le_z, le_z_yes}
use mir.Syntax.{Width}
use mir.Val.{SFits, hbits}
use Rattle.integers.specs.Parts.{up, dn}
use Rattle.integers.proofs.Difference.{◌⊖◌, up-⊖, dn-⊖, ⊖-eq, eq-⊖, parts, sum-⊖, neg-⊖, mul-⊖, le_parts, lt-parts}

-- ---- marks
-- an integer that is still to be read
pub Mark : ℤ → ℤ
Mark z = z

-- the relations, between integers that are being read
pub Same : ℤ → ℤ → Type 0
Same x y = x ≡ y

pub AtMost : ℤ → ℤ → Type 0
AtMost x y = x ≤ℤ y

pub Under : ℤ → ℤ → Type 0
Under x y = x <ℤ y

pub read-eq : (x y : ℤ) → (x ≡ y) ↔ Same (Mark x) (Mark y)
unfolding Mark Same
read-eq x y = (λ h. h, λ h. h)

pub read-le : (x y : ℤ) → (x ≤ℤ y) ↔ AtMost (Mark x) (Mark y)
unfolding Mark AtMost
read-le x y = (λ h. h, λ h. h)

pub read-lt : (x y : ℤ) → (x <ℤ y) ↔ Under (Mark x) (Mark y)
unfolding Mark Under
read-lt x y = (λ h. h, λ h. h)

pub mark-sum : (x y : ℤ) → Mark (x +ℤ y) ≡ Mark x +ℤ Mark y
unfolding Mark
mark-sum x y = refl

pub mark-neg : (x : ℤ) → Mark (neg_ℤ x) ≡ neg_ℤ (Mark x)
unfolding Mark
mark-neg x = refl

pub mark-pos : (n : ℕ) → Mark (pos n) ≡ n ⊖ 0
unfolding Mark
mark-pos n = parts (pos n)

pub mark-negsuc : (n : ℕ) → Mark (negsuc n) ≡ 0 ⊖ suc n
unfolding Mark
mark-negsuc n = parts (negsuc n)

pub mark-⊖ : (a b : ℕ) → Mark (a ⊖ b) ≡ a ⊖ b
unfolding Mark
mark-⊖ a b = refl

pub mark-atom : (z : ℤ) → Mark z ≡ up z ⊖ dn z
unfolding Mark
mark-atom z = parts z

pub same-⊖ : (a b c d : ℕ) → Same (a ⊖ b) (c ⊖ d) ↔ (a + d ≡ c + b)
unfolding Same
same-⊖ a b c d = (eq-⊖ a b c d, ⊖-eq a b c d)

pub at-most-⊖ : (a b c d : ℕ) → AtMost (a ⊖ b) (c ⊖ d) ↔ (a + d ≤ c + b)
unfolding AtMost
at-most-⊖ a b c d =
    let l = le_parts (a ⊖ b) (c ⊖ d) in
    (λ h. let k = l.0 h in omega (arith, up-⊖ a b, dn-⊖ a b, up-⊖ c d, dn-⊖ c d), λ h. l.1 (omega (arith, up-⊖ a b, dn-⊖ a b, up-⊖ c d, dn-⊖ c d)))

pub under-⊖ : (a b c d : ℕ) → Under (a ⊖ b) (c ⊖ d) ↔ (a + d < c + b)
unfolding Under
under-⊖ a b c d =
    let l = lt-parts (a ⊖ b) (c ⊖ d) in
    (λ h. let k = l.0 h in omega (arith, up-⊖ a b, dn-⊖ a b, up-⊖ c d, dn-⊖ c d), λ h. l.1 (omega (arith, up-⊖ a b, dn-⊖ a b, up-⊖ c d, dn-⊖ c d)))

-- ---- multiplying out
-- the laws of the product, read at the parts of each factor
mark-mul : (x y : ℤ) → Mark (x *ℤ y) ≡ Mark x *ℤ Mark y
unfolding Mark
mark-mul x y = refl

ruleset at-parts = (read-eq, mark-mul, mark-sum, mark-neg, mark-pos, mark-negsuc, mark-atom, sum-⊖, neg-⊖, mul-⊖, same-⊖)

pub *ℤ-assoc : (x y z : ℤ) → (x *ℤ y) *ℤ z ≡ x *ℤ (y *ℤ z)
*ℤ-assoc = simp at-parts (omega arith)

pub *ℤ-left-comm : (x y z : ℤ) → x *ℤ (y *ℤ z) ≡ y *ℤ (x *ℤ z)
*ℤ-left-comm = simp at-parts (omega arith)

pub *ℤ-sum : (x y z : ℤ) → x *ℤ (y +ℤ z) ≡ x *ℤ y +ℤ x *ℤ z
*ℤ-sum = simp at-parts (omega arith)

pub sum-*ℤ : (x y z : ℤ) → (x +ℤ y) *ℤ z ≡ x *ℤ z +ℤ y *ℤ z
sum-*ℤ = simp at-parts (omega arith)

pub *ℤ-neg : (x y : ℤ) → x *ℤ neg_ℤ y ≡ neg_ℤ (x *ℤ y)
*ℤ-neg = simp at-parts (omega arith)

pub neg-*ℤ : (x y : ℤ) → neg_ℤ x *ℤ y ≡ neg_ℤ (x *ℤ y)
neg-*ℤ = simp at-parts (omega arith)

-- n times x, where n is a natural: it goes out of products, to the front
pub scale : ℕ → ℤ → ℤ
scale n x = pos n *ℤ x

pub pos-*ℤ : (n : ℕ) (x : ℤ) → pos n *ℤ x ≡ scale n x
unfolding scale
pos-*ℤ n x = refl

pub *ℤ-pos : (x : ℤ) (n : ℕ) → x *ℤ pos n ≡ scale n x
unfolding scale
*ℤ-pos x n = *ℤ_comm x (pos n)

pub negsuc-*ℤ : (n : ℕ) (x : ℤ) → negsuc n *ℤ x ≡ neg_ℤ (scale (suc n) x)
unfolding scale
negsuc-*ℤ = simp at-parts (omega arith)

pub *ℤ-negsuc : (x : ℤ) (n : ℕ) → x *ℤ negsuc n ≡ neg_ℤ (scale (suc n) x)
unfolding scale
*ℤ-negsuc = simp at-parts (omega arith)

pub scale-*ℤ : (n : ℕ) (x y : ℤ) → scale n x *ℤ y ≡ scale n (x *ℤ y)
unfolding scale
scale-*ℤ n = *ℤ-assoc (pos n)

pub *ℤ-scale : (n : ℕ) (x y : ℤ) → x *ℤ scale n y ≡ scale n (x *ℤ y)
unfolding scale
*ℤ-scale n x y = *ℤ-left-comm x (pos n) y

pub mark-scale : (n : ℕ) (x : ℤ) → Mark (scale n x) ≡ scale n (Mark x)
unfolding Mark
mark-scale n x = refl

pub scale-⊖ : (n a b : ℕ) → scale n (a ⊖ b) ≡ n * a ⊖ n * b
unfolding scale
scale-⊖ = simp (mark-⊖, at-parts) (omega arith)

-- a difference, as a sum of a `pos` and a `negsuc` computes to it
pub sub-⊖ : (a b : ℕ) → sub_ℕ a b ≡ a ⊖ b
unfolding ◌⊖◌
sub-⊖ a b = refl

pub ⊖-*ℤ : (a b : ℕ) (x : ℤ) → (a ⊖ b) *ℤ x ≡ scale a x -ℤ scale b x
unfolding scale
⊖-*ℤ a b x = simp (mark-⊖, at-parts) (omega arith)

pub *ℤ-⊖ : (x : ℤ) (a b : ℕ) → x *ℤ (a ⊖ b) ≡ scale a x -ℤ scale b x
*ℤ-⊖ x a b = *ℤ_comm x (a ⊖ b) ∙ ⊖-*ℤ a b x

pub suc-sum : (x : ℤ) → suc_ℤ x ≡ x +ℤ pos 1
suc-sum x = sym (+ℤ_one x)

pub pred-sum : (x : ℤ) → pred_ℤ x ≡ x +ℤ negsuc 0
pred-sum x = sym (-ℤ_one x)

-- ---- the smaller and the greater of two
unfoldable pub minℤ : ℤ → ℤ → ℤ
minℤ x y = cond (le_z x y) x y

unfoldable pub maxℤ : ℤ → ℤ → ℤ
maxℤ x y = cond (le_z x y) y x

-- by the test of `x ≤ℤ y`, at differences
by_le : (P : Bool → Type 0) (a b c d : ℕ) → (a + d ≤ c + b → P true) → (¬ (a + d ≤ c + b) → P false) → P (le_z (a ⊖ b) (c ⊖ d))
unfolding AtMost
by_le P a b c d f g = go (le_z (a ⊖ b) (c ⊖ d)) refl
  where
    iff : ((a ⊖ b) ≤ℤ (c ⊖ d)) ↔ (a + d ≤ c + b)
    iff = at-most-⊖ a b c d

    go : (t : Bool) → le_z (a ⊖ b) (c ⊖ d) ≡ t → P t
    go true e = f (iff.0 (le_z_yes (subst T (sym e) tt)))
    go false e = g (λ h. subst T e (iff.1 h).le)

pub mark-min : (x y : ℤ) → Mark (minℤ x y) ≡ minℤ (Mark x) (Mark y)
unfolding Mark
mark-min x y = refl

pub mark-max : (x y : ℤ) → Mark (maxℤ x y) ≡ maxℤ (Mark x) (Mark y)
unfolding Mark
mark-max x y = refl

pub min-⊖ : (a b c d : ℕ) → minℤ (a ⊖ b) (c ⊖ d) ≡ min (a + d) (c + b) ⊖ (b + d)
unfolding minℤ
min-⊖ a b c d =
    by_le (λ t. cond t (a ⊖ b) (c ⊖ d) ≡ min (a + d) (c + b) ⊖ (b + d)) a b c d
    (λ h. ⊖-eq a b (min (a + d) (c + b)) (b + d) (omega arith))
    (λ h. ⊖-eq c d (min (a + d) (c + b)) (b + d) (omega arith))

pub max-⊖ : (a b c d : ℕ) → maxℤ (a ⊖ b) (c ⊖ d) ≡ max (a + d) (c + b) ⊖ (b + d)
unfolding maxℤ
max-⊖ a b c d =
    by_le (λ t. cond t (c ⊖ d) (a ⊖ b) ≡ max (a + d) (c + b) ⊖ (b + d)) a b c d
    (λ h. ⊖-eq c d (max (a + d) (c + b)) (b + d) (omega arith))
    (λ h. ⊖-eq a b (max (a + d) (c + b)) (b + d) (omega arith))

-- ---- the range of a signed width
pub read_sfits : (w : Width) (z : ℤ) → SFits w z ↔ (AtMost (0 ⊖ 2 ^ hbits w) (Mark z) × Under (Mark z) (2 ^ hbits w ⊖ 0))
read_sfits w (pos n) = simp (mark-pos, at-most-⊖, under-⊖) (omega arith)
read_sfits w (negsuc n) = simp (mark-negsuc, at-most-⊖, under-⊖) (omega arith)

-- h hands its statement to the goal, as a premise that `simp` then reads with it
infixr 4 ◌∴◌
pub ◌∴◌ {ℓ ℓ'} : {A : Type ℓ} {B : Type ℓ'} → A → (A → B) → B
h ∴ f = f h

pub ruleset ints = (
  suc-sum,
  pred-sum,
  sub-⊖,
  pos-*ℤ,
  *ℤ-pos,
  negsuc-*ℤ,
  *ℤ-negsuc,
  ⊖-*ℤ,
  *ℤ-⊖,
  scale-*ℤ,
  *ℤ-scale,
  *ℤ-sum,
  sum-*ℤ,
  *ℤ-neg,
  neg-*ℤ,
  *ℤ-assoc,
  *ℤ_comm,
  *ℤ-left-comm,
  read-eq,
  read-le,
  read-lt,
  read_sfits,
  mark-pos,
  mark-negsuc,
  mark-⊖,
  mark-scale,
  mark-sum,
  mark-neg,
  mark-min,
  mark-max,
  mark-atom,
  sum-⊖,
  neg-⊖,
  scale-⊖,
  min-⊖,
  max-⊖,
  same-⊖,
  at-most-⊖,
  under-⊖,
)

-- ---- `omega orders` reads the hypotheses, and the fields of records, that state an order or an equation of atoms. One with a sum in it, or a range, is handed over by `∴`
pub le_in : {a b : ℤ} → a ≤ℤ b → up a + dn b ≤ up b + dn a
le_in {a} {b} h = simp ints at h

pub lt_in : {a b : ℤ} → a <ℤ b → up a + dn b < up b + dn a
lt_in {a} {b} h = simp ints at h

pub eq-in : {a b : ℤ} → a ≡ b → up a + dn b ≡ up b + dn a
eq-in {a} {b} h = simp ints at h

pub le_out : {a b : ℤ} → up a + dn b ≤ up b + dn a → a ≤ℤ b
le_out {a} {b} h = simp ints h

pub lt_out : {a b : ℤ} → up a + dn b < up b + dn a → a <ℤ b
lt_out {a} {b} h = simp ints h

pub ruleset orders = (arith, le_in, lt_in, eq-in, le_out, lt_out)
