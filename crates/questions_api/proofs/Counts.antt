-- Down answers with no more parts than the lent list holds.
-- Assumes nothing.
use mathlib.Core.Path.{◌≡◌, ◌∙◌, sym, ap}
use mathlib.Core.List.{List, ◌++◌}
use Prim.Native.Nat.{ℕ, ◌-◌, ◌≤◌}
use native.Mathlib.Omega.{arith}
use lib.IntN.{ℤ, pos}
use lib.ListN.{length, replicate, length-append, length-replicate}
use Rattle.calendar.specs.Reply.{Reply}
use Rattle.calendar.specs.Reply.Reply.{refused, answer}
use Rattle.questions.specs.Answers.{counted, parts_after}

-- the list, which keeps its length, shows them all
pub count-within : (d : Reply (List ℤ)) {n room : ℕ} {l : List ℤ} → answer n ≡ counted d → l ≡ parts_after room d → length l ≡ room → n ≤ room
count-within (refused m) e h k = let z : ◌≡◌ {A = ℕ} 0 1 = cc in omega arith
count-within (answer p) {n} {room} {l} e h k =
    let c : n ≡ length p = cc in
    let t : length (p ++ replicate (room - length p) (pos 0)) ≡ room = sym (ap length h) ∙ k in
    omega (arith, simp (length-append, length-replicate) at t)
