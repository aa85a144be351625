-- `standing::is_clear` meets its contract: the chain tests what is left of the list behind its first `start`, or behind them all.
-- Assumes nothing.
use Rattle.std.proofs.Common.{◌≡◌, ℕ, ◌-◌, List, length, take, drop, ◌∙◌, arith, rules, length-drop}
use Prim.Native.Nat.{min}
use lib.Dec.{eqb}
use borrow.Author.Tests.{tests}
use Rattle.std.proofs.lemmas.List.{take_all, drop_min}
use Rattle.std.proofs.lemmas.Iterator.{YieldsList-from_slice}
use Rattle.std.proofs.lemmas.Iterator.Search.{all_from_yields_List}
use Rattle.standing.proofs.is_clear.Goals as goal

tail_is : (l : List ℕ) (i : ℕ) → take (length l - min i (length l)) (drop (min i (length l)) l) ≡ drop i l
tail_is l i = take_all _ _ (omega (arith, length-drop (min i (length l)) l)) ∙ drop_min i l

pub returns : goal.returns
returns c =
    let behind = YieldsList-from_slice _ (rw c.min-from.ensures at c.iter.ensures.rest ∙ tail_is c.args.headings.now c.args.start) in
    all_from_yields_List (λ n. eqb n 0) _ _ _ c.all.ensures.ran behind (λ x b q k. search (rules, tests))
