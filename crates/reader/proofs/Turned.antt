-- The lifetimes of `Reader::down`, which are the two readers' and the list's, in the order of `questions::down::down`, where the list's is first;
-- and those of `Reader::open_map`, the reader's and the words', in the order of `row_maps::make`.
-- Assumes `Logic`.
use mathlib.Core.List.{[], ◌∷◌}
use seplogic.Ra.Ura.{Ura}
use base.Logic.{ent}
use base.Fml.{ftrue, flft}
use types.Logic.{Logic}
use contract.Lifetimes.{Lfts, Shares, toks}
use types.Kit.{‵, ◌$◌, ◌∵◌, !, qed, move, done}
use Rattle.hand_proofs.proofs.Passed.{Lifetimes}

-- the last one first
abbrev lft : Lfts 3 → Lfts 3
lft κs = (κs.1.1.0, (κs.0, (κs.1.0, tt)))

abbrev share : Shares 3 → Shares 3
share qs = (qs.1.1.0, (qs.0, (qs.1.0, tt)))

-- the first one last
abbrev unlft : Lfts 3 → Lfts 3
unlft κs = (κs.1.0, (κs.1.1.0, (κs.0, tt)))

abbrev unshare : Shares 3 → Shares 3
unshare qs = (qs.1.0, (qs.1.1.0, (qs.0, tt)))

module _ {M : Type 1} {𝓤 : Ura M} (𝓛 : Logic 𝓤) where
  module _ (κs : Lfts 3) (qs : Shares 3) where
    pub last-first : ent 𝓤 (toks 𝓛 3 κs qs) (toks 𝓛 3 (lft κs) (share qs))
    last-first = qed 𝓛 (‵ (flft κs.0 qs.0) ∷ ‵ (flft κs.1.0 qs.1.0) ∷ ‵ (flft κs.1.1.0 qs.1.1.0) ∷ ‵ ftrue ∷ []) ∵ move ! (2 ∷ 0 ∷ 1 ∷ []) $ done !

    pub first-last : ent 𝓤 (toks 𝓛 3 κs qs) (toks 𝓛 3 (unlft κs) (unshare qs))
    first-last = qed 𝓛 (‵ (flft κs.0 qs.0) ∷ ‵ (flft κs.1.0 qs.1.0) ∷ ‵ (flft κs.1.1.0 qs.1.1.0) ∷ ‵ ftrue ∷ []) ∵ move ! (1 ∷ 2 ∷ 0 ∷ []) $ done !

  abbrev pub turned : Lifetimes 𝓛 3 3
  turned = record { lft = lft; share = share; there = last-first; back = λ κs qs. first-last (lft κs) (share qs) }

  module _ (κs : Lfts 2) (qs : Shares 2) where
    pub exchange : ent 𝓤 (toks 𝓛 2 κs qs) (toks 𝓛 2 (κs.1.0, (κs.0, tt)) (qs.1.0, (qs.0, tt)))
    exchange = qed 𝓛 (‵ (flft κs.0 qs.0) ∷ ‵ (flft κs.1.0 qs.1.0) ∷ ‵ ftrue ∷ []) ∵ move ! (1 ∷ 0 ∷ []) $ done !

  abbrev pub exchanged : Lifetimes 𝓛 2 2
  exchanged = record {
    lft = λ κs. (κs.1.0, (κs.0, tt));
    share = λ qs. (qs.1.0, (qs.0, tt));
    there = exchange;
    back = λ κs qs. exchange (κs.1.0, (κs.0, tt)) (qs.1.0, (qs.0, tt));
  }
