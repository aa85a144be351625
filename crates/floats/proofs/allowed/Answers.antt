-- `floats::allowed` meets its contract.
use Rattle.floats.proofs.allowed.Goals as goal

pub returns-in-Fixed : goal.returns-in-Fixed
returns-in-Fixed c = cc

pub returns-in-Share : goal.returns-in-Share
returns-in-Share c = cc
