-- Verdicts as numbers for C.
use Rattle.std.specs.Prelude.{◌+◌, ◌*◌, ℤ, pos, negsuc}
use Rattle.verdicts.specs.declared.Verdict.{Verdict}
use Rattle.verdicts.specs.declared.Verdict.TheVariants.{Accepted, Refused, Wrong}

-- accepted: 0; a refusal: 100 times its number plus its entry; an entry that is wrong: −1 − entry
abbrev pub verdict_code : Verdict → ℤ
verdict_code Accepted = pos 0
verdict_code (Refused m k) = pos (100 * m + k)
verdict_code (Wrong k) = negsuc k
