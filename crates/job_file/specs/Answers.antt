-- What a check tells.
use Rattle.std.specs.Prelude.{◌≡◌, ◌≢◌, Option, Some, None, Result, MatchResult}
use Rattle.job_file.specs.declared.fault.JobFault.{JobFault}
use Rattle.job_file.specs.declared.fault.JobFault.TheVariants.{Memory}

-- the check told this fault, or let pass where there is none
abbrev pub TellsFault : {A : Type 0} → Result A JobFault → Option JobFault → Type 0
TellsFault result wanted = MatchResult result (λ _. wanted ≡ None) (λ fault. wanted ≡ Some fault)

-- the same, or out of memory
abbrev pub TellsOrMemory : {A : Type 0} → Result A JobFault → Option JobFault → Type 0
TellsOrMemory result wanted = MatchResult result (λ _. wanted ≡ None) (λ fault. fault ≢ Memory → wanted ≡ Some fault)
