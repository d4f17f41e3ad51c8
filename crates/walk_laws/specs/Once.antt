-- That a walk ends with one verdict.
use Rattle.std.specs.Prelude.{Option, Some}
use Rattle.command_words.specs.Commands.{CommandForm}
use Rattle.job_walk.specs.Verdict.{Verdict, EndsOnce}
use Rattle.job_walk.specs.JobOf.{Contents}
use Rattle.mpc_top.specs.Due.{Due, IsDue}

-- any words over any files that tell are due one verdict, and no other
abbrev pub AreDueOneVerdict : Type 0
AreDueOneVerdict =
    (command : Option CommandForm) (files : Contents)
    → ((verdict : Verdict Due) × IsDue command (Some files) verdict) × EndsOnce (IsDue command (Some files))
