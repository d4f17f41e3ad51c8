-- The files of a call that was done.
use Rattle.std.proofs.Common.{◌≡◌, ℕ, List, Some, Result, Ok, refl, subst}
use Rattle.outer_io.specs.Files.{FilesReading, Told, IsContent}
use Rattle.job_file.specs.Forms.{JobForm}
use Rattle.job_file.specs.Faults.{job_in}
use Rattle.job_file.specs.declared.fault.JobFault.{JobFault}
use Rattle.job_walk.specs.Names.{job_file, path_of}
use Rattle.job_walk.specs.JobOf.{Contents}
use Rattle.job_walk.specs.FilesAsked.{Asking, AsksFor, AsksAll}
use Rattle.mpc_top.specs.FilesDue.{AsksForAll}
use Rattle.walk_laws.specs.FilesRead.{CallsReadTheirFiles}

same_text : (told : Told) (files : Contents) (path text text' : List ℕ) → told ≡ Some files → files path ≡ Some text → IsContent told path text' → text' ≡ text
same_text told files path text text' is has content =
    let held : files path ≡ Some text' = subst (λ t. IsContent t path text') is content in
    cc

same_job : (r : Result JobForm JobFault) (job job' : JobForm) → r ≡ Ok job → r ≡ Ok job' → job' ≡ job
same_job r job job' is is' = cc

of_job : (asking : Asking) (files : Contents) (text : List ℕ) (job : JobForm) (before after : FilesReading) → before.told ≡ Some files → files (path_of asking.dir job_file) ≡ Some text → job_in asking.node text ≡ Ok job
    → AsksAll asking before after → AsksFor asking.dir (asking.files job) before after
of_job asking files text job before after told has is (job', (text', content, is'), asks) =
    let same = same_text before.told files (path_of asking.dir job_file) text text' told has content in
    subst (λ j. AsksFor asking.dir (asking.files j) before after) (same_job (job_in asking.node text) job job' is (subst (λ t. job_in asking.node t ≡ Ok job') same is')) asks

pub calls_read : CallsReadTheirFiles
calls_read words before after files asking text job answers told asked has is =
    of_job asking files text job before.files after.files told has is (subst (λ o. AsksForAll o before.files after.files) asked (answers.asks_all refl))
