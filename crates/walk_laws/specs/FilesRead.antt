-- Which files a call that was done asked for, where the files tell.
use Rattle.std.specs.Prelude.{◌≡◌, ℕ, List, Some, Ok}
use Rattle.command_words.specs.Commands.{command_of}
use Rattle.job_file.specs.Forms.{JobForm}
use Rattle.job_file.specs.Faults.{job_in}
use Rattle.job_walk.specs.Names.{job_file, path_of}
use Rattle.job_walk.specs.JobOf.{Contents}
use Rattle.job_walk.specs.FilesAsked.{Asking, AsksFor}
use Rattle.mpc_top.specs.Outside.{Outside}
use Rattle.mpc_top.specs.FilesDue.{asking_of}
use Rattle.mpc_top.specs.Command.{Answers}

-- those of the job that the job's file has, one after another, and no others
abbrev pub CallsReadTheirFiles : Type 0
CallsReadTheirFiles =
    (words : List (List ℕ)) (before after : Outside) (files : Contents) (asking : Asking) (text : List ℕ)
    (job : JobForm)
    → Answers words before after 0
    → before.files.told ≡ Some files
    → asking_of (command_of words) ≡ Some asking
    → files (path_of asking.dir job_file) ≡ Some text
    → job_in asking.node text ≡ Ok job
    → AsksFor asking.dir (asking.files job) before.files after.files
