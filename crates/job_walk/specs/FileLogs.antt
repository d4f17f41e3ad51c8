-- What a log is told of the files of a folder.
use Rattle.std.specs.Prelude.{ℕ, List, ◌++◌, map, IfSome, []}
use Rattle.std.specs.Option.{unwrap_or}
use Rattle.outer_io.specs.Files.{Told}
use Rattle.job_walk.specs.Names.{path_of}
use Rattle.job_walk.specs.JobOf.{Contents}

-- the bytes of a file of the folder, and of these files
abbrev pub bytes_at : Contents → List ℕ → List ℕ → List ℕ
bytes_at files dir name = unwrap_or (files (path_of dir name)) []

abbrev pub all_bytes_at : Contents → List ℕ → List (List ℕ) → List (List ℕ)
all_bytes_at files dir names = map (bytes_at files dir) names

-- where files tell, a log that was told some files was then told these files of the folder too
abbrev pub Logs : {L : Type 0} → (L → List (List ℕ) → Type 0) → Told → List ℕ → List (List ℕ) → L → L → Type 0
Logs has told dir names before after =
    IfSome told (λ files. (had : List (List ℕ)) → has before had → has after (had ++ all_bytes_at files dir names))
