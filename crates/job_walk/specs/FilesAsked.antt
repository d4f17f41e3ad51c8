-- Which files of a folder are asked for.
use Rattle.std.specs.Prelude.{◌≡◌, ℕ, Bool, List, [], ◌∷◌, ◌++◌, map, Option, None, Some, IfSome, Ok}
use Rattle.outer_io.specs.Files.{FilesReading, Told, IsContent}
use Rattle.job_file.specs.Forms.{JobForm}
use Rattle.job_file.specs.Faults.{job_in}
use Rattle.job_walk.specs.Names.{job_file, party_file, path_of}
use Rattle.job_walk.specs.NodeOf.{circuit_files}

-- ---- a list of names

-- these files of a folder were asked for, one after another, and no others
abbrev pub AsksFor : List ℕ → List (List ℕ) → FilesReading → FilesReading → Type 0
AsksFor dir names before after = after.asked ≡ before.asked ++ map (path_of dir) names

-- a first part of them
abbrev pub AsksPart : List ℕ → List (List ℕ) → FilesReading → FilesReading → Type 0
AsksPart dir names before after =
    (part : List (List ℕ)) × (rest : List (List ℕ)) × (names ≡ part ++ rest) × AsksFor dir part before after

-- the file of this name was asked for last
abbrev pub IsLast : List ℕ → List ℕ → FilesReading → Type 0
IsLast dir name after = (had : List (List ℕ)) × (after.asked ≡ had ++ (path_of dir name ∷ []))

-- ---- the files of a job

-- the file of the job, and those of its circuits
abbrev pub plan_files : JobForm → List (List ℕ)
plan_files job = job_file ∷ circuit_files job

-- the files of the parties of these names
abbrev pub party_files : List (List ℕ) → List (List ℕ)
party_files names = map party_file names

-- the folder's job file has a text that tells this job; where the files tell, it is the text that they hold
abbrev pub HasJob : Bool → Told → List ℕ → JobForm → Type 0
HasJob node told dir job =
    (text : List ℕ) × IsContent told (path_of dir job_file) text × (job_in node text ≡ Ok job)

-- what is asked for in a folder, whose job is read for a node or not: these files of its job
pub record Asking : Type 0 where
  pub dir : List ℕ
  pub node : Bool
  pub files : JobForm → List (List ℕ)

-- the files of a job; where no job was read, its own file alone
abbrev pub files_or : (JobForm → List (List ℕ)) → Option JobForm → List (List ℕ)
files_or files None = job_file ∷ []
files_or files (Some job) = files job

-- all files of the job were asked for
abbrev pub AsksAll : Asking → FilesReading → FilesReading → Type 0
AsksAll asking before after =
    (job : JobForm)
    × HasJob asking.node before.told asking.dir job
    × AsksFor asking.dir (asking.files job) before after

-- a first part of them, of the job's file alone where no job was read
abbrev pub AsksFirst : Asking → FilesReading → FilesReading → Type 0
AsksFirst asking before after =
    (job : Option JobForm)
    × IfSome job (HasJob asking.node before.told asking.dir)
    × AsksPart asking.dir (files_or asking.files job) before after
