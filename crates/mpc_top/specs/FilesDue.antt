-- Which files the words of a call have read.
use Rattle.std.specs.Prelude.{◌≡◌, ℕ, false, List, [], ◌∷◌, ◌++◌, Option, None, Some}
use Rattle.outer_io.specs.Files.{FilesReading}
use Rattle.command_words.specs.Commands.{CommandForm, run, check, pair, node, sample, audit}
use Rattle.job_walk.specs.Names.{other_file, view_file}
use Rattle.job_walk.specs.FilesAsked.{Asking, AsksAll, AsksFirst, IsLast, plan_files, party_files}
use Rattle.job_walk.specs.JobReads.{plan_asking, node_asking}

-- the file of a job, those of its circuits, those of its parties, and these
abbrev pub job_asking : List ℕ → List (List ℕ) → Asking
job_asking dir more =
    record { dir = dir; node = false; files = λ job. plan_files job ++ (party_files job.names ++ more) }

-- what is asked for; words that are refused ask for no file, and neither does a sample
abbrev pub asking_of : Option CommandForm → Option Asking
asking_of None = None
asking_of (Some (run dir workers view)) = Some (job_asking dir [])
asking_of (Some (check dir)) = Some (plan_asking dir)
asking_of (Some (pair dir group)) = Some (job_asking dir (other_file ∷ []))
asking_of (Some (node dir name)) = Some (node_asking dir name)
asking_of (Some (sample count)) = None
asking_of (Some (audit dir)) = Some (job_asking dir (view_file ∷ []))

-- all that is asked for was asked for, in order and nothing else
abbrev pub AsksForAll : Option Asking → FilesReading → FilesReading → Type 0
AsksForAll None before after = after.asked ≡ before.asked
AsksForAll (Some asking) before after = AsksAll asking before after

-- a first part of it
abbrev pub AsksInOrder : Option Asking → FilesReading → FilesReading → Type 0
AsksInOrder None before after = after.asked ≡ before.asked
AsksInOrder (Some asking) before after = AsksFirst asking before after

-- the file of this name was asked for last
abbrev pub AsksLast : Option Asking → List ℕ → FilesReading → Type 0
AsksLast None name after = ⊥
AsksLast (Some asking) name after = IsLast asking.dir name after
