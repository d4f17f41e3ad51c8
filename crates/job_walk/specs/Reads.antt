-- What a step of the walk promises: one that reads files, and one that reads none.
use Rattle.std.specs.Prelude.{◌≡◌, ℕ, ◌≤◌, IsTrue, List, Result, IfOk, OnOk, IfErr, IfSome}
use Rattle.outer_io.specs.Count.{Rose}
use Rattle.outer_io.specs.Files.{FilesReading}
use Rattle.job_walk.specs.declared.stop.Stop.{Stop}
use Rattle.job_walk.specs.declared.stop.Stop.TheVariants.{Memory, Words, Out, Net, Peer, Files, Refused, Covering}
use Rattle.job_walk.specs.Verdict.{Verdict, accepted, missing, refused}
use Rattle.job_walk.specs.JobOf.{Contents}
use Rattle.job_walk.specs.FilesAsked.{AsksFor, AsksPart, IsLast}

module _ {A : Type 0} (walk : Verdict A → Type 0) where
  -- why a step that reads no file stopped: the refusal is the walk's. Memory may always run out.
  abbrev pub StopsBy : Stop → Type 0
  StopsBy Memory = Unit {0}
  StopsBy Words = ⊥
  StopsBy Out = ⊥
  StopsBy Net = ⊥
  StopsBy (Peer names fault) = ⊥
  StopsBy (Files name) = ⊥
  StopsBy (Refused line) = walk (refused 3 line.items)
  StopsBy (Covering line) = walk (refused 4 line.items)

-- a step that reads no file, where contracts see what it gives by `seen`
pub record WalksAs {A C : Type 0} (seen : C → A) (walk : Verdict A → Type 0)
    (result : Result C Stop) : Type 0 where
  pub ok : IfOk result (λ found. walk (accepted (seen found)))
  pub stop : IfErr result (StopsBy walk)

module _ {A : Type 0} (walk : Contents → Verdict A → Type 0) (before after : FilesReading) where
  -- where the files tell, the walk through them ends so
  abbrev pub Meets : Verdict A → Type 0
  Meets end = IfSome before.told (λ files. walk files end)

  -- Why a reading of a folder stopped. A refusal is the walk's. A fault of files comes only where their count rose, at
  -- the file that was asked for last, and over steady files only where that is missing. Memory may always run out.
  abbrev pub StopsAt : List ℕ → Stop → Type 0
  StopsAt dir Memory = after.faults ≡ before.faults
  StopsAt dir Words = ⊥
  StopsAt dir Out = ⊥
  StopsAt dir Net = ⊥
  StopsAt dir (Peer names fault) = ⊥
  StopsAt dir (Files name) =
      Rose before.faults after.faults × IsLast dir name.items after
      × (IsTrue before.steady → Meets (missing name.items))
  StopsAt dir (Refused line) = (after.faults ≡ before.faults) × Meets (refused 3 line.items)
  StopsAt dir (Covering line) = (after.faults ≡ before.faults) × Meets (refused 4 line.items)

-- the files tell the same, no count falls, and steady files stay steady
pub record KeepsFiles (before after : FilesReading) : Type 0 where
  pub same_told : after.told ≡ before.told
  pub faults_grow : before.faults ≤ after.faults
  pub taken_grows : before.taken ≤ after.taken
  pub keeps_steady : IsTrue before.steady → IsTrue after.steady

-- a step that reads these files of a folder, where contracts see what was read by `seen`
pub record ReadsAs {A C : Type 0} (dir : List ℕ) (names : List (List ℕ)) (seen : C → A)
    (walk : Contents → Verdict A → Type 0) (before after : FilesReading) (result : Result C Stop) : Type 0 where
  -- what was read is what the walk accepts, and no fault was met
  pub ok : IfOk result (λ found. Meets walk before after (accepted (seen found)))
  pub quiet : OnOk result (after.faults ≡ before.faults)
  -- otherwise there is a cause
  pub stop : IfErr result (StopsAt walk before after dir)
  -- it asks for a first part of the files, and where it goes on, for all of them
  pub asks : AsksPart dir names before after
  pub asks_all : OnOk result (AsksFor dir names before after)
  pub keeps : KeepsFiles before after
