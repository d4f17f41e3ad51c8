-- The answer of the top call.
use Rattle.std.specs.Prelude.{◌≡◌, ◌⊎◌, ℕ, ◌≤◌, IsTrue, List, length, Ok}
use Rattle.outer_io.specs.Count.{Rose}
use Rattle.outer_io.specs.Sink.{SinkReading, Writes}
use Rattle.command_words.specs.Commands.{command_of}
use Rattle.job_walk.specs.declared.stop.Stop.{Stop}
use Rattle.job_walk.specs.Verdict.{Verdict, accepted, missing, refused}
use Rattle.job_walk.specs.Reads.{KeepsFiles}
use Rattle.mpc_top.specs.Texts.{files_fault_line}
use Rattle.mpc_top.specs.Outside.{Outside, KeepsNet, KeepsSpawner}
use Rattle.mpc_top.specs.Due.{Due, text, talk, IsDue}
use Rattle.mpc_top.specs.NodeTalks.{HearsAllQuietly, LetsTalk}
use Rattle.mpc_top.specs.FilesDue.{asking_of, AsksForAll, AsksInOrder}
use Rattle.mpc_top.specs.HiddenInputs.{CommandHides}
use Rattle.mpc_top.specs.Outcomes.{Fulfils, HasCause, GaveDue, Tells}

-- ---- the outside of a call

-- no coming call of the outside fails by itself
pub record IsSteady (outside : Outside) : Type 0 where
  pub files : IsTrue outside.files.steady
  pub out : IsTrue outside.out.steady
  pub err : IsTrue outside.err.steady

-- a count of faults rose
abbrev pub AnyRose : Outside → Outside → Type 0
AnyRose before after =
    Rose before.files.faults after.files.faults
    ⊎ (Rose before.out.faults after.out.faults ⊎ Rose before.err.faults after.err.faults)

-- the count of faults of a sink does not fall, and a steady sink stays steady
pub record KeepsSink (before after : SinkReading) : Type 0 where
  pub faults_grow : before.faults ≤ after.faults
  pub keeps_steady : IsTrue before.steady → IsTrue after.steady

-- what a call keeps, whatever its status
pub record Keeps (before after : Outside) : Type 0 where
  pub files : KeepsFiles before.files after.files
  pub out : KeepsSink before.out after.out
  pub err : KeepsSink before.err after.err
  pub net : KeepsNet before.net after.net
  pub spawner : KeepsSpawner before.spawner after.spawner

-- ---- what is due is given

-- what a talk needs to come to its end, where no count rose: that its peers say all that is expected of them
abbrev pub IsQuiet : Outside → Outside → Verdict Due → Type 0
IsQuiet before after (accepted (talk job)) = HearsAllQuietly job before after
IsQuiet before after _ = Unit {0}

-- the sink that gets the text of the verdict has room for it, and a talk can come to its end
abbrev pub HasRoom : Outside → Verdict Due → Type 0
HasRoom before (accepted (text due)) = length due ≤ before.out.room
HasRoom before (accepted (talk job)) = LetsTalk job before
HasRoom before (missing name) = length (files_fault_line name) ≤ before.err.room
HasRoom before (refused status line) = length line ≤ before.err.room

-- no count rose and a talk could come to its end, or the outside was steady and had room
abbrev pub Lets : Outside → Outside → Verdict Due → Type 0
Lets before after verdict =
    (¬ AnyRose before after × IsQuiet before after verdict) ⊎ (IsSteady before × HasRoom before verdict)

-- the status is the verdict's, and what it is due was given; `err` gets the text of a refusal
abbrev pub IsGiven : Outside → Outside → ℕ → Verdict Due → Type 0
IsGiven before after status (accepted due) = (status ≡ 0) × Fulfils due before after
IsGiven before after status (missing name) =
    (status ≡ 5) × Writes (files_fault_line name) before.err after.err (Ok tt)
IsGiven before after status (refused due line) =
    (status ≡ due) × Writes line before.err after.err (Ok tt)

-- ---- the answer

-- The answer of the top call to its words, over an outside that showed `before` and shows `after`.
pub record Answers (words : List (List ℕ)) (before after : Outside) (status : ℕ) : Type 0 where
  -- At 0 what words and files are due was given, and nothing was written to `err`.
  pub done : status ≡ 0
      → GaveDue (command_of words) before after
      × (after.err ≡ before.err)
  -- At 0, what was written of the view of a tolerated group is its view with any other inputs too that leave what its
  -- members give and read; and of a pair of runs it is the same twice.
  pub hides : status ≡ 0
      → CommandHides (command_of words) before.files.told (λ text. Writes text before.out after.out (Ok tt))
  -- At any other status there is a cause of the table, and `err` was told.
  pub stopped : ¬ (status ≡ 0)
      → (cause : Stop)
      × HasCause (command_of words) before after cause
      × Tells before.err after.err cause status
  -- The words are due a verdict: unless memory ran out, that is the answer wherever the outside lets it be.
  pub due : (verdict : Verdict Due)
      × IsDue (command_of words) before.files.told verdict
      × (¬ (status ≡ 6) → Lets before after verdict → IsGiven before after status verdict)
  -- Whatever the status, it asked for a first part of the files that the words have read, in order and for no others;
  -- at 0 for all of them.
  pub asks : AsksInOrder (asking_of (command_of words)) before.files after.files
  pub asks_all : status ≡ 0 → AsksForAll (asking_of (command_of words)) before.files after.files
  -- Whatever the status, the files tell the same, no count falls, and what is steady stays steady.
  pub keeps : Keeps before after
