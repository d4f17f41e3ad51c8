-- What a command comes to: it is done, or it stops. The table of causes: the text of each for `err`, and what it says
-- of words, files, `out`, the net and the spawner.
use Rattle.std.specs.Prelude.{◌≡◌, ◌⊎◌, ℕ, IsTrue, List, [], Option, None, IsSome, Result, Ok, Err, OnOk, IfErr}
use Rattle.outer_io.specs.Count.{Rose}
use Rattle.outer_io.specs.Files.{FilesReading}
use Rattle.outer_io.specs.Jobs.{SpawnerReading}
use Rattle.outer_io.specs.Links.{NetReading}
use Rattle.outer_io.specs.Sink.{SinkReading, Writes, FailsToWrite}
use Rattle.command_words.specs.Commands.{CommandForm}
use Rattle.node_talk.specs.Runs.{Results}
use Rattle.node_text.specs.FaultLines.{fault_line}
use Rattle.job_walk.specs.declared.stop.Stop.{Stop}
use Rattle.job_walk.specs.declared.stop.Stop.TheVariants.{Words, Refused, Covering, Files, Out, Net, Peer, Memory}
use Rattle.job_walk.specs.Stops.{status_of}
use Rattle.job_walk.specs.NodeOf.{NodeForm}
use Rattle.job_walk.specs.Verdict.{Verdict, accepted, missing, refused}
use Rattle.job_walk.specs.Reads.{KeepsFiles}
use Rattle.mpc_top.specs.Texts.{files_fault_line, net_fault_line, out_fault_line, usage_text}
use Rattle.mpc_top.specs.Outside.{Outside, outside_of, LeavesNet, LeavesAll, KeepsNet, KeepsSpawner}
use Rattle.mpc_top.specs.Due.{Due, text, talk, Suits, IsDue}
use Rattle.mpc_top.specs.FilesDue.{asking_of, AsksForAll, AsksInOrder, AsksLast}
use Rattle.mpc_top.specs.NodeTalks.{lines_of, Talks, MeetsNobody}
use Rattle.mpc_top.specs.HiddenInputs.{CommandHides}

-- the text of each cause, for `err`
abbrev pub text_of : Stop → List ℕ
text_of Words = usage_text
text_of (Refused line) = line.items
text_of (Covering line) = line.items
text_of (Files name) = files_fault_line name.items
text_of Out = out_fault_line
text_of Net = net_fault_line
text_of (Peer names fault) = fault_line names fault
text_of Memory = []

-- what is due was given: its text was written to `out`, or it talked to the end, and its lines were written
abbrev pub Fulfils : Due → Outside → Outside → Type 0
Fulfils (text due) before after = Writes due before.out after.out (Ok tt) × LeavesNet before after
Fulfils (talk job) before after =
    (results : Results) × Talks job before after (Ok results)
    × Writes (lines_of job results) before.out after.out (Ok tt)

-- `out` failed to take its text
abbrev pub CutShort : Due → Outside → Outside → Type 0
CutShort (text due) before after = FailsToWrite due before.out after.out × LeavesNet before after
CutShort (talk job) before after =
    (results : Results) × Talks job before after (Ok results)
    × FailsToWrite (lines_of job results) before.out after.out

-- memory ran out: nothing went to `out`, nothing was said to a peer, and the net has what it had to offer
pub record RunsOut (before after : Outside) : Type 0 where
  pub files : after.files.faults ≡ before.files.faults
  pub out : after.out ≡ before.out
  pub net : after.net.faults ≡ before.net.faults
  pub same_expects : after.net.expects ≡ before.net.expects
  pub same_offers : after.net.offers ≡ before.net.offers
  pub same_kept : after.net.kept ≡ before.net.kept
  pub same_spawner : after.spawner ≡ before.spawner

module _ (command : Option CommandForm) (before after : Outside) where
  -- the verdict is due to such words, and no file failed
  abbrev pub Finds : Verdict Due → Type 0
  Finds verdict =
      IsDue command before.files.told verdict × Suits command verdict
      × (after.files.faults ≡ before.files.faults)

  -- the words ask for something, the last file that they had read failed, and over steady files it is missing
  pub record FailsAt (name : List ℕ) : Type 0 where
    pub asked : IsSome command
    pub rose : Rose before.files.faults after.files.faults
    pub last : AsksLast (asking_of command) name after.files
    pub is_missing : IsTrue before.files.steady → IsDue command before.files.told (missing name)

  -- what stands of words, files, `out`, the net and the spawner where this is the cause
  abbrev pub HasCause : Stop → Type 0
  HasCause Words = (command ≡ None) × (after.files ≡ before.files) × LeavesAll before after
  HasCause (Refused line) = Finds (refused 3 line.items) × LeavesAll before after
  HasCause (Covering line) = Finds (refused 4 line.items) × LeavesAll before after
  HasCause (Files name) = FailsAt name.items × LeavesAll before after
  HasCause Out = (due : Due) × Finds (accepted due) × CutShort due before after
  HasCause Net =
      (job : NodeForm) × Finds (accepted (talk job)) × MeetsNobody job before after
      × (after.out ≡ before.out)
  HasCause (Peer names fault) =
      (job : NodeForm) × Finds (accepted (talk job)) × (names ≡ job.names)
      × Talks job before after (Err fault)
      × (after.out ≡ before.out)
  HasCause Memory = IsSome command × RunsOut before after

  -- what is due was given
  abbrev pub GaveDue : Type 0
  GaveDue = (due : Due) × Finds (accepted due) × Fulfils due before after

  -- a run of the words, before `err` is told
  pub record RunsWords (result : Result Unit Stop) : Type 0 where
    pub ok : OnOk result GaveDue
    pub hides : OnOk result (CommandHides command before.files.told (λ text. Writes text before.out after.out (Ok tt)))
    pub stop : IfErr result HasCause
    pub asks : AsksInOrder (asking_of command) before.files after.files
    pub asks_all : OnOk result (AsksForAll (asking_of command) before.files after.files)
    pub keeps : KeepsFiles before.files after.files
    pub keeps_net : KeepsNet before.net after.net
    pub keeps_spawner : KeepsSpawner before.spawner after.spawner

-- a run that knows of no net and no spawner: whatever these show, it leaves them as they are; nor does it look at `err`
abbrev pub RunsAlone : Option CommandForm → FilesReading → FilesReading → SinkReading → SinkReading
    → Result Unit Stop → Type 0
RunsAlone command files files' out out' result =
    (err err' : SinkReading) (net : NetReading) (spawner : SpawnerReading)
    → RunsWords command (outside_of files out err net spawner) (outside_of files' out' err' net spawner) result

-- `err` got the text of the cause, and the status is the cause's; or it failed to take that text, and the status is 5.
-- Where memory ran out it got nothing.
abbrev pub Tells : SinkReading → SinkReading → Stop → ℕ → Type 0
Tells err err_after Memory status = (status ≡ 6) × (err_after ≡ err)
Tells err err_after cause status =
    ((status ≡ status_of cause) × Writes (text_of cause) err err_after (Ok tt))
    ⊎ ((status ≡ 5) × FailsToWrite (text_of cause) err err_after)
