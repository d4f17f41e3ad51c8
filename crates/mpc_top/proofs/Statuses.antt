-- What the answer of the top call follows from: the run of its words, and what `err` was told.
use Rattle.std.proofs.Common.{◌≡◌, ◌≢◌, ◌⊎◌, inl, inr, ℕ, ◌≤◌, Bool, true, false, List, length, Option, None, Ok, Err, Result, refl, sym, subst, ◌∙◌, arith}
use Rattle.std.specs.Prelude.{IsTrue}
use Rattle.std.proofs.lemmas.Bool.{false≢true}
use Rattle.outer_io.specs.Count.{Rose}
use Rattle.outer_io.specs.Files.{Told}
use Rattle.outer_io.specs.Sink.{SinkReading, Writes, FailsToWrite}
use Rattle.outer_io.specs.declared.sink.Failed.{Failed}
use Rattle.command_words.specs.Commands.{CommandForm, command_of}
use Rattle.job_walk.specs.declared.stop.Stop.{Stop}
use Rattle.job_walk.specs.declared.stop.Stop.TheVariants.{Memory, Words, Out, Net, Peer, Files, Refused, Covering}
use Rattle.mpc_top.specs.Texts.{files_fault_line, usage_text}
use Rattle.job_walk.specs.Verdict.{Verdict, accepted, missing, refused}
use Rattle.mpc_top.specs.Outside.{Outside}
use Rattle.mpc_top.specs.Due.{Due, text, talk, IsDue}
use Rattle.mpc_top.specs.NodeTalks.{lines_of}
use Rattle.job_walk.specs.Stops.{status_of}
use Rattle.mpc_top.specs.Outcomes.{text_of, Fulfils, CutShort, FailsAt, HasCause, RunsWords, Tells}
use Rattle.mpc_top.specs.Command.{KeepsSink, HasRoom, Lets, IsGiven, Answers}
use Rattle.mpc_top.proofs.SomeVerdict.{some_due}
use Rattle.mpc_top.proofs.NodeRuns.{quiet_talk}
use Rattle.mpc_top.proofs.SteadyTalks.{steady_talk}

-- ---- what is due

none_due : (command : Option CommandForm) (told : Told) → command ≡ None → IsDue command told (refused 2 usage_text)
none_due command told is = subst (λ c. IsDue c told (refused 2 usage_text)) (sym is) refl

-- a steady sink with room for a text takes it
never_fails : (line : List ℕ) (sink sink' : SinkReading) → IsTrue sink.steady → FailsToWrite line sink sink' → length line ≤ sink.room → ⊥
never_fails line sink sink' steady (failed, w) room = false≢true ((w.by_itself steady).1 room)

-- ---- what sinks keep

keeps_written : (line : List ℕ) (sink sink' : SinkReading) (result : Result Unit Failed) → Writes line sink sink' result → KeepsSink sink sink'
keeps_written line sink sink' result w = record { faults_grow = w.faults_grow; keeps_steady = w.keeps_steady }

keeps_same : (sink sink' : SinkReading) → sink' ≡ sink → KeepsSink sink sink'
keeps_same sink sink' same = subst (KeepsSink sink) (sym same) (record { faults_grow = omega arith; keeps_steady = λ steady. steady })

module _ (words : List (List ℕ)) (before after : Outside) where
  abbrev RunsTo : Result Unit Stop → Type 0
  RunsTo result = RunsWords (command_of words) before after result

  abbrev Caused : Stop → Type 0
  Caused = HasCause (command_of words) before after

  -- ---- what stops keep

  cut_kept : (due : Due) → CutShort due before after → KeepsSink before.out after.out
  cut_kept (text due) cut = keeps_written due before.out after.out _ cut.0.1
  cut_kept (talk job) cut = keeps_written (lines_of job cut.0) before.out after.out _ cut.2.1

  done_kept : (due : Due) → Fulfils due before after → KeepsSink before.out after.out
  done_kept (text due) done = keeps_written due before.out after.out _ done.0
  done_kept (talk job) done = keeps_written (lines_of job done.0) before.out after.out _ done.2

  out_kept : (stop : Stop) → Caused stop → KeepsSink before.out after.out
  out_kept Memory cause = keeps_same before.out after.out cause.1.out
  out_kept Words cause = keeps_same before.out after.out cause.2.0
  out_kept Out cause = cut_kept cause.0 cause.2
  out_kept Net cause = keeps_same before.out after.out cause.3
  out_kept (Peer names fault) cause = keeps_same before.out after.out cause.4
  out_kept (Files name) cause = keeps_same before.out after.out cause.1.0
  out_kept (Refused line) cause = keeps_same before.out after.out cause.1.0
  out_kept (Covering line) cause = keeps_same before.out after.out cause.1.0

  text_kept : (status due : ℕ) (line : List ℕ) → ((status ≡ due) × Writes line before.err after.err (Ok tt)) ⊎ ((status ≡ 5) × FailsToWrite line before.err after.err) → KeepsSink before.err after.err
  text_kept status due line (inl w) = keeps_written line before.err after.err _ w.1
  text_kept status due line (inr w) = keeps_written line before.err after.err _ w.1.1

  err_kept : (stop : Stop) (status : ℕ) → Tells before.err after.err stop status → KeepsSink before.err after.err
  err_kept Memory status tells = keeps_same before.err after.err tells.1
  err_kept Words status tells = text_kept _ _ _ tells
  err_kept Out status tells = text_kept _ _ _ tells
  err_kept Net status tells = text_kept _ _ _ tells
  err_kept (Peer names fault) status tells = text_kept _ _ _ tells
  err_kept (Files name) status tells = text_kept _ _ _ tells
  err_kept (Refused line) status tells = text_kept _ _ _ tells
  err_kept (Covering line) status tells = text_kept _ _ _ tells

  -- ---- what is due is given

  abbrev GivesDue : ℕ → Type 0
  GivesDue status = (verdict : Verdict Due) × IsDue (command_of words) before.files.told verdict × (¬ (status ≡ 6) → Lets before after verdict → IsGiven before after status verdict)

  refusal_given : (due status : ℕ) (line : List ℕ) → IsDue (command_of words) before.files.told (refused due line)
      → ((status ≡ due) × Writes line before.err after.err (Ok tt)) ⊎ ((status ≡ 5) × FailsToWrite line before.err after.err) → GivesDue status
  refusal_given due status line is (inl w) = (refused due line, is, λ memory lets. w)
  refusal_given due status line is (inr w) = (
    refused due line,
    is,
    λ memory lets. elim lets [
      | inl quiet ↦ absurd (quiet.0 (inr (inr w.1.1.failed)))
      | inr steady ↦ absurd (never_fails line before.err after.err steady.0.err w.1 steady.1)
    ],
  )

  -- `out` rose, and had no room
  cut_rose : (due : Due) → CutShort due before after → Rose before.out.faults after.out.faults
  cut_rose (text due) cut = cut.0.1.failed
  cut_rose (talk job) cut = cut.2.1.failed

  cut_room : (due : Due) → CutShort due before after → IsTrue before.out.steady → HasRoom before (accepted due) → ⊥
  cut_room (text due) cut steady room = never_fails due before.out after.out steady cut.0 room
  cut_room (talk job) cut steady room =
      let n = cut.1.someone in
      let done = (cut.1.run n.0 n.1).done in
      never_fails (lines_of job cut.0) before.out after.out steady cut.2 (room.lines n.0 done.0 cut.0 n.1 done.1)

  -- a file that fails is missing where files are steady, and elsewhere the outside lets no verdict be the answer
  file_given : (steady : Bool) → before.files.steady ≡ steady → (name : List ℕ) (status : ℕ) → FailsAt (command_of words) before after name
      → ((status ≡ 5) × Writes (files_fault_line name) before.err after.err (Ok tt)) ⊎ ((status ≡ 5) × FailsToWrite (files_fault_line name) before.err after.err) → GivesDue status
  file_given true is name status fails tells = (
    missing name,
    fails.is_missing is,
    λ memory lets. elim lets [
      | inl quiet ↦ absurd (quiet.0 (inl fails.rose))
      | inr steady ↦ elim tells [
        | inl w ↦ w
        | inr w ↦ absurd (never_fails (files_fault_line name) before.err after.err steady.0.err w.1 steady.1)
      ]
    ],
  )
  file_given false is name status fails tells = let due = some_due (command_of words) before.files.told in (
    due.0,
    due.1,
    λ memory lets. elim lets [
      | inl quiet ↦ absurd (quiet.0 (inl fails.rose))
      | inr steady ↦ absurd (false≢true (sym is ∙ steady.0.files))
    ],
  )

  given : (stop : Stop) (status : ℕ) → Caused stop → Tells before.err after.err stop status → GivesDue status
  given Memory status cause tells = let due = some_due (command_of words) before.files.told in (due.0, due.1, λ memory lets. absurd (memory tells.0))
  given Words status cause tells = refusal_given 2 status usage_text (none_due (command_of words) before.files.told cause.0) tells
  given Out status cause tells = (
    accepted cause.0,
    cause.1.0,
    λ memory lets. elim lets [
      | inl quiet ↦ absurd (quiet.0 (inr (inl (cut_rose cause.0 cause.2))))
      | inr steady ↦ absurd (cut_room cause.0 cause.2 steady.0.out steady.1)
    ],
  )
  given Net status cause tells = (
    accepted (talk cause.0),
    cause.1.0,
    λ memory lets. elim lets [
      | inl quiet ↦ absurd (quiet.1.net cause.2.rose)
      | inr steady ↦ absurd (cause.2.unexpected steady.1.net steady.1.expects)
    ],
  )
  given (Peer names fault) status cause tells = (
    accepted (talk cause.0),
    cause.1.0,
    λ memory lets. elim lets [
      | inl quiet ↦ absurd (quiet_talk cause.0 before after fault cause.3 quiet.1)
      | inr steady ↦ absurd (steady_talk cause.0 before after fault cause.3 steady.1)
    ],
  )
  given (Files name) status cause tells = file_given before.files.steady refl name.items status cause.0 tells
  given (Refused line) status cause tells = refusal_given 3 status line.items cause.0.0 tells
  given (Covering line) status cause tells = refusal_given 4 status line.items cause.0.0 tells

  -- ---- the answer

  pub done : (u : Unit {0}) → after.err ≡ before.err → RunsTo (Ok u) → Answers words before after 0
  done u same r = record {
    done = λ _. (r.ok, same);
    hides = λ _. r.hides;
    stopped = λ not. absurd (not refl);
    due = (accepted r.ok.0, r.ok.1.0, λ memory lets. (refl, r.ok.2));
    asks = r.asks;
    asks_all = λ _. r.asks_all;
    keeps = record { files = r.keeps; out = done_kept r.ok.0 r.ok.2; err = keeps_same before.err after.err same; net = r.keeps_net; spawner = r.keeps_spawner };
  }

  stopped : (stop : Stop) (status : ℕ) → RunsTo (Err stop) → Tells before.err after.err stop status → ¬ (status ≡ 0) → Answers words before after status
  stopped stop status r tells some = record {
    done = λ is. absurd (some is);
    hides = λ is. absurd (some is);
    stopped = λ _. (stop, r.stop, tells);
    due = given stop status r.stop tells;
    asks = r.asks;
    asks_all = λ is. absurd (some is);
    keeps = record { files = r.keeps; out = out_kept stop r.stop; err = err_kept stop status tells; net = r.keeps_net; spawner = r.keeps_spawner };
  }

  some_status : (stop : Stop) → ¬ (status_of stop ≡ 0)
  some_status Memory is = absurd (omega arith)
  some_status Words is = absurd (omega arith)
  some_status Out is = absurd (omega arith)
  some_status Net is = absurd (omega arith)
  some_status (Peer names fault) is = absurd (omega arith)
  some_status (Files name) is = absurd (omega arith)
  some_status (Refused line) is = absurd (omega arith)
  some_status (Covering line) is = absurd (omega arith)

  told_by : (stop : Stop) → (stop ≡ Memory → after.err ≡ before.err) → (u : Unit {0}) → Writes (text_of stop) before.err after.err (Ok u) → Tells before.err after.err stop (status_of stop)
  told_by Memory same u w = (refl, same refl)
  told_by Words same u w = inl (refl, w)
  told_by Out same u w = inl (refl, w)
  told_by Net same u w = inl (refl, w)
  told_by (Peer names fault) same u w = inl (refl, w)
  told_by (Files name) same u w = inl (refl, w)
  told_by (Refused line) same u w = inl (refl, w)
  told_by (Covering line) same u w = inl (refl, w)

  -- `err` took the text of the cause
  pub told : (stop : Stop) → (stop ≡ Memory → after.err ≡ before.err) → (u : Unit {0}) → RunsTo (Err stop) → Writes (text_of stop) before.err after.err (Ok u) → Answers words before after (status_of stop)
  told stop same u r w = stopped stop (status_of stop) r (told_by stop same u w) (some_status stop)

  cut_by : (stop : Stop) → stop ≢ Memory → FailsToWrite (text_of stop) before.err after.err → Tells before.err after.err stop 5
  cut_by Memory not w = absurd (not refl)
  cut_by Words not w = inr (refl, w)
  cut_by Out not w = inr (refl, w)
  cut_by Net not w = inr (refl, w)
  cut_by (Peer names fault) not w = inr (refl, w)
  cut_by (Files name) not w = inr (refl, w)
  cut_by (Refused line) not w = inr (refl, w)
  cut_by (Covering line) not w = inr (refl, w)

  -- `err` failed to take it
  pub failed : (stop : Stop) → stop ≢ Memory → (e : Failed) → RunsTo (Err stop) → Writes (text_of stop) before.err after.err (Err e) → Answers words before after 5
  failed stop not e r w = stopped stop 5 r (cut_by stop not (e, w)) (λ is. absurd (omega arith))
