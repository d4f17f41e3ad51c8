-- Commands that read all that their text is made of, and then write it.
use Rattle.std.proofs.Common.{◌≡◌, List, [], ◌++◌, ℕ, Result, Ok, Err, refl, sym, subst, arith}
use Rattle.std.specs.Prelude.{Option, None, Some, IfSome, IsErrAnd, Vec}
use Rattle.std.specs.declared.alloc.Global.{Global}
use Rattle.std.proofs.lemmas.Result.{err_from_is_err_and}
use Rattle.outer_io.specs.Files.{FilesReading}
use Rattle.outer_io.specs.Jobs.{SpawnerReading}
use Rattle.outer_io.specs.Links.{NetReading}
use Rattle.outer_io.specs.Sink.{SinkReading, Writes}
use Rattle.outer_io.specs.declared.sink.Failed.{Failed}
use Rattle.command_words.specs.declared.command.Command.{Command}
use Rattle.command_words.specs.Commands.{CommandForm, form_of, run, check}
use Rattle.party_file.specs.declared.data.PartyData.{PartyData}
use Rattle.job_run.specs.Parties.{world_of}
use Rattle.output_text.specs.CheckText.{check_text}
use Rattle.output_text.specs.RunText.{run_text}
use Rattle.job_walk.specs.declared.plan.Planned as code
use Rattle.job_walk.specs.declared.stop.Stop.{Stop}
use Rattle.job_walk.specs.declared.stop.Stop.TheVariants.{Memory, Words, Out, Net, Peer, Files, Refused, Covering}
use Rattle.job_walk.specs.Verdict.{Verdict, accepted, missing, refused}
use Rattle.job_walk.specs.JobOf.{PlanAt, PartiesAfter}
use Rattle.mpc_top.specs.WholeJobs.{WholeJob}
use Rattle.job_walk.specs.Seen.{planned_view}
use Rattle.mpc_top.specs.Seen.{parties_view}
use Rattle.job_walk.specs.Reads.{KeepsFiles, ReadsAs, Meets, StopsAt}
use Rattle.mpc_top.specs.Outside.{Outside, KeepsNet, KeepsSpawner}
use Rattle.mpc_top.specs.Due.{Due, text, DueOf, told_to, IsDue}
use Rattle.mpc_top.specs.FilesDue.{asking_of, AsksForAll, AsksInOrder, AsksLast}
use Rattle.mpc_top.specs.HiddenInputs.{CommandHides}
use Rattle.mpc_top.specs.Outcomes.{HasCause, RunsWords, RunsAlone}
use Rattle.job_walk.specs.FilesAsked.{IsLast, party_files}
use Rattle.job_walk.proofs.Steps.{keeps_now, reads_stop, reads_on, reads_end}
use Rattle.mpc_top.proofs.FilesRead.{first_of_all}
use Rattle.mpc_top.proofs.Jobs.{job_seen, job_stops, job_stops_later, job_read}

-- a text that is due
abbrev pub as_text : List ℕ → Due
as_text due = text due

net_kept : (net : NetReading) → KeepsNet net net
net_kept net = record { faults_grow = omega arith; keeps_steady = λ steady. steady }

pub spawner_kept : (spawner : SpawnerReading) → KeepsSpawner spawner spawner
spawner_kept spawner = record { refusals_grow = omega arith; keeps_steady = λ steady. steady }

module _ (command : CommandForm) (files files' : FilesReading) (out out' : SinkReading) where
  abbrev RunsAs : Result Unit Stop → Type 0
  RunsAs result = RunsAlone (Some command) files files' out out' result

  -- the command looks at what the files tell
  abbrev Looks : Type 0
  Looks = told_to command files.told ≡ files.told

  abbrev Asks : Type 0
  Asks = AsksInOrder (asking_of (Some command)) files files'

  abbrev AsksWhole : Type 0
  AsksWhole = AsksForAll (asking_of (Some command)) files files'

  -- what is asked for last in this folder is asked for last by the command
  abbrev AsksLastIn : List ℕ → Type 0
  AsksLastIn dir = (name : List ℕ) → IsLast dir name files' → AsksLast (asking_of (Some command)) name files'

  is_due : (verdict : Verdict Due) → Looks → Meets (DueOf command) files files' verdict → IsDue (Some command) files.told verdict
  is_due verdict looks meets = subst (λ told. IfSome told (λ m. DueOf command m verdict)) (sym looks) meets

  module _ (err err' : SinkReading) (net : NetReading) (spawner : SpawnerReading) where
    abbrev at_start : Outside
    at_start = record { files = files; out = out; err = err; net = net; spawner = spawner }

    abbrev at_end : Outside
    at_end = record { files = files'; out = out'; err = err'; net = net; spawner = spawner }

    cause_of : (dir : List ℕ) (stop : Stop) → out' ≡ out → Looks → AsksLastIn dir → StopsAt (DueOf command) files files' dir stop → HasCause (Some command) at_start at_end stop
    cause_of dir Memory same looks last cause = (refl, record { files = cause; out = same; net = refl; same_expects = refl; same_offers = refl; same_kept = refl; same_spawner = refl })
    cause_of dir Words same looks last cause = absurd cause
    cause_of dir Out same looks last cause = absurd cause
    cause_of dir Net same looks last cause = absurd cause
    cause_of dir (Peer names fault) same looks last cause = absurd cause
    cause_of dir (Files name) same looks last (rose, at, gone) = (record { asked = refl; rose = rose; last = last name.items at; is_missing = λ steady. is_due (missing name.items) looks (gone steady) }, (same, (refl, refl)))
    cause_of dir (Refused line) same looks last cause = ((is_due (refused 3 line.items) looks cause.1, tt, cause.0), (same, (refl, refl)))
    cause_of dir (Covering line) same looks last cause = ((is_due (refused 4 line.items) looks cause.1, tt, cause.0), (same, (refl, refl)))

  -- a reading that stops, with nothing written
  pub runs_stop : {C : Type 0} {dir : List ℕ} {xs : List (List ℕ)} (seen : C → Due) (stop : Stop) (result : Result Unit Stop) → IsErrAnd result (λ e. e ≡ stop) → out' ≡ out → Looks
      → Asks → AsksLastIn dir → ReadsAs dir xs seen (DueOf command) files files' (Err stop) → RunsAs result
  runs_stop {C} {dir} {xs} seen stop result is same looks asks last r = λ err err' net spawner.
      let p = err_from_is_err_and result is in rw (p.1, p.2) (record { ok = tt; hides = tt; stop = cause_of err err' net spawner dir stop same looks last r.stop; asks = asks; asks_all = tt; keeps = r.keeps; keeps_net = net_kept net; keeps_spawner = spawner_kept spawner })

  -- memory ran out after the reading
  pub runs_memory : (result : Result Unit Stop) → IsErrAnd result (λ e. e ≡ Memory) → out' ≡ out → files'.faults ≡ files.faults → KeepsFiles files files' → Asks → RunsAs result
  runs_memory result is same quiet keeps asks = λ err err' net spawner.
      let p = err_from_is_err_and result is in rw (p.1, p.2) (record {
        ok = tt;
        hides = tt;
        stop = (refl, record { files = quiet; out = same; net = refl; same_expects = refl; same_offers = refl; same_kept = refl; same_spawner = refl });
        asks = asks;
        asks_all = tt;
        keeps = keeps;
        keeps_net = net_kept net;
        keeps_spawner = spawner_kept spawner;
      })

  -- a text that is due, and was written
  pub writes_due : (due : List ℕ) (u : Unit {0}) → IsDue (Some command) files.told (accepted (text due)) → files'.faults ≡ files.faults → KeepsFiles files files' → AsksWhole → Writes due out out' (Ok u)
      → CommandHides (Some command) files.told (λ text. Writes text out out' (Ok tt)) → RunsAs (Ok u)
  writes_due due u is quiet keeps all w hides = λ err err' net spawner. record { ok = (text due, (is, tt, quiet), (w, (refl, refl))); hides = hides; stop = tt; asks = first_of_all (asking_of (Some command)) files files' all; asks_all = all; keeps = keeps; keeps_net = net_kept net; keeps_spawner = spawner_kept spawner }

  -- a text that is due, and could not be written
  pub cuts_due : (due : List ℕ) (failed : Failed) (result : Result Unit Stop) → IsErrAnd result (λ e. e ≡ Out)
      → IsDue (Some command) files.told (accepted (text due)) → files'.faults ≡ files.faults → KeepsFiles files files' → AsksWhole → Writes due out out' (Err failed) → RunsAs result
  cuts_due due failed result is due_is quiet keeps all w = λ err err' net spawner.
      let p = err_from_is_err_and result is in rw (p.1, p.2) (record { ok = tt; hides = tt; stop = (text due, (due_is, tt, quiet), ((failed, w), (refl, refl))); asks = first_of_all (asking_of (Some command)) files files' all; asks_all = tt; keeps = keeps; keeps_net = net_kept net; keeps_spawner = spawner_kept spawner })

  -- a text that was read, and then written
  pub runs_written : {dir : List ℕ} {xs : List (List ℕ)} (due : List ℕ) (u : Unit {0}) → Looks → AsksWhole → ReadsAs dir xs as_text (DueOf command) files files' (Ok due) → Writes due out out' (Ok u)
      → CommandHides (Some command) files.told (λ text. Writes text out out' (Ok tt)) → RunsAs (Ok u)
  runs_written due u looks all r w hides = writes_due due u (is_due (accepted (text due)) looks r.ok) r.quiet r.keeps all w hides

  -- a text that was read, and could not be written
  pub runs_cut : {dir : List ℕ} {xs : List (List ℕ)} (due : List ℕ) (failed : Failed) (result : Result Unit Stop) → IsErrAnd result (λ e. e ≡ Out) → Looks
      → AsksWhole → ReadsAs dir xs as_text (DueOf command) files files' (Ok due) → Writes due out out' (Err failed) → RunsAs result
  runs_cut due failed result is looks all r w = cuts_due due failed result is (is_due (accepted (text due)) looks r.ok) r.quiet r.keeps all w

-- ---- what is read for each command

module _ (dir : List ℕ) (workers : ℕ) (view : Option (List ℕ)) (planned : code.Planned) (before mid after : FilesReading) {xs : List (List ℕ)} (read : ReadsAs dir xs planned_view (λ m. PlanAt m dir view) before mid (Ok planned)) where
  pub run_stops_later : (stop : Stop) → ReadsAs dir (party_files planned.names) parties_view (λ m. PartiesAfter m dir planned.numeric.items planned.plan [] planned.names) mid after (Err stop)
      → ReadsAs dir (xs ++ party_files planned.names) as_text (DueOf (run dir workers view)) before after (Err stop)
  unfolding DueOf
  run_stops_later stop r = reads_stop _ _ (job_seen planned) as_text before after stop (job_stops_later dir view planned before mid after read stop r)

  pub run_read : (parties : Vec PartyData Global) → ReadsAs dir (party_files planned.names) parties_view (λ m. PartiesAfter m dir planned.numeric.items planned.plan [] planned.names) mid after (Ok parties)
      → ReadsAs dir (xs ++ party_files planned.names) as_text (DueOf (run dir workers view)) before after (Ok (run_text planned.names planned.numeric.items (world_of planned.plan (parties_view parties)) planned.group))
  unfolding DueOf
  run_read parties r =
      let due = run_text planned.names planned.numeric.items (world_of planned.plan (parties_view parties)) planned.group in
      reads_on _ _ (job_seen planned) as_text before after after parties (Ok due) (job_read dir view planned before mid after read parties r) (reads_end as_text after due)

module _ (dir : List ℕ) (before after : FilesReading) {xs : List (List ℕ)} where
  pub run_stops : (workers : ℕ) (view : Option (List ℕ)) (stop : Stop) → ReadsAs {C = code.Planned} dir xs planned_view (λ m. PlanAt m dir view) before after (Err stop)
      → ReadsAs dir xs as_text (DueOf (run dir workers view)) before after (Err stop)
  unfolding DueOf
  run_stops workers view stop r = reads_stop _ _ (λ (job : WholeJob). job) as_text before after stop (job_stops dir view before after stop r)

  pub check_stops : (stop : Stop) → ReadsAs {C = code.Planned} dir xs planned_view (λ m. PlanAt m dir None) before after (Err stop) → ReadsAs dir xs as_text (DueOf (check dir)) before after (Err stop)
  unfolding DueOf
  check_stops stop r = reads_stop _ _ planned_view as_text before after stop r

  pub check_read : (planned : code.Planned) → ReadsAs dir xs planned_view (λ m. PlanAt m dir None) before after (Ok planned) → ReadsAs dir xs as_text (DueOf (check dir)) before after (Ok (check_text planned.names planned.plan))
  unfolding DueOf
  check_read planned r = reads_on _ _ planned_view as_text before after after planned (Ok (check_text planned.names planned.plan)) r (reads_end as_text after (check_text planned.names planned.plan))

-- a run of a command, told otherwise
pub of_command : (command other : Command) (before after : Outside) (result : Result Unit Stop) → command ≡ other → RunsWords (Some (form_of other)) before after result → RunsWords (Some (form_of command)) before after result
of_command command other before after result is r = subst (λ c. RunsWords (Some (form_of c)) before after result) (sym is) r

-- a run of words that ask for a command
pub of_words : (command other : Option CommandForm) (before after : Outside) (result : Result Unit Stop) → command ≡ other → RunsWords other before after result → RunsWords command before after result
of_words command other before after result is r = subst (λ c. RunsWords c before after result) (sym is) r

-- words that are refused
pub refused_words : (command : Option CommandForm) (files : FilesReading) (out err err' : SinkReading) (net : NetReading) (spawner : SpawnerReading) → command ≡ None
    → RunsWords command (record { files = files; out = out; err = err; net = net; spawner = spawner }) (record { files = files; out = out; err = err'; net = net; spawner = spawner }) (Err Words)
refused_words command files out err err' net spawner is =
    subst (λ c. RunsWords c (record { files = files; out = out; err = err; net = net; spawner = spawner }) (record { files = files; out = out; err = err'; net = net; spawner = spawner }) (Err Words)) (sym is)
    (record { ok = tt; hides = tt; stop = (refl, refl, (refl, (refl, refl))); asks = refl; asks_all = tt; keeps = keeps_now files; keeps_net = net_kept net; keeps_spawner = spawner_kept spawner })
