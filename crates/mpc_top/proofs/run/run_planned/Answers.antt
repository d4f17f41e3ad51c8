use Rattle.std.proofs.Common.{◌≡◌, Bool, List, ℕ, [], Option, Result, Ok, refl, subst}
use Rattle.outer_io.specs.Sink.{SinkReading, Writes}
use Rattle.outer_io.specs.declared.sink.Failed.{Failed}
use Rattle.party_set.specs.Parties.{Members}
use Rattle.share_world.specs.Worlds.{World}
use Rattle.job_run.specs.Parties.{world_of}
use Rattle.command_words.specs.Commands.{run}
use Rattle.output_text.specs.RunText.{run_text}
use Rattle.mpc_top.specs.Seen.{parties_view}
use Rattle.job_walk.proofs.JobFiles.{of_job}
use Rattle.mpc_top.proofs.FilesRead.{first_parties, all_parties}
use Rattle.mpc_top.proofs.Runs.{as_text, runs_stop, runs_memory, runs_written, runs_cut, run_stops_later, run_read}
use Rattle.mpc_top.proofs.Jobs.{job_read}
use Rattle.mpc_top.proofs.HiddenInputs.{run_hides}
use Rattle.mpc_top.proofs.run.run_planned.Goals as goal

-- the text of a run with the words of sessions as the code found them
same_text : (names : List (List ℕ)) (numeric numeric' : List Bool) (w : World) (group : Option Members) (before after : SinkReading) (result : Result Unit Failed) → numeric ≡ numeric'
    → Writes (run_text names numeric w group) before after result → Writes (run_text names numeric' w group) before after result
same_text names numeric numeric' w group before after result same text = subst (λ ns. Writes (run_text names ns w group) before after result) same text

pub returns-in_err-parties : goal.returns-in_err-parties
returns-in_err-parties g c = λ view before read.
    let p = of_job _ _ _ _ _ _ _ read in
    let r = run_stops_later c.args.dir.now c.args.workers view c.args.planned.now _ _ _ p.3 _ c.in_err-parties.ensures.reads in
    runs_stop (run c.args.dir.now c.args.workers view) _ _ _ _ as_text _ _ c.from_residual.ensures.1 refl refl (first_parties c.args.dir.now [] p.0 p.1 _ p.2 _ r) (λ name last. last) r

pub returns-in_err-ready : goal.returns-in_err-ready
returns-in_err-ready g c = λ view before read.
    let p = of_job _ _ _ _ _ _ _ read in
    let j = job_read c.args.dir.now view c.args.planned.now _ _ _ p.3 c.in_ok-parties.parties c.in_ok-parties.ensures.reads in
    runs_memory (run c.args.dir.now c.args.workers view) _ _ _ _ _ c.from_residual-in_err-ready.ensures.1 refl j.quiet j.keeps (first_parties c.args.dir.now [] p.0 p.1 _ p.2 _ j)

pub write_run-requires-clause-over : goal.write_run-requires-clause-over
write_run-requires-clause-over g c =
    let w = world_of c.args.planned.now.plan (parties_view c.in_ok-parties.parties) in
    (w, refl, c.run-done.ensures w refl c.in_ok-ready.ensures.ready)

pub returns-in_err-write_run : goal.returns-in_err-write_run
returns-in_err-write_run g c = λ view before reading.
    let planned = c.args.planned.now in
    let p = of_job _ _ _ _ _ _ _ reading in
    let read = run_read c.args.dir.now c.args.workers view planned _ _ _ p.3 c.in_ok-parties.parties c.in_ok-parties.ensures.reads in
    let w = world_of planned.plan (parties_view c.in_ok-parties.parties) in
    runs_cut (run c.args.dir.now c.args.workers view) _ _ _ _ (run_text planned.names planned.numeric.items w planned.group) _ _ c.from_residual-in_err-write_run.ensures.1 refl (all_parties c.args.dir.now p.0 p.1 _ p.2 _ read) read
    (same_text planned.names _ _ w planned.group _ _ _ c.deref.ensures.value (c.in_err-write_run.ensures w refl (c.run-done.ensures w refl c.in_ok-ready.ensures.ready)))

pub returns : goal.returns
returns g c = λ view before reading.
    let planned = c.args.planned.now in
    let p = of_job _ _ _ _ _ _ _ reading in
    let parties = c.in_ok-parties.parties in
    let read = run_read c.args.dir.now c.args.workers view planned _ _ _ p.3 parties c.in_ok-parties.ensures.reads in
    let w = world_of planned.plan (parties_view parties) in
    let written = same_text planned.names _ _ w planned.group _ _ _ c.deref.ensures.value (c.in_ok-write_run.ensures w refl (c.run-done.ensures w refl c.in_ok-ready.ensures.ready)) in
    runs_written (run c.args.dir.now c.args.workers view) _ _ _ _ (run_text planned.names planned.numeric.items w planned.group) _ refl (all_parties c.args.dir.now p.0 p.1 _ p.2 _ read) read written
    (run_hides (λ (text : List ℕ). Writes text (g.O.Sink.reading c.args.out.now) (g.O.Sink.reading c.write_run.new.sink) (Ok tt)) c.args.dir.now c.args.workers view planned parties _ _ c.in_ok-ready.ensures.ready.whole
    (job_read c.args.dir.now view planned _ _ _ p.3 parties c.in_ok-parties.ensures.reads) written)
