use Rattle.std.proofs.Common.{◌≡◌, ℕ, ◌<◌, List, Result, Some, refl, sym, ap, ap₂, ◌∙◌, subst, length, arith}
use Rattle.outer_io.specs.Files.{Told}
use Rattle.outer_io.specs.Sink.{SinkReading, Writes}
use Rattle.outer_io.specs.declared.sink.Failed.{Failed}
use Rattle.plan_model.specs.Plans.{Plan}
use Rattle.share_world.specs.Worlds.{World}
use Rattle.desk_laws.specs.Pieces.{world_of_pieces}
use Rattle.command_words.specs.Commands.{sample}
use Rattle.output_text.specs.SampleText.{sample_text}
use Rattle.sample_maker.specs.Samples.{sample_names, sample_plan, sample_inputs, sample_pieces, sample_job}
use Rattle.mpc_top.specs.Due.{text, DueOf, IsDue}
use Rattle.job_walk.specs.Verdict.{accepted}
use Rattle.job_walk.proofs.Steps.{keeps_now}
use Rattle.mpc_top.proofs.Runs.{runs_memory, writes_due, cuts_due}
use Rattle.mpc_top.proofs.sample.run_made.Goals as goal

-- whatever the files tell
is_due : (count : ℕ) (told : Told) → IsDue (Some (sample count)) told (accepted (text (sample_text sample_names (sample_job count) count)))
unfolding DueOf
is_due count told = refl

-- what was made is the job of the number
is_job : (count : ℕ) (plan : Plan) (inputs : List (List (List ℕ))) (pieces : List (List ℕ)) → plan ≡ sample_plan count → inputs ≡ sample_inputs count → pieces ≡ sample_pieces count
    → world_of_pieces plan inputs pieces ≡ sample_job count
is_job count plan inputs pieces p i t = ap₂ (λ plan inputs. world_of_pieces plan inputs pieces) p i ∙ ap (world_of_pieces (sample_plan count) (sample_inputs count)) t

-- and so is its text
due_text : (count : ℕ) (names : List (List ℕ)) (w : World) (before after : SinkReading) (result : Result Unit Failed) → names ≡ sample_names → w ≡ sample_job count
    → Writes (sample_text names w count) before after result → Writes (sample_text sample_names (sample_job count) count) before after result
due_text count names w before after result n same written = subst (λ t. Writes t before after result) (ap₂ (λ ns v. sample_text ns v count) n same) written

pub returns-in_err-ready : goal.returns-in_err-ready
returns-in_err-ready g c = λ files. runs_memory (sample c.args.count) _ _ _ _ _ c.from_residual.ensures.1 refl refl (keeps_now _) refl

pub write_sample-written-requires-clause-names : goal.write_sample-written-requires-clause-names
write_sample-written-requires-clause-names g c = ap length c.requires.names ∙ sym (ap (λ (p : Plan). p.parties) c.requires.plan)

pub write_sample-written-requires-clause-session : goal.write_sample-written-requires-clause-session
write_sample-written-requires-clause-session g c = subst (λ (p : Plan). 0 < length p.sessions) (sym c.requires.plan) (omega arith)

pub write_sample-written-requires-clause-over : goal.write_sample-written-requires-clause-over
write_sample-written-requires-clause-over g c =
    let w = world_of_pieces c.args.made.plan c.args.made.inputs c.args.made.tapes.items in
    (w, refl, c.run-done.ensures w refl c.in_ok-ready.ensures.ready)

pub returns-in_err-written : goal.returns-in_err-written
returns-in_err-written g c = λ files.
    let w = world_of_pieces c.args.made.plan c.args.made.inputs c.args.made.tapes.items in
    let same = is_job c.args.count c.args.made.plan c.args.made.inputs c.args.made.tapes.items c.requires.plan c.requires.inputs c.requires.tapes in
    cuts_due (sample c.args.count) _ _ _ _ _ _ _ c.from_residual-in_err-written.ensures.1 (is_due c.args.count files.told) refl (keeps_now _) refl
    (due_text c.args.count _ w _ _ _ c.requires.names same (c.in_err-written.ensures w refl (c.run-done.ensures w refl c.in_ok-ready.ensures.ready)))

pub returns : goal.returns
returns g c = λ files.
    let w = world_of_pieces c.args.made.plan c.args.made.inputs c.args.made.tapes.items in
    let same = is_job c.args.count c.args.made.plan c.args.made.inputs c.args.made.tapes.items c.requires.plan c.requires.inputs c.requires.tapes in
    writes_due (sample c.args.count) _ _ _ _ _ _ (is_due c.args.count files.told) refl (keeps_now _) refl
    (due_text c.args.count _ w _ _ _ c.requires.names same (c.in_ok-written.ensures w refl (c.run-done.ensures w refl c.in_ok-ready.ensures.ready)))
    tt
