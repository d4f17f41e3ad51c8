use Rattle.std.proofs.Common.{◌≡◌, ℕ, Bool, List, [], ◌∷◌, Option, Some, Result, Ok, refl, sym, ap, subst, ◌∙◌, length, map}
use Rattle.std.specs.Prelude.{IfSome}
use Rattle.std.proofs.lemmas.List.{length-map}
use Rattle.std.specs.Global.{Vec}
use Rattle.outer_io.specs.Files.{FilesReading}
use Rattle.outer_io.specs.Sink.{SinkReading, Writes}
use Rattle.outer_io.specs.declared.sink.Failed.{Failed}
use Rattle.party_set.specs.Parties.{Members}
use Rattle.party_file.specs.Forms.{form_of}
use Rattle.party_file.specs.declared.data.PartyData.{PartyData}
use Rattle.plan_model.specs.Plans.{Plan}
use Rattle.job_run.specs.Parties.{AllFit, world_of}
use Rattle.plan_model.specs.InputWords.{session_words}
use Rattle.share_world.specs.Worlds.{World}
use Rattle.tape_map.specs.TapeMaps.{second_world}
use Rattle.tape_map.specs.Laws.{CanHide}
use Rattle.command_words.specs.Commands.{pair}
use Rattle.output_text.specs.PairText.{pair_text}
use Rattle.mpc_top.specs.WholeJobs.{mask_of, OtherAt}
use Rattle.mpc_top.specs.Seen.{parties_view}
use Rattle.job_walk.specs.declared.stop.Stop.{Stop}
use Rattle.job_walk.specs.Names.{other_file}
use Rattle.job_walk.specs.Reads.{ReadsAs}
use Rattle.job_walk.proofs.JobFiles.{of_job}
use Rattle.mpc_top.proofs.FilesRead.{first_parties, first_more, all_more}
use Rattle.mpc_top.proofs.Jobs.{job_read}
use Rattle.mpc_top.proofs.Runs.{as_text, runs_stop, runs_memory, runs_written, runs_cut}
use Rattle.mpc_top.proofs.Pairs.{parties_stop, other_stops, hiding_stops, pair_read, text_read, pair_hides}
use Rattle.mpc_top.proofs.pair.run_planned.Goals as goal

-- the text of a pair for the mask of the group that was asked for, with the words of sessions as the code found them
same_text : (names : List (List ℕ)) (numeric found : List Bool) (w : World) (other : List (List (List ℕ))) (asked mask : ℕ) (before after : SinkReading) (result : Result Unit Failed) → found ≡ numeric → asked ≡ mask
    → Writes (pair_text names found w (second_world w other mask) mask) before after result → Writes (pair_text names numeric w (second_world w other asked) asked) before after result
same_text names numeric found w other asked mask before after result is same text =
    subst (λ k. Writes (pair_text names numeric w (second_world w other k) k) before after result) (sym same) (subst (λ ns. Writes (pair_text names ns w (second_world w other mask) mask) before after result) is text)

-- what is read of other inputs, with the words of sessions as the code found them
same_others : {C : Type 0} (dir : List ℕ) (xs : List (List ℕ)) (see : C → List (List (List ℕ))) (plan : Plan) (names : List (List ℕ)) (inputs : List (List (List ℕ))) (numeric found : List Bool) (before after : FilesReading) (result : Result C Stop)
    → found ≡ numeric → ReadsAs dir xs see (λ m. OtherAt m dir found plan names inputs) before after result → ReadsAs dir xs see (λ m. OtherAt m dir numeric plan names inputs) before after result
same_others dir xs see plan names inputs numeric found before after result is r = subst (λ ns. ReadsAs dir xs see (λ m. OtherAt m dir ns plan names inputs) before after result) is r

-- the inputs of a copy of the parties are those of the parties
same_given : (plan : Plan) (seen parties : List PartyData) (inputs : List (List (List ℕ))) → seen ≡ parties → inputs ≡ (world_of plan (map form_of seen)).inputs → inputs ≡ (world_of plan (map form_of parties)).inputs
same_given plan seen parties inputs same is = subst (λ (ps : List PartyData). inputs ≡ (world_of plan (map form_of ps)).inputs) same is

-- what is known of the group that was asked for
of_group : (asked : Option Members) (group : Members) (parties : ℕ) → asked ≡ Some group → IfSome asked (λ g. g.parties ≡ parties) → group.parties ≡ parties
of_group asked group parties is there = subst (λ o. IfSome o (λ g. g.parties ≡ parties)) is there

pub returns-in_err-parties : goal.returns-in_err-parties
returns-in_err-parties g c = λ group before read.
    let p = of_job _ _ _ _ _ _ _ read in
    let r = parties_stop c.args.dir.now group c.args.planned.now _ _ p.3 _ _ c.in_err-parties.ensures.reads in
    runs_stop (pair c.args.dir.now group) _ _ _ _ as_text _ _ c.from_residual.ensures.1 refl refl (first_parties c.args.dir.now (other_file ∷ []) p.0 p.1 _ p.2 _ r) (λ name last. last) r

pub inputs_of-requires-clause-fit : goal.inputs_of-requires-clause-fit
inputs_of-requires-clause-fit g c = subst (AllFit c.args.planned.now.plan) (sym c.deref.ensures.value) c.in_ok-parties.ensures.fit

pub returns-in_err-inputs : goal.returns-in_err-inputs
returns-in_err-inputs g c = λ group before read.
    let p = of_job _ _ _ _ _ _ _ read in
    let j = job_read c.args.dir.now (Some group) c.args.planned.now _ _ _ p.3 c.in_ok-parties.parties c.in_ok-parties.ensures.reads in
    runs_memory (pair c.args.dir.now group) _ _ _ _ _ c.from_residual-in_err-inputs.ensures.1 refl j.quiet j.keeps (first_parties c.args.dir.now (other_file ∷ []) p.0 p.1 _ p.2 _ j)

pub returns-in_err-other : goal.returns-in_err-other
returns-in_err-other g c = λ group before read.
    let p = of_job _ _ _ _ _ _ _ read in
    let r = other_stops c.args.dir.now group c.args.planned.now _ _ p.3 _ c.in_ok-parties.parties c.in_ok-parties.ensures.reads
    _ (same_given c.args.planned.now.plan _ _ _ c.deref.ensures.value c.in_ok-inputs.ensures.same) _ _ (same_others _ _ _ _ _ _ _ _ _ _ _ c.deref-numeric.ensures.value c.in_err-other.ensures.reads) in
    runs_stop (pair c.args.dir.now group) _ _ _ _ as_text _ _ c.from_residual-in_err-other.ensures.1 refl refl (first_more c.args.dir.now (other_file ∷ []) p.0 p.1 _ p.2 _ r) (λ name last. last) r

pub hidden_pair-requires-clause-group : goal.hidden_pair-requires-clause-group
hidden_pair-requires-clause-group g c = of_group _ _ _ c.group_of-group.ensures c.requires.group ∙ c.requires.names

pub returns-in_err-pair : goal.returns-in_err-pair
returns-in_err-pair g c = λ group before read.
    let p = of_job _ _ _ _ _ _ _ read in
    let r = hiding_stops c.args.dir.now group c.args.planned.now _ _ p.3 _ c.in_ok-parties.parties c.in_ok-parties.ensures.reads
    _ (same_given c.args.planned.now.plan _ _ _ c.deref.ensures.value c.in_ok-inputs.ensures.same) _ c.in_ok-other.other (same_others _ _ _ _ _ _ _ _ _ _ _ c.deref-numeric.ensures.value c.in_ok-other.ensures.reads) _ c.in_err-pair.ensures.walks in
    runs_stop (pair c.args.dir.now group) _ _ _ _ as_text _ _ c.from_residual-in_err-pair.ensures.1 refl refl (first_more c.args.dir.now (other_file ∷ []) p.0 p.1 _ p.2 _ r) (λ name last. last) r

pub write_pair-requires-clause-group : goal.write_pair-requires-clause-group
write_pair-requires-clause-group g c = of_group _ _ _ c.group_of-group.ensures c.requires.group

pub write_pair-requires-clause-first : goal.write_pair-requires-clause-first
write_pair-requires-clause-first g c =
    let w = world_of c.args.planned.now.plan (parties_view c.in_ok-parties.parties) in
    (w, refl, c.run-first.ensures w refl c.in_ok-pair.ensures.pair.first)

pub write_pair-requires-clause-second : goal.write_pair-requires-clause-second
write_pair-requires-clause-second g c =
    let w = world_of c.args.planned.now.plan (parties_view c.in_ok-parties.parties) in
    let v = second_world w c.in_ok-other.other c.group_of-group.result.mask in
    (v, refl, c.run-second.ensures v refl c.in_ok-pair.ensures.pair.second)

pub write_pair-requires-clause-tapes : goal.write_pair-requires-clause-tapes
write_pair-requires-clause-tapes g c =
    let made = c.in_ok-pair.ensures.pair in
    ap length c.deref-2.ensures.value ∙ sym (length-map c.in_ok-pair.pair.tapes.items (λ (t : Vec ℕ). t.items)) ∙ ap length made.tapes ∙ made.second.whole.tapes.parties ∙ sym c.requires.names

pub returns-in_err-write_pair : goal.returns-in_err-write_pair
returns-in_err-write_pair g c = λ group before read.
    let planned = c.args.planned.now in
    let parties = c.in_ok-parties.parties in
    let other = c.in_ok-other.other in
    let w = world_of planned.plan (parties_view parties) in
    let made = c.in_ok-pair.ensures.pair in
    let v = second_world w other c.group_of-group.result.mask in
    let written = c.in_err-write_pair.ensures w refl (c.run-first.ensures w refl made.first) v refl (c.run-second.ensures v refl made.second) (ap session_words c.deref-2.ensures.value ∙ made.tapes) in
    let same : mask_of planned.group ≡ c.group_of-group.result.mask = ap mask_of c.group_of-group.ensures in
    let p = of_job _ _ _ _ _ _ _ read in
    let r = text_read c.args.dir.now group planned _ _ p.3 _ parties c.in_ok-parties.ensures.reads _ (same_given c.args.planned.now.plan _ _ _ c.deref.ensures.value c.in_ok-inputs.ensures.same) _ other (same_others _ _ _ _ _ _ _ _ _ _ _ c.deref-numeric.ensures.value c.in_ok-other.ensures.reads) _ c.in_ok-pair.ensures.walks in
    runs_cut (pair c.args.dir.now group) _ _ _ _ _ _ _ c.from_residual-in_err-write_pair.ensures.1 refl (all_more c.args.dir.now (other_file ∷ []) p.0 p.1 _ p.2 _ r) r
    (same_text planned.names _ _ w other _ _ _ _ _ c.deref-numeric.ensures.value same written)

pub returns : goal.returns
returns g c = λ group before read.
    let planned = c.args.planned.now in
    let p = of_job _ _ _ _ _ _ _ read in
    let parties = c.in_ok-parties.parties in
    let other = c.in_ok-other.other in
    let w = world_of planned.plan (parties_view parties) in
    let made = c.in_ok-pair.ensures.pair in
    let v = second_world w other c.group_of-group.result.mask in
    let written = c.in_ok-write_pair.ensures w refl (c.run-first.ensures w refl made.first) v refl (c.run-second.ensures v refl made.second) (ap session_words c.deref-2.ensures.value ∙ made.tapes) in
    let same : mask_of planned.group ≡ c.group_of-group.result.mask = ap mask_of c.group_of-group.ensures in
    let Written = λ (text : List ℕ). Writes text (g.O.Sink.reading c.args.out.now) (g.O.Sink.reading c.write_pair.new.sink) (Ok tt) in
    let text = same_text planned.names planned.numeric.items _ w other _ _ _ _ _ c.deref-numeric.ensures.value same written in
    let text_is = text_read c.args.dir.now group planned _ _ p.3 _ parties c.in_ok-parties.ensures.reads _ (same_given c.args.planned.now.plan _ _ _ c.deref.ensures.value c.in_ok-inputs.ensures.same) _ other (same_others _ _ _ _ _ _ _ _ _ _ _ c.deref-numeric.ensures.value c.in_ok-other.ensures.reads) _ c.in_ok-pair.ensures.walks in
    let paired = pair_read c.args.dir.now group planned _ _ p.3 _ parties c.in_ok-parties.ensures.reads _ (same_given c.args.planned.now.plan _ _ _ c.deref.ensures.value c.in_ok-inputs.ensures.same) _ other (same_others _ _ _ _ _ _ _ _ _ _ _ c.deref-numeric.ensures.value c.in_ok-other.ensures.reads) _ c.in_ok-pair.ensures.walks in
    runs_written (pair c.args.dir.now group) _ _ _ _ _ _ refl (all_more c.args.dir.now (other_file ∷ []) p.0 p.1 _ p.2 _ text_is) text_is text
    (pair_hides Written c.args.dir.now group _ _ _ _ paired (subst (CanHide w other) (sym same) made.hides) text)
