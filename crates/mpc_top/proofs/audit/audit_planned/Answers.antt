use Rattle.std.proofs.Common.{◌≡◌, ℕ, List, [], ◌∷◌, None, map, sym, ap, ◌∙◌, subst, Result, refl}
use Rattle.std.specs.Global.{Vec}
use Rattle.std.specs.List.{concat}
use Rattle.plan_model.specs.InputWords.{session_words}
use Rattle.party_file.specs.Forms.{form_of}
use Rattle.party_file.specs.declared.data.PartyData.{PartyData}
use Rattle.plan_model.specs.Plans.{Plan}
use Rattle.output_text.specs.AuditText.{yes_text}
use Rattle.share_world.specs.Worlds.{World, view}
use Rattle.share_world.specs.Laws.{IsWhole}
use Rattle.wire_tables.specs.WireTables.{world_given}
use Rattle.job_run.specs.Parties.{AllFit, world_of}
use Rattle.job_run.proofs.PairWorlds.{parties_whole, world_is}
use Rattle.command_words.specs.Commands.{audit}
use Rattle.job_walk.specs.declared.stop.Stop.{Stop}
use Rattle.job_walk.specs.Reads.{WalksAs}
use Rattle.job_walk.specs.Names.{view_file}
use Rattle.job_walk.proofs.JobFiles.{of_job}
use Rattle.mpc_top.proofs.FilesRead.{first_parties, first_more, all_more}
use Rattle.mpc_top.proofs.Jobs.{job_read}
use Rattle.mpc_top.specs.Audits.{Judged}
use Rattle.mpc_top.proofs.Runs.{as_text, runs_stop, runs_memory, runs_written, runs_cut}
use Rattle.mpc_top.proofs.Audits.{parties_stop, text_stops, judging_stops, yes_read}
use Rattle.mpc_top.proofs.audit.audit_planned.Goals as goal

-- a text is judged over the same world
same_judged : (names : List (List ℕ)) (w w' : World) (text text' : List ℕ) (result : Result ℕ Stop) → w ≡ w' → text ≡ text'
    → WalksAs (λ (count : ℕ). count) (Judged names (view w) text) result → WalksAs (λ (count : ℕ). count) (Judged names (view w') text') result
same_judged names w w' text text' result same text_same h =
    subst (λ t. WalksAs (λ (count : ℕ). count) (Judged names (view w') t) result) text_same
    (subst (λ v. WalksAs (λ (count : ℕ). count) (Judged names (view v) text) result) same h)

-- the world of the copies is that of the parties
same_world : (plan : Plan) (parties copied drawn : List PartyData) (inputs : List (List (List ℕ))) (tapes shown : List (Vec ℕ)) → copied ≡ parties → drawn ≡ parties → shown ≡ tapes
    → inputs ≡ (world_of plan (map form_of copied)).inputs → session_words tapes ≡ map (λ party. concat party.tapes) (map form_of drawn)
    → world_given plan inputs shown ≡ world_of plan (map form_of parties)
same_world plan parties copied drawn inputs tapes shown c d s i t =
    world_is plan (map form_of parties) inputs shown (i ∙ ap (λ (ps : List PartyData). (world_of plan (map form_of ps)).inputs) c)
    (ap session_words s ∙ t ∙ ap (λ (ps : List PartyData). (world_of plan (map form_of ps)).tapes) d)

pub returns-in_err-parties : goal.returns-in_err-parties
returns-in_err-parties g c = λ before read.
    let p = of_job _ _ _ _ _ _ _ read in
    let r = parties_stop c.args.dir.now c.args.planned.now _ _ p.3 _ _ c.in_err-parties.ensures.reads in
    runs_stop (audit c.args.dir.now) _ _ _ _ as_text _ _ c.from_residual.ensures.1 refl refl (first_parties c.args.dir.now (view_file ∷ []) p.0 p.1 _ p.2 _ r) (λ name last. last) r

pub inputs_of-requires-clause-fit : goal.inputs_of-requires-clause-fit
inputs_of-requires-clause-fit g c = subst (AllFit c.args.planned.now.plan) (sym c.deref.ensures.value) c.in_ok-parties.ensures.fit

pub returns-in_err-inputs : goal.returns-in_err-inputs
returns-in_err-inputs g c = λ before read.
    let p = of_job _ _ _ _ _ _ _ read in
    let j = job_read c.args.dir.now None c.args.planned.now _ _ _ p.3 c.in_ok-parties.parties c.in_ok-parties.ensures.reads in
    runs_memory (audit c.args.dir.now) _ _ _ _ _ c.from_residual-in_err-inputs.ensures.1 refl j.quiet j.keeps (first_parties c.args.dir.now (view_file ∷ []) p.0 p.1 _ p.2 _ j)

pub returns-in_err-tapes : goal.returns-in_err-tapes
returns-in_err-tapes g c = λ before read.
    let p = of_job _ _ _ _ _ _ _ read in
    let j = job_read c.args.dir.now None c.args.planned.now _ _ _ p.3 c.in_ok-parties.parties c.in_ok-parties.ensures.reads in
    runs_memory (audit c.args.dir.now) _ _ _ _ _ c.from_residual-in_err-tapes.ensures.1 refl j.quiet j.keeps (first_parties c.args.dir.now (view_file ∷ []) p.0 p.1 _ p.2 _ j)

pub returns-in_err-text : goal.returns-in_err-text
returns-in_err-text g c = λ before read.
    let p = of_job _ _ _ _ _ _ _ read in
    let r = text_stops c.args.dir.now c.args.planned.now _ _ p.3 _ c.in_ok-parties.parties c.in_ok-parties.ensures.reads _ _ c.in_err-text.ensures in
    runs_stop (audit c.args.dir.now) _ _ _ _ as_text _ _ c.from_residual-in_err-text.ensures.1 refl refl (first_more c.args.dir.now (view_file ∷ []) p.0 p.1 _ p.2 _ r) (λ name last. last) r

pub judged-requires-clause-whole : goal.judged-requires-clause-whole
judged-requires-clause-whole g c =
    let plan = c.args.planned.now.plan in
    let same = same_world plan c.in_ok-parties.parties.items _ _ c.in_ok-inputs.inputs c.in_ok-tapes.tapes.items _ c.deref.ensures.value c.deref-2.ensures.value c.deref-3.ensures.value c.in_ok-inputs.ensures.same c.in_ok-tapes.ensures in
    subst IsWhole (sym same) (parties_whole plan c.recall.ensures c.in_ok-parties.parties.items c.in_ok-parties.ensures.count c.in_ok-parties.ensures.fit)

pub returns-in_err-count : goal.returns-in_err-count
returns-in_err-count g c = λ before read.
    let plan = c.args.planned.now.plan in
    let same = same_world plan c.in_ok-parties.parties.items _ _ c.in_ok-inputs.inputs c.in_ok-tapes.tapes.items _ c.deref.ensures.value c.deref-2.ensures.value c.deref-3.ensures.value c.in_ok-inputs.ensures.same c.in_ok-tapes.ensures in
    let p = of_job _ _ _ _ _ _ _ read in
    let r = judging_stops c.args.dir.now c.args.planned.now _ _ p.3 _ c.in_ok-parties.parties c.in_ok-parties.ensures.reads _ c.in_ok-text.text c.in_ok-text.ensures _
    (same_judged c.args.planned.now.names _ _ _ _ _ same c.deref-4.ensures.value c.in_err-count.ensures) in
    runs_stop (audit c.args.dir.now) _ _ _ _ as_text _ _ c.from_residual-in_err-count.ensures.1 refl refl (first_more c.args.dir.now (view_file ∷ []) p.0 p.1 _ p.2 _ r) (λ name last. last) r

pub returns-in_err-write_yes : goal.returns-in_err-write_yes
returns-in_err-write_yes g c = λ before read.
    let plan = c.args.planned.now.plan in
    let same = same_world plan c.in_ok-parties.parties.items _ _ c.in_ok-inputs.inputs c.in_ok-tapes.tapes.items _ c.deref.ensures.value c.deref-2.ensures.value c.deref-3.ensures.value c.in_ok-inputs.ensures.same c.in_ok-tapes.ensures in
    let p = of_job _ _ _ _ _ _ _ read in
    let r = yes_read c.args.dir.now c.args.planned.now _ _ p.3 _ c.in_ok-parties.parties c.in_ok-parties.ensures.reads _ c.in_ok-text.text c.in_ok-text.ensures c.in_ok-count.count
    (same_judged c.args.planned.now.names _ _ _ _ _ same c.deref-4.ensures.value c.in_ok-count.ensures) in
    runs_cut (audit c.args.dir.now) _ _ _ _ (yes_text c.in_ok-count.count) _ _ c.from_residual-in_err-write_yes.ensures.1 refl (all_more c.args.dir.now (view_file ∷ []) p.0 p.1 _ p.2 _ r) r c.in_err-write_yes.ensures

pub returns : goal.returns
returns g c = λ before read.
    let plan = c.args.planned.now.plan in
    let same = same_world plan c.in_ok-parties.parties.items _ _ c.in_ok-inputs.inputs c.in_ok-tapes.tapes.items _ c.deref.ensures.value c.deref-2.ensures.value c.deref-3.ensures.value c.in_ok-inputs.ensures.same c.in_ok-tapes.ensures in
    let p = of_job _ _ _ _ _ _ _ read in
    let r = yes_read c.args.dir.now c.args.planned.now _ _ p.3 _ c.in_ok-parties.parties c.in_ok-parties.ensures.reads _ c.in_ok-text.text c.in_ok-text.ensures c.in_ok-count.count
    (same_judged c.args.planned.now.names _ _ _ _ _ same c.deref-4.ensures.value c.in_ok-count.ensures) in
    runs_written (audit c.args.dir.now) _ _ _ _ (yes_text c.in_ok-count.count) _ refl (all_more c.args.dir.now (view_file ∷ []) p.0 p.1 _ p.2 _ r) r c.in_ok-write_yes.ensures tt
