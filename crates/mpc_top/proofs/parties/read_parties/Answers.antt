use Rattle.std.proofs.Common.{List, ℕ, ◌+◌, ◌∷◌, [], length, map, length-append, sym, ap, subst, ◌∙◌, arith}
use Rattle.std.proofs.lemmas.Option.{get_or_from_slice_get}
use Rattle.party_file.specs.Forms.{form_of}
use Rattle.job_walk.specs.JobOf.{PartiesAfter}
use Rattle.mpc_top.specs.Seen.{parties_view}
use Rattle.job_walk.specs.FilesAsked.{party_files}
use Rattle.job_walk.specs.Reads.{ReadsAs}
use Rattle.job_walk.proofs.Steps.{reads_memory}
use Rattle.job_run.proofs.PartyForms.{fit_push}
use Rattle.mpc_top.proofs.PartyLoops.{party_next, party_stops, parties_end, parties_same, same_names, parties_push, length-forms, fit_none}
use Rattle.mpc_top.proofs.parties.read_parties.Goals as goal

pub returns-in_err-party-clause-reads : goal.returns-in_err-party-clause-reads
returns-in_err-party-clause-reads g c =
    c.loop-p.invariant.reads _ _ (party_stops c.args.dir.now c.args.planned.now.numeric.items c.args.planned.now.plan c.args.planned.now.names c.loop-p.p _ _ c.name.result.now (sym (get_or_from_slice_get c.args.planned.now.names c.loop-p.p c.name.result.now [] c.name.ensures)) (omega arith) (parties_view c.loop-p.parties)
    (length-forms c.loop-p.parties.items ∙ c.loop-p.invariant.count) _ c.deref-numeric.ensures.value _ _ c.from_residual.ensures.1 c.in_err-party.ensures.reads)

pub returns-in_err-push-clause-reads : goal.returns-in_err-push-clause-reads
returns-in_err-push-clause-reads g c =
    c.loop-p.invariant.reads _ _ (party_next c.args.dir.now c.args.planned.now.numeric.items c.args.planned.now.plan c.args.planned.now.names c.loop-p.p _ _ c.name.result.now (sym (get_or_from_slice_get c.args.planned.now.names c.loop-p.p c.name.result.now [] c.name.ensures)) (omega arith) (parties_view c.loop-p.parties)
    (length-forms c.loop-p.parties.items ∙ c.loop-p.invariant.count) _ c.deref-numeric.ensures.value _ _ c.in_ok-party.party c.in_ok-party.ensures.reads (reads_memory _ _ _ _ c.from_residual-in_err-push.ensures.1))

pub loop-p-init : goal.loop-p-init
loop-p-init g c = record {
  reads = λ after result rest.
      subst (λ ns. ReadsAs c.args.dir.now (party_files ns) parties_view (λ m. PartiesAfter m c.args.dir.now c.args.planned.now.numeric.items c.args.planned.now.plan [] ns) (g.F.Files.reading c.args.files.now) after result) (same_names c.args.planned.now.names)
      (subst (λ hs. ReadsAs c.args.dir.now (party_files (map (λ (name : List ℕ). name) c.args.planned.now.names)) parties_view (λ m. PartiesAfter m c.args.dir.now c.args.planned.now.numeric.items c.args.planned.now.plan hs (map (λ (name : List ℕ). name) c.args.planned.now.names)) (g.F.Files.reading c.args.files.now) after result) (ap (map form_of) c.new-parties.ensures.items) rest);
  count = ap length c.new-parties.ensures.items;
  fit = fit_none c.args.planned.now.plan c.new-parties.result.items c.new-parties.ensures.items;
}

pub loop-p-preserved : goal.loop-p-preserved
loop-p-preserved g c = record {
  reads = λ after result rest.
      c.loop-p.invariant.reads after result (party_next c.args.dir.now c.args.planned.now.numeric.items c.args.planned.now.plan c.args.planned.now.names c.loop-p.p _ result c.name.result.now (sym (get_or_from_slice_get c.args.planned.now.names c.loop-p.p c.name.result.now [] c.name.ensures)) (omega arith) (parties_view c.loop-p.parties)
      (length-forms c.loop-p.parties.items ∙ c.loop-p.invariant.count) _ c.deref-numeric.ensures.value _ after c.in_ok-party.party c.in_ok-party.ensures.reads
      (parties_same c.args.dir.now c.args.planned.now.numeric.items c.args.planned.now.plan c.args.planned.now.names c.loop-p.p (g.F.Files.reading c.args.files.now) result _ _ (c.loop-p.p + 1) _ after (parties_push c.loop-p.parties.items _ c.in_ok-party.party c.in_ok-push.ensures.items) rest));
  count = ap length c.in_ok-push.ensures.items ∙ length-append c.loop-p.parties.items (c.in_ok-party.party ∷ []) ∙ ap (λ n. n + 1) c.loop-p.invariant.count;
  fit = fit_push c.args.planned.now.plan c.loop-p.parties.items _ c.loop-p.p c.in_ok-party.party c.in_ok-push.ensures.items c.loop-p.invariant.count c.loop-p.invariant.fit c.in_ok-party.ensures.fits;
}

pub returns-clause-reads : goal.returns-clause-reads
returns-clause-reads g c =
    c.loop-p.invariant.reads _ _ (parties_end c.args.dir.now c.args.planned.now.numeric.items c.args.planned.now.plan c.args.planned.now.names c.loop-p.p _ c.loop-p.parties (omega arith))
