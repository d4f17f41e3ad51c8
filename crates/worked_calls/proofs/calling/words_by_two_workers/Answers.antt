use Rattle.std.proofs.Common.{◌<◌, map, refl, subst}
use Rattle.party_file.specs.Forms.{form_of}
use Rattle.job_run.specs.Parties.{world_of}
use Rattle.worked_calls.proofs.calling.words_by_two_workers.Goals as goal

pub cell-requires : goal.cell-requires
cell-requires c d =
    let w = world_of d.args.planned.now.plan (map form_of d.in_ok-parties.parties.items) in
    (w, d.run-done.ensures w refl d.in_ok-ready.ensures.ready, subst (λ n. d.loop-number.number < n) d.messages-number-end.ensures d.loop-number-test.true)
