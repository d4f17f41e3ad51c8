use Rattle.std.proofs.Common.{map, sym, ap, ◌∙◌, subst}
use Rattle.plan_model.specs.InputWords.{session_words}
use Rattle.party_file.specs.Forms.{form_of}
use Rattle.share_world.specs.Worlds.{World}
use Rattle.share_world.specs.Laws.{IsWhole, AreTapes}
use Rattle.wire_tables.specs.WireTables as tables
use Rattle.tape_map.proofs.ChangedTapes.{are_tapes}
use Rattle.job_run.specs.Parties.{AllFit, world_of}
use Rattle.job_run.proofs.PairWorlds.{parties_whole, world_is}
use Rattle.job_run.proofs.pair.pair_of.Goals as goal

pub inputs_of-requires-clause-fit : goal.inputs_of-requires-clause-fit
inputs_of-requires-clause-fit c = subst (AllFit c.args.plan.now) (sym c.as_slice.ensures.value) c.requires.fit

pub map_tapes-requires-clause-whole : goal.map_tapes-requires-clause-whole
map_tapes-requires-clause-whole c =
    let plan = c.args.plan.now in
    let parties = c.args.parties.items in
    let inputs = c.in_ok-inputs.ensures.same ∙ ap (λ parties. (world_of plan (map form_of parties)).inputs) c.as_slice.ensures.value in
    let tapes = ap session_words c.as_slice-3.ensures.value ∙ c.in_ok-own.ensures ∙ ap (λ parties. (world_of plan (map form_of parties)).tapes) c.as_slice-2.ensures.value in
    let same = world_is plan (map form_of parties) c.in_ok-inputs.inputs c.as_slice-3.result.now inputs tapes in
    subst IsWhole (sym same) (parties_whole plan c.recall.ensures parties c.requires.count c.requires.fit)

pub cut_pieces-requires : goal.cut_pieces-requires
cut_pieces-requires c =
    let plan = c.args.plan.now in
    let w : World = tables.world_given plan c.in_ok-inputs.inputs c.as_slice-3.result.now in
    let hides = c.in_ok-tapes.ensures.hides in
    let tapes = ap session_words c.as_slice-4.ensures.value ∙ c.in_ok-tapes.ensures.tapes in
    subst (AreTapes plan) (sym tapes) (are_tapes w c.args.other.now c.args.group.mask hides.whole)
