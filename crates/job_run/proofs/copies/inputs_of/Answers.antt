use Rattle.std.proofs.Common.{sym, ◌∙◌, subst}
use Rattle.plan_model.specs.InputWords.{AreInputs, input_words}
use Rattle.job_run.proofs.Worlds.{are_inputs}
use Rattle.job_run.proofs.PartyCopies.{inputs_end}
use Rattle.job_run.proofs.copies.inputs_of.Goals as goal

pub make-requires : goal.make-requires
make-requires c =
    let same = inputs_end c.args.parties.now c.loop-party.party-index (input_words c.loop-party.inputs.items) c.loop-party-test.false c.loop-party.invariant in
    subst (AreInputs c.args.plan.now) (sym same) (are_inputs c.args.plan.now c.args.parties.now c.requires.count c.requires.fit)

pub returns-clause-same : goal.returns-clause-same
returns-clause-same c = c.make.ensures ∙ inputs_end c.args.parties.now c.loop-party.party-index (input_words c.loop-party.inputs.items) c.loop-party-test.false c.loop-party.invariant

pub returns-clause-fits : goal.returns-clause-fits
returns-clause-fits c =
    let same = c.make.ensures ∙ inputs_end c.args.parties.now c.loop-party.party-index (input_words c.loop-party.inputs.items) c.loop-party-test.false c.loop-party.invariant in
    subst (AreInputs c.args.plan.now) (sym same) (are_inputs c.args.plan.now c.args.parties.now c.requires.count c.requires.fit)
