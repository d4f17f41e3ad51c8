use Rattle.plan_model.specs.InputWords.{session_words}
use Rattle.job_run.proofs.PartyCopies.{tapes_end}
use Rattle.job_run.proofs.copies.tapes_of.Goals as goal

pub returns : goal.returns
returns c = tapes_end c.args.parties.now c.loop-party.party-index (session_words c.loop-party.tapes.items) c.loop-party-test.false c.loop-party.invariant
