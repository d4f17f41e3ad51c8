use Rattle.std.proofs.Common.{arith}
use Rattle.plan_model.proofs.TapePlaces.{session_end}
use Rattle.job_plan.proofs.plan.Plan.words.Goals as goal

pub overflow_sub-result : goal.overflow_sub-result
overflow_sub-result c = omega (arith, c.tape_start-start.ensures.is, c.tape_start.ensures.is, session_end c.args.self.now c.args.p c.args.s)

pub returns : goal.returns
returns c = omega (arith, c.tape_start-start.ensures.is, c.tape_start.ensures.is, session_end c.args.self.now c.args.p c.args.s)
