use Rattle.std.proofs.Common.{◌≡◌, ◌+◌, ◌-◌, length, arith}
use Rattle.plan_model.proofs.SlotStarts.{some_session, last_end}
use Rattle.job_plan.proofs.plan.Plan.session_of.Goals as goal

pub loop-s-init : goal.loop-s-init
loop-s-init c =
    let plan = c.args.self.now in
    let last = c.sessions-s.result - 1 in
    let some = some_session plan (omega (arith, c.requires)) in
    let is_last : last + 1 ≡ length plan.sessions = omega arith in
    record { there = omega arith; end = omega (arith, last_end plan last is_last, c.requires) }
