use Rattle.std.proofs.Common.{◌+◌, sym, ◌∙◌, arith}
use Rattle.session_slots.proofs.KeptSessions.{none_before}
use Rattle.job_session.proofs.keeping.carried_from.Goals as goal

pub loop-s-init : goal.loop-s-init
loop-s-init c = c.new-kept.ensures.items ∙ sym (none_before c.args.parts.now c.requires.fit c.args.r (c.args.r + 1) (omega arith))
