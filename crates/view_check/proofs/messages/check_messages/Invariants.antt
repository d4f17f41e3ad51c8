use Rattle.list_laws.specs.Lists.{joined}
use Rattle.plan_model.specs.Messages.{session_messages}
use Rattle.wire_tables.specs.WireTables.{AreCarried}
use Rattle.view_check.specs.Audits.{audited_world}
use Rattle.view_text.specs.Seen.{seen_of}
use Rattle.view_check.specs.Views.{Passes}
use Rattle.view_check.proofs.messages.check_messages.Given as goal

-- the messages of the first sessions are passed, and what is carried of these is there
abbrev pub invariant-loop-s : goal.invariant-loop-s
invariant-loop-s l = record {
  carried : AreCarried (audited_world l.run) l.s l.carried;
  passed : Passes l.run.names.now (seen_of (audited_world l.run) l.run.group.mask (joined l.s (session_messages l.run.world.plan.now))) l.fn.rest l.rest;
}
