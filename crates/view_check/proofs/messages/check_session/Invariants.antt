use Rattle.list_laws.specs.Lists.{joined}
use Rattle.plan_model.specs.Messages.{slot_messages}
use Rattle.plan_model.specs.Plans.{slot}
use Rattle.wire_tables.specs.Places.{ArePlaces}
use Rattle.view_check.specs.Audits.{audited_world}
use Rattle.view_text.specs.Seen.{seen_of}
use Rattle.view_check.specs.Views.{Passes}
use Rattle.view_check.proofs.messages.check_session.Given as goal

-- the messages of the first slots are passed, and the places are those of the next
abbrev pub invariant-loop-k : goal.invariant-loop-k
invariant-loop-k l = record {
  places : ArePlaces l.run.world.plan.now l.s l.k l.places.items;
  passed : Passes l.run.names.now (seen_of (audited_world l.run) l.run.group.mask (joined l.k (λ k. slot_messages l.run.world.plan.now l.s k (slot l.run.world.plan.now l.s k)))) l.fn.rest l.rest;
}
