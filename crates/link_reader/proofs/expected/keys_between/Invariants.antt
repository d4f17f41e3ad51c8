use Rattle.std.proofs.Common.{◌≡◌, ◌++◌}
use Rattle.std.specs.Prelude.{filter}
use Rattle.list_laws.specs.Lists.{joined}
use Rattle.plan_model.specs.Plans.{slot}
use Rattle.plan_model.specs.Messages.{session_messages, slot_messages}
use Rattle.node_talk.specs.Talks.{goes}
use Rattle.link_reader.proofs.expected.keys_between.Given as goal

-- those of the first sessions that go from the one to the other
abbrev pub invariant-loop-s : goal.invariant-loop-s
invariant-loop-s l = l.keys.items ≡ filter (goes l.from l.to) (joined l.s (session_messages l.plan))

-- and of the first slots of the next
abbrev pub invariant-loop-k : goal.invariant-loop-k
invariant-loop-k l =
    l.keys.items
    ≡ filter (goes l.from l.to) (joined l.s (session_messages l.plan))
    ++ filter (goes l.from l.to) (joined l.k (λ k. slot_messages l.plan l.s k (slot l.plan l.s k)))
