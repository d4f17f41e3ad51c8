use Rattle.std.proofs.Common.{◌≡◌, ◌++◌, map, take}
use Rattle.std.specs.Prelude.{filter}
use Rattle.plan_model.specs.Patterns.{named}
use Rattle.node_talk.specs.Talks.{goes}
use Rattle.link_reader.proofs.expected.push_between.Given as goal

-- those of the first messages of the slot that go from the one to the other
abbrev pub invariant-loop-i : goal.invariant-loop-i
invariant-loop-i l = l.keys.items ≡ l.fn.keys.items ++ filter (goes l.from l.to) (map (named l.s l.k) (take l.i l.transfers))
