use Rattle.std.proofs.Common.{◌≡◌, ◌++◌}
use Rattle.list_laws.specs.Lists.{joined}
use Rattle.tape_map.specs.Changes.{grown_words}
use Rattle.tape_map.proofs.change.Change.push_piece.Given as goal

-- the words of the slots so far
abbrev pub invariant-loop-k : goal.invariant-loop-k
invariant-loop-k l = l.changed.items ≡ l.fn.changed.items ++ joined l.k (grown_words l.plan l.group.mask l.self l.tape l.p)
