use Rattle.plan_model.specs.Firsts.{first}
use Rattle.link_reader.specs.Expected.{ArePlaced}
use Rattle.link_reader.proofs.expected.message_places.Given as goal

abbrev pub invariant-loop-s : goal.invariant-loop-s
invariant-loop-s l = ArePlaced l.plan l.me (first l.plan l.s 0) l.places.items l.counts.items

abbrev pub invariant-loop-k : goal.invariant-loop-k
invariant-loop-k l = ArePlaced l.plan l.me (first l.plan l.s l.k) l.places.items l.counts.items
