use Rattle.std.proofs.Common.{◌+◌}
use Rattle.plan_model.specs.Firsts.{first}
use Rattle.link_reader.specs.Expected.{ArePlaced}
use Rattle.link_reader.proofs.expected.push_places.Given as goal

abbrev pub invariant-loop-i : goal.invariant-loop-i
invariant-loop-i l = ArePlaced l.plan l.me (first l.plan l.s l.k + l.i) l.places.items l.counts
