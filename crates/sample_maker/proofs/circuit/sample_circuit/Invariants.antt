use Rattle.std.proofs.Common.{◌≡◌}
use Rattle.sample_maker.specs.Drafts.{sample_draft}
use Rattle.sample_maker.proofs.circuit.sample_circuit.Given as goal

abbrev pub invariant-loop-j : goal.invariant-loop-j
invariant-loop-j l = l.builder ≡ sample_draft l.count l.j
