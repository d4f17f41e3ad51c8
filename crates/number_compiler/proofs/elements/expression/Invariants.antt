use Rattle.number_compiler.specs.Circuits.{Names}
use Rattle.number_compiler.specs.Named.{AreNames}
use Rattle.number_compiler.proofs.ElementSteps.{GoesAt}
use Rattle.number_compiler.proofs.elements.expression.Given as goal

abbrev pub invariant-loop-one : goal.invariant-loop-one
invariant-loop-one l = (of : Names) → AreNames l.names of → GoesAt of l.line.text.now l.line.number l.elements l.fn.gates l.one-index l.by_number l.pending l.gates
