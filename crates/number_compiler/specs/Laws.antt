-- What a text stands for, and the laws of compiled programs.
use Rattle.std.specs.Prelude.{◌≡◌, ℕ, false, List, map}
use Rattle.circuit_model.specs.Netlists.{Netlist, IsCircuit}
use Rattle.number_circuit.specs.declared.fault.NumberFault.{NumberFault}
use Rattle.number_circuit.specs.declared.fault.NumberFault.TheVariants.{Memory}
use Rattle.number_circuit.specs.Programs.{Statement, program_bounds, input_widths}
use Rattle.number_circuit.specs.Laws.{HasItsValue, IsProgram, IsFault}
use Rattle.number_compiler.specs.Widths.{bits_of}
use Rattle.number_compiler.specs.Circuits.{circuit, has_large_circuit}

-- the circuit is a valid one: it has an input value of its width for each input line and an output value with the bits
-- of its bound for each output line, and its outputs are the values of those lines, for all bits of the inputs
pub record IsRight (p : List Statement) : Type 0 where
  pub valid : IsCircuit (circuit p)
  pub inputs : (circuit p).inputs ≡ input_widths p
  pub outputs : (circuit p).outputs ≡ map bits_of (program_bounds p)
  pub values : HasItsValue circuit p

-- so it is where the circuit is within the limits
abbrev pub IsCompiledRight : List Statement → Type 0
IsCompiledRight p = has_large_circuit p ≡ false → IsRight p

-- the circuit is that of the program that the text is
pub record IsCircuitOf (text : List ℕ) (c : Netlist) : Type 0 where
  pub program : List Statement
  pub is : IsProgram has_large_circuit text program
  pub made : c ≡ circuit program

-- the first fault of the text, unless memory ran out
abbrev pub Refuses : List ℕ → NumberFault → Type 0
Refuses text Memory = Unit {0}
Refuses text fault = IsFault has_large_circuit text fault
