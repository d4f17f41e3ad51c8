-- What a text stands for, and the laws of the compiler.
use Rattle.std.specs.Prelude.{◌≡◌, ℕ, ◌-◌, ◌^◌, ◌<◌, ◌⊎◌, true, false, List, length, map, Ok}
use Rattle.std.specs.List.{range_with_len}
use Rattle.std.specs.Str.{IsUtf8}
use Rattle.std.specs.Str.Lossy.{utf8_valid_len}
use Rattle.circuit_model.specs.Netlists.{Netlist, plain, output_wires}
use Rattle.circuit_model.specs.declared.layout.CircuitLayout.TheVariants as layouts
use Rattle.circuit_file.specs.CircuitFiles.{circuit_in}
use Rattle.expr_circuit.specs.declared.fault.ExprFault.{ExprFault}
use Rattle.expr_circuit.specs.declared.fault.ExprFault.TheVariants.{NotUtf8, TooLarge, Memory}
use Rattle.expr_circuit.specs.Programs.{Statement, program_value}
use Rattle.expr_circuit.specs.Faults.{AreLines, IsFaultIn, none_known, lines}
use Rattle.expr_circuit.specs.Circuits.{circuit, is_large}
use Rattle.circuit_file.specs.CircuitTexts.{circuit_text}

-- the text is this program, whose circuit is within the limits
pub record IsProgram (bits : ℕ) (text : List ℕ) (p : List Statement) : Type 0 where
  pub utf8 : IsUtf8 text
  pub said : AreLines (2 ^ bits) none_known 1 (lines text) p
  pub small : is_large (circuit bits p) ≡ false

-- the first fault of a text
pub data IsFault (bits : ℕ) (text : List ℕ) (fault : ExprFault) : Type 0 where
  not_utf8 : fault ≡ NotUtf8 (utf8_valid_len text) → utf8_valid_len text < length text → IsFault bits text fault
  in_line : IsUtf8 text → IsFaultIn (2 ^ bits) none_known 1 (lines text) fault → IsFault bits text fault
  too_large : fault ≡ TooLarge → IsUtf8 text → (p : List Statement)
      → AreLines (2 ^ bits) none_known 1 (lines text) p → is_large (circuit bits p) ≡ true → IsFault bits text fault

-- the text of the circuit of a program
abbrev pub compiled : ℕ → List Statement → List ℕ
compiled bits p = circuit_text (circuit bits p)

-- the circuit is that of the program that the text is
pub record IsCircuitOf (bits : ℕ) (text : List ℕ) (c : Netlist) : Type 0 where
  pub program : List Statement
  pub is : IsProgram bits text program
  pub made : c ≡ circuit bits program

-- the answer is the compiled text of the program that the text is
pub record IsCompiled (bits : ℕ) (text found : List ℕ) : Type 0 where
  pub program : List Statement
  pub is : IsProgram bits text program
  pub written : found ≡ compiled bits program

-- the fault, unless memory ran out
abbrev pub Refuses : ℕ → List ℕ → ExprFault → Type 0
Refuses bits text Memory = Unit {0}
Refuses bits text fault = IsFault bits text fault

-- each text is one program or has one first fault, and never both
pub record HasOneAnswer (bits : ℕ) (text : List ℕ) : Type 0 where
  pub some : ((p : List Statement) × IsProgram bits text p) ⊎ ((fault : ExprFault) × IsFault bits text fault)
  pub one_program : (p r : List Statement) → IsProgram bits text p → IsProgram bits text r → p ≡ r
  pub one_fault : (f g : ExprFault) → IsFault bits text f → IsFault bits text g → f ≡ g
  pub not_both : (p : List Statement) (f : ExprFault) → IsProgram bits text p → IsFault bits text f → ⊥

-- a reader of circuits in the layout with operations on words makes of the compiled text the circuit of the program,
-- and has no fault
abbrev pub IsReadBack : ℕ → List ℕ → List Statement → Type 0
IsReadBack bits text p = IsProgram bits text p → circuit_in layouts.Ring bits (compiled bits p) ≡ Ok (circuit bits p)

-- the words on the output wires
abbrev pub output_words : Netlist → (ℕ → ℕ) → List ℕ
output_words c inputs = map (plain c inputs) (range_with_len (c.wires - output_wires c) (output_wires c))

-- the plain values of the output wires are the values of the output lines
abbrev pub HasItsValue : ℕ → List ℕ → List Statement → Type 0
HasItsValue bits text p =
    (inputs : ℕ → ℕ) → IsProgram bits text p → output_words (circuit bits p) inputs ≡ program_value (2 ^ bits) p inputs
