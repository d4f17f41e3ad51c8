-- How far a text was read.
use Rattle.std.specs.Prelude.{◌≡◌, ℕ, List, ◌∷◌, ◌++◌}
use Rattle.number_gates.specs.Steps.{Kept, no_gates, Runs}
use Rattle.number_circuit.specs.declared.fault.NumberFault.{NumberFault}
use Rattle.number_circuit.specs.Programs.{Statement}
use Rattle.number_circuit.specs.Faults.{Bounds, Says, knows, AreLines, IsFaultIn, none_known, lines}
use Rattle.number_compiler.specs.Circuits.{Draft, no_lines, statement_steps, program_steps}
use Rattle.number_compiler.specs.Elements.{bounds_of}

-- the lines before line n say a program, whose draft and gates these are: what the rest says goes on with that program,
-- and a fault of the rest is one of the text
pub record IsReadTo (text : List ℕ) (n : ℕ) (rest : List ℕ) (d : Draft) (k : Kept) : Type 0 where
  pub program : List Statement
  pub made : Runs (program_steps no_lines program) no_gates d k
  pub says : (q : List Statement) → AreLines (bounds_of d.of) n (lines rest) q
      → AreLines none_known 1 (lines text) (program ++ q)
  pub fails : (fault : NumberFault) → IsFaultIn (bounds_of d.of) n (lines rest) fault
      → IsFaultIn none_known 1 (lines text) fault

-- what this line and then the lines of the rest say, or which fault they have, the text says or has
pub record GoesOn (text line rest : List ℕ) : Type 0 where
  pub says : (known : Bounds) (n : ℕ) (p : List Statement) → AreLines known n (line ∷ lines rest) p
      → AreLines known n (lines text) p
  pub fails : (known : Bounds) (n : ℕ) (fault : NumberFault) → IsFaultIn known n (line ∷ lines rest) fault
      → IsFaultIn known n (lines text) fault

-- line n says the statement, of which comes this draft, with these gates
pub record IsSaid (d : Draft) (line : List ℕ) (n : ℕ) (s : Statement) (old : Kept) (e : Draft) (new : Kept) : Type 0
  where
    pub says : Says (bounds_of d.of) line n s
    pub made : Runs (statement_steps d s) old e new
    pub known : bounds_of e.of ≡ knows (bounds_of d.of) s
