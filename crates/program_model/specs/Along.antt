-- What holds along a list of instructions.
use Rattle.std.specs.Prelude.{ℕ, zero, suc, List, [], ◌∷◌}
use Rattle.program_model.specs.declared.instruction.Instruction.{Instruction}
use Rattle.program_model.specs.Programs.{at}
use Rattle.program_model.specs.States.{Given, State, next}

-- P holds of each instruction of the list, in the state before it
abbrev pub AllAlong : (Instruction → State → Type 0) → Given → List Instruction → State → Type 0
AllAlong P given [] σ = Unit {0}
AllAlong P given (e ∷ es) σ = P e σ × AllAlong P given es (next given e σ)

-- the state after the first q of these instructions
abbrev pub run_from : Given → List Instruction → State → ℕ → State
run_from given es σ zero = σ
run_from given es σ (suc q) = next given (at es q) (run_from given es σ q)
