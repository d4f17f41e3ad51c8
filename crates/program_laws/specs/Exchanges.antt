-- Instructions that may be exchanged, and lists that become one another by that.
use Rattle.std.specs.Prelude.{◌≡◌, List}
use Rattle.program_model.specs.declared.instruction.Instruction.{Instruction}
use Rattle.program_model.specs.States.{Given, State, next, after_all}
use Rattle.program_model.specs.Along.{AllAlong}

-- e may be done before t in place of after it: both lead to the same state, and each finds what it needs
pub record MayGoFirst (P : Instruction → State → Type 0) (given : Given) (t e : Instruction) : Type 0 where
  pub same : (σ : State) → next given e (next given t σ) ≡ next given t (next given e σ)
  pub first : (σ : State) → P e (next given t σ) → P e σ
  pub second : (σ : State) → P t σ → P t (next given e σ)

-- the second list does what the first does, and needs no more
pub record Becomes (P : Instruction → State → Type 0) (given : Given) (xs ys : List Instruction) : Type 0 where
  pub same : (σ : State) → after_all given xs σ ≡ after_all given ys σ
  pub along : (σ : State) → AllAlong P given xs σ → AllAlong P given ys σ
