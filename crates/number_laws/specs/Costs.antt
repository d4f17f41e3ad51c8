-- How many products steps have: gates that multiply.
use Rattle.std.specs.Prelude.{ℕ, ◌+◌, ◌≤◌, List, [], ◌∷◌, if◌then◌else◌}
use Rattle.circuit_model.specs.Circuits.{is_product}
use Rattle.number_gates.specs.declared.wire.Wire.{Wire}
use Rattle.number_gates.specs.declared.wire.DraftGate.{DraftGate}
use Rattle.number_gates.specs.Steps.{Steps, done, add}

-- 1 for a gate that multiplies
abbrev pub price : DraftGate → ℕ
price g = if is_product g.operation then 1 else 0

-- the steps have at most n products
abbrev pub HasAtMost : {A : Type 0} → ℕ → Steps A → Type 0
HasAtMost n (done a) = Unit {0}
HasAtMost n (add g rest) = (m : ℕ) × (price g + m ≤ n) × ((w : Wire) → HasAtMost m (rest w))

pub record AtMost {A : Type 0} (n : ℕ) (steps : Steps A) : Type 0 where
  pub few : HasAtMost n steps

-- how many of the gates multiply
abbrev pub products : List DraftGate → ℕ
products [] = 0
products (g ∷ gates) = price g + products gates
