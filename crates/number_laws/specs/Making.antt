-- What comes of steps, whatever wires their gates get.
use Rattle.std.specs.Prelude.{ℕ, ◌<◌, List, length, slice_index_or}
use Rattle.circuit_model.specs.declared.gate.Operation.TheVariants.{Xor}
use Rattle.number_gates.specs.declared.wire.Wire.{Wire}
use Rattle.number_gates.specs.declared.wire.Wire.TheVariants as wires
use Rattle.number_gates.specs.declared.wire.DraftGate.{DraftGate}
use Rattle.number_gates.specs.Steps.{Steps, done, add, Kept}
use Rattle.number_gates.specs.BitGates.{no_wire}

-- this holds of what comes of the steps, if each new wire stands so to its gate
abbrev pub Comes : {A : Type 0} → (Wire → DraftGate → Type 0) → Steps A → (A → Type 0) → Type 0
Comes R (done a) Q = Q a
Comes R (add g rest) Q = (w : Wire) → R w g → Comes R (rest w) Q

pub record Makes {A : Type 0} (R : Wire → DraftGate → Type 0) (steps : Steps A) (Q : A → Type 0) : Type 0 where
  pub comes : Comes R steps Q

-- this holds of what comes of the steps, and nothing is known of wires
abbrev pub Gives : {A : Type 0} → Steps A → (A → Type 0) → Type 0
Gives steps Q = Makes (λ w g. Unit {0}) steps Q

-- what stands for a gate that isn't there
abbrev pub no_gate : DraftGate
no_gate = record { operation = Xor; first = no_wire; second = no_wire; constant = 0 }

-- each gate's wire stands so to the gate
pub record AreSet (R : Wire → DraftGate → Type 0) (gates : List DraftGate) : Type 0 where
  pub of_gate : (t : ℕ) → t < length gates → R (wires.Gate t) (slice_index_or gates t no_gate)

-- so it was before the steps, and this holds of their result
pub record AreKept {A : Type 0} (R : Wire → DraftGate → Type 0) (old : Kept) (result : A) (Q : A → Type 0)
    : Type 0 where
  pub before : AreSet R old.drafted
  pub value : Q result
