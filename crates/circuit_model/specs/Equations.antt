-- The equations between what the wires of a circuit have, as their words.
use Rattle.std.specs.Prelude.{◌≡◌, ℕ, ◌^◌, ◌<◌, nat_eq, true, false, length}
use Rattle.std.specs.List.{list_any}
use Rattle.circuit_model.specs.declared.gate.Gate.{Gate}
use Rattle.circuit_model.specs.Circuits.{word_made}
use Rattle.circuit_model.specs.Netlists.{Netlist, IsCircuit, gate, read_by, input_wires, sets, plain}

-- input wires have what is given, each gate's output what the gate makes of what the wires have, and a wire that
-- nothing sets has `none`
pub record IsSolution {A : Type 0} (make : Gate → (ℕ → A) → A) (none : A) (c : Netlist) (inputs found : ℕ → A)
    : Type 0 where
  pub given : (w : ℕ) → w < input_wires c → found w ≡ inputs w
  pub gates : (t : ℕ) → t < length c.gates → found (gate c t).output ≡ make (gate c t) found
  pub unset : (w : ℕ) → sets c w ≡ false → found w ≡ none

-- what a gate makes goes by the wires that it reads alone
abbrev pub GoesByReads : {A : Type 0} → (Gate → (ℕ → A) → A) → Type 0
GoesByReads {A} make =
    (g : Gate) (x y : ℕ → A) → ((w : ℕ) → list_any (nat_eq w) (read_by g) ≡ true → x w ≡ y w) → make g x ≡ make g y

-- the words on the wires solve their equations
abbrev pub Solves : Netlist → (ℕ → ℕ) → (ℕ → ℕ) → Type 0
Solves c = IsSolution (word_made (2 ^ c.bits)) 0 c

-- the values do
abbrev pub ValuesSolve : Type 0
ValuesSolve = (c : Netlist) (inputs : ℕ → ℕ) → IsCircuit c → Solves c inputs (plain c inputs)

-- no other words do
abbrev pub ValuesAlone : Type 0
ValuesAlone =
    (c : Netlist) (inputs words : ℕ → ℕ) → IsCircuit c → Solves c inputs words → (w : ℕ) → words w ≡ plain c inputs w
