-- How often things stand in a session.
use Rattle.std.specs.Prelude.{ℕ, List, count_by, if◌then◌else◌}
use Rattle.circuit_model.specs.declared.gate.Gate.{Gate}
use Rattle.circuit_model.specs.Circuits.{is_product}
use Rattle.party_set.specs.Parties.{has_party}
use Rattle.session_slots.specs.Sessions.{Session, given_by, owners, readers}

-- how many gates multiply
abbrev pub products_of : List Gate → ℕ
products_of gates = count_by (λ (g : Gate). is_product g.operation) gates

-- of a session
abbrev pub products : Session → ℕ
products s = products_of s.gates

-- and how many of these are prepared
abbrev pub prepared_products : Session → ℕ
prepared_products s = if s.prepared then products s else 0

-- how many input wires p gives
abbrev pub owned : Session → ℕ → ℕ
owned s p = count_by (given_by p) (owners s)

-- how many output wires r reads
abbrev pub outputs_read : Session → ℕ → ℕ
outputs_read s r = count_by (λ mask. has_party mask r) (readers s)
