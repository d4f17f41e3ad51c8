-- Sessions that are made of valid circuits.
use Rattle.std.specs.Prelude.{◌≡◌, ℕ, Bool, List, length}
use Rattle.party_set.specs.Parties.{Members}
use Rattle.circuit_model.specs.Netlists.{Netlist, IsCircuit, plain as value}
use Rattle.session_slots.specs.declared.values.Owner.{Owner}
use Rattle.session_slots.specs.declared.values.KeptWire.{KeptWire}
use Rattle.job_session.specs.Parts.{session_of}
use Rattle.session_slots.specs.Sessions.{Session}
use Rattle.plan_model.specs.Plans.{session}
use Rattle.share_world.specs.Worlds.{World, first_values, plain}
use Rattle.share_world.specs.Solutions.{GatesInOrder}

-- the session of a circuit, whose products may be prepared, their masks ahead or in turn, and whose output wires may be
-- kept
abbrev pub made_of : Netlist → List Owner → List Members → Bool → Bool → List KeptWire → Session
made_of c owners readers prepared ahead kept =
    record (session_of c owners readers) { prepared = prepared; ahead = ahead; kept = kept }

-- the gates of the session are those of a valid circuit
abbrev pub MadeIsCircuit : Type 0
MadeIsCircuit =
    (c : Netlist) (owners : List Owner) (readers : List Members) (prepared ahead : Bool) (kept : List KeptWire)
    → IsCircuit c → length owners ≡ length c.inputs → GatesInOrder (made_of c owners readers prepared ahead kept)

-- the plain values of the session are the values of the circuit's wires, where its input wires have their inputs, or
-- the plain values of the wires that they carry
abbrev pub MadeHasValues : World → ℕ → Type 0
MadeHasValues w s =
    (c : Netlist) (owners : List Owner) (readers : List Members) (prepared ahead : Bool) (kept : List KeptWire)
    → session w.plan s ≡ made_of c owners readers prepared ahead kept
    → w.plan.bits ≡ c.bits → length owners ≡ length c.inputs
    → (v : ℕ) → plain w s v ≡ value c (first_values w (plain w) s) v
