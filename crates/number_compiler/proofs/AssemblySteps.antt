-- The steps of assembling a circuit.
use Rattle.std.proofs.Common.{◌≡◌, ℕ, suc, ◌+◌, ◌<◌, List, [], ◌∷◌, ◌++◌, length, map, take, get_or, sym, ◌∙◌, ap, ap₂, subst, arith, append_assoc}
use Rattle.std.proofs.lemmas.List.{take_more, map-append, length-take-le}
use Rattle.circuit_model.specs.declared.gate.Gate.{Gate}
use Rattle.circuit_model.specs.Netlists as netlists
use Rattle.circuit_model.specs.Netlists.{Netlist, IsCircuit}
use Rattle.circuit_model.proofs.GateWires.{first_below, second_below}
use Rattle.number_gates.specs.declared.wire.DraftGate.{DraftGate}
use Rattle.number_gates.specs.declared.wire.Bit.{Bit}
use Rattle.number_laws.specs.Making.{no_gate}
use Rattle.number_compiler.specs.Circuits.{copy, gate_of, gates_from, assembled}
use Rattle.number_compiler.specs.Narrow.{IsNarrow}
use Rattle.number_compiler.proofs.GateLists.{long_gates, gate_at}

-- the wires of a valid circuit fit in 32 bits
pub narrow : (wires : ℕ) (drafted : List DraftGate) (inputs outputs : List ℕ) → IsCircuit (assembled wires drafted inputs outputs) → (t : ℕ) → t < length drafted → IsNarrow wires t (get_or drafted t no_gate)
narrow wires drafted inputs outputs valid t l =
    let c : Netlist = assembled wires drafted inputs outputs in
    let here : t < length c.gates = omega (arith, long_gates wires 0 drafted, l) in
    let s : DraftGate = get_or drafted t no_gate in
    let is : get_or c.gates t netlists.no_gate ≡ gate_of wires (0 + t) s = gate_at wires 0 t drafted l in
    let few = valid.within.wires in
    record {
      first = omega (arith, few, subst (λ (g : Gate). g.first < c.wires) is (first_below c t valid here));
      second = omega (arith, few, subst (λ (g : Gate). g.second < c.wires) is (second_below c t valid here));
      output = omega (arith, few, l);
    }

gates_push : (m g : ℕ) (ss : List DraftGate) (s : DraftGate) → gates_from m g (ss ++ (s ∷ [])) ≡ gates_from m g ss ++ (gate_of m (g + length ss) s ∷ [])
gates_push m g [] s = ap (λ k. gate_of m k s ∷ []) (let e : g ≡ g + 0 = omega arith in e)
gates_push m g (x ∷ ss) s =
    ap (λ gs. gate_of m g x ∷ gs) (gates_push m (g + 1) ss s ∙ ap (λ k. gates_from m (g + 1) ss ++ (gate_of m k s ∷ [])) (let e : g + 1 + length ss ≡ g + suc (length ss) = omega arith in e))

-- one gate more
pub gates_more : (m : ℕ) (drafted : List DraftGate) (at : ℕ) (d : DraftGate) (gates new : List Gate) (g : Gate) → at < length drafted → gates ≡ gates_from m 0 (take at drafted) → g ≡ gate_of m at (get_or drafted at d) → new ≡ gates ++ (g ∷ [])
    → new ≡ gates_from m 0 (take (at + 1) drafted)
gates_more m drafted at d gates new g l before is e =
    e ∙ ap₂ (λ gs x. gs ++ (x ∷ [])) before is
    ∙ ap (λ k. gates_from m 0 (take at drafted) ++ (gate_of m k (get_or drafted at d) ∷ [])) (let k : at ≡ 0 + length (take at drafted) = omega (arith, length-take-le at drafted (omega arith)) in k)
    ∙ sym (gates_push m 0 (take at drafted) (get_or drafted at d))
    ∙ ap (gates_from m 0) (sym (take_more drafted at d l))

-- one copy more
pub copies_more : (old all new : List DraftGate) (bits : List Bit) (at : ℕ) (b : Bit) (g : DraftGate) → at < length bits → all ≡ old ++ map copy (take at bits) → g ≡ copy (get_or bits at b) → new ≡ all ++ (g ∷ []) → new ≡ old ++ map copy (take (at + 1) bits)
copies_more old all new bits at b g l before is e =
    e ∙ ap₂ (λ ss x. ss ++ (x ∷ [])) before is
    ∙ append_assoc old (map copy (take at bits)) (copy (get_or bits at b) ∷ [])
    ∙ ap (λ t. old ++ t) (sym (ap (map copy) (take_more bits at b l) ∙ map-append copy (take at bits) (get_or bits at b ∷ [])))
