-- The steps of assembling a circuit.
use Rattle.std.proofs.Common.{◌≡◌, ℕ, suc, ◌+◌, ◌<◌, List, [], ◌∷◌, ◌++◌, length, map, take, get_or, sym, ◌∙◌, ap, ap₂, subst, arith, append_assoc}
use Rattle.std.proofs.lemmas.List.{take_more, map-append, length-take-le}
use Rattle.circuit_model.specs.declared.gate.Gate.{Gate}
use Rattle.circuit_model.specs.Netlists.{Netlist, IsCircuit, no_gate}
use Rattle.circuit_model.proofs.GateWires.{first_below, second_below}
use Rattle.expr_circuit.specs.declared.wire.Wire.{Wire}
use Rattle.expr_circuit.specs.declared.wire.DraftGate.{DraftGate}
use Rattle.expr_circuit.specs.Circuits.{copy, no_wire, gate_of, gates_from, assembled}
use Rattle.expr_circuit.specs.Kept.{IsNarrow}
use Rattle.expr_circuit.proofs.Netlists.{long_gates, gate_at}

-- the wires of a valid circuit fit in 32 bits
pub narrow : (bits inputs : ℕ) (drafted : List DraftGate) (outputs : ℕ) → IsCircuit (assembled bits inputs drafted outputs) → (t : ℕ) → t < length drafted → IsNarrow inputs t (get_or drafted t (copy no_wire))
narrow bits inputs drafted outputs valid t l =
    let c : Netlist = assembled bits inputs drafted outputs in
    let here : t < length c.gates = omega (arith, long_gates inputs 0 drafted, l) in
    let s : DraftGate = get_or drafted t (copy no_wire) in
    let is : get_or c.gates t no_gate ≡ gate_of inputs (0 + t) s = gate_at inputs 0 t drafted l in
    let wires = valid.within.wires in
    record {
      first = omega (arith, wires, subst (λ (g : Gate). g.first < c.wires) is (first_below c t valid here));
      second = omega (arith, wires, subst (λ (g : Gate). g.second < c.wires) is (second_below c t valid here));
      output = omega (arith, wires, l);
    }

gates_push : (m g : ℕ) (ss : List DraftGate) (s : DraftGate) → gates_from m g (ss ++ (s ∷ [])) ≡ gates_from m g ss ++ (gate_of m (g + length ss) s ∷ [])
gates_push m g [] s = ap (λ k. gate_of m k s ∷ []) (let e : g ≡ g + 0 = omega arith in e)
gates_push m g (x ∷ ss) s =
    ap (λ gs. gate_of m g x ∷ gs) (gates_push m (g + 1) ss s ∙ ap (λ k. gates_from m (g + 1) ss ++ (gate_of m k s ∷ [])) (let e : g + 1 + length ss ≡ g + suc (length ss) = omega arith in e))

-- one gate more
pub gates_more : (m : ℕ) (drafted : List DraftGate) (at : ℕ) (d : DraftGate) (gates new : List Gate) (g : Gate) → at < length drafted → gates ≡ gates_from m 0 (take at drafted) → g ≡ gate_of m at (get_or drafted at d) → new ≡ gates ++ (g ∷ [])
    → new ≡ gates_from m 0 (take (at + 1) drafted)
gates_more m drafted at d gates new g l before is e =
    e ∙ ap₂ (λ gs x. gs ++ (x ∷ [])) before is
    ∙ ap (λ k. gates_from m 0 (take at drafted) ++ (gate_of m k (get_or drafted at d) ∷ [])) (let k : at ≡ 0 + length (take at drafted) = omega (arith, length-take-le at drafted (omega arith)) in k)
    ∙ sym (gates_push m 0 (take at drafted) (get_or drafted at d))
    ∙ ap (gates_from m 0) (sym (take_more drafted at d l))

-- one copy more
pub copies_more : (old drafted new : List DraftGate) (outputs : List Wire) (at : ℕ) (w : Wire) → at < length outputs → drafted ≡ old ++ map copy (take at outputs) → new ≡ drafted ++ (copy (get_or outputs at w) ∷ []) → new ≡ old ++ map copy (take (at + 1) outputs)
copies_more old drafted new outputs at w l before e =
    e ∙ ap (λ ss. ss ++ (copy (get_or outputs at w) ∷ [])) before
    ∙ append_assoc old (map copy (take at outputs)) (copy (get_or outputs at w) ∷ [])
    ∙ ap (λ t. old ++ t) (sym (ap (map copy) (take_more outputs at w l) ∙ map-append copy (take at outputs) (get_or outputs at w ∷ [])))
