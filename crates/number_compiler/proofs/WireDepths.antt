-- The depths of wires, as layers go by them, are depths as the laws of gates of numbers speak of them.
use Rattle.std.proofs.Common.{◌≡◌, ℕ, ◌+◌, ◌<◌, ◌≤◌, false, List, length, get_or, ◌∙◌, ap, subst, arith}
use Rattle.circuit_model.specs.declared.gate.Operation.{Operation}
use Rattle.circuit_model.specs.declared.gate.Operation.TheVariants.{Add, Sub, Neg, Mul, Xor, And, Inv, Eq, Eqw}
use Rattle.circuit_model.specs.declared.gate.Gate.{Gate}
use Rattle.circuit_model.specs.Netlists.{read_by, IsCircuit}
use Rattle.layer_order.specs.Depths.{AreDepths, depth_made, most, wire_depth}
use Rattle.layer_order.proofs.WireDepths.{depths_solve}
use Rattle.number_gates.specs.declared.wire.Wire.{Wire}
use Rattle.number_gates.specs.declared.wire.DraftGate.{DraftGate}
use Rattle.number_gates.specs.Steps.{Ran}
use Rattle.number_laws.specs.Making.{no_gate}
use Rattle.number_laws.specs.Depths.{deepest}
use Rattle.number_circuit.specs.Programs.{Statement}
use Rattle.number_compiler.specs.Circuits.{Draft, draft_of, all_gates, number_of, gate_of, netlist, circuit, has_large_circuit}
use Rattle.number_compiler.specs.Depths.{HasDepths}
use Rattle.number_compiler.proofs.GateLists.{long_gates, gate_at}
use Rattle.number_compiler.proofs.OutputValues.{small_draft}
use Rattle.number_compiler.proofs.ValidCircuits.{circuit_is}

-- the wires that a gate reads are no deeper than the deepest that its operation takes
read_most : (D : ℕ → ℕ) (m t : ℕ) (o : Operation) (a b : Wire) (c : ℕ) → most D (read_by (gate_of m t (record { operation = o; first = a; second = b; constant = c }))) ≤ deepest (λ w. D (number_of m w)) o a b
read_most D m t Add a b c = omega arith
read_most D m t Sub a b c = omega arith
read_most D m t Mul a b c = omega arith
read_most D m t Xor a b c = omega arith
read_most D m t And a b c = omega arith
read_most D m t Neg a b c = omega arith
read_most D m t Inv a b c = omega arith
read_most D m t Eqw a b c = omega arith
read_most D m t Eq a b c = omega arith

module _ (p : List Statement) (valid : IsCircuit (circuit p)) where
  abbrev r : Ran Draft
  r = draft_of p

  abbrev D : ℕ → ℕ
  D = wire_depth (circuit p).gates

  solved : AreDepths (circuit p) D
  solved = depths_solve (circuit p) valid

  made : (t : ℕ) → t < length (all_gates r) → D (r.result.wires + t) ≡ depth_made (gate_of r.result.wires t (get_or (all_gates r) t no_gate)) D
  unfolding netlist
  made t l =
      subst (λ (g : Gate). D g.output ≡ depth_made g D)
      (gate_at r.result.wires 0 t (all_gates r) l ∙ ap (λ k. gate_of r.result.wires k (get_or (all_gates r) t no_gate)) (let e : 0 + t ≡ t = omega arith in e))
      (solved.gates t (let k : t < length (circuit p).gates = omega (arith, long_gates r.result.wires 0 (all_gates r), l) in k))

  pub depths_are : HasDepths p
  depths_are = record {
    inputs = λ i l. solved.given i l;
    gates = record {
      of_gate = λ t l.
          let s : DraftGate = get_or (all_gates r) t no_gate in
          omega (arith, made t l, read_most D r.result.wires t s.operation s.first s.second s.constant);
    };
  }

pub have_depths : (p : List Statement) → has_large_circuit p ≡ false → HasDepths p
have_depths p e = depths_are p (circuit_is p (small_draft (draft_of p) e))
