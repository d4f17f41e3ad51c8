-- The output values of a compiled circuit are the values of the output lines.
use Rattle.std.proofs.Common.{◌≡◌, ℕ, ◌+◌, ◌-◌, ◌<◌, ◌≤◌, Bool, true, false, ◌||◌, nat_lt, List, [], ◌∷◌, length, map, get_or, sum, refl, sym, ◌∙◌, ap, ap₂, subst, arith, length-append}
use Rattle.std.proofs.lemmas.Bool.{ltb-false}
use Rattle.std.proofs.lemmas.List.{length-map}
use Rattle.std.proofs.lemmas.List.Sums.{sum_by-cons}
use Rattle.circuit_model.specs.declared.gate.Gate.{Gate}
use Rattle.circuit_model.specs.Circuits.{operate}
use Rattle.circuit_model.specs.Netlists.{Netlist, plain, gate, before_gates, input_wires, output_wires}
use Rattle.circuit_model.specs.Equations.{Solves}
use Rattle.number_gates.specs.declared.wire.Wire.{Wire}
use Rattle.number_gates.specs.Steps.{Ran, no_gates}
use Rattle.number_laws.specs.Making.{no_gate, AreSet}
use Rattle.number_laws.specs.Values.{IsMade}
use Rattle.number_laws.proofs.RunMakes.{set_front, run_value}
use Rattle.number_circuit.specs.Programs.{Statement, program_value, program_bounds, input_widths}
use Rattle.number_circuit.specs.Laws.{numbers_from}
use Rattle.number_compiler.specs.Widths.{digits, bits_of}
use Rattle.number_compiler.specs.Terms.{Value}
use Rattle.number_compiler.specs.Circuits.{no_value, Draft, no_lines, program_steps, draft_of, all_bits, copy, all_gates, gate_of, netlist, widths_of, gate_count, is_large, circuit}
use Rattle.number_compiler.proofs.TermValues.{IsValue}
use Rattle.number_compiler.proofs.ProgramValues.{HasOutputs, HasInputs, program_makes, inputs_after}
use Rattle.number_compiler.proofs.GateLists.{long_gates, gate_at}
use Rattle.number_compiler.proofs.CircuitValues.{on_wires, either_small, values_small, all_on, outputs_are, are_given}

-- within the limits
pub record IsSmall (r : Ran Draft) : Type 0 where
  pub gates : gate_count r ≤ 65536
  pub wires : r.result.wires + gate_count r ≤ 131072
  pub inputs : length r.result.inputs ≤ 1024
  pub outputs : length r.result.outputs ≤ 1024

none_of : (a b x y : Bool) → ((a || b) || (x || y)) ≡ false → (a ≡ false) × (b ≡ false) × (x ≡ false) × (y ≡ false)
none_of false false false false e = (refl, refl, refl, refl)
none_of true b x y e = cc
none_of false true x y e = cc
none_of false false true y e = cc
none_of false false false true e = cc

pub small_draft : (r : Ran Draft) → is_large r ≡ false → IsSmall r
unfolding is_large
small_draft r e =
    let no = none_of (nat_lt 65536 (gate_count r)) (nat_lt 131072 (r.result.wires + gate_count r)) (nat_lt 1024 (length r.result.inputs)) (nat_lt 1024 (length r.result.outputs)) e in
    record {
      gates = ltb-false 65536 (gate_count r) no.0;
      wires = ltb-false 131072 (r.result.wires + gate_count r) no.1;
      inputs = ltb-false 1024 (length r.result.inputs) no.2;
      outputs = ltb-false 1024 (length r.result.outputs) no.3;
    }

no_value_is : (on : Wire → Bool) → IsValue on 0 0 no_value
unfolding digits
no_value_is on = record { most = refl; long = refl; number = refl }

pub sum_widths : (vs : List Value) → sum (widths_of vs) ≡ length (all_bits vs)
sum_widths [] = refl
sum_widths (v ∷ vs) = sum_by-cons (λ (n : ℕ). n) (length v.bits) (widths_of vs) ∙ ap (λ k. length v.bits + k) (sum_widths vs) ∙ sym (length-append v.bits (all_bits vs))

-- the inputs of a draft are those of its program
pub draft_inputs : (p : List Statement) → HasInputs (input_widths p) [] 0 (draft_of p).result
unfolding draft_of
draft_inputs p = inputs_after p no_lines no_gates

module _ (p : List Statement) (given : ℕ → ℕ) (low : (w : ℕ) → given w < 2) (solves : Solves (circuit p) given (plain (circuit p) given)) where
  abbrev r : Ran Draft
  r = draft_of p

  abbrev P : ℕ → ℕ
  P = plain (circuit p) given

  abbrev on : Wire → Bool
  on = on_wires r.result.wires P

  abbrev inputs : ℕ → ℕ
  inputs i = get_or (numbers_from given 0 (circuit p).inputs) i 0

  words_small : (w : ℕ) → P w < 2
  unfolding netlist
  words_small w =
      let c : Netlist = circuit p in
      values_small (gate c) (before_gates c given) (λ v. either_small (nat_lt v (input_wires c)) (given v) 0 (low v) (omega arith)) (length c.gates) w

  gates_on : AreSet (IsMade on) (all_gates r)
  unfolding netlist
  gates_on =
      all_on r.result.wires P words_small (all_gates r)
      (λ t l. subst (λ (g : Gate). P g.output ≡ operate 2 g.operation g.constant (P g.first) (P g.second))
      (gate_at r.result.wires 0 t (all_gates r) l ∙ ap (λ k. gate_of r.result.wires k (get_or (all_gates r) t no_gate)) (let e : 0 + t ≡ t = omega arith in e))
      (solves.gates t (let k : t < length (circuit p).gates = omega (arith, long_gates r.result.wires 0 (all_gates r), l) in k)))

  -- the inputs of the circuit
  inputs_same : (circuit p).inputs ≡ input_widths p
  unfolding netlist
  inputs_same = (draft_inputs p).inputs

  stay : (w : ℕ) → w < r.result.wires → P w ≡ given w
  unfolding netlist
  stay w l = solves.given w (let k : w < input_wires (circuit p) = omega (arith, l, (draft_inputs p).wires, ap sum (draft_inputs p).inputs) in k)

  pub draft_outputs : IsSmall r → HasOutputs on (program_value p inputs) (program_bounds p) [] r.result
  unfolding draft_of
  draft_outputs small =
      let Q : Draft → Type 0 = HasOutputs on (program_value p inputs) (program_bounds p) [] in
      let few : r.kept.gates ≤ 65536 = omega (arith, small.gates) in
      let enough : 0 + sum (input_widths p) ≤ r.result.wires = omega (arith, (draft_inputs p).wires) in
      run_value (IsMade on) (program_steps no_lines p) Q no_gates refl few (set_front (IsMade on) r.kept.drafted (map copy (all_bits r.result.outputs)) (all_gates r) refl gates_on)
      (program_makes on inputs p 0 no_lines (λ x. 0) (λ x. 0) (λ x. omega arith) (λ x. no_value_is on)
      (are_given r.result.wires P words_small given stay (input_widths p) inputs 0 0 enough
      (λ j. ap₂ (λ k ws. get_or (numbers_from given 0 ws) k 0) (let e : 0 + j ≡ j = omega arith in e) inputs_same))).comes

  pub output_widths : IsSmall r → (circuit p).outputs ≡ map bits_of (program_bounds p)
  unfolding netlist
  output_widths small = (draft_outputs small).widths

  pub output_values : IsSmall r → numbers_from P ((circuit p).wires - output_wires (circuit p)) (circuit p).outputs ≡ program_value p inputs
  unfolding netlist
  output_values small =
      let vs : List Value = r.result.outputs in
      let many : length (all_gates r) ≡ length r.kept.drafted + length (all_bits vs) = length-append r.kept.drafted (map copy (all_bits vs)) ∙ ap (λ k. length r.kept.drafted + k) (length-map (all_bits vs) copy) in
      let first : (circuit p).wires - output_wires (circuit p) ≡ r.result.wires + length r.kept.drafted = omega (arith, sum_widths vs, many) in
      ap (λ k. numbers_from P k (widths_of vs)) first ∙ outputs_are r.result.wires P words_small r.kept.drafted vs gates_on ∙ (draft_outputs small).numbers
