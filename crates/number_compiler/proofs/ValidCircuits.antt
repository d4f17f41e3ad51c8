-- The circuit of a program within the limits is a valid one.
use Rattle.std.proofs.Common.{◌≡◌, ℕ, zero, suc, ◌+◌, ◌<◌, ◌≤◌, inl, inr, Bool, true, false, ◌||◌, ◌&&◌, nat_lt, List, [], ◌∷◌, length, map, take, sum, get_or, refl, sym, ◌∙◌, ap, subst, arith, length-append}
use Rattle.std.proofs.lemmas.List.{length-take-le, length-map}
use Rattle.std.specs.Prelude.{◌==◌}
use Rattle.std.specs.List.{list_all, list_any}
use Rattle.std.proofs.lemmas.Bool.{lt-ltb, le-ltb}
use Rattle.std.proofs.lemmas.Bool.Decides.{eqb_tells}
use Rattle.list_laws.proofs.Tests.{or_true}
use Rattle.circuit_model.specs.declared.gate.Operation.{Operation}
use Rattle.circuit_model.specs.declared.gate.Operation.TheVariants.{Add, Sub, Neg, Mul, Xor, And, Inv, Eq, Eqw}
use Rattle.circuit_model.specs.declared.gate.Gate.{Gate}
use Rattle.circuit_model.specs.Netlists.{Netlist, is_set, read_by, IsPlain, GateFits, IsCircuit, input_wires, output_wires}
use Rattle.circuit_model.proofs.SetWires.{lt_or_not}
use Rattle.circuit_model.proofs.Solutions.{values_solve}
use Rattle.number_gates.specs.declared.wire.Wire.{Wire}
use Rattle.number_gates.specs.declared.wire.Wire.TheVariants as wires
use Rattle.number_gates.specs.declared.wire.DraftGate.{DraftGate}
use Rattle.number_gates.specs.declared.wire.Bit.{Bit}
use Rattle.number_gates.specs.declared.wire.Bit.TheVariants.{Zero, One, On}
use Rattle.number_gates.specs.Steps.{Ran, no_gates}
use Rattle.number_laws.specs.Making.{no_gate}
use Rattle.number_laws.specs.Reading.{AreOpen, ReadsAs, GateReads, IsBelow, FitFrom}
use Rattle.number_laws.proofs.RunReads.{below_more, fit_append, run_fits}
use Rattle.number_laws.proofs.RunMakes.{run_whole}
use Rattle.number_circuit.specs.Programs.{Statement, input_widths}
use Rattle.number_compiler.specs.Terms.{Value}
use Rattle.number_compiler.specs.Circuits.{Draft, no_lines, program_steps, draft_of, all_bits, copy, all_gates, number_of, gate_of, gates_from, netlist, circuit}
use Rattle.number_compiler.specs.Laws.{IsCompiledRight}
use Rattle.number_compiler.proofs.GateLists.{long_gates, take_gates, gate_at}
use Rattle.number_compiler.proofs.ProgramReads.{OpenDraft, program_reads}
use Rattle.number_compiler.proofs.OutputValues.{IsSmall, small_draft, sum_widths, draft_inputs, output_widths, output_values}

-- ---- which wires are set

set_yes : (m g : ℕ) (ss : List DraftGate) (w : ℕ) → m + g ≤ w → w < m + g + length ss → list_any (λ (h : Gate). h.output == w) (gates_from m g ss) ≡ true
set_yes m g [] w l h = absurd (omega arith)
set_yes m g (s ∷ ss) w l h = elim (eqb_tells (m + g) w) [
  | inl same ↦ ap (λ b. b || list_any (λ (h : Gate). h.output == w) (gates_from m (g + 1) ss)) same.0
  | inr other ↦ ap (λ b. b || list_any (λ (h : Gate). h.output == w) (gates_from m (g + 1) ss)) other.0 ∙ set_yes m (g + 1) ss w (omega (arith, other.1)) (omega arith)
]

set_no : (m g : ℕ) (ss : List DraftGate) (w : ℕ) → m + g + length ss ≤ w → list_any (λ (h : Gate). h.output == w) (gates_from m g ss) ≡ false
set_no m g [] w l = refl
set_no m g (s ∷ ss) w l = elim (eqb_tells (m + g) w) [
  | inl same ↦ absurd (omega (arith, same.1))
  | inr other ↦ ap (λ b. b || list_any (λ (h : Gate). h.output == w) (gates_from m (g + 1) ss)) other.0 ∙ set_no m (g + 1) ss w (omega arith)
]

-- exactly the first wires are set
is_set_below : (m : ℕ) (ss : List DraftGate) (w : ℕ) → w < m + length ss → is_set m (gates_from m 0 ss) w ≡ true
is_set_below m ss w l = elim (lt_or_not w m) [
  | inl less ↦ ap (λ b. b || list_any (λ (h : Gate). h.output == w) (gates_from m 0 ss)) (lt-ltb w m less)
  | inr more ↦ ap (λ b. nat_lt w m || b) (set_yes m 0 ss w (omega arith) (omega arith)) ∙ or_true (nat_lt w m)
]

is_set_not : (m : ℕ) (ss : List DraftGate) (w : ℕ) → m + length ss ≤ w → is_set m (gates_from m 0 ss) w ≡ false
is_set_not m ss w l = ap (λ b. b || list_any (λ (h : Gate). h.output == w) (gates_from m 0 ss)) (le-ltb w m (omega arith)) ∙ set_no m 0 ss w (omega arith)

-- ---- a gate

number_below : (m g : ℕ) (w : Wire) → IsBelow m g w → number_of m w < m + g
number_below m g (wires.Input i) h = omega arith
number_below m g (wires.Gate k) h = omega arith

both_pass : (test : ℕ → Bool) (bound : ℕ) → ((w : ℕ) → w < bound → test w ≡ true) → (a b : ℕ) → a < bound → b < bound → list_all test (a ∷ b ∷ []) ≡ true
both_pass test bound h a b la lb = ap (λ x. x && (test b && true)) (h a la) ∙ ap (λ x. x && true) (h b lb)

one_passes : (test : ℕ → Bool) (bound : ℕ) → ((w : ℕ) → w < bound → test w ≡ true) → (a : ℕ) → a < bound → list_all test (a ∷ []) ≡ true
one_passes test bound h a la = ap (λ x. x && true) (h a la)

-- a test that all wires pass which are before the gate
read_pass : (m g : ℕ) (o : Operation) (a b : Wire) (c : ℕ) → ReadsAs (IsBelow m g) o a b c → (test : ℕ → Bool) → ((w : ℕ) → w < m + g → test w ≡ true)
    → list_all test (read_by (gate_of m g (record { operation = o; first = a; second = b; constant = c }))) ≡ true
read_pass m g Xor a b c f test h = both_pass test (m + g) h (number_of m a) (number_of m b) (number_below m g a f.0) (number_below m g b f.1)
read_pass m g And a b c f test h = both_pass test (m + g) h (number_of m a) (number_of m b) (number_below m g a f.0) (number_below m g b f.1)
read_pass m g Inv a b c f test h = one_passes test (m + g) h (number_of m a) (number_below m g a f.0)
read_pass m g Eqw a b c f test h = one_passes test (m + g) h (number_of m a) (number_below m g a f.0)
read_pass m g Eq a b c f test h = refl
read_pass m g Add a b c f test h = absurd f
read_pass m g Sub a b c f test h = absurd f
read_pass m g Mul a b c f test h = absurd f
read_pass m g Neg a b c f test h = absurd f

plain_fits : (m g : ℕ) (o : Operation) (a b : Wire) (c : ℕ) → ReadsAs (IsBelow m g) o a b c → IsPlain (gate_of m g (record { operation = o; first = a; second = b; constant = c }))
plain_fits m g Xor a b c f = record { first = λ e. cc; second = λ e. absurd (omega (arith, e)); constant = λ e. f.2 }
plain_fits m g And a b c f = record { first = λ e. cc; second = λ e. absurd (omega (arith, e)); constant = λ e. f.2 }
plain_fits m g Inv a b c f = record { first = λ e. cc; second = λ e. ap (number_of m) f.1; constant = λ e. f.2 }
plain_fits m g Eqw a b c f = record { first = λ e. cc; second = λ e. ap (number_of m) f.1; constant = λ e. f.2 }
plain_fits m g Eq a b c f = record { first = λ e. ap (number_of m) f.0; second = λ e. ap (number_of m) f.1; constant = λ e. cc }
plain_fits m g Add a b c f = absurd f
plain_fits m g Sub a b c f = absurd f
plain_fits m g Mul a b c f = absurd f
plain_fits m g Neg a b c f = absurd f

constant_fits : (m g : ℕ) (o : Operation) (a b : Wire) (c : ℕ) → ReadsAs (IsBelow m g) o a b c → c < 2
constant_fits m g Xor a b c f = omega (arith, f.2)
constant_fits m g And a b c f = omega (arith, f.2)
constant_fits m g Inv a b c f = omega (arith, f.2)
constant_fits m g Eqw a b c f = omega (arith, f.2)
constant_fits m g Eq a b c f = f.2
constant_fits m g Add a b c f = absurd f
constant_fits m g Sub a b c f = absurd f
constant_fits m g Mul a b c f = absurd f
constant_fits m g Neg a b c f = absurd f

-- ---- the gates of a program

copies_fit : (m g : ℕ) (bs : List Bit) (k : ℕ) → g ≤ k → AreOpen (IsBelow m g) bs → FitFrom m k (map copy bs)
copies_fit m g [] k l h = tt
copies_fit m g (Zero ∷ bs) k l h = ((refl, refl, omega arith), copies_fit m g bs (k + 1) (omega arith) h.1)
copies_fit m g (One ∷ bs) k l h = ((refl, refl, omega arith), copies_fit m g bs (k + 1) (omega arith) h.1)
copies_fit m g (On w ∷ bs) k l h = ((below_more m g k w l h.0, refl, refl), copies_fit m g bs (k + 1) (omega arith) h.1)

program_fits : (p : List Statement) → IsSmall (draft_of p) → FitFrom (draft_of p).result.wires 0 (all_gates (draft_of p))
unfolding draft_of
program_fits p small =
    let r : Ran Draft = draft_of p in
    let m : ℕ = r.result.wires in
    let few : r.kept.gates ≤ 65536 = omega (arith, small.gates) in
    let enough : 0 + sum (input_widths p) ≤ m = omega (arith, (draft_inputs p).wires) in
    let whole : length r.kept.drafted ≡ r.kept.gates = run_whole (program_steps no_lines p) no_gates refl few in
    let fit = run_fits m (program_steps no_lines p) no_gates (λ j d. OpenDraft (IsBelow m j) d) refl few
    (λ j l. (program_reads (IsBelow m j) m (λ i h. h) p no_lines enough (record { names = λ x. (tt, tt); outputs = tt })).asks) tt in
    fit_append m 0 r.kept.drafted (map copy (all_bits r.result.outputs)) fit.0
    (copies_fit m r.kept.gates (all_bits r.result.outputs) (0 + length r.kept.drafted) (omega (arith, whole)) fit.1.outputs)

draft_gate_fits : (m g t : ℕ) (ss : List DraftGate) → t < length ss → FitFrom m g ss → GateReads (IsBelow m (g + t)) (get_or ss t no_gate)
draft_gate_fits m g t [] l h = absurd (omega arith)
draft_gate_fits m g zero (s ∷ ss) l h = subst (λ k. GateReads (IsBelow m k) s) (let e : g ≡ g + 0 = omega arith in e) h.0
draft_gate_fits m g (suc t) (s ∷ ss) l h = subst (λ k. GateReads (IsBelow m k) (get_or ss t no_gate)) (let e : g + 1 + t ≡ g + suc t = omega arith in e) (draft_gate_fits m (g + 1) t ss (omega arith) h.1)

pub circuit_is : (p : List Statement) → IsSmall (draft_of p) → IsCircuit (circuit p)
unfolding netlist draft_of
circuit_is p small =
    let r : Ran Draft = draft_of p in
    let m : ℕ = r.result.wires in
    let ss : List DraftGate = all_gates r in
    let c : Netlist = netlist r in
    let vs : List Value = r.result.outputs in
    let all : FitFrom m 0 ss = program_fits p small in
    let few : r.kept.gates ≤ 65536 = omega (arith, small.gates) in
    let whole : length r.kept.drafted ≡ r.kept.gates = run_whole (program_steps no_lines p) no_gates refl few in
    let many : length ss ≡ length r.kept.drafted + length (all_bits vs) = length-append r.kept.drafted (map copy (all_bits vs)) ∙ ap (λ k. length r.kept.drafted + k) (length-map (all_bits vs) copy) in
    let long : length c.gates ≡ length ss = long_gates m 0 ss in
    let ins : input_wires c ≡ m = ap sum (draft_inputs p).inputs ∙ (let e : sum (input_widths p) ≡ m = omega (arith, (draft_inputs p).wires) in e) in
    let outs : output_wires c ≡ length (all_bits vs) = sum_widths vs in
    let widths : length c.outputs ≡ length vs = length-map vs (λ (v : Value). length v.bits) in
    record {
      within = record {
        some_bits = omega arith;
        bits = omega arith;
        gates = omega (arith, long, many, whole, small.gates);
        wires = omega (arith, many, whole, small.wires);
        inputs = small.inputs;
        outputs = omega (arith, widths, small.outputs);
        input_wires = omega (arith, ins);
        output_wires = omega (arith, outs, many);
      };
      fits = λ t l.
          let here : t < length ss = omega (arith, long, l) in
          let s : DraftGate = get_or ss t no_gate in
          let fit : GateReads (IsBelow m (0 + t)) s = draft_gate_fits m 0 t ss here all in
          let before : take t c.gates ≡ gates_from m 0 (take t ss) = take_gates m 0 t ss in
          let taken : length (take t ss) ≡ t = length-take-le t ss (omega arith) in
          subst (λ (g : Gate). GateFits c (take t c.gates) g) (sym (gate_at m 0 t ss here))
          (record {
            plain = plain_fits m (0 + t) s.operation s.first s.second s.constant fit;
            constant = constant_fits m (0 + t) s.operation s.first s.second s.constant fit;
            below = read_pass m (0 + t) s.operation s.first s.second s.constant fit (λ w. nat_lt w c.wires) (λ w low. lt-ltb w c.wires (omega arith));
            output = omega arith;
            read = read_pass m (0 + t) s.operation s.first s.second s.constant fit (is_set (input_wires c) (take t c.gates))
                (λ w low. ap (λ k. is_set k (take t c.gates) w) ins ∙ ap (λ gs. is_set m gs w) before ∙ is_set_below m (take t ss) w (omega (arith, taken)));
            fresh = ap (λ k. is_set k (take t c.gates) (m + (0 + t))) ins ∙ ap (λ gs. is_set m gs (m + (0 + t))) before ∙ is_set_not m (take t ss) (m + (0 + t)) (omega (arith, taken));
          });
      outputs = λ w low high. ap (λ k. is_set k c.gates w) ins ∙ is_set_below m ss w (omega (arith, high));
    }

-- ---- the law

inputs_are : (p : List Statement) → (circuit p).inputs ≡ input_widths p
unfolding netlist
inputs_are p = (draft_inputs p).inputs

pub compiled_right : (p : List Statement) → IsCompiledRight p
compiled_right p e =
    let small : IsSmall (draft_of p) = small_draft (draft_of p) e in
    let valid : IsCircuit (circuit p) = circuit_is p small in
    record {
      valid = valid;
      inputs = inputs_are p;
      outputs = output_widths p (λ w. 0) (λ w. omega arith) (values_solve (circuit p) (λ w. 0) valid) small;
      values = λ given low. output_values p given low (values_solve (circuit p) given valid) small;
    }
