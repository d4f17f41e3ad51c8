-- What a builder keeps, and what it answers.
use Rattle.std.proofs.Common.{◌≡◌, ℕ, ◌-◌, ◌≤◌, ◌<◌, Bool, true, false, not, List, [], ◌∷◌, ◌++◌, length, set, Some, None, Result, Ok, Err, sym, ◌∙◌, ap, ap₂, subst, arith}
use Rattle.std.specs.Prelude.{slice_index_or, if◌then◌else◌}
use Rattle.std.specs.Option.{is_some, option_map}
use Rattle.std.specs.List.{find, range_with_len}
use Rattle.std.proofs.lemmas.List.{length_push}
use Rattle.std.proofs.lemmas.Bool.{not-false}
use Rattle.circuit_model.specs.declared.gate.Gate.{Gate}
use Rattle.circuit_model.specs.declared.gate.Operation.{Operation}
use Rattle.circuit_model.specs.declared.fault.CircuitFault.{CircuitFault}
use Rattle.circuit_model.specs.declared.fault.CircuitFault.TheVariants.{OutputNotSet}
use Rattle.circuit_model.specs.Checks.{Gives}
use Rattle.circuit_model.specs.Netlists.{Netlist, IsCircuit, GateFits, sets, input_wires, output_wires}
use Rattle.list_laws.specs.Checks.{first_fault, or_fault, then_fault}
use Rattle.circuit_model.specs.DraftSteps.{Draft, header_checks, gate_checks, gate_of, next_gate, take_gate, after_gate, no_gates_yet, start_of, unset_output, circuit_of}
use Rattle.circuit_model.specs.Drafts.{IsDraft}
use Rattle.list_laws.proofs.FirstFaults.{or_fault-ok}
use Rattle.circuit_model.proofs.PassedChecks.{IsSmall, header_small, fault_moves}
use Rattle.circuit_model.proofs.SetWires.{funext, told_next, all_fit_next, none_found}

abbrev pub Told : Netlist → List Bool → Type 0
Told c xs = (w : ℕ) → slice_index_or xs w false ≡ sets c w

told_same : (c : Netlist) (xs ys : List Bool) → ys ≡ xs → Told c xs → (λ w. slice_index_or ys w false) ≡ sets c
told_same c xs ys e t = funext (λ w. slice_index_or ys w false) (sets c) (λ w. ap (λ zs. slice_index_or zs w false) e ∙ t w)

-- ---- the start

abbrev pub Passes : ℕ → ℕ → List ℕ → List ℕ → List ℕ → Type 0
Passes gates wires inputs outputs lines = ◌≡◌ {A = Result (Unit {0}) CircuitFault} (Ok tt) (or_fault (first_fault (header_checks gates wires inputs outputs lines)) tt)

pub passes_seen : (gates wires : ℕ) (ins inputs outs outputs lines : List ℕ) → ins ≡ inputs → outs ≡ outputs → Passes gates wires ins outs lines → Passes gates wires inputs outputs lines
passes_seen gates wires ins inputs outs outputs lines i o p =
    subst (λ (xs : List ℕ). Passes gates wires xs outputs lines) i (subst (λ (ys : List ℕ). Passes gates wires ins ys lines) o p)

pub started : (bits gates wires n : ℕ) (inputs outputs lines : List ℕ) (list : List Gate) → Passes gates wires inputs outputs lines → n ≡ wires → list ≡ []
    → Ok (record (no_gates_yet bits gates wires inputs outputs) { circuit = record { bits = bits; gates = list; wires = n; inputs = inputs; outputs = outputs } }) ≡ start_of bits gates wires inputs outputs lines
unfolding start_of
started bits gates wires n inputs outputs lines list e same none =
    ap₂ (λ k gs. Ok (record (no_gates_yet bits gates wires inputs outputs) { circuit = record { bits = bits; gates = gs; wires = k; inputs = inputs; outputs = outputs } })) same none
    ∙ ap (λ o. or_fault o (no_gates_yet bits gates wires inputs outputs)) (sym (or_fault-ok {A = Unit {0}} (first_fault (header_checks gates wires inputs outputs lines)) tt tt e).0)

pub small : (gates wires : ℕ) (inputs outputs lines : List ℕ) → Passes gates wires inputs outputs lines → IsSmall gates wires inputs outputs
small gates wires inputs outputs lines e = header_small gates wires inputs outputs lines (or_fault-ok {A = Unit {0}} (first_fault (header_checks gates wires inputs outputs lines)) tt tt e).0

pub start_sound : (bits gates wires n : ℕ) (inputs outputs : List ℕ) (list : List Gate) (xs : List Bool) → 0 < bits → bits ≤ 64 → IsSmall gates wires inputs outputs → n ≡ wires → list ≡ []
    → Told (record { bits = bits; gates = []; wires = wires; inputs = inputs; outputs = outputs }) xs
    → IsDraft (record (no_gates_yet bits gates wires inputs outputs) { circuit = record { bits = bits; gates = list; wires = n; inputs = inputs; outputs = outputs } }) xs
start_sound bits gates wires n inputs outputs list xs some few s same none t =
    let P : ℕ → List Gate → Type 0 = λ k gs. IsDraft (record (no_gates_yet bits gates wires inputs outputs) { circuit = record { bits = bits; gates = gs; wires = k; inputs = inputs; outputs = outputs } }) xs in
    let base : P wires [] = record {
      within = record {
        some_bits = some;
        bits = few;
        gates = omega arith;
        wires = s.wires;
        inputs = s.inputs;
        outputs = s.outputs;
        input_wires = s.input_wires;
        output_wires = s.output_wires;
      };
      announced = s.gates;
      few = omega arith;
      fits = λ t l. absurd (omega (arith, l));
      told = t;
    } in
    subst (λ (k : ℕ). P k list) (sym same) (subst (λ (gs : List Gate). P wires gs) (sym none) base)

pub not_started : (bits gates wires : ℕ) (ins inputs outs outputs lines : List ℕ) (f g : CircuitFault) (r : Result Draft CircuitFault) → ins ≡ inputs → outs ≡ outputs
    → ◌≡◌ {A = Result (Unit {0}) CircuitFault} (Err f) (or_fault (first_fault (header_checks gates wires ins outs lines)) tt) → r ≡ Err g → g ≡ f
    → Gives r (start_of bits gates wires inputs outputs lines)
unfolding start_of
not_started bits gates wires ins inputs outs outputs lines f g r i o e was same =
    let seen : ◌≡◌ {A = Result (Unit {0}) CircuitFault} (Err f) (or_fault (first_fault (header_checks gates wires inputs outputs lines)) tt) =
    subst (λ (xs : List ℕ). ◌≡◌ {A = Result (Unit {0}) CircuitFault} (Err f) (or_fault (first_fault (header_checks gates wires xs outputs lines)) tt)) i
    (subst (λ (ys : List ℕ). ◌≡◌ {A = Result (Unit {0}) CircuitFault} (Err f) (or_fault (first_fault (header_checks gates wires ins ys lines)) tt)) o e) in
    subst (λ (q : Result Draft CircuitFault). Gives q (or_fault (first_fault (header_checks gates wires inputs outputs lines)) (no_gates_yet bits gates wires inputs outputs))) (sym (was ∙ ap Err same))
    (fault_moves (first_fault (header_checks gates wires inputs outputs lines)) tt (no_gates_yet bits gates wires inputs outputs) f seen)

-- ---- a gate

pub next_seen : (d : Draft) (xs ys : List Bool) (line : ℕ) (o : Operation) (is os : List ℕ) → ys ≡ xs → length xs ≡ d.circuit.wires → IsDraft d xs
    → or_fault (first_fault (gate_checks d.circuit.bits (length ys) (λ w. slice_index_or ys w false) line o is os)) (gate_of o is os) ≡ next_gate d.circuit line o is os
unfolding next_gate
next_seen d xs ys line o is os e long s =
    ap₂ (λ n before. or_fault (first_fault (gate_checks d.circuit.bits n before line o is os)) (gate_of o is os)) (ap length e ∙ long) (told_same d.circuit xs ys e s.told)

pub more_sound : (d : Draft) (xs : List Bool) (g : Gate) (gates : List Gate) (wires : ℕ) → IsDraft d xs → GateFits d.circuit d.circuit.gates g → length d.circuit.gates < d.announced → length xs ≡ d.circuit.wires
    → gates ≡ d.circuit.gates ++ (g ∷ []) → wires ≡ d.circuit.wires
    → IsDraft (record d { circuit = record d.circuit { gates = gates; wires = wires } }) (set xs g.output true)
more_sound d xs g gates wires s f room long e same =
    let P : ℕ → List Gate → Type 0 = λ n gs. IsDraft (record d { circuit = record d.circuit { gates = gs; wires = n } }) (set xs g.output true) in
    let base : P d.circuit.wires (d.circuit.gates ++ (g ∷ [])) = record {
      within = record {
        some_bits = s.within.some_bits;
        bits = s.within.bits;
        gates = omega (arith, length_push d.circuit.gates g, room, s.announced);
        wires = s.within.wires;
        inputs = s.within.inputs;
        outputs = s.within.outputs;
        input_wires = s.within.input_wires;
        output_wires = s.within.output_wires;
      };
      announced = s.announced;
      few = omega (arith, length_push d.circuit.gates g, room);
      fits = all_fit_next d.circuit g s.fits f;
      told = told_next (input_wires d.circuit) d.circuit.gates g xs (omega (arith, f.output, long)) s.told;
    } in
    subst (λ (n : ℕ). P n gates) (sym same) (subst (λ (gs : List Gate). P d.circuit.wires gs) (sym e) base)

pub after_fault : (d : Draft) (line : ℕ) (o : Operation) (is os : List ℕ) (f : CircuitFault) → d.refused ≡ None → Err f ≡ next_gate d.circuit line o is os
    → record d { refused = Some f } ≡ after_gate d line o is os
after_fault d line o is os f none e =
    ap (take_gate d) e ∙ sym (ap (λ r. if is_some r then d else take_gate d (next_gate d.circuit line o is os)) none)

pub after_more : (d : Draft) (line : ℕ) (o : Operation) (is os : List ℕ) (g : Gate) (gates : List Gate) (wires : ℕ) → d.refused ≡ None → Ok g ≡ next_gate d.circuit line o is os
    → gates ≡ d.circuit.gates ++ (g ∷ []) → wires ≡ d.circuit.wires
    → record d { circuit = record d.circuit { gates = gates; wires = wires } } ≡ after_gate d line o is os
after_more d line o is os g gates wires none e more same =
    ap₂ (λ gs n. record d { circuit = record d.circuit { gates = gs; wires = n } }) more same
    ∙ ap (take_gate d) e ∙ sym (ap (λ r. if is_some r then d else take_gate d (next_gate d.circuit line o is os)) none)

-- ---- the end

unset_seen : (d : Draft) (xs ys : List Bool) (n : ℕ) → ys ≡ xs → length xs ≡ d.circuit.wires → n ≡ output_wires d.circuit → IsDraft d xs
    → find (λ w. not (slice_index_or ys w false)) (range_with_len (length ys - n) n) ≡ unset_output d.circuit
unset_seen d xs ys n e long many s =
    ap₂ (λ before k. find (λ w. not (before w)) (range_with_len (length ys - k) k)) (told_same d.circuit xs ys e s.told) many
    ∙ ap (λ k. find (λ w. not (sets d.circuit w)) (range_with_len (k - output_wires d.circuit) (output_wires d.circuit))) (ap length e ∙ long)

pub end_refused : (d : Draft) (f : CircuitFault) → d.refused ≡ Some f → Err f ≡ circuit_of d
unfolding circuit_of
end_refused d f e = sym (ap (λ r. then_fault r (or_fault (option_map OutputNotSet (unset_output d.circuit)) d.circuit)) e)

pub end_unset : (d : Draft) (xs ys : List Bool) (n w : ℕ) → d.refused ≡ None → ys ≡ xs → length xs ≡ d.circuit.wires → n ≡ output_wires d.circuit → IsDraft d xs
    → Some w ≡ find (λ v. not (slice_index_or ys v false)) (range_with_len (length ys - n) n) → Err (OutputNotSet w) ≡ circuit_of d
unfolding circuit_of
end_unset d xs ys n w none e long many s found =
    sym (ap (λ r. then_fault r (or_fault (option_map OutputNotSet (unset_output d.circuit)) d.circuit)) none
    ∙ ap (λ o. or_fault (option_map OutputNotSet o) d.circuit) (sym (found ∙ unset_seen d xs ys n e long many s)))

pub end_done : (d : Draft) (xs ys : List Bool) (n : ℕ) → d.refused ≡ None → ys ≡ xs → length xs ≡ d.circuit.wires → n ≡ output_wires d.circuit → IsDraft d xs
    → None ≡ find (λ v. not (slice_index_or ys v false)) (range_with_len (length ys - n) n) → Ok d.circuit ≡ circuit_of d
unfolding circuit_of
end_done d xs ys n none e long many s found =
    sym (ap (λ r. then_fault r (or_fault (option_map OutputNotSet (unset_output d.circuit)) d.circuit)) none
    ∙ ap (λ o. or_fault (option_map OutputNotSet o) d.circuit) (sym (found ∙ unset_seen d xs ys n e long many s)))

pub end_valid : (d : Draft) (xs ys : List Bool) (n : ℕ) → ys ≡ xs → length xs ≡ d.circuit.wires → n ≡ output_wires d.circuit → IsDraft d xs
    → None ≡ find (λ v. not (slice_index_or ys v false)) (range_with_len (length ys - n) n) → IsCircuit d.circuit
end_valid d xs ys n e long many s found =
    let none : unset_output d.circuit ≡ None = sym (found ∙ unset_seen d xs ys n e long many s) in
    record {
      within = s.within;
      fits = s.fits;
      outputs = λ w l h. not-false (sets d.circuit w) (none_found (λ v. not (sets d.circuit v)) (d.circuit.wires - output_wires d.circuit) (output_wires d.circuit) w none l (omega (arith, h, s.within.output_wires)));
    }
