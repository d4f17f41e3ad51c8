-- The circuit of one product, gate by gate.
use Rattle.std.proofs.Common.{◌≡◌, ℕ, List, [], ◌∷◌, inl, inr, refl, sym, ◌∙◌, ap, subst}
use Rattle.std.specs.Prelude.{None, Result, Ok, Err, IfOk}
use Rattle.circuit_model.specs.declared.gate.Operation.TheVariants.{Mul}
use Rattle.circuit_model.specs.declared.fault.CircuitFault.{CircuitFault}
use Rattle.circuit_model.specs.declared.fault.CircuitFault.TheVariants.{Memory}
use Rattle.circuit_model.specs.DraftSteps.{Draft, start_of, header_checks, no_gates_yet, after_gate, next_gate, gate_checks, answer_of, Becomes, circuit_of}
use Rattle.circuit_model.specs.Netlists.{Netlist}
use Rattle.plan_model.specs.Multiply.{multiply_session}
use Rattle.session_slots.specs.declared.values.Owner.TheVariants.{Party}
use Rattle.job_session.specs.Parts.{session_of}

abbrev pub empty_draft : ℕ → Draft
empty_draft bits = no_gates_yet bits 1 3 (1 ∷ 1 ∷ []) (1 ∷ [])

abbrev pub product_draft : ℕ → Draft
product_draft bits = record {
  circuit = record { bits = bits; gates = record { operation = Mul; first = 0; second = 1; output = 2; constant = 0 } ∷ []; wires = 3; inputs = 1 ∷ 1 ∷ []; outputs = 1 ∷ [] };
  announced = 1;
  refused = None;
}

start_is : (bits : ℕ) → start_of bits 1 3 (1 ∷ 1 ∷ []) (1 ∷ []) (1 ∷ 2 ∷ 3 ∷ []) ≡ Ok (empty_draft bits)
unfolding start_of header_checks
start_is bits = refl

after_is : (bits : ℕ) → after_gate (empty_draft bits) 4 Mul (0 ∷ 1 ∷ []) (2 ∷ []) ≡ product_draft bits
unfolding next_gate gate_checks
after_is bits = refl

circuit_is : (bits : ℕ) → circuit_of (product_draft bits) ≡ Ok (product_draft bits).circuit
unfolding circuit_of
circuit_is bits = refl

pub started : (bits : ℕ) (inputs outputs : List ℕ) (d : Draft) → inputs ≡ 1 ∷ 1 ∷ [] → outputs ≡ 1 ∷ [] → Ok d ≡ start_of bits 1 3 inputs outputs (1 ∷ 2 ∷ 3 ∷ []) → d ≡ empty_draft bits
started bits inputs outputs d is_in is_out e =
    let starts : start_of bits 1 3 inputs outputs (1 ∷ 2 ∷ 3 ∷ []) ≡ start_of bits 1 3 (1 ∷ 1 ∷ []) (1 ∷ []) (1 ∷ 2 ∷ 3 ∷ []) = cc in
    ok_is d (empty_draft bits) (e ∙ starts ∙ start_is bits)
  where
    ok_is : (a b : Draft) → ◌≡◌ {A = Result Draft CircuitFault} (Ok a) (Ok b) → a ≡ b
    ok_is a b e = cc

pub added : (bits : ℕ) (d e : Draft) → d ≡ empty_draft bits → Becomes d (after_gate d 4 Mul (0 ∷ 1 ∷ []) (2 ∷ [])) e → Ok tt ≡ answer_of e → e ≡ product_draft bits
added bits d e is (inl became) answered = became ∙ ap (λ (z : Draft). after_gate z 4 Mul (0 ∷ 1 ∷ []) (2 ∷ [])) is ∙ after_is bits
added bits d e is (inr refused) answered = absurd (no_answer (answered ∙ ap answer_of refused.1))
  where
    no_answer : ◌≡◌ {A = Result (Unit {0}) CircuitFault} (Ok tt) (Err Memory) → ⊥
    no_answer e = cc

pub finished : (bits : ℕ) (d : Draft) (r : Result Netlist CircuitFault) → d ≡ product_draft bits → r ≡ circuit_of d
    → IfOk r (λ circuit. session_of circuit (Party 0 ∷ Party 1 ∷ []) (record { parties = 3; mask = 4 } ∷ []) ≡ multiply_session)
finished bits d r is e =
    subst (λ (z : Result Netlist CircuitFault). IfOk z (λ circuit. session_of circuit (Party 0 ∷ Party 1 ∷ []) (record { parties = 3; mask = 4 } ∷ []) ≡ multiply_session))
    (sym (e ∙ ap circuit_of is ∙ circuit_is bits)) refl
