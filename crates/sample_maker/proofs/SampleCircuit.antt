-- The circuit of a sample from its header to its end.
use Rattle.std.proofs.Common.{◌≡◌, ℕ, suc, ◌+◌, ◌-◌, ◌≤◌, ◌<◌, inl, inr, Bool, false, not, ◌||◌, List, [], ◌∷◌, None, Ok, Err, refl, sym, ◌∙◌, ap, ap₂, subst, arith, nat_lt}
use Rattle.std.specs.Prelude.{Result, IfOk, IfErr, OnOk}
use Rattle.std.specs.Option.{option_map}
use Rattle.std.specs.List.{find, range_with_len}
use Rattle.std.proofs.lemmas.Bool.{lt-ltb, le-ltb}
use Rattle.list_laws.specs.Checks.{◌answers◌, first_fault, or_fault}
use Rattle.circuit_model.specs.declared.fault.CircuitFault.{CircuitFault}
use Rattle.circuit_model.specs.declared.fault.CircuitFault.TheVariants.{OutputNotSet, Memory}
use Rattle.circuit_model.specs.declared.gate.Operation.{Operation}
use Rattle.circuit_model.specs.Checks.{Gives}
use Rattle.circuit_model.specs.Netlists.{Netlist, sets}
use Rattle.circuit_model.specs.DraftSteps.{Draft, header_checks, no_gates_yet, start_of, after_gate, answer_of, Becomes, unset_output, circuit_of}
use Rattle.circuit_model.proofs.SetWires.{find_next, find_end}
use Rattle.sample_maker.specs.Drafts.{first_gates, sample_draft}
use Rattle.sample_maker.specs.Samples.{first_operand, second_operand, sample_operation}
use Rattle.sample_maker.proofs.SampleGates.{told, taken, after_is}

-- ---- the start

-- checks of a header that pass
passes : (a b c d : Bool) (f g h i k : CircuitFault) → a ≡ false → b ≡ false → c ≡ false → d ≡ false
    → first_fault ((a || b answers f) ∷ (false answers g) ∷ (c answers h) ∷ (false answers i) ∷ (d answers k) ∷ []) ≡ None
passes a b c d f g h i k ea eb ec ed = rw (ea, eb, ec, ed) refl

-- the header of a sample has no fault
pub start_is : (n : ℕ) (lines : List ℕ) → n ≤ 65536 → start_of 32 n (4 + n) (2 ∷ 2 ∷ []) (1 ∷ []) lines ≡ Ok (sample_draft n 0)
unfolding start_of header_checks
start_is n lines l =
    let fine = passes (nat_lt 65536 n) (nat_lt 131072 (4 + n)) (nat_lt (4 + n) 4) (nat_lt (4 + n) 1) _ Memory _ Memory _
    (le-ltb _ _ l) (le-ltb _ _ (omega (arith, l))) (le-ltb _ _ (omega arith)) (le-ltb _ _ (omega arith)) in
    ap (λ o. or_fault o (no_gates_yet 32 n (4 + n) (2 ∷ 2 ∷ []) (1 ∷ []))) fine

-- ---- the end

-- nothing is found in one place where the test fails
none_of_one : (p : ℕ → Bool) (a : ℕ) → p a ≡ false → find p (range_with_len a 1) ≡ None
none_of_one p a e = find_next p a 1 0 refl e ∙ find_end p (a + 1) 0 refl

-- the last wire is set
outputs_set : (n : ℕ) → unset_output (first_gates n n) ≡ None
outputs_set n =
    none_of_one (λ w. not (sets (first_gates n n) w)) (4 + n - 1) (ap not (told n n (4 + n - 1) ∙ lt-ltb _ _ (omega arith)))

-- so all gates make a circuit
pub circuit_is : (n : ℕ) → circuit_of (sample_draft n n) ≡ Ok (first_gates n n)
unfolding circuit_of
circuit_is n = ap (λ o. or_fault (option_map OutputNotSet o) (first_gates n n)) (outputs_set n)

-- ---- what the calls answer

-- there is no fault but that memory ran out
abbrev OnlyMemory : {A : Type 0} → Result A CircuitFault → Type 0
OnlyMemory r = IfErr r (λ fault. fault ≡ Memory)

-- the draft has no gate yet, or memory ran out
pub started : (n bits gates : ℕ) (inputs outputs lines : List ℕ) (r : Result Draft CircuitFault) → n ≤ 65536 → bits ≡ 32 → gates ≡ n
    → inputs ≡ 2 ∷ 2 ∷ [] → outputs ≡ 1 ∷ []
    → Gives r (start_of bits gates (4 + gates) inputs outputs lines) → IfOk r (λ d. d ≡ sample_draft n 0) × OnlyMemory r
started n bits gates inputs outputs lines r l bits_is gates_is inputs_are outputs_are gives = given r (subst (Gives r) (wanted ∙ start_is n lines l) gives)
  where
    wanted : start_of bits gates (4 + gates) inputs outputs lines ≡ start_of 32 n (4 + n) (2 ∷ 2 ∷ []) (1 ∷ []) lines
    wanted =
        ap₂ (λ a b. start_of a b (4 + b) inputs outputs lines) bits_is gates_is
        ∙ ap₂ (λ a b. start_of 32 n (4 + n) a b lines) inputs_are outputs_are

    given : (r : Result Draft CircuitFault) → Gives r (Ok (sample_draft n 0)) → IfOk r (λ d. d ≡ sample_draft n 0) × OnlyMemory r
    given (Ok d) e = (cc, tt)
    given (Err Memory) e = (tt, refl)
    given (Err _) e = absurd cc

-- the draft has a gate more, or memory ran out
pub added : (n j line : ℕ) (o : Operation) (wires outputs : List ℕ) (d e : Draft) (r : Result (Unit {0}) CircuitFault) → j < n → d ≡ sample_draft n j
    → o ≡ sample_operation n j → wires ≡ taken o (first_operand n j) (second_operand j) → outputs ≡ (4 + j) ∷ []
    → Becomes d (after_gate d line o wires outputs) e → r ≡ answer_of e → OnOk r (e ≡ sample_draft n (j + 1)) × OnlyMemory r
added n j line o wires outputs d e r l is o_is wires_are outputs_are (inl became) answer =
    let next : j + 1 ≡ suc j = omega arith in
    let same =
    ap (λ x. after_gate x line o wires outputs) is
    ∙ ap (λ x. after_gate (sample_draft n j) line o x outputs) wires_are
    ∙ ap (λ x. after_gate (sample_draft n j) line o (taken o (first_operand n j) (second_operand j)) x) outputs_are
    ∙ ap (λ x. after_gate (sample_draft n j) line x (taken x (first_operand n j) (second_operand j)) ((4 + j) ∷ [])) o_is
    ∙ after_is n j line l in
    let made : e ≡ sample_draft n (suc j) = became ∙ same in
    subst (λ x. OnOk x (e ≡ sample_draft n (j + 1)) × OnlyMemory x) (sym (answer ∙ ap answer_of made)) (made ∙ ap (sample_draft n) (sym next), tt)
added n j line o wires outputs d e r l is o_is wires_are outputs_are (inr refused) answer =
    subst (λ x. OnOk x (e ≡ sample_draft n (j + 1)) × OnlyMemory x) (sym (answer ∙ ap answer_of refused.1)) (tt, refl)

-- the circuit has all gates
pub finished : (n : ℕ) (d : Draft) (r : Result Netlist CircuitFault) → d ≡ sample_draft n n → r ≡ circuit_of d → IfOk r (λ circuit. circuit ≡ first_gates n n) × OnlyMemory r
finished n d r is e = subst (λ x. IfOk x (λ circuit. circuit ≡ first_gates n n) × OnlyMemory x) (sym (e ∙ ap circuit_of is ∙ circuit_is n)) (refl, tt)
