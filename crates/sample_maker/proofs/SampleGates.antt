-- The gates of a sample, one after another: none has a fault.
use Rattle.std.proofs.Common.{◌≡◌, ℕ, zero, suc, ◌+◌, ◌*◌, ◌%◌, ◌<◌, inl, inr, Bool, true, false, not, ◌&&◌, ◌||◌, List, [], ◌∷◌, take, None, Ok, refl, sym, ◌∙◌, ap, arith, nat_lt}
use Rattle.std.specs.Prelude.{◌==◌, if◌then◌else◌}
use Rattle.std.proofs.Math.Nat.{mod-lt}
use Rattle.std.proofs.lemmas.Bool.{lt-ltb, le-ltb}
use Rattle.std.proofs.lemmas.Bool.Decides.{eqb_tells}
use Rattle.list_laws.specs.Lists.{listed}
use Rattle.list_laws.specs.Checks.{◌answers◌, first_fault, or_fault}
use Rattle.list_laws.proofs.Tests.{or_true, or_false}
use Rattle.circuit_model.specs.declared.gate.Operation.{Operation}
use Rattle.circuit_model.specs.declared.gate.Operation.TheVariants.{Add, Sub, Neg, Mul}
use Rattle.circuit_model.specs.declared.fault.CircuitFault.{CircuitFault}
use Rattle.circuit_model.specs.Netlists.{arity, is_set, sets}
use Rattle.circuit_model.specs.DraftSteps.{gate_checks, gate_of, next_gate, take_gate, after_gate}
use Rattle.circuit_model.proofs.SetWires.{lt_or_not, set_next}
use Rattle.sample_maker.specs.Samples.{first_operand, second_operand, sample_gate, sample_operation}
use Rattle.sample_maker.specs.Drafts.{first_gates, sample_draft}

-- ---- wires that are set

-- a wire is below k or k itself exactly where it is below k + 1
one_more : (k m w : ℕ) → m ≡ k + 1 → (nat_lt w k || (k == w)) ≡ nat_lt w m
one_more k m w more = elim (eqb_tells k w) [
  | inl same ↦ ap (λ b. nat_lt w k || b) same.0 ∙ or_true (nat_lt w k) ∙ sym (lt-ltb w m (omega (arith, more, same.1)))
  | inr other ↦ ap (λ b. nat_lt w k || b) other.0 ∙ or_false (nat_lt w k) ∙ elim (lt_or_not w k) [
    | inl below ↦ lt-ltb w k below ∙ sym (lt-ltb w m (omega (arith, more, below)))
    | inr not_below ↦ le-ltb w k not_below ∙ sym (le-ltb w m (omega (arith, more, not_below, other.1)))
  ]
]

-- after j gates the wires below 4 + j are set, and no other
pub told : (n j w : ℕ) → is_set 4 (listed j (sample_gate n)) w ≡ nat_lt w (4 + j)
told n zero w = or_false (nat_lt w 4)
told n (suc j) w =
    set_next 4 (listed j (sample_gate n)) (sample_gate n j) w
    ∙ ap (λ b. b || (4 + j == w)) (told n j w)
    ∙ one_more (4 + j) (4 + suc j) w (omega arith)

-- ---- one gate

-- what holds of each of the four operations holds of that of gate j
pub by_operation : (P : Operation → Type 0) → P Mul → P Add → P Sub → P Neg → (n j : ℕ) → P (sample_operation n j)
by_operation P mul add sub neg n j = four ((j + n) % 4 == 0) ((j + n) % 4 == 1) ((j + n) % 4 == 2)
  where
    four : (x y z : Bool) → P (if x then Mul else if y then Add else if z then Sub else Neg)
    four true y z = mul
    four false true z = add
    four false false true = sub
    four false false false = neg

-- the wires that an operation takes of two
abbrev pub taken : Operation → ℕ → ℕ → List ℕ
taken o first second = take (arity o) (first ∷ second ∷ [])

-- the gate is the one that the definitions say
gate_is : (n j : ℕ) → gate_of (sample_operation n j) (taken (sample_operation n j) (first_operand n j) (second_operand j)) ((4 + j) ∷ []) ≡ sample_gate n j
gate_is n j =
    by_operation (λ o. gate_of o (taken o (first_operand n j) (second_operand j)) ((4 + j) ∷ [])
    ≡ record { operation = o; first = first_operand n j; second = if arity o == 2 then second_operand j else 0; output = 4 + j; constant = 0 })
    refl refl refl refl n j

-- checks that pass, of two wires that a gate reads and one that it sets
passes : (a b c s t u : Bool) (f g h : CircuitFault) → a ≡ true → b ≡ true → c ≡ true → s ≡ true → t ≡ true → u ≡ false
    → first_fault ((not ((a && (b && true)) && c) answers f) ∷ (not (s && (t && true)) answers g) ∷ (u answers h) ∷ []) ≡ None
passes a b c s t u f g h ea eb ec es et eu = rw (ea, eb, ec, es, et, eu) refl

-- a gate has no fault whose wires are there, whose operands are set and whose output isn't
no_fault : (bits wires : ℕ) (set : ℕ → Bool) (line first second output n j : ℕ)
    → nat_lt first wires ≡ true → nat_lt second wires ≡ true → nat_lt output wires ≡ true
    → set first ≡ true → set second ≡ true → set output ≡ false
    → first_fault (gate_checks bits wires set line (sample_operation n j) (taken (sample_operation n j) first second) (output ∷ [])) ≡ None
unfolding gate_checks
no_fault bits wires set line first second output n j ea eb ec es et eu =
    by_operation (λ o. first_fault (gate_checks bits wires set line o (taken o first second) (output ∷ [])) ≡ None)
    (both _ _ _) (both _ _ _) (both _ _ _) (alone _ _ _) n j
  where
    both : (f g h : CircuitFault) → first_fault ((not ((nat_lt first wires && (nat_lt second wires && true)) && nat_lt output wires) answers f) ∷ (not (set first && (set second && true)) answers g) ∷ (set output answers h) ∷ []) ≡ None
    both f g h = passes (nat_lt first wires) (nat_lt second wires) (nat_lt output wires) (set first) (set second) (set output) f g h ea eb ec es et eu

    alone : (f g h : CircuitFault) → first_fault ((not ((nat_lt first wires && (true && true)) && nat_lt output wires) answers f) ∷ (not (set first && (true && true)) answers g) ∷ (set output answers h) ∷ []) ≡ None
    alone f g h = passes (nat_lt first wires) true (nat_lt output wires) (set first) true (set output) f g h ea refl ec es refl eu

-- gate j has no fault after those before it
next_is : (n j line : ℕ) → j < n
    → next_gate (first_gates n j) line (sample_operation n j) (taken (sample_operation n j) (first_operand n j) (second_operand j)) ((4 + j) ∷ []) ≡ Ok (sample_gate n j)
unfolding next_gate
next_is n j line l =
    let first : first_operand n j < 4 + j = mod-lt (7 * j + n) (omega arith) in
    let second : second_operand j < 4 + j = mod-lt (11 * j + 3) (omega arith) in
    let fine = no_fault 32 (4 + n) (sets (first_gates n j)) line (first_operand n j) (second_operand j) (4 + j) n j
    (lt-ltb _ _ (omega (arith, first, l))) (lt-ltb _ _ (omega (arith, second, l))) (lt-ltb _ _ (omega (arith, l)))
    (told n j _ ∙ lt-ltb _ _ first) (told n j _ ∙ lt-ltb _ _ second) (told n j _ ∙ le-ltb _ _ (omega arith)) in
    ap (λ o. or_fault o (gate_of (sample_operation n j) (taken (sample_operation n j) (first_operand n j) (second_operand j)) ((4 + j) ∷ []))) fine
    ∙ ap Ok (gate_is n j)

-- gate j goes behind those before it
pub after_is : (n j line : ℕ) → j < n
    → after_gate (sample_draft n j) line (sample_operation n j) (taken (sample_operation n j) (first_operand n j) (second_operand j)) ((4 + j) ∷ []) ≡ sample_draft n (suc j)
after_is n j line l = ap (take_gate (sample_draft n j)) (next_is n j line l)
