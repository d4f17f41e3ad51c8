-- The plain values of a compiled circuit are those of the program.
use Rattle.std.proofs.Common.{◌≡◌, ℕ, suc, ◌+◌, ◌-◌, ◌*◌, ◌%◌, ◌<◌, ◌≤◌, ◌^◌, Bool, true, false, cond, List, [], ◌∷◌, ◌++◌, length, map, get_or, Option, Some, None, refl, sym, ◌∙◌, ap, ap₂, subst, arith, append_assoc, length-append}
use Rattle.std.proofs.lemmas.List.{length-map}
use Rattle.circuit_model.specs.declared.gate.Gate.{Gate}
use Rattle.circuit_model.specs.Netlists.{Netlist, plain, input_wires, output_wires}
use Rattle.circuit_model.specs.Equations.{Solves}
use Rattle.expr_circuit.specs.Laws.{output_words}
use Rattle.expr_circuit.proofs.Netlists.{gate_at, long_gates, sum_ones}
use Rattle.std.specs.Prelude.{is_some, unwrap_or}
use Rattle.std.specs.List.{range_with_len}
use Rattle.std.specs.Str.{bytes_eq}
use Rattle.std.proofs.Math.Nat.{mod-eq_of_lt}
use Rattle.mpc_ring.specs.Differences.{difference}
use Rattle.circuit_model.specs.Circuits.{operate}
use Rattle.circuit_model.specs.declared.gate.Operation.TheVariants.{Add, Sub, Neg, Mul, Eq}
use Rattle.expr_circuit.specs.declared.wire.Wire.{Wire}
use Rattle.expr_circuit.specs.declared.wire.Wire.TheVariants as wires
use Rattle.expr_circuit.specs.declared.wire.DraftGate.{DraftGate}
use Rattle.expr_circuit.specs.Programs.{Term, Statement, value, bind, outputs_after, program_value}
use Rattle.expr_circuit.specs.Programs.Term.{constant, variable, negative, sum, subtraction, product}
use Rattle.expr_circuit.specs.Programs.Statement.{input, define, output}
use Rattle.expr_circuit.specs.Faults.{none_known}
use Rattle.expr_circuit.specs.Circuits.{Built, Draft, no_wire, build, after_statement, after_statements, no_lines, draft_of, number_of, copy, all_gates, netlist, circuit}
use Rattle.expr_circuit.proofs.GoodPrograms.{IsGood, AreGood}
use Rattle.expr_circuit.proofs.Wires.{Tells, bind_tells, inputs_named, inputs_after}

-- the words P solve the equation of gate g
abbrev pub Holds : ℕ → ℕ → (ℕ → ℕ) → ℕ → DraftGate → Type 0
Holds q m P g s = P (m + g) ≡ operate q s.operation s.constant (P (number_of m s.first)) (P (number_of m s.second))

abbrev pub HoldFrom : ℕ → ℕ → (ℕ → ℕ) → ℕ → List DraftGate → Type 0
HoldFrom q m P g [] = Unit {0}
HoldFrom q m P g (s ∷ ss) = Holds q m P g s × HoldFrom q m P (g + 1) ss

pub hold_front : (q m : ℕ) (P : ℕ → ℕ) (g : ℕ) (xs ys : List DraftGate) → HoldFrom q m P g (xs ++ ys) → HoldFrom q m P g xs
hold_front q m P g [] ys h = tt
hold_front q m P g (x ∷ xs) ys h = (h.0, hold_front q m P (g + 1) xs ys h.1)

pub hold_back : (q m : ℕ) (P : ℕ → ℕ) (g : ℕ) (xs ys : List DraftGate) → HoldFrom q m P g (xs ++ ys) → HoldFrom q m P (g + length xs) ys
hold_back q m P g [] ys h = subst (λ k. HoldFrom q m P k ys) (let e : g ≡ g + 0 = omega arith in e) h
hold_back q m P g (x ∷ xs) ys h = subst (λ k. HoldFrom q m P k ys) (let e : g + 1 + length xs ≡ g + suc (length xs) = omega arith in e) (hold_back q m P (g + 1) xs ys h.1)

-- the equation of a gate that was added
added : (q m : ℕ) (P : ℕ → ℕ) (gates : List DraftGate) (s : DraftGate) → HoldFrom q m P 0 (gates ++ (s ∷ [])) → Holds q m P (length gates) s
added q m P gates s h = subst (λ k. Holds q m P k s) (let e : 0 + length gates ≡ length gates = omega arith in e) (hold_back q m P 0 gates (s ∷ []) h).0

-- the gates before an expression
pub build_front : (q m : ℕ) (P : ℕ → ℕ) (of : List ℕ → Option Wire) (gates : List DraftGate) (t : Term) → HoldFrom q m P 0 (build of gates t).gates → HoldFrom q m P 0 gates
build_front q m P of gates (constant n) h = hold_front q m P 0 gates (record { operation = Eq; first = no_wire; second = no_wire; constant = n } ∷ []) h
build_front q m P of gates (variable x) h = h
build_front q m P of gates (negative t) h = build_front q m P of gates t (hold_front q m P 0 (build of gates t).gates (record { operation = Neg; first = (build of gates t).wire; second = no_wire; constant = 0 } ∷ []) h)
build_front q m P of gates (sum s t) h =
    build_front q m P of gates s (build_front q m P of (build of gates s).gates t
    (hold_front q m P 0 (build of (build of gates s).gates t).gates (record { operation = Add; first = (build of gates s).wire; second = (build of (build of gates s).gates t).wire; constant = 0 } ∷ []) h))
build_front q m P of gates (subtraction s t) h =
    build_front q m P of gates s (build_front q m P of (build of gates s).gates t
    (hold_front q m P 0 (build of (build of gates s).gates t).gates (record { operation = Sub; first = (build of gates s).wire; second = (build of (build of gates s).gates t).wire; constant = 0 } ∷ []) h))
build_front q m P of gates (product s t) h =
    build_front q m P of gates s (build_front q m P of (build of gates s).gates t
    (hold_front q m P 0 (build of (build of gates s).gates t).gates (record { operation = Mul; first = (build of gates s).wire; second = (build of (build of gates s).gates t).wire; constant = 0 } ∷ []) h))

-- the words have the values of names
abbrev pub HasValues : ℕ → (ℕ → ℕ) → (List ℕ → Option Wire) → (List ℕ → ℕ) → Type 0
HasValues m P of v = (x : List ℕ) (w : Wire) → of x ≡ Some w → P (number_of m w) ≡ v x

known_value : (o : Option Wire) (m : ℕ) (P : ℕ → ℕ) (n : ℕ) → is_some o ≡ true → ((w : Wire) → o ≡ Some w → P (number_of m w) ≡ n) → P (number_of m (unwrap_or o no_wire)) ≡ n
known_value None m P n e h = cc
known_value (Some w) m P n e h = h w refl

small_mod : (n q : ℕ) → n < q → n % q ≡ n
small_mod n q l = mod-eq_of_lt l

-- the word of the wire of an expression is its value
pub build_value : (q m : ℕ) (P : ℕ → ℕ) (known : List ℕ → Bool) (of : List ℕ → Option Wire) (v : List ℕ → ℕ) (gates : List DraftGate) (t : Term)
    → Tells known of → HasValues m P of v → IsGood q known t → HoldFrom q m P 0 (build of gates t).gates → P (number_of m (build of gates t).wire) ≡ value q v t
build_value q m P known of v gates (constant n) tells has good h =
    added q m P gates (record { operation = Eq; first = no_wire; second = no_wire; constant = n }) h ∙ small_mod n q good
build_value q m P known of v gates (variable x) tells has good h = known_value (of x) m P (v x) (sym (tells x) ∙ good) (has x)
build_value q m P known of v gates (negative t) tells has good h =
    let s : DraftGate = record { operation = Neg; first = (build of gates t).wire; second = no_wire; constant = 0 } in
    added q m P (build of gates t).gates s h
    ∙ ap (difference q 0) (build_value q m P known of v gates t tells has good (hold_front q m P 0 (build of gates t).gates (s ∷ []) h))
build_value q m P known of v gates (sum s t) tells has good h =
    let gate : DraftGate = record { operation = Add; first = (build of gates s).wire; second = (build of (build of gates s).gates t).wire; constant = 0 } in
    let later = hold_front q m P 0 (build of (build of gates s).gates t).gates (gate ∷ []) h in
    added q m P (build of (build of gates s).gates t).gates gate h
    ∙ ap₂ (λ a b. (a + b) % q) (build_value q m P known of v gates s tells has good.0 (build_front q m P of (build of gates s).gates t later))
    (build_value q m P known of v (build of gates s).gates t tells has good.1 later)
build_value q m P known of v gates (subtraction s t) tells has good h =
    let gate : DraftGate = record { operation = Sub; first = (build of gates s).wire; second = (build of (build of gates s).gates t).wire; constant = 0 } in
    let later = hold_front q m P 0 (build of (build of gates s).gates t).gates (gate ∷ []) h in
    added q m P (build of (build of gates s).gates t).gates gate h
    ∙ ap₂ (difference q) (build_value q m P known of v gates s tells has good.0 (build_front q m P of (build of gates s).gates t later))
    (build_value q m P known of v (build of gates s).gates t tells has good.1 later)
build_value q m P known of v gates (product s t) tells has good h =
    let gate : DraftGate = record { operation = Mul; first = (build of gates s).wire; second = (build of (build of gates s).gates t).wire; constant = 0 } in
    let later = hold_front q m P 0 (build of (build of gates s).gates t).gates (gate ∷ []) h in
    added q m P (build of (build of gates s).gates t).gates gate h
    ∙ ap₂ (λ a b. a * b % q) (build_value q m P known of v gates s tells has good.0 (build_front q m P of (build of gates s).gates t later))
    (build_value q m P known of v (build of gates s).gates t tells has good.1 later)

pub statement_front : (q m : ℕ) (P : ℕ → ℕ) (d : Draft) (s : Statement) → HoldFrom q m P 0 (after_statement d s).gates → HoldFrom q m P 0 d.gates
statement_front q m P d (input x) h = h
statement_front q m P d (define x t) h = build_front q m P d.of d.gates t h
statement_front q m P d (output t) h = build_front q m P d.of d.gates t h

pub statements_front : (q m : ℕ) (P : ℕ → ℕ) (d : Draft) (p : List Statement) → HoldFrom q m P 0 (after_statements d p).gates → HoldFrom q m P 0 d.gates
statements_front q m P d [] h = h
statements_front q m P d (s ∷ p) h = statement_front q m P d s (statements_front q m P (after_statement d s) p h)

bind_has : (m : ℕ) (P : ℕ → ℕ) (of : List ℕ → Option Wire) (v : List ℕ → ℕ) (x : List ℕ) (w : Wire) (n : ℕ) → P (number_of m w) ≡ n → HasValues m P of v → HasValues m P (bind of x (Some w)) (bind v x n)
bind_has m P of v x w n here h y u = go (bytes_eq x y)
  where
    go : (b : Bool) → cond b (Some w) (of y) ≡ Some u → P (number_of m u) ≡ cond b n (v y)
    go true e = subst (λ (t : Wire). P (number_of m t) ≡ n) (let s : w ≡ u = cc in s) here
    go false e = h y u e

-- the words on wires
abbrev pub words_on : ℕ → (ℕ → ℕ) → List Wire → List ℕ
words_on m P ws = map (λ w. P (number_of m w)) ws

words_push : (m : ℕ) (P : ℕ → ℕ) (ws : List Wire) (w : Wire) → words_on m P (ws ++ (w ∷ [])) ≡ words_on m P ws ++ (P (number_of m w) ∷ [])
words_push m P [] w = refl
words_push m P (x ∷ ws) w = ap (λ l. P (number_of m x) ∷ l) (words_push m P ws w)

nil_right : (xs : List ℕ) → xs ≡ xs ++ []
nil_right [] = refl
nil_right (x ∷ xs) = ap (λ ys. x ∷ ys) (nil_right xs)

-- the words of the outputs are the values of the output lines
pub statements_value : (q m : ℕ) (P : ℕ → ℕ) (inputs : ℕ → ℕ) (known : List ℕ → Bool) (v : List ℕ → ℕ) (d : Draft) (p : List Statement)
    → Tells known d.of → HasValues m P d.of v → AreGood q known p → ((i : ℕ) → i < m → P i ≡ inputs i) → d.inputs + inputs_named p ≤ m → HoldFrom q m P 0 (after_statements d p).gates
    → words_on m P (after_statements d p).outputs ≡ words_on m P d.outputs ++ outputs_after q inputs d.inputs v p
statements_value q m P inputs known v d [] tells has good given l h = nil_right (words_on m P d.outputs)
statements_value q m P inputs known v d (input x ∷ p) tells has good given l h =
    statements_value q m P inputs (bind known x true) (bind v x (inputs d.inputs)) (after_statement d (input x)) p (bind_tells known d.of x (wires.Input d.inputs) tells)
    (bind_has m P d.of v x (wires.Input d.inputs) (inputs d.inputs) (given d.inputs (omega arith)) has) good.1 given (omega arith) h
statements_value q m P inputs known v d (define x t ∷ p) tells has good given l h =
    let b : Built = build d.of d.gates t in
    let here = build_value q m P known d.of v d.gates t tells has good.0 (statements_front q m P (after_statement d (define x t)) p h) in
    statements_value q m P inputs (bind known x true) (bind v x (value q v t)) (after_statement d (define x t)) p (bind_tells known d.of x b.wire tells)
    (bind_has m P d.of v x b.wire (value q v t) here has) good.1 given l h
statements_value q m P inputs known v d (output t ∷ p) tells has good given l h =
    let b : Built = build d.of d.gates t in
    let here = build_value q m P known d.of v d.gates t tells has good.0 (statements_front q m P (after_statement d (output t)) p h) in
    statements_value q m P inputs known v (after_statement d (output t)) p tells has good.1 given l h
    ∙ ap (λ ws. ws ++ outputs_after q inputs d.inputs v p) (words_push m P d.outputs b.wire)
    ∙ append_assoc (words_on m P d.outputs) (P (number_of m b.wire) ∷ []) (outputs_after q inputs d.inputs v p)
    ∙ ap (λ n. words_on m P d.outputs ++ (n ∷ outputs_after q inputs d.inputs v p)) here

-- the words on the wires of copies are those of what they copy
pub copied_words : (q m : ℕ) (P : ℕ → ℕ) (g : ℕ) (ws : List Wire) → HoldFrom q m P g (map copy ws) → map P (range_with_len (m + g) (length ws)) ≡ words_on m P ws
copied_words q m P g [] h = refl
copied_words q m P g (w ∷ ws) h = ap₂ (λ x xs. x ∷ xs) h.0 (ap (λ k. map P (range_with_len k (length ws))) (let e : m + g + 1 ≡ m + (g + 1) = omega arith in e) ∙ copied_words q m P (g + 1) ws h.1)

hold_all : (q m : ℕ) (P : ℕ → ℕ) (g : ℕ) (ss : List DraftGate) → ((t : ℕ) → t < length ss → Holds q m P (g + t) (get_or ss t (copy no_wire))) → HoldFrom q m P g ss
hold_all q m P g [] h = tt
hold_all q m P g (s ∷ ss) h = (
  subst (λ k. Holds q m P k s) (let e : g + 0 ≡ g = omega arith in e) (h 0 (omega arith)),
  hold_all q m P (g + 1) ss (λ t l. subst (λ k. Holds q m P k (get_or ss t (copy no_wire))) (let e : g + suc t ≡ g + 1 + t = omega arith in e) (h (suc t) (omega arith))),
)

-- the plain values solve the equations of the gates of a draft
pub plain_hold : (bits : ℕ) (d : Draft) (inputs : ℕ → ℕ) → Solves (netlist bits d) inputs (plain (netlist bits d) inputs) → HoldFrom (2 ^ bits) d.inputs (plain (netlist bits d) inputs) 0 (all_gates d)
unfolding netlist
plain_hold bits d inputs solves =
    let m : ℕ = d.inputs in
    let ss : List DraftGate = all_gates d in
    let c : Netlist = netlist bits d in
    let P : ℕ → ℕ = plain c inputs in
    hold_all (2 ^ bits) m P 0 ss (λ t l.
    subst (λ (g : Gate). P g.output ≡ operate (2 ^ bits) g.operation g.constant (P g.first) (P g.second)) (gate_at m 0 t ss l)
    (solves.gates t (let k : t < length c.gates = omega (arith, long_gates m 0 ss, l) in k)))

pub draft_value : (bits : ℕ) (p : List Statement) (inputs : ℕ → ℕ) → AreGood (2 ^ bits) none_known p → Solves (circuit bits p) inputs (plain (circuit bits p) inputs) → output_words (circuit bits p) inputs ≡ program_value (2 ^ bits) p inputs
unfolding netlist draft_of
draft_value bits p inputs good solves =
    let d : Draft = after_statements no_lines p in
    let m : ℕ = d.inputs in
    let c : Netlist = netlist bits d in
    let P : ℕ → ℕ = plain c inputs in
    let all : HoldFrom (2 ^ bits) m P 0 (all_gates d) = plain_hold bits d inputs solves in
    let outs : output_wires c ≡ length d.outputs = sum_ones (length d.outputs) in
    let many : length (all_gates d) ≡ length d.gates + length d.outputs = length-append d.gates (map copy d.outputs) ∙ ap (λ k. length d.gates + k) (length-map d.outputs copy) in
    let first : c.wires - output_wires c ≡ m + (0 + length d.gates) = omega (arith, outs, many) in
    ap₂ (λ a n. map P (range_with_len a n)) first outs
    ∙ copied_words (2 ^ bits) m P (0 + length d.gates) d.outputs (hold_back (2 ^ bits) m P 0 d.gates (map copy d.outputs) all)
    ∙ statements_value (2 ^ bits) m P inputs none_known (λ x. 0) no_lines p (λ x. refl) (λ x w e. cc) good
    (λ i l. solves.given i (let k : i < input_wires c = omega (arith, sum_ones m, l) in k)) (omega (arith, inputs_after no_lines p)) (hold_front (2 ^ bits) m P 0 d.gates (map copy d.outputs) all)
