-- The circuit of a draft that fits is one.
use Rattle.std.proofs.Common.{◌≡◌, ℕ, zero, suc, ◌+◌, ◌*◌, ◌<◌, ◌≤◌, ◌^◌, inl, inr, Bool, true, false, ◌||◌, ◌&&◌, nat_lt, List, [], ◌∷◌, ◌++◌, length, map, take, sum, replicate, get_or, Some, refl, sym, ◌∙◌, ap, subst, arith, length-append}
use Rattle.std.proofs.lemmas.List.{length-take-le, length-map, length-replicate}
use Rattle.std.proofs.lemmas.List.Folds.{sum_by-replicate}
use Rattle.std.specs.Prelude.{◌==◌}
use Rattle.std.specs.List.{list_all, list_any}
use Rattle.std.proofs.lemmas.Bool.{lt-ltb, le-ltb, ltb-false}
use Rattle.std.proofs.lemmas.Bool.Decides.{eqb_tells}
use Rattle.std.proofs.lemmas.Nat.{pow_pos}
use Rattle.list_laws.proofs.Tests.{or_true}
use Rattle.circuit_model.specs.declared.gate.Operation.{Operation}
use Rattle.circuit_model.specs.declared.gate.Operation.TheVariants.{Add, Sub, Neg, Mul, Xor, And, Inv, Eq, Eqw}
use Rattle.circuit_model.specs.declared.gate.Gate.{Gate}
use Rattle.circuit_model.specs.Netlists.{Netlist, no_gate, gate, is_set, read_by, IsPlain, GateFits, IsCircuit, input_wires, output_wires}
use Rattle.circuit_model.proofs.SetWires.{lt_or_not}
use Rattle.circuit_model.specs.declared.layout.CircuitLayout.TheVariants as layouts
use Rattle.circuit_file.specs.GateLines.{operation_of}
use Rattle.circuit_file.specs.CircuitTexts.{operation_name, HasOperation}
use Rattle.expr_circuit.specs.declared.wire.Wire.{Wire}
use Rattle.expr_circuit.specs.declared.wire.Wire.TheVariants as wires
use Rattle.expr_circuit.specs.declared.wire.DraftGate.{DraftGate}
use Rattle.expr_circuit.specs.Programs.{Statement}
use Rattle.expr_circuit.specs.Faults.{none_known}
use Rattle.expr_circuit.specs.Circuits.{Draft, no_wire, after_statements, no_lines, draft_of, number_of, copy, all_gates, gate_of, gates_from, netlist, is_large}
use Rattle.expr_circuit.proofs.GoodPrograms.{AreGood}
use Rattle.expr_circuit.proofs.Wires.{IsBelow, FitsAs, DraftGateFits, FitFrom, AllBelow, DraftFits, inputs_after, known_after, statements_fit}

-- the copies of outputs fit too
copies_fit : (q m g : ℕ) (ws : List Wire) (k : ℕ) → g ≤ k → AllBelow m g ws → FitFrom q m k (map copy ws)
copies_fit q m g [] k l h = tt
copies_fit q m g (wires.Input i ∷ ws) k l h = ((h.0, refl, refl), copies_fit q m g ws (k + 1) (omega arith) h.1)
copies_fit q m g (wires.Gate j ∷ ws) k l h = ((let b : j < k = omega arith in b, refl, refl), copies_fit q m g ws (k + 1) (omega arith) h.1)

fit_append : (q m g : ℕ) (xs ys : List DraftGate) → FitFrom q m g xs → FitFrom q m (g + length xs) ys → FitFrom q m g (xs ++ ys)
fit_append q m g [] ys h l = subst (λ k. FitFrom q m k ys) (let e : g + 0 ≡ g = omega arith in e) l
fit_append q m g (x ∷ xs) ys h l = (h.0, fit_append q m (g + 1) xs ys h.1 (subst (λ k. FitFrom q m k ys) (let e : g + suc (length xs) ≡ g + 1 + length xs = omega arith in e) l))

-- all gates of a draft fit
pub all_fit : (q m : ℕ) (known : List ℕ → Bool) (d : Draft) → DraftFits q m known d → FitFrom q m 0 (all_gates d)
all_fit q m known d f = fit_append q m 0 d.gates (map copy d.outputs) f.fits (copies_fit q m (length d.gates) d.outputs (0 + length d.gates) (omega arith) f.outputs)

-- a wire that one of the gates sets
set_yes : (m g : ℕ) (ss : List DraftGate) (w : ℕ) → m + g ≤ w → w < m + g + length ss → list_any (λ (h : Gate). h.output == w) (gates_from m g ss) ≡ true
set_yes m g [] w l h = absurd (omega arith)
set_yes m g (s ∷ ss) w l h = elim (eqb_tells (m + g) w) [
  | inl same ↦ ap (λ b. b || list_any (λ (h : Gate). h.output == w) (gates_from m (g + 1) ss)) same.0
  | inr other ↦ ap (λ b. b || list_any (λ (h : Gate). h.output == w) (gates_from m (g + 1) ss)) other.0 ∙ set_yes m (g + 1) ss w (omega (arith, other.1)) (omega arith)
]

set_no : (m g : ℕ) (ss : List DraftGate) (w : ℕ) → m + g + length ss ≤ w → list_any (λ (h : Gate). h.output == w) (gates_from m g ss) ≡ false
set_no m g [] w l = refl
set_no m g (s ∷ ss) w l = elim (eqb_tells (m + g) w) [
  | inl same ↦ absurd (omega (arith, same.1))
  | inr other ↦ ap (λ b. b || list_any (λ (h : Gate). h.output == w) (gates_from m (g + 1) ss)) other.0 ∙ set_no m (g + 1) ss w (omega arith)
]

-- exactly the first wires are set
pub is_set_below : (m : ℕ) (ss : List DraftGate) (w : ℕ) → w < m + length ss → is_set m (gates_from m 0 ss) w ≡ true
is_set_below m ss w l = elim (lt_or_not w m) [
  | inl less ↦ ap (λ b. b || list_any (λ (h : Gate). h.output == w) (gates_from m 0 ss)) (lt-ltb w m less)
  | inr more ↦ ap (λ b. nat_lt w m || b) (set_yes m 0 ss w (omega arith) (omega arith)) ∙ or_true (nat_lt w m)
]

is_set_not : (m : ℕ) (ss : List DraftGate) (w : ℕ) → m + length ss ≤ w → is_set m (gates_from m 0 ss) w ≡ false
is_set_not m ss w l = ap (λ b. b || list_any (λ (h : Gate). h.output == w) (gates_from m 0 ss)) (le-ltb w m (omega arith)) ∙ set_no m 0 ss w (omega arith)

pub long_gates : (m g : ℕ) (ss : List DraftGate) → length (gates_from m g ss) ≡ length ss
long_gates m g [] = refl
long_gates m g (s ∷ ss) = ap suc (long_gates m (g + 1) ss)

take_gates : (m g t : ℕ) (ss : List DraftGate) → take t (gates_from m g ss) ≡ gates_from m g (take t ss)
take_gates m g zero ss = refl
take_gates m g (suc t) [] = refl
take_gates m g (suc t) (s ∷ ss) = ap (λ gs. gate_of m g s ∷ gs) (take_gates m (g + 1) t ss)

-- gate number t
pub gate_at : (m g t : ℕ) (ss : List DraftGate) → t < length ss → get_or (gates_from m g ss) t no_gate ≡ gate_of m (g + t) (get_or ss t (copy no_wire))
gate_at m g t [] l = absurd (omega arith)
gate_at m g zero (s ∷ ss) l = ap (λ k. gate_of m k s) (let e : g ≡ g + 0 = omega arith in e)
gate_at m g (suc t) (s ∷ ss) l = gate_at m (g + 1) t ss (omega arith) ∙ ap (λ k. gate_of m k (get_or ss t (copy no_wire))) (let e : g + 1 + t ≡ g + suc t = omega arith in e)

pub draft_gate_fits : (q m g t : ℕ) (ss : List DraftGate) → t < length ss → FitFrom q m g ss → DraftGateFits q m (g + t) (get_or ss t (copy no_wire))
draft_gate_fits q m g t [] l h = absurd (omega arith)
draft_gate_fits q m g zero (s ∷ ss) l h = subst (λ k. DraftGateFits q m k s) (let e : g ≡ g + 0 = omega arith in e) h.0
draft_gate_fits q m g (suc t) (s ∷ ss) l h = subst (λ k. DraftGateFits q m k (get_or ss t (copy no_wire))) (let e : g + 1 + t ≡ g + suc t = omega arith in e) (draft_gate_fits q m (g + 1) t ss (omega arith) h.1)

number_below : (m g : ℕ) (w : Wire) → IsBelow m g w → number_of m w < m + g
number_below m g (wires.Input i) h = omega arith
number_below m g (wires.Gate k) h = omega arith

-- a test that all wires pass which are below a bound
both_pass : (test : ℕ → Bool) (bound : ℕ) → ((w : ℕ) → w < bound → test w ≡ true) → (a b : ℕ) → a < bound → b < bound → list_all test (a ∷ b ∷ []) ≡ true
both_pass test bound h a b la lb = ap (λ x. x && (test b && true)) (h a la) ∙ ap (λ x. x && true) (h b lb)

one_passes : (test : ℕ → Bool) (bound : ℕ) → ((w : ℕ) → w < bound → test w ≡ true) → (a : ℕ) → a < bound → list_all test (a ∷ []) ≡ true
one_passes test bound h a la = ap (λ x. x && true) (h a la)

read_pass : (q m g : ℕ) (o : Operation) (a b : Wire) (c : ℕ) → FitsAs q m g o a b c → (test : ℕ → Bool) → ((w : ℕ) → w < m + g → test w ≡ true)
    → list_all test (read_by (gate_of m g (record { operation = o; first = a; second = b; constant = c }))) ≡ true
read_pass q m g Add a b c f test h = both_pass test (m + g) h (number_of m a) (number_of m b) (number_below m g a f.0) (number_below m g b f.1)
read_pass q m g Sub a b c f test h = both_pass test (m + g) h (number_of m a) (number_of m b) (number_below m g a f.0) (number_below m g b f.1)
read_pass q m g Mul a b c f test h = both_pass test (m + g) h (number_of m a) (number_of m b) (number_below m g a f.0) (number_below m g b f.1)
read_pass q m g Neg a b c f test h = one_passes test (m + g) h (number_of m a) (number_below m g a f.0)
read_pass q m g Eqw a b c f test h = one_passes test (m + g) h (number_of m a) (number_below m g a f.0)
read_pass q m g Eq a b c f test h = refl
read_pass q m g Xor a b c f test h = absurd f
read_pass q m g And a b c f test h = absurd f
read_pass q m g Inv a b c f test h = absurd f

plain_fits : (q m g : ℕ) (o : Operation) (a b : Wire) (c : ℕ) → FitsAs q m g o a b c → IsPlain (gate_of m g (record { operation = o; first = a; second = b; constant = c }))
plain_fits q m g Add a b c f = record { first = λ e. cc; second = λ e. absurd (omega (arith, e)); constant = λ e. f.2 }
plain_fits q m g Sub a b c f = record { first = λ e. cc; second = λ e. absurd (omega (arith, e)); constant = λ e. f.2 }
plain_fits q m g Mul a b c f = record { first = λ e. cc; second = λ e. absurd (omega (arith, e)); constant = λ e. f.2 }
plain_fits q m g Neg a b c f = record { first = λ e. cc; second = λ e. ap (number_of m) f.1; constant = λ e. f.2 }
plain_fits q m g Eqw a b c f = record { first = λ e. cc; second = λ e. ap (number_of m) f.1; constant = λ e. f.2 }
plain_fits q m g Eq a b c f = record { first = λ e. ap (number_of m) f.0; second = λ e. ap (number_of m) f.1; constant = λ e. cc }
plain_fits q m g Xor a b c f = absurd f
plain_fits q m g And a b c f = absurd f
plain_fits q m g Inv a b c f = absurd f

constant_fits : (q m g : ℕ) (o : Operation) (a b : Wire) (c : ℕ) → 0 < q → FitsAs q m g o a b c → c < q
constant_fits q m g Add a b c l f = omega (arith, f.2)
constant_fits q m g Sub a b c l f = omega (arith, f.2)
constant_fits q m g Mul a b c l f = omega (arith, f.2)
constant_fits q m g Neg a b c l f = omega (arith, f.2)
constant_fits q m g Eqw a b c l f = omega (arith, f.2)
constant_fits q m g Eq a b c l f = f.2
constant_fits q m g Xor a b c l f = absurd f
constant_fits q m g And a b c l f = absurd f
constant_fits q m g Inv a b c l f = absurd f

named : (q m g : ℕ) (o : Operation) (a b : Wire) (c : ℕ) → FitsAs q m g o a b c → operation_of layouts.Ring (operation_name o) ≡ Some o
unfolding operation_of
named q m g Add a b c f = refl
named q m g Sub a b c f = refl
named q m g Mul a b c f = refl
named q m g Neg a b c f = refl
named q m g Eqw a b c f = refl
named q m g Eq a b c f = refl
named q m g Xor a b c f = absurd f
named q m g And a b c f = absurd f
named q m g Inv a b c f = absurd f

pub sum_ones : (n : ℕ) → sum (replicate n 1) ≡ n
sum_ones n = sum_by-replicate (λ x. x) n 1 ∙ (let e : n * 1 ≡ n = omega arith in e)

pub long_ones : (n : ℕ) → length {A = ℕ} (replicate n 1) ≡ n
long_ones n = length-replicate {A = ℕ} n 1

-- within the limits
pub record AreSmall (d : Draft) : Type 0 where
  pub gates : length (all_gates d) ≤ 65536
  pub inputs : d.inputs ≤ 1024
  pub outputs : length d.outputs ≤ 1024

pub circuit_is : (bits : ℕ) (known : List ℕ → Bool) (d : Draft) → 0 < bits → bits ≤ 64 → AreSmall d → DraftFits (2 ^ bits) d.inputs known d → IsCircuit (netlist bits d)
unfolding netlist
circuit_is bits known d some few small f =
    let m : ℕ = d.inputs in
    let ss : List DraftGate = all_gates d in
    let c : Netlist = netlist bits d in
    let all : FitFrom (2 ^ bits) m 0 ss = all_fit (2 ^ bits) m known d f in
    let long : length c.gates ≡ length ss = long_gates m 0 ss in
    let ins : input_wires c ≡ m = sum_ones m in
    let outs : output_wires c ≡ length d.outputs = sum_ones (length d.outputs) in
    let enough : length d.outputs ≤ length ss = omega (arith, length-append d.gates (map copy d.outputs), length-map d.outputs copy) in
    record {
      within = record {
        some_bits = some;
        bits = few;
        gates = omega (arith, long, small.gates);
        wires = omega (arith, small.gates, small.inputs);
        inputs = omega (arith, long_ones m, small.inputs);
        outputs = omega (arith, long_ones (length d.outputs), small.outputs);
        input_wires = omega (arith, ins);
        output_wires = omega (arith, outs, enough);
      };
      fits = λ t l.
          let here : t < length ss = omega (arith, long, l) in
          let s : DraftGate = get_or ss t (copy no_wire) in
          let fit : DraftGateFits (2 ^ bits) m (0 + t) s = draft_gate_fits (2 ^ bits) m 0 t ss here all in
          let before : take t c.gates ≡ gates_from m 0 (take t ss) = take_gates m 0 t ss in
          let taken : length (take t ss) ≡ t = length-take-le t ss (omega arith) in
          subst (λ (g : Gate). GateFits c (take t c.gates) g) (sym (gate_at m 0 t ss here))
          (record {
            plain = plain_fits (2 ^ bits) m (0 + t) s.operation s.first s.second s.constant fit;
            constant = constant_fits (2 ^ bits) m (0 + t) s.operation s.first s.second s.constant (pow_pos bits) fit;
            below = read_pass (2 ^ bits) m (0 + t) s.operation s.first s.second s.constant fit (λ w. nat_lt w c.wires) (λ w low. lt-ltb w c.wires (omega arith));
            output = omega arith;
            read = read_pass (2 ^ bits) m (0 + t) s.operation s.first s.second s.constant fit (is_set (input_wires c) (take t c.gates))
                (λ w low. ap (λ k. is_set k (take t c.gates) w) ins ∙ ap (λ gs. is_set m gs w) before ∙ is_set_below m (take t ss) w (omega (arith, taken)));
            fresh = ap (λ k. is_set k (take t c.gates) (m + (0 + t))) ins ∙ ap (λ gs. is_set m gs (m + (0 + t))) before ∙ is_set_not m (take t ss) (m + (0 + t)) (omega (arith, taken));
          });
      outputs = λ w low high. ap (λ k. is_set k c.gates w) ins ∙ is_set_below m ss w (omega (arith, high));
    }

-- the layout with operations on words has those of a draft
pub gate_named : (bits : ℕ) (known : List ℕ → Bool) (d : Draft) → DraftFits (2 ^ bits) d.inputs known d → (t : ℕ) → t < length (netlist bits d).gates → HasOperation layouts.Ring (gate (netlist bits d) t)
unfolding netlist
gate_named bits known d f t l =
    let m : ℕ = d.inputs in
    let ss : List DraftGate = all_gates d in
    let here : t < length ss = omega (arith, long_gates m 0 ss, l) in
    let s : DraftGate = get_or ss t (copy no_wire) in
    subst (HasOperation layouts.Ring) (sym (gate_at m 0 t ss here))
    (named (2 ^ bits) m (0 + t) s.operation s.first s.second s.constant (draft_gate_fits (2 ^ bits) m 0 t ss here (all_fit (2 ^ bits) m known d f)))

not_large : (a b x y : Bool) → ((a || b) || (x || y)) ≡ false → (a ≡ false) × (x ≡ false) × (y ≡ false)
not_large false false false false e = (refl, refl, refl)
not_large true b x y e = cc
not_large false true x y e = cc
not_large false false true y e = cc
not_large false false false true e = cc

pub small_draft : (bits : ℕ) (d : Draft) → is_large (netlist bits d) ≡ false → AreSmall d
unfolding netlist
small_draft bits d e =
    let c : Netlist = netlist bits d in
    let no = not_large (nat_lt 65536 (length c.gates)) (nat_lt 131072 c.wires) (nat_lt 1024 (length c.inputs)) (nat_lt 1024 (length c.outputs)) e in
    record {
      gates = omega (arith, ltb-false 65536 (length c.gates) no.0, long_gates d.inputs 0 (all_gates d));
      inputs = omega (arith, ltb-false 1024 (length c.inputs) no.1, long_ones d.inputs);
      outputs = omega (arith, ltb-false 1024 (length c.outputs) no.2, long_ones (length d.outputs));
    }

-- the draft of a good program fits
pub draft_fits : (q : ℕ) (p : List Statement) → AreGood q none_known p → DraftFits q (draft_of p).inputs (known_after none_known p) (draft_of p)
unfolding draft_of
draft_fits q p good =
    statements_fit q (after_statements no_lines p).inputs none_known no_lines p (omega (arith, inputs_after no_lines p)) good
    (record { tells = λ x. refl; below = λ x w e. cc; fits = tt; outputs = tt })
