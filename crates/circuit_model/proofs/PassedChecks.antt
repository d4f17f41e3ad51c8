-- What passed checks tell.
use Rattle.std.proofs.Common.{◌≡◌, ℕ, ◌^◌, ◌≤◌, ◌<◌, Bool, true, false, not, ◌&&◌, cond, List, [], length, Option, Some, None, Result, Ok, Err, refl, sym, subst, arith, nat_lt, sum, pow_pos, ◌∙◌}
use Rattle.std.specs.Prelude.{slice_index}
use Rattle.std.specs.List.{list_all}
use Rattle.std.proofs.Math.ListN.{get_or-eq_default}
use Rattle.std.proofs.lemmas.Bool.{eqb-true, ltb-true, ltb-false, and_parts, or_parts, not-false}
use Rattle.list_laws.proofs.FirstFaults.{none_failed, or_fault-ok}
use Rattle.list_laws.proofs.ShortLists.{one_long, two_long}
use Rattle.circuit_model.specs.declared.gate.Operation.{Operation}
use Rattle.circuit_model.specs.declared.gate.Operation.TheVariants.{Add, Sub, Neg, Mul, Xor, And, Inv, Eq, Eqw}
use Rattle.circuit_model.specs.declared.fault.CircuitFault.{CircuitFault}
use Rattle.circuit_model.specs.declared.fault.CircuitFault.TheVariants.{Memory}
use Rattle.circuit_model.specs.Checks.{Gives}
use Rattle.circuit_model.specs.Netlists.{Netlist, arity, is_constant, inputs_read, read_by, sets, GateFits}
use Rattle.list_laws.specs.Checks.{first_fault, or_fault}
use Rattle.circuit_model.specs.DraftSteps.{header_checks, gate_checks, gate_of, next_gate}

-- the same fault, whatever value it stands for
pub fault_moves : {A B : Type 0} (o : Option CircuitFault) (a : A) (b : B) (f : CircuitFault) → Err f ≡ or_fault o a → Gives (Err f) (or_fault o b)
fault_moves {A = A} {B = B} o a b f e = given f (or_fault o b) (moved o e)
  where
    moved : (o : Option CircuitFault) → ◌≡◌ {A = Result A CircuitFault} (Err f) (or_fault o a) → ◌≡◌ {A = Result B CircuitFault} (Err f) (or_fault o b)
    moved None e = cc
    moved (Some g) e = cc

    given : (h : CircuitFault) (wanted : Result B CircuitFault) → Err h ≡ wanted → Gives (Err h) wanted
    given Memory wanted e = tt
    given _ wanted e = e

-- ---- a header

pub record IsSmall (g w : ℕ) (ins outs : List ℕ) : Type 0 where
  pub gates : g ≤ 65536
  pub wires : w ≤ 131072
  pub inputs : length ins ≤ 1024
  pub outputs : length outs ≤ 1024
  pub input_wires : sum ins ≤ w
  pub output_wires : sum outs ≤ w

pub header_small : (gates wires : ℕ) (inputs outputs lines : List ℕ) → first_fault (header_checks gates wires inputs outputs lines) ≡ None → IsSmall gates wires inputs outputs
unfolding header_checks
header_small gates wires inputs outputs lines e =
    let a = none_failed _ _ _ e in
    let b = none_failed _ _ _ a.1 in
    let c = none_failed _ _ _ b.1 in
    let d = none_failed _ _ _ c.1 in
    let f = none_failed _ _ _ d.1 in
    let n = or_parts (nat_lt 65536 gates) (nat_lt 131072 wires) a.0 in
    record {
      gates = ltb-false 65536 gates n.0;
      wires = ltb-false 131072 wires n.1;
      inputs = ltb-false 1024 (length inputs) b.0;
      outputs = ltb-false 1024 (length outputs) d.0;
      input_wires = ltb-false wires (sum inputs) c.0;
      output_wires = ltb-false wires (sum outputs) f.0;
    }

-- ---- a gate

reads_are : (o : Operation) (inputs outputs : List ℕ) → length inputs ≡ arity o → inputs_read o inputs ≡ read_by (gate_of o inputs outputs)
reads_are Add inputs outputs e = two_long inputs e
reads_are Sub inputs outputs e = two_long inputs e
reads_are Mul inputs outputs e = two_long inputs e
reads_are Xor inputs outputs e = two_long inputs e
reads_are And inputs outputs e = two_long inputs e
reads_are Neg inputs outputs e = one_long inputs e
reads_are Inv inputs outputs e = one_long inputs e
reads_are Eqw inputs outputs e = one_long inputs e
reads_are Eq inputs outputs e = refl

no_second : (b : Bool) (xs : List ℕ) → length xs ≡ 1 → slice_index (cond b [] xs) 1 ≡ 0
no_second true xs e = refl
no_second false xs e = get_or-eq_default xs 0 (omega (arith, e))

no_first : (b : Bool) (xs : List ℕ) → b ≡ true → slice_index (cond b [] xs) 0 ≡ 0
no_first true xs e = refl
no_first false xs e = cc

no_constant : (b : Bool) (x : ℕ) → b ≡ false → cond b x 0 ≡ 0
no_constant true x e = cc
no_constant false x e = refl

small_constant : (b : Bool) (x bits : ℕ) → (b && not (nat_lt x (2 ^ bits))) ≡ false → cond b x 0 < 2 ^ bits
small_constant true x bits e = ltb-true x (2 ^ bits) (not-false (nat_lt x (2 ^ bits)) e)
small_constant false x bits e = let positive : 0 < 2 ^ bits = pow_pos bits in positive

pub gate_fits : (c : Netlist) (line : ℕ) (o : Operation) (inputs outputs : List ℕ) → first_fault (gate_checks c.bits c.wires (sets c) line o inputs outputs) ≡ None
    → GateFits c c.gates (gate_of o inputs outputs)
unfolding gate_checks
gate_fits c line o inputs outputs e =
    let a = none_failed _ _ _ e in
    let b = none_failed _ _ _ a.1 in
    let d = none_failed _ _ _ b.1 in
    let f = none_failed _ _ _ d.1 in
    let g = none_failed _ _ _ f.1 in
    let counts = not-false _ a.0 in
    let many : length inputs ≡ arity o = eqb-true (length inputs) (arity o) (and_parts _ _ counts).0 in
    let same = reads_are o inputs outputs many in
    let below = not-false _ d.0 in
    record {
      plain = record {
        first = no_first (is_constant o) inputs;
        second = λ one. no_second (is_constant o) inputs (many ∙ one);
        constant = no_constant (is_constant o) (slice_index inputs 0);
      };
      constant = small_constant (is_constant o) (slice_index inputs 0) c.bits b.0;
      below = subst (λ (ws : List ℕ). list_all (λ w. nat_lt w c.wires) ws ≡ true) same (and_parts _ _ below).0;
      output = ltb-true _ _ (and_parts _ _ below).1;
      read = subst (λ (ws : List ℕ). list_all (sets c) ws ≡ true) same (not-false _ f.0);
      fresh = g.0;
    }

pub next_fits : (c : Netlist) (line : ℕ) (o : Operation) (inputs outputs : List ℕ) (g : _) → Ok g ≡ next_gate c line o inputs outputs → GateFits c c.gates g
unfolding next_gate
next_fits c line o inputs outputs g e =
    let k = or_fault-ok _ _ g e in
    subst (λ h. GateFits c c.gates h) (sym k.1) (gate_fits c line o inputs outputs k.0)
