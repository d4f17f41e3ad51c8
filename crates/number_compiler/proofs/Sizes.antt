-- The circuit of a draft, and its size.
use Rattle.std.proofs.Common.{◌≡◌, ℕ, ◌+◌, ◌<◌, ◌≤◌, inl, inr, true, false, ◌||◌, nat_lt, List, ◌++◌, length, map, refl, sym, ◌∙◌, ap, ap₂, subst, arith}
use Rattle.std.proofs.lemmas.Bool.{cases_lt, lt-ltb, le-ltb}
use Rattle.std.proofs.lemmas.List.{take_all, length-map}
use Rattle.list_laws.proofs.Tests.{or_true}
use Rattle.circuit_model.specs.Netlists.{IsCircuit}
use Rattle.number_gates.specs.declared.wire.DraftGate.{DraftGate}
use Rattle.number_gates.specs.Steps.{Ran}
use Rattle.number_circuit.specs.Programs.{Statement}
use Rattle.number_compiler.specs.declared.draft.Draft.{Draft as DraftKept}
use Rattle.number_compiler.specs.Terms.{Value}
use Rattle.number_compiler.specs.Circuits.{Draft, draft_of, all_bits, copy, assembled, netlist, gate_count, is_large, circuit, has_large_circuit}
use Rattle.number_compiler.specs.Keeps.{Keeps, IsDraftOf}
use Rattle.number_compiler.proofs.OutputValues.{small_draft}
use Rattle.number_compiler.proofs.ValidCircuits.{circuit_is}

module _ (r : Ran Draft) where
  abbrev all : ℕ
  all = gate_count r

  pub inputs_large : 1024 < length r.result.inputs → is_large r ≡ true
  unfolding is_large
  inputs_large l =
      ap (λ b. (nat_lt 65536 all || nat_lt 131072 (r.result.wires + all)) || (b || nat_lt 1024 (length r.result.outputs))) (lt-ltb 1024 (length r.result.inputs) l)
      ∙ or_true (nat_lt 65536 all || nat_lt 131072 (r.result.wires + all))

  pub outputs_large : 1024 < length r.result.outputs → is_large r ≡ true
  unfolding is_large
  outputs_large l =
      ap (λ b. (nat_lt 65536 all || nat_lt 131072 (r.result.wires + all)) || (nat_lt 1024 (length r.result.inputs) || b)) (lt-ltb 1024 (length r.result.outputs) l)
      ∙ ap (λ b. (nat_lt 65536 all || nat_lt 131072 (r.result.wires + all)) || b) (or_true (nat_lt 1024 (length r.result.inputs)))
      ∙ or_true (nat_lt 65536 all || nat_lt 131072 (r.result.wires + all))

  pub gates_large : 65536 < all → is_large r ≡ true
  unfolding is_large
  gates_large l = ap (λ b. (b || nat_lt 131072 (r.result.wires + all)) || (nat_lt 1024 (length r.result.inputs) || nat_lt 1024 (length r.result.outputs))) (lt-ltb 65536 all l)

  same_test : (a b c n : ℕ) → a + c ≡ n → nat_lt n (b + c) ≡ nat_lt a b
  same_test a b c n e = elim (cases_lt a b) [
    | inl less ↦ lt-ltb n (b + c) (omega (arith, e, less)) ∙ sym (lt-ltb a b less)
    | inr more ↦ le-ltb n (b + c) (omega (arith, e, more)) ∙ sym (le-ltb a b more)
  ]

  pub wires_tell : (left : ℕ) → length r.result.inputs ≤ 1024 → length r.result.outputs ≤ 1024 → all ≤ 65536 → left + all ≡ 131072 → nat_lt left r.result.wires ≡ is_large r
  unfolding is_large
  wires_tell left ins outs few e =
      let inputs : nat_lt 1024 (length r.result.inputs) ≡ false = le-ltb 1024 (length r.result.inputs) ins in
      let outputs : nat_lt 1024 (length r.result.outputs) ≡ false = le-ltb 1024 (length r.result.outputs) outs in
      let gates : nat_lt 65536 all ≡ false = le-ltb 65536 all few in
      let last : nat_lt 131072 (r.result.wires + all) || false ≡ nat_lt 131072 (r.result.wires + all) = no_other (nat_lt 131072 (r.result.wires + all)) in
      sym (ap (λ b. (b || nat_lt 131072 (r.result.wires + all)) || (nat_lt 1024 (length r.result.inputs) || nat_lt 1024 (length r.result.outputs))) gates
      ∙ ap₂ (λ x y. nat_lt 131072 (r.result.wires + all) || (x || y)) inputs outputs ∙ last ∙ same_test left r.result.wires all 131072 e)
    where
      no_other : (b : _) → b || false ≡ b
      no_other true = refl
      no_other false = refl

pub outputs_long : (s : DraftKept) (d : Draft) → Keeps s d → length s.outputs.items ≡ length d.outputs
outputs_long s d k = ap length k.outputs ∙ length-map d.outputs (λ (v : Value). length v.bits)

-- the bits of outputs, where there are not too many
pub kept_bits : (s : DraftKept) (d : Draft) → Keeps s d → length d.outputs ≤ 1024 → s.bits.items ≡ all_bits d.outputs
kept_bits s d k l = k.bits ∙ ap all_bits (take_all 1024 d.outputs l)

pub large_of : (s : DraftKept) (p : List Statement) (h : IsDraftOf s p) → has_large_circuit p ≡ is_large (record { result = h.draft; kept = s.gates })
unfolding draft_of
large_of s p h = ap is_large h.made.is

few_outputs : (s : DraftKept) (p : List Statement) (h : IsDraftOf s p) → has_large_circuit p ≡ false → length h.draft.outputs ≤ 1024
few_outputs s p h small = (small_draft (record { result = h.draft; kept = s.gates }) (sym (large_of s p h) ∙ small)).outputs

pub assembled_is : (s : DraftKept) (p : List Statement) (h : IsDraftOf s p) (gates : List DraftGate) (inputs outputs : List ℕ) → has_large_circuit p ≡ false → gates ≡ s.gates.drafted ++ map copy s.bits.items → inputs ≡ s.inputs.items → outputs ≡ s.outputs.items
    → assembled s.wires gates inputs outputs ≡ circuit p
unfolding netlist draft_of
assembled_is s p h gates inputs outputs small e ins outs =
    let d : Draft = h.draft in
    let all : gates ≡ s.gates.drafted ++ map copy (all_bits d.outputs) = e ∙ ap (λ bs. s.gates.drafted ++ map copy bs) (kept_bits s d h.keeps (few_outputs s p h small)) in
    ap₂ (λ w gs. assembled w gs inputs outputs) h.keeps.wires all
    ∙ ap₂ (λ us vs. assembled d.wires (s.gates.drafted ++ map copy (all_bits d.outputs)) us vs) (ins ∙ h.keeps.inputs) (outs ∙ h.keeps.outputs)
    ∙ ap netlist (sym h.made.is)

pub assembled_valid : (s : DraftKept) (p : List Statement) (h : IsDraftOf s p) (gates : List DraftGate) (inputs outputs : List ℕ) → has_large_circuit p ≡ false → gates ≡ s.gates.drafted ++ map copy s.bits.items → inputs ≡ s.inputs.items → outputs ≡ s.outputs.items
    → IsCircuit (assembled s.wires gates inputs outputs)
assembled_valid s p h gates inputs outputs small e ins outs = subst IsCircuit (sym (assembled_is s p h gates inputs outputs small e ins outs)) (circuit_is p (small_draft (draft_of p) small))
