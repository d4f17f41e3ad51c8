-- The words along the gates.
use Rattle.std.proofs.Common.{◌≡◌, ℕ, suc, ◌-◌, ◌^◌, ◌<◌, List, ◌++◌, inl, inr, length, set, replicate, sym, ◌∙◌, ap, subst, arith, nat_lt, pow_pos, get_or-set_other, get_or-set_same}
use Rattle.std.specs.Prelude.{slice_index, All}
use Rattle.std.proofs.Math.ListN.{get_or-append, get_or-eq_default}
use Rattle.std.proofs.Math.Seq.{get_or-append_right}
use Rattle.std.proofs.lemmas.List.{get_or-replicate, length-replicate}
use Rattle.std.proofs.lemmas.Bool.{cases_eq, cases_lt, cond-true, cond-false, lt-ltb, le-ltb}
use Rattle.circuit_model.specs.Netlists.{Netlist, gate, before_gates, input_wires}
use Rattle.circuit_model.specs.Circuits.{operate, values}
use Rattle.circuit_model.proofs.SetAt.{set_here, set_there}

zeros : (m k : ℕ) → slice_index (replicate m 0) k ≡ 0
zeros m k = elim (cases_lt k m) [
  | inl less ↦ get_or-replicate m k 0 0 less
  | inr past ↦ get_or-eq_default (replicate m 0) 0 (omega (arith, past, length-replicate {A = ℕ} m 0))
]

-- the words before the first gate
pub words_given : (c : Netlist) (inputs : List ℕ) (m w : ℕ) → length inputs ≡ input_wires c → slice_index (inputs ++ replicate m 0) w ≡ before_gates c (slice_index inputs) w
words_given c inputs m w long = elim (cases_lt w (length inputs)) [
  | inl less ↦ get_or-append inputs (replicate m 0) 0 w less ∙ sym (cond-true (nat_lt w (input_wires c)) (slice_index inputs w) 0 (lt-ltb w (input_wires c) (omega (arith, less, long))))
  | inr past ↦ get_or-append_right inputs (replicate m 0) w 0 past ∙ zeros m (w - length inputs) ∙ sym (cond-false (nat_lt w (input_wires c)) (slice_index inputs w) 0 (le-ltb w (input_wires c) (omega (arith, past, long))))
]

pub given_below : (c : Netlist) (bits : ℕ) (inputs : List ℕ) (w : ℕ) → length inputs ≡ input_wires c → All (λ word. word < 2 ^ bits) inputs → before_gates c (slice_index inputs) w < 2 ^ bits
given_below c bits inputs w long all = elim (cases_lt w (length inputs)) [
  | inl less ↦ subst (λ (n : ℕ). n < 2 ^ bits) (sym (cond-true (nat_lt w (input_wires c)) (slice_index inputs w) 0 (lt-ltb w (input_wires c) (omega (arith, less, long))))) (all w 0 less)
  | inr past ↦ subst (λ (n : ℕ). n < 2 ^ bits) (sym (cond-false (nat_lt w (input_wires c)) (slice_index inputs w) 0 (le-ltb w (input_wires c) (omega (arith, past, long))))) (pow_pos bits)
]

-- one gate's word set, and the others left
pub words_next : (c : Netlist) (q t word : ℕ) (start : ℕ → ℕ) (xs : List ℕ) → (gate c t).output < length xs → ((w : ℕ) → slice_index xs w ≡ values q (gate c) start t w)
    → word ≡ operate q (gate c t).operation (gate c t).constant (slice_index xs (gate c t).first) (slice_index xs (gate c t).second)
    → (w : ℕ) → slice_index (set xs (gate c t).output word) w ≡ values q (gate c) start (suc t) w
words_next c q t word start xs l h e w =
    let is : word ≡ operate q (gate c t).operation (gate c t).constant (values q (gate c) start t (gate c t).first) (values q (gate c) start t (gate c t).second) =
    e ∙ ap (λ a. operate q (gate c t).operation (gate c t).constant a (slice_index xs (gate c t).second)) (h (gate c t).first)
    ∙ ap (λ b. operate q (gate c t).operation (gate c t).constant (values q (gate c) start t (gate c t).first) b) (h (gate c t).second) in
    elim (cases_eq w (gate c t).output) [
      | inl same ↦ ap (λ k. slice_index (set xs (gate c t).output word) k) same ∙ get_or-set_same xs (gate c t).output word 0 l ∙ is ∙ sym (set_here (values q (gate c) start t) (gate c t).output w _ same)
      | inr other ↦ get_or-set_other xs (gate c t).output w word 0 other ∙ h w ∙ sym (set_there (values q (gate c) start t) (gate c t).output w _ other)
    ]

pub below_next : (q i word : ℕ) (xs : List ℕ) → i < length xs → word < q → ((w : ℕ) → slice_index xs w < q) → (w : ℕ) → slice_index (set xs i word) w < q
below_next q i word xs l small h w = elim (cases_eq w i) [
  | inl same ↦ subst (λ (n : ℕ). n < q) (sym (ap (λ k. slice_index (set xs i word) k) same ∙ get_or-set_same xs i word 0 l)) small
  | inr other ↦ subst (λ (n : ℕ). n < q) (sym (get_or-set_other xs i w word 0 other)) (h w)
]
