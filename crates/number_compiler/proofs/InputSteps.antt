-- The wires of inputs, one after the other.
use Rattle.std.proofs.Common.{◌≡◌, ℕ, zero, suc, ◌+◌, ◌-◌, ◌<◌, ◌≤◌, List, [], ◌∷◌, ◌++◌, refl, sym, ◌∙◌, ap, ap₂, arith, append_assoc}
use Rattle.std.proofs.lemmas.List.{append-nil}
use Rattle.number_gates.specs.declared.wire.Wire.TheVariants as wires
use Rattle.number_gates.specs.declared.wire.Bit.{Bit}
use Rattle.number_gates.specs.declared.wire.Bit.TheVariants.{On}
use Rattle.number_circuit.specs.Programs.{widest}
use Rattle.number_compiler.specs.Terms.{fitted}
use Rattle.number_compiler.specs.Circuits.{input_bits}

input_next : (k w : ℕ) → 0 < w → input_bits k w ≡ On (wires.Input k) ∷ input_bits (k + 1) (w - 1)
input_next k zero l = absurd (omega arith)
input_next k (suc w) l = ap (λ n. On (wires.Input k) ∷ input_bits (k + 1) n) (let e : w ≡ suc w - 1 = omega arith in e)

-- a wire more
pub inputs_more : (wire end : ℕ) (whole items next : List Bit) → wire < end → whole ≡ items ++ input_bits wire (end - wire) → next ≡ items ++ (On (wires.Input wire) ∷ []) → whole ≡ next ++ input_bits (wire + 1) (end - (wire + 1))
inputs_more wire end whole items next l before more =
    before ∙ ap (λ us. items ++ us) (input_next wire (end - wire) (omega arith) ∙ ap (λ n. On (wires.Input wire) ∷ input_bits (wire + 1) n) (let e : end - wire - 1 ≡ end - (wire + 1) = omega arith in e))
    ∙ sym (append_assoc items (On (wires.Input wire) ∷ []) (input_bits (wire + 1) (end - (wire + 1)))) ∙ ap (λ us. us ++ input_bits (wire + 1) (end - (wire + 1))) (sym more)

input_none : (k w : ℕ) → w ≡ 0 → input_bits k w ≡ []
input_none k zero e = refl
input_none k (suc w) e = absurd (omega (arith, e))

pub inputs_all : (wire end : ℕ) (whole items : List Bit) → end ≤ wire → whole ≡ items ++ input_bits wire (end - wire) → items ≡ whole
inputs_all wire end whole items l before = sym (before ∙ ap (λ us. items ++ us) (input_none wire (end - wire) (omega arith)) ∙ append-nil items)

-- the value of an input, by its ring and its wires
pub input_made : (bits first end wires w : ℕ) → bits ≡ w → first ≡ wires → end ≡ first + w → fitted (widest bits) (input_bits first (end - first)) ≡ fitted (widest w) (input_bits wires w)
input_made bits first end wires w is from to = ap₂ (λ m xs. fitted (widest m) xs) is (ap₂ input_bits from (let e : end - first ≡ w = omega (arith, to) in e))
