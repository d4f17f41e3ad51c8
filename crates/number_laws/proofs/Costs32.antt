-- What gates of numbers cost, for two numbers of at most 32 bits.
use Rattle.std.proofs.Common.{ℕ, ◌+◌, ◌*◌, ◌≤◌, List, length, max, refl, arith}
use Rattle.std.proofs.Math.Nat.{mul-le-mul_right}
use Rattle.number_gates.specs.declared.wire.Wire.{Wire}
use Rattle.number_gates.specs.declared.wire.Bit.{Bit}
use Rattle.number_gates.specs.Steps.{Steps, done, add}
use Rattle.number_gates.specs.Quotients.{Divided}
use Rattle.number_laws.specs.Costs.{HasAtMost, AtMost}
use Rattle.number_laws.specs.Depths.{AreWithin}
use Rattle.number_laws.specs.Laws.{AreFew, AreShallow, Cost32}
use Rattle.number_laws.proofs.Making.{makes_so}
use Rattle.number_laws.proofs.CostLaws.{few_are, shallow_are, within_more}

few_more : {A : Type 0} (m n : ℕ) (c : Steps A) → m ≤ n → HasAtMost m c → HasAtMost n c
few_more m n (done a) l h = tt
few_more m n (add g rest) l h = (h.0, omega (arith, l, h.1), h.2)

at_most_more : {A : Type 0} {m n : ℕ} {c : Steps A} → m ≤ n → AtMost m c → AtMost n c
at_most_more {m = m} {n = n} {c = c} l h = record { few = few_more m n c l h.few }

-- a product of two numbers up to 32
times : (m n : ℕ) → m ≤ 32 → n ≤ 32 → m * n ≤ 1024
times m n l s = omega (arith, mul-le-mul_right {m = m} {n = 32} n l)

pub costs_32 : (depth : Wire → ℕ) (a b : List Bit) → length a ≤ 32 → length b ≤ 32 → AreWithin depth 0 a → AreWithin depth 0 b → Cost32 depth a b
costs_32 depth a b la lb ha hb =
    let m : ℕ = length a in
    let n : ℕ = length b in
    let w : ℕ = max m n in
    let lw : w ≤ 32 = omega arith in
    let few : AreFew a b w 5 = few_are a b w 5 refl lw in
    let deep : AreShallow depth a b 0 5 = shallow_are depth a b 0 w 5 refl lw ha hb in
    let steps : m * 6 ≤ 192 = omega arith in
    record {
      equal = (at_most_more (omega arith) few.equal, deep.equal);
      less = (at_most_more (omega arith) few.less, deep.less);
      some = (at_most_more (omega arith) few.some, deep.some);
      choose = λ which o. (at_most_more lw (few.choose which), deep.choose which o);
      sum = (at_most_more (omega arith) few.sum, deep.sum);
      difference = (at_most_more (omega arith) few.difference, deep.difference);
      product = (at_most_more (omega (arith, times m n la lb)) few.product, deep.product);
      divided = (
        at_most_more (omega (arith, times m w la lw)) few.divided,
        makes_so (λ (t : Divided). AreWithin depth 193 t.quotient × AreWithin depth 193 t.rest) deep.divided (λ t h. (within_more depth (0 + m * 6 + 1) 193 t.quotient (omega arith) h.0, within_more depth (0 + m * 6 + 1) 193 t.rest (omega arith) h.1)),
      );
    }
