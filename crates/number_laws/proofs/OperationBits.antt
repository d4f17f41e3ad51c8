-- The operations of a circuit over words of one bit.
use Rattle.std.proofs.Common.{◌≡◌, ℕ, zero, suc, ◌%◌, ◌<◌, Bool, true, false, nat_eq, refl, arith}
use Rattle.circuit_model.specs.Circuits.{operate}
use Rattle.circuit_model.specs.declared.gate.Operation.{Operation}
use Rattle.circuit_model.specs.declared.gate.Operation.TheVariants.{Add, Sub, Neg, Mul, Xor, And, Inv, Eq, Eqw}
use Rattle.binary_numbers.specs.Numbers.{worth}
use Rattle.number_laws.specs.Values.{of_bits}

constant_bit : (m : ℕ) → m < 2 → m ≡ worth (nat_eq m 1)
constant_bit zero l = refl
constant_bit (suc zero) l = refl
constant_bit (suc (suc m)) l = absurd (omega arith)

pub operate_bits : (o : Operation) (c : ℕ) (x y : Bool) → operate 2 o c (worth x) (worth y) ≡ worth (of_bits o c x y)
operate_bits Add c true true = refl
operate_bits Add c true false = refl
operate_bits Add c false true = refl
operate_bits Add c false false = refl
operate_bits Sub c true true = refl
operate_bits Sub c true false = refl
operate_bits Sub c false true = refl
operate_bits Sub c false false = refl
operate_bits Neg c true y = refl
operate_bits Neg c false y = refl
operate_bits Mul c true true = refl
operate_bits Mul c true false = refl
operate_bits Mul c false true = refl
operate_bits Mul c false false = refl
operate_bits Xor c true true = refl
operate_bits Xor c true false = refl
operate_bits Xor c false true = refl
operate_bits Xor c false false = refl
operate_bits And c true true = refl
operate_bits And c true false = refl
operate_bits And c false true = refl
operate_bits And c false false = refl
operate_bits Inv c true y = refl
operate_bits Inv c false y = refl
operate_bits Eq c x y = constant_bit (c % 2) (omega arith)
operate_bits Eqw c x y = refl
