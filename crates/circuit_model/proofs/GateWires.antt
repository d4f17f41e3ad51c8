-- The wires of each gate of a valid circuit.
use Rattle.std.proofs.Common.{◌≡◌, ℕ, ◌<◌, Bool, true, false, ◌&&◌, length, refl, sym, subst, arith, nat_lt, []}
use Rattle.std.proofs.lemmas.Bool.{ltb-true}
use Rattle.std.specs.List.{list_all}
use Rattle.std.specs.Prelude.{take, ◌∷◌}
use Rattle.circuit_model.specs.declared.gate.Operation.{Operation}
use Rattle.circuit_model.specs.declared.gate.Operation.TheVariants.{Add, Sub, Neg, Mul, Xor, And, Inv, Eq, Eqw}
use Rattle.circuit_model.specs.Netlists.{Netlist, IsCircuit, arity, is_constant, inputs_read, gate}

both : (a b : Bool) → (a && (b && true)) ≡ true → (a ≡ true) × (b ≡ true)
both true true e = (refl, refl)
both true false e = cc
both false b e = cc

one : (a : Bool) → (a && true) ≡ true → a ≡ true
one true e = refl
one false e = cc

-- a field that isn't read is 0, which is a wire
reads_below : (o : Operation) (n a b : ℕ) → 0 < n → (arity o ≡ 1 → b ≡ 0) → list_all (λ w. nat_lt w n) (inputs_read o (take (arity o) (a ∷ b ∷ []))) ≡ true → (o ≡ Eq → a ≡ 0) → (a < n) × (b < n)
reads_below Add n a b some z r f = let p = both (nat_lt a n) (nat_lt b n) r in (ltb-true a n p.0, ltb-true b n p.1)
reads_below Sub n a b some z r f = let p = both (nat_lt a n) (nat_lt b n) r in (ltb-true a n p.0, ltb-true b n p.1)
reads_below Mul n a b some z r f = let p = both (nat_lt a n) (nat_lt b n) r in (ltb-true a n p.0, ltb-true b n p.1)
reads_below Xor n a b some z r f = let p = both (nat_lt a n) (nat_lt b n) r in (ltb-true a n p.0, ltb-true b n p.1)
reads_below And n a b some z r f = let p = both (nat_lt a n) (nat_lt b n) r in (ltb-true a n p.0, ltb-true b n p.1)
reads_below Neg n a b some z r f = (ltb-true a n (one (nat_lt a n) r), omega (arith, some, z refl))
reads_below Inv n a b some z r f = (ltb-true a n (one (nat_lt a n) r), omega (arith, some, z refl))
reads_below Eqw n a b some z r f = (ltb-true a n (one (nat_lt a n) r), omega (arith, some, z refl))
reads_below Eq n a b some z r f = (omega (arith, some, f refl), omega (arith, some, z refl))

wires_of : (c : Netlist) (t : ℕ) → IsCircuit c → t < length c.gates → ((gate c t).first < c.wires) × ((gate c t).second < c.wires)
wires_of c t v l =
    let f = v.fits t l in
    let some : 0 < c.wires = omega (arith, f.output) in
    reads_below (gate c t).operation c.wires (gate c t).first (gate c t).second some f.plain.second f.below (λ e. f.plain.first (constant_is (gate c t).operation e))
  where
    constant_is : (o : Operation) → o ≡ Eq → is_constant o ≡ true
    constant_is o e = subst (λ p. is_constant p ≡ true) (sym e) refl

pub first_below : (c : Netlist) (t : ℕ) → IsCircuit c → t < length c.gates → (gate c t).first < c.wires
first_below c t v l = (wires_of c t v l).0

pub second_below : (c : Netlist) (t : ℕ) → IsCircuit c → t < length c.gates → (gate c t).second < c.wires
second_below c t v l = (wires_of c t v l).1

pub output_below : (c : Netlist) (t : ℕ) → IsCircuit c → t < length c.gates → (gate c t).output < c.wires
output_below c t v l = (v.fits t l).output
