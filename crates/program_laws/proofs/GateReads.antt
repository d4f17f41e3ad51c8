-- What a gate computes hangs on the wires that it reads.
use Rattle.std.proofs.Common.{◌≡◌, ℕ, zero, suc, ◌+◌, ◌%◌, true, false, nat_eq, refl, ap, ap₂}
use Rattle.std.specs.Prelude.{take, [], ◌∷◌}
use Rattle.std.specs.List.{list_any}
use Rattle.std.proofs.lemmas.Bool.{both_ways}
use Rattle.circuit_model.specs.Circuits.{is_product, operate}
use Rattle.circuit_model.specs.Netlists.{arity, read_by, inputs_read}
use Rattle.circuit_model.specs.declared.gate.Gate.{Gate}
use Rattle.circuit_model.specs.declared.gate.Operation.{Operation}
use Rattle.circuit_model.specs.declared.gate.Operation.TheVariants.{Add, Sub, Neg, Mul, Xor, And, Inv, Eq, Eqw}
use Rattle.mpc_ring.specs.Differences.{difference}
use Rattle.secret_sharing.specs.Schemes.{local}
use Rattle.share_world.proofs.Settled.{is_one, is_first, is_second}

local_of : (q : ℕ) (op : Operation) (c i a b x y u v : ℕ) → (list_any (nat_eq u) (inputs_read op (take (arity op) (u ∷ v ∷ []))) ≡ true → a ≡ x) → (list_any (nat_eq v) (inputs_read op (take (arity op) (u ∷ v ∷ []))) ≡ true → b ≡ y) → local q op c i a b ≡ local q op c i x y
local_of q Add c i a b x y u v f g = ap₂ (operate q Add c) (f (is_first u v)) (g (is_second u v))
local_of q Sub c i a b x y u v f g = ap₂ (operate q Sub c) (f (is_first u v)) (g (is_second u v))
local_of q Mul c i a b x y u v f g = ap₂ (operate q Mul c) (f (is_first u v)) (g (is_second u v))
local_of q Xor c i a b x y u v f g = ap₂ (operate q Xor c) (f (is_first u v)) (g (is_second u v))
local_of q And c i a b x y u v f g = ap₂ (operate q And c) (f (is_first u v)) (g (is_second u v))
local_of q Neg c i a b x y u v f g = ap (λ z. difference q 0 z) (f (is_one u u refl))
local_of q Inv c zero a b x y u v f g = ap (λ z. (z + 1) % q) (f (is_one u u refl))
local_of q Inv c (suc i) a b x y u v f g = f (is_one u u refl)
local_of q Eq c zero a b x y u v f g = refl
local_of q Eq c (suc i) a b x y u v f g = refl
local_of q Eqw c i a b x y u v f g = f (is_one u u refl)

pub local_same : (q : ℕ) (g : Gate) (i a b x y : ℕ) → (list_any (nat_eq g.first) (read_by g) ≡ true → a ≡ x) → (list_any (nat_eq g.second) (read_by g) ≡ true → b ≡ y) → local q g.operation g.constant i a b ≡ local q g.operation g.constant i x y
local_same q g i a b x y f h = local_of q g.operation g.constant i a b x y g.first g.second f h

product_of : (op : Operation) (u v : ℕ) → is_product op ≡ true → (list_any (nat_eq u) (inputs_read op (take (arity op) (u ∷ v ∷ []))) ≡ true) × (list_any (nat_eq v) (inputs_read op (take (arity op) (u ∷ v ∷ []))) ≡ true)
product_of Mul u v h = (is_first u v, is_second u v)
product_of And u v h = (is_first u v, is_second u v)
product_of Add u v h = absurd (both_ways false refl h)
product_of Sub u v h = absurd (both_ways false refl h)
product_of Neg u v h = absurd (both_ways false refl h)
product_of Xor u v h = absurd (both_ways false refl h)
product_of Inv u v h = absurd (both_ways false refl h)
product_of Eq u v h = absurd (both_ways false refl h)
product_of Eqw u v h = absurd (both_ways false refl h)

pub product_reads : (g : Gate) → is_product g.operation ≡ true → (list_any (nat_eq g.first) (read_by g) ≡ true) × (list_any (nat_eq g.second) (read_by g) ≡ true)
product_reads g h = product_of g.operation g.first g.second h
