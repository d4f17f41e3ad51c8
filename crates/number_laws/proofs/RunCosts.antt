-- The products among the gates that steps add.
use Rattle.std.proofs.Common.{◌≡◌, ℕ, ◌+◌, ◌≤◌, Bool, true, false, cond, nat_lt, List, [], ◌∷◌, ◌++◌, subst, arith}
use Rattle.number_gates.specs.declared.wire.Wire.TheVariants as wires
use Rattle.number_gates.specs.declared.wire.DraftGate.{DraftGate}
use Rattle.number_gates.specs.Steps.{Steps, done, add, Kept, with_gate, Ran, run, Runs}
use Rattle.number_laws.specs.Costs.{price, HasAtMost, AtMost, products}

products_last : (xs : List DraftGate) (g : DraftGate) → products (xs ++ (g ∷ [])) ≡ products xs + price g
products_last [] g = omega arith
products_last (x ∷ xs) g = omega (arith, products_last xs g)

one_more : (b : Bool) (xs : List DraftGate) (g : DraftGate) → products (cond b (xs ++ (g ∷ [])) xs) ≤ products xs + price g
one_more true xs g = omega (arith, products_last xs g)
one_more false xs g = omega arith

run_few : {A : Type 0} (n : ℕ) (c : Steps A) (k : Kept) → HasAtMost n c → products (run c k).kept.drafted ≤ products k.drafted + n
unfolding run
run_few n (done a) k h = omega arith
run_few n (add g rest) k h =
    omega (arith, run_few h.0 (rest (wires.Gate k.gates)) (with_gate k g) (h.2 (wires.Gate k.gates)), one_more (nat_lt k.gates 65536) k.drafted g, h.1)

pub kept_few : {A : Type 0} (n : ℕ) (c : Steps A) (old : Kept) (result : A) (new : Kept) → AtMost n c → Runs c old result new → products new.drafted ≤ products old.drafted + n
kept_few n c old result new h r = subst (λ (x : Ran _). products x.kept.drafted ≤ products old.drafted + n) r.is (run_few n c old h.few)
