-- The depths of a valid circuit's wires are the one solution of their equations.
use Rattle.std.proofs.Common.{◌≡◌, ℕ, zero, suc, ◌+◌, ◌≤◌, ◌<◌, nat_eq, Bool, true, false, ◌||◌, max, List, [], ◌∷◌, length, refl, ◌∙◌, ap, ap₂, arith, inl, inr}
use Rattle.std.specs.Prelude.{if◌then◌else◌}
use Rattle.std.specs.List.{list_any}
use Rattle.std.proofs.Math.Nat.{le-max_left, le-max_right}
use Rattle.std.proofs.lemmas.Bool.{cond_both, eq-eqb, eqb-true, false≢true, or_cases, or_left}
use Rattle.list_laws.proofs.Tests.{or_true}
use Rattle.circuit_model.specs.declared.gate.Gate.{Gate}
use Rattle.circuit_model.specs.Circuits.{is_product}
use Rattle.circuit_model.specs.Netlists.{Netlist, IsCircuit, gate, read_by}
use Rattle.circuit_model.specs.Equations.{GoesByReads}
use Rattle.circuit_model.proofs.Solutions.{found_alone, found_solves, made_last, read_last}
use Rattle.layer_order.specs.Depths.{AreDepths, depth_made, gate_at, layer, most, product, products_to, wire_depth}

-- ---- the greatest of some wires

-- depths that agree on the wires give the same
pub most_same : (f g : ℕ → ℕ) (vs : List ℕ) → ((w : ℕ) → list_any (nat_eq w) vs ≡ true → f w ≡ g w) → most f vs ≡ most g vs
most_same f g [] h = refl
most_same f g (v ∷ vs) h =
    ap₂ max (h v (or_left (nat_eq v v) (list_any (nat_eq v) vs) (eq-eqb v v refl))) (most_same f g vs (λ w there. h w (ap (λ b. nat_eq w v || b) there ∙ or_true (nat_eq w v))))

pub most_eq : (f g : ℕ → ℕ) (vs : List ℕ) → ((w : ℕ) → f w ≡ g w) → most f vs ≡ most g vs
most_eq f g vs h = most_same f g vs (λ w there. h w)

pub most_at : (f : ℕ → ℕ) (vs : List ℕ) (v : ℕ) → list_any (nat_eq v) vs ≡ true → f v ≤ most f vs
most_at f [] v e = absurd (false≢true e)
most_at f (u ∷ vs) v e = elim (or_cases (nat_eq v u) (list_any (nat_eq v) vs) e) [
  | inl here ↦ let same = ap f (eqb-true v u here) in let left = le-max_left (f u) (most f vs) in omega (arith, same, left)
  | inr rest ↦ let less = most_at f vs v rest in let right = le-max_right (f u) (most f vs) in omega (arith, less, right)
]

pub depth_most : (f : ℕ → ℕ) (n : ℕ) (vs : List ℕ) → ((w : ℕ) → f w ≤ n) → most f vs ≤ n
depth_most f n [] h = omega arith
depth_most f n (v ∷ vs) h = (let rest = depth_most f n vs h in let here = h v in omega (arith, rest, here))

-- ---- the solution

-- the depth that a gate makes goes by the wires that it reads
pub depth_by_reads : GoesByReads depth_made
depth_by_reads g f h same = ap (λ n. n + product g) (most_same f h (read_by g) same)

pub depths_solve : (c : Netlist) → IsCircuit c → AreDepths c (wire_depth c.gates)
depths_solve c v = found_solves depth_made 0 (λ w. 0) (λ w. 0) c v (λ w l. refl) (λ w e. refl) depth_by_reads

pub depths_alone : (c : Netlist) (depths : ℕ → ℕ) → IsCircuit c → AreDepths c depths → (w : ℕ) → depths w ≡ wire_depth c.gates w
depths_alone c depths v s w = found_alone depth_made 0 (λ w. 0) (λ w. 0) c v (λ w l. refl) (λ w e. refl) depth_by_reads depths s w

-- the layer of a gate, by the depths in the end
pub layer_is : (c : Netlist) (t : ℕ) → IsCircuit c → t < length c.gates → most (wire_depth c.gates) (read_by (gate c t)) ≡ layer c.gates t
layer_is c t v l = (let same = read_last depth_made 0 (λ w. 0) (λ w. 0) c v depth_by_reads t l in omega (arith, same))

-- the depth of a wire that a gate sets
pub output_depth : (c : Netlist) (t : ℕ) → IsCircuit c → t < length c.gates → wire_depth c.gates (gate c t).output ≡ layer c.gates t + product (gate c t)
output_depth c t v l = made_last depth_made 0 (λ w. 0) (λ w. 0) c v t l

-- ---- bounds

-- a product counts as one
pub one_most : (b : Bool) → (if b then 1 else 0) ≤ 1
one_most true = omega arith
one_most false = omega arith

-- no wire is deeper than there are gates
pub depth_within : (gates : List Gate) (t w : ℕ) → products_to gates t w ≤ t
depth_within gates zero w = omega arith
depth_within gates (suc t) w =
    let made = depth_most (products_to gates t) t (read_by (gate_at gates t)) (depth_within gates t) in
    let one = one_most (is_product (gate_at gates t).operation) in
    let before = depth_within gates t w in
    cond_both (nat_eq w (gate_at gates t).output) (most (products_to gates t) (read_by (gate_at gates t)) + product (gate_at gates t)) (products_to gates t w) (λ n. n ≤ suc t) (λ e. omega (arith, made, one)) (λ e. omega (arith, before))

pub layer_within : (gates : List Gate) (t : ℕ) → layer gates t ≤ t
layer_within gates t = depth_most (products_to gates t) t (read_by (gate_at gates t)) (depth_within gates t)
