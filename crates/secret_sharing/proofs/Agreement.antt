-- Two runs of the same gates agree on a part of the summands where their deals do.
use Rattle.std.proofs.Common.{◌≡◌, ℕ, zero, suc, ◌*◌, ◌%◌, ◌<◌, true, nat_eq, if◌then◌else◌, sym, ap, ap₂, ◌∙◌, arith}
use Rattle.std.proofs.lemmas.Bool.{cases_Bool, cond-true, cond-false, eqb-true}
use mathlib.Core.Logic.{inl, inr}
use Rattle.circuit_model.specs.Circuits.{is_product}
use Rattle.secret_sharing.specs.Schemes.{Scheme, Run, own_product, has_pair, product_summand, local, gate_summands, summands}
use Rattle.mpc_ring.proofs.Remainders.{Same, same_refl, same_trans, mods_of_same}
use Rattle.list_laws.proofs.Totals.{total_eq}
use Rattle.secret_sharing.proofs.RingTotals.{total_same}

-- x and y have the same summands of this part
abbrev pub AgreeOn : Scheme → (ℕ → Type 0) → (ℕ → ℕ) → (ℕ → ℕ) → Type 0
AgreeOn s part x y = (i : ℕ) → i < s.shares → part i → x i ≡ y i

-- the run r from another start, with another product
abbrev pub other : Run → (ℕ → ℕ → ℕ) → (ℕ → (ℕ → ℕ) → (ℕ → ℕ) → ℕ → ℕ) → Run
other r start product = record { scheme = r.scheme; gates = r.gates; start = start; product = product }

abbrev pub ProductsAgree : Run → (ℕ → ℕ → ℕ) → (ℕ → (ℕ → ℕ) → (ℕ → ℕ) → ℕ → ℕ) → (ℕ → Type 0) → Type 0
ProductsAgree r start product part =
    (t : ℕ) → ((v : ℕ) → AgreeOn r.scheme part (summands (other r start product) t v) (summands r t v)) → is_product (r.gates t).operation ≡ true
    → AgreeOn r.scheme part (product t (summands (other r start product) t (r.gates t).first) (summands (other r start product) t (r.gates t).second)) (r.product t (summands r t (r.gates t).first) (summands r t (r.gates t).second))

-- one gate keeps agreement
pub gate_agrees : (r : Run) (start : ℕ → ℕ → ℕ) (product : ℕ → (ℕ → ℕ) → (ℕ → ℕ) → ℕ → ℕ) (part : ℕ → Type 0) (t : ℕ) → ((v : ℕ) → AgreeOn r.scheme part (summands (other r start product) t v) (summands r t v))
    → (is_product (r.gates t).operation ≡ true → AgreeOn r.scheme part (product t (summands (other r start product) t (r.gates t).first) (summands (other r start product) t (r.gates t).second)) (r.product t (summands r t (r.gates t).first) (summands r t (r.gates t).second)))
    → (v : ℕ) → AgreeOn r.scheme part (summands (other r start product) (suc t) v) (summands r (suc t) v)
gate_agrees r start product part t ih h v i li pi =
    let s = r.scheme in
    let g = r.gates t in
    let o = other r start product in
    let linear : local s.modulus g.operation g.constant i (summands o t g.first i) (summands o t g.second i) ≡ local s.modulus g.operation g.constant i (summands r t g.first i) (summands r t g.second i) = ap₂ (λ x y. local s.modulus g.operation g.constant i x y) (ih g.first i li pi) (ih g.second i li pi) in
    let set : gate_summands o t (summands o t g.first) (summands o t g.second) i ≡ gate_summands r t (summands r t g.first) (summands r t g.second) i = elim (cases_Bool (is_product g.operation)) [
      | inl yes' ↦ cond-true (is_product g.operation) _ _ yes' ∙ h yes' i li pi ∙ sym (cond-true (is_product g.operation) _ _ yes')
      | inr no' ↦ cond-false (is_product g.operation) _ _ no' ∙ linear ∙ sym (cond-false (is_product g.operation) _ _ no')
    ] in
    elim (cases_Bool (nat_eq v g.output)) [
      | inl yes' ↦ ap (λ f. f i) (cond-true (nat_eq v g.output) _ (summands o t v) yes') ∙ set ∙ sym (ap (λ f. f i) (cond-true (nat_eq v g.output) _ (summands r t v) yes'))
      | inr no' ↦ ap (λ f. f i) (cond-false (nat_eq v g.output) _ (summands o t v) no') ∙ ih v i li pi ∙ sym (ap (λ f. f i) (cond-false (nat_eq v g.output) _ (summands r t v) no'))
    ]

-- the first n gates keep agreement
pub gates_agree : (r : Run) (start : ℕ → ℕ → ℕ) (product : ℕ → (ℕ → ℕ) → (ℕ → ℕ) → ℕ → ℕ) (part : ℕ → Type 0) → ((v : ℕ) → AgreeOn r.scheme part (start v) (r.start v)) → (n : ℕ)
    → ((t : ℕ) → t < n → ((v : ℕ) → AgreeOn r.scheme part (summands (other r start product) t v) (summands r t v)) → is_product (r.gates t).operation ≡ true
    → AgreeOn r.scheme part (product t (summands (other r start product) t (r.gates t).first) (summands (other r start product) t (r.gates t).second)) (r.product t (summands r t (r.gates t).first) (summands r t (r.gates t).second)))
    → (v : ℕ) → AgreeOn r.scheme part (summands (other r start product) n v) (summands r n v)
gates_agree r start product part first zero h = first
gates_agree r start product part first (suc n) h =
    let ih : (v : ℕ) → AgreeOn r.scheme part (summands (other r start product) n v) (summands r n v) = gates_agree r start product part first n (λ t l. h t (omega arith)) in
    gate_agrees r start product part n ih (h n (omega arith) ih)

pub runs_agree : (r : Run) (start : ℕ → ℕ → ℕ) (product : ℕ → (ℕ → ℕ) → (ℕ → ℕ) → ℕ → ℕ) (part : ℕ → Type 0) → ((v : ℕ) → AgreeOn r.scheme part (start v) (r.start v)) → ProductsAgree r start product part → (t v : ℕ) → AgreeOn r.scheme part (summands (other r start product) t v) (summands r t v)
runs_agree r start product part first h t = gates_agree r start product part first t (λ t l. h t)

-- a product is the same where the dealers deal the same
pub product_agrees : (s : Scheme) (deal deal' : ℕ → ℕ → ℕ → ℕ) (x y x' y' : ℕ → ℕ) (i : ℕ) → ((p : ℕ) → p < s.parties → has_pair s p ≡ true → deal' p (own_product s p x' y') i ≡ deal p (own_product s p x y) i)
    → product_summand s deal' x' y' i ≡ product_summand s deal x y i
product_agrees s deal deal' x y x' y' i h =
    ap (λ z. z % s.modulus) (total_eq s.parties _ _ (λ p lp. elim (cases_Bool (has_pair s p)) [
      | inl yes' ↦ ap (λ z. if has_pair s p then z else 0) (h p lp yes')
      | inr no' ↦ cond-false (has_pair s p) _ 0 no' ∙ sym (cond-false (has_pair s p) _ 0 no')
    ]))

-- ---- a party's own product

pub own_same : (s : Scheme) (p : ℕ) (x y x' y' : ℕ → ℕ) → ((i j : ℕ) → i < s.shares → j < s.shares → s.duty i j ≡ p → Same s.modulus (x i * y j) (x' i * y' j)) → own_product s p x y ≡ own_product s p x' y'
own_same s p x y x' y' h =
    mods_of_same (total_same s.modulus s.shares _ _ (λ i li. total_same s.modulus s.shares _ _ (λ j lj. elim (cases_Bool (nat_eq (s.duty i j) p)) [
      | inl yes' ↦ same_trans (same_refl s.modulus _ _ (cond-true (nat_eq (s.duty i j) p) (x i * y j) 0 yes')) (same_trans (h i j li lj (eqb-true (s.duty i j) p yes')) (same_refl s.modulus _ _ (sym (cond-true (nat_eq (s.duty i j) p) (x' i * y' j) 0 yes'))))
      | inr no' ↦ same_refl s.modulus _ _ (cond-false (nat_eq (s.duty i j) p) (x i * y j) 0 no' ∙ sym (cond-false (nat_eq (s.duty i j) p) (x' i * y' j) 0 no'))
    ])))
