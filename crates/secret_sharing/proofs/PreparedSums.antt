-- A prepared product adds up to the product.
use Rattle.std.proofs.Common.{◌≡◌, ℕ, zero, suc, ◌+◌, ◌*◌, ◌<◌, nat_eq, if◌then◌else◌, refl, sym, ap, ◌∙◌, arith}
use Rattle.std.proofs.lemmas.Bool.{cond-false, ne_eqb}
use Rattle.list_laws.specs.Lists.{total}
use Rattle.mpc_ring.proofs.Remainders.{Same, same_refl, same_add, same_trans, same_mul, same_mod, same_difference, mods_of_same, same_of_mods}
use Rattle.list_laws.proofs.Totals.{total_add, total_mul_left, total_eq, total_pick}
use Rattle.secret_sharing.proofs.RingTotals.{total_same}
use Rattle.secret_sharing.specs.Schemes.{Scheme, IsScheme}
use Rattle.secret_sharing.specs.Prepared.{masked, sum_of, prepared_summand, PreparedAddUp}
use Rattle.secret_sharing.proofs.SummandSums.{difference_sum}

-- what is opened is what x has more than a
pub masked_sum : (s : Scheme) → IsScheme s → (x a : ℕ → ℕ)
    → Same s.modulus (sum_of s (masked s x a) + total s.shares a) (total s.shares x)
masked_sum s h x a =
    let q = s.modulus in
    let positive : 0 < q = omega (arith, h.modulus) in
    same_trans (same_add (same_trans (same_mod q (total s.shares (masked s x a))) (difference_sum q s.shares x a positive))
    (same_refl q (total s.shares a) _ refl))
    (same_difference q (total s.shares x) (total s.shares a) positive)

pub prepared_sum : (s : Scheme) → IsScheme s → PreparedAddUp s
prepared_sum s h a b c x y ab =
    let q = s.modulus in
    let m = s.shares in
    let d = sum_of s (masked s x a) in
    let e = sum_of s (masked s y b) in
    let first : ℕ → ℕ = λ i. if nat_eq i 0 then d * e else 0 in
    let drop_mod : Same q (total m (prepared_summand s a b c x y)) (total m (λ i. c i + d * b i + e * a i + first i)) =
    total_same q m _ _ (λ i l. same_mod q (c i + d * b i + e * a i + first i)) in
    let apart : total m (λ i. c i + d * b i + e * a i + first i)
    ≡ total m c + d * total m b + e * total m a + total m first =
    total_add m (λ i. c i + d * b i + e * a i) first
    ∙ ap (λ z. z + total m first) (total_add m (λ i. c i + d * b i) (λ i. e * a i)
    ∙ ap (λ z. z + total m (λ i. e * a i)) (total_add m c (λ i. d * b i)))
    ∙ omega (arith, total_mul_left m d b, total_mul_left m e a) in
    let once : total m first ≡ d * e = first_alone m (d * e) h.shares in
    mods_of_same (same_trans drop_mod
    (same_trans (same_refl q _ (total m c + (d * total m b + e * total m a + d * e)) (omega (arith, apart, once)))
    (same_trans (same_add (same_of_mods ab) (same_refl q (d * total m b + e * total m a + d * e) _ refl))
    (same_trans (same_refl q _ ((d + total m a) * (e + total m b)) (omega arith))
    (same_mul (masked_sum s h x a) (masked_sum s h y b))))))
  where
    turned : (v i : ℕ) → (if nat_eq i 0 then v else 0) ≡ (if nat_eq 0 i then v else 0)
    turned v zero = refl
    turned v (suc i) = cond-false (nat_eq (suc i) 0) v 0 (ne_eqb (suc i) 0 (λ e. absurd (omega (arith, e))))
        ∙ sym (cond-false (nat_eq 0 (suc i)) v 0 (ne_eqb 0 (suc i) (λ e. absurd (omega (arith, e)))))

    first_alone : (m v : ℕ) → 0 < m → total m (λ i. if nat_eq i 0 then v else 0) ≡ v
    first_alone m v l = total_eq m _ _ (λ i li. turned v i) ∙ total_pick m 0 v l
