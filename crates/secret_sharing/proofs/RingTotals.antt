-- Sums with the same remainder, and the step of a loop that adds in a ring.
use Rattle.std.proofs.Common.{◌≡◌, ℕ, zero, suc, ◌+◌, ◌%◌, ◌<◌, refl, ap, ◌∙◌, arith}
use Rattle.std.proofs.Math.Nat.{mod-add-mod}
use Rattle.list_laws.specs.Lists.{total}
use Rattle.list_laws.proofs.Totals.{total_more}
use Rattle.mpc_ring.proofs.Remainders.{Same, same_refl, same_add}

pub total_same : (q n : ℕ) (f g : ℕ → ℕ) → ((i : ℕ) → i < n → Same q (f i) (g i)) → Same q (total n f) (total n g)
total_same q zero f g h = same_refl q 0 0 refl
total_same q (suc n) f g h = same_add (total_same q n f g (λ i l. h i (omega arith))) (h n (omega arith))

pub total_step : (q n : ℕ) (f : ℕ → ℕ) (s b : ℕ) → s ≡ total n f % q → b ≡ f n → (s + b) % q ≡ total (n + 1) f % q
total_step q n f s b e here =
    let more : total n f + b ≡ total (n + 1) f = omega (arith, total_more n f, here) in
    ap (λ z. (z + b) % q) e ∙ mod-add-mod (total n f) q b ∙ ap (λ z. z % q) more
