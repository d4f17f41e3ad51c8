-- Sums of words in a ring.
use Rattle.std.proofs.Common.{◌≡◌, ℕ, ◌+◌, ◌*◌, ◌%◌, nat_eq, if◌then◌else◌, refl, ap, ◌∙◌, arith}
use Rattle.list_laws.specs.Lists.{total}
use Rattle.mpc_ring.proofs.Remainders.{Same, mods_of_same, same_add, same_mod, same_refl, same_trans}

-- a word of the ring is what it was made of, but for a multiple of the modulus
same_word : (q r n : ℕ) → r ≡ n % q → Same q r n
same_word q r n is = same_trans (same_refl q r (n % q) is) (same_mod q n)

-- three words, added one after another
pub three_added : (q both r : ℕ) (f : ℕ → ℕ) (a b c : ℕ) → a ≡ f 0 → b ≡ f 1 → c ≡ f 2 → both ≡ (a + b) % q → r ≡ (both + c) % q → r ≡ total 3 f % q
three_added q both r f a b c first second third begun done =
    let all : a + b + c ≡ 0 + f 0 + f 1 + f 2 = omega (arith, first, second, third) in
    done ∙ mods_of_same (same_add (same_word q both (a + b) begun) (same_refl q c c refl)) ∙ ap (λ n. n % q) all

-- a summand of a prepared product hangs on those of the masks and their product
pub same_summand : (q d e i a b c x y z : ℕ) → a ≡ x → b ≡ y → c ≡ z → (c + d * b + e * a + (if nat_eq i 0 then d * e else 0)) % q ≡ (z + d * y + e * x + (if nat_eq i 0 then d * e else 0)) % q
same_summand q d e i a b c x y z p q' r j = (r j + d * q' j + e * p j + (if nat_eq i 0 then d * e else 0)) % q
