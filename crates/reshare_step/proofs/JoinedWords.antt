-- A sum of words that is kept in a larger ring.
use Rattle.std.proofs.Common.{◌≡◌, ℕ, ◌+◌, ◌-◌, ◌%◌, ◌^◌, ◌≤◌, refl, ap, ◌∙◌, arith}
use Rattle.std.proofs.Math.Pow.{mod-mod-pow}
use Rattle.mpc_ring.proofs.Remainders.{Same, same_refl, same_trans, same_add, same_mod, same_of_mods, mods_of_same}

-- the sum of four words, of which products are kept in the ring of so many bits, is theirs in each smaller ring
pub joined_is : (large bits : ℕ) → bits ≤ large → (c db ea both de : ℕ) → both % 2 ^ large ≡ de % 2 ^ large
    → (((c + db % 2 ^ large) % 2 ^ large + ea % 2 ^ large) % 2 ^ large + both) % 2 ^ large % 2 ^ bits ≡ (c + db + ea + de) % 2 ^ bits
joined_is large bits le c db ea both de same =
    let q : ℕ = 2 ^ large in
    let first : Same q ((c + db % q) % q) (c + db) = same_trans (same_mod q (c + db % q)) (same_add (same_refl q c c refl) (same_mod q db)) in
    let second : Same q (((c + db % q) % q + ea % q) % q) (c + db + ea) = same_trans (same_mod q ((c + db % q) % q + ea % q)) (same_add first (same_mod q ea)) in
    let all : (((c + db % q) % q + ea % q) % q + both) % q ≡ (c + db + ea + de) % q = mods_of_same (same_add second (same_of_mods same)) in
    let more : large ≡ (large - bits) + bits = omega arith in
    ap (λ n. n % 2 ^ bits) all ∙ ap (λ n. (c + db + ea + de) % 2 ^ n % 2 ^ bits) more ∙ mod-mod-pow (c + db + ea + de) (large - bits) bits
