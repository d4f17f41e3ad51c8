-- A prepared product: that of x and y from summands a and b of words that no party knows, and c of their product
-- (Beaver 1991). What x has more than a, and what y has more than b, is opened.
use Rattle.std.specs.Prelude.{◌≡◌, ℕ, ◌+◌, ◌*◌, ◌%◌, nat_eq, if◌then◌else◌}
use Rattle.list_laws.specs.Lists.{total}
use Rattle.mpc_ring.specs.Differences.{difference}
use Rattle.secret_sharing.specs.Schemes.{Scheme}

-- summand i of what x has more than its mask a
abbrev pub masked : Scheme → (ℕ → ℕ) → (ℕ → ℕ) → ℕ → ℕ
masked s x a i = difference s.modulus (x i) (a i)

-- the value that these summands add up to
abbrev pub sum_of : Scheme → (ℕ → ℕ) → ℕ
sum_of s x = total s.shares x % s.modulus

-- summand i of the product, where d is what x has more than a, and e what y has more than b: c + d b + e a, and d e
-- once
abbrev pub joined_summand : ℕ → ℕ → ℕ → (ℕ → ℕ) → (ℕ → ℕ) → (ℕ → ℕ) → ℕ → ℕ
joined_summand q d e a b c i = (c i + d * b i + e * a i + (if nat_eq i 0 then d * e else 0)) % q

-- summand i of the product of x and y
abbrev pub prepared_summand : Scheme → (ℕ → ℕ) → (ℕ → ℕ) → (ℕ → ℕ) → (ℕ → ℕ) → (ℕ → ℕ) → ℕ → ℕ
prepared_summand s a b c x y = joined_summand s.modulus (sum_of s (masked s x a)) (sum_of s (masked s y b)) a b c

-- where c adds up to the product of what a and b add up to, the summands of the product add up to that of x and y
abbrev pub PreparedAddUp : Scheme → Type 0
PreparedAddUp s =
    (a b c x y : ℕ → ℕ) → sum_of s c ≡ total s.shares a * total s.shares b % s.modulus
    → sum_of s (prepared_summand s a b c x y) ≡ total s.shares x * total s.shares y % s.modulus
