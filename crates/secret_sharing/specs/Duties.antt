-- Which party multiplies which pair of summands, and the sharing that a structure makes (Maurer 2006).
use Rattle.std.specs.Prelude.{ℕ, ◌^◌, ◌&&◌, length}
use Rattle.party_set.specs.Parties.{Structure}
use Rattle.share_layout.specs.Layouts.{holds, least_party}
use Rattle.secret_sharing.specs.Schemes.{Scheme}

-- the least party that holds summands i and j
abbrev pub duty : Structure → ℕ → ℕ → ℕ
duty s i j = least_party s (λ p. holds s p i && holds s p j)

-- the sharing that a structure makes, in the ring of `bits` bits
abbrev pub scheme_of : ℕ → Structure → Scheme
scheme_of bits s =
    record { modulus = 2 ^ bits; parties = s.parties; shares = length s.groups; holds = holds s; duty = duty s }
