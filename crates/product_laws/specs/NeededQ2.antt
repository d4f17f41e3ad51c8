-- Why products need Q2: where two groups are all parties, nobody holds both of their summands.
use Rattle.std.specs.Prelude.{◌≡◌, ℕ, ◌*◌, ◌%◌, ◌^◌, ◌<◌, ◌↔◌, ◌&&◌, nat_eq, Bool, true, false, if◌then◌else◌, length}
use Rattle.list_laws.specs.Lists.{total}
use Rattle.party_set.specs.Parties.{Structure, IsQ2}
use Rattle.share_layout.specs.Layouts.{holds}
use Rattle.q2_test.specs.CoveringPairs.{IsFirstCovering}
use Rattle.secret_sharing.specs.Duties.{duty}

-- no party holds both summands of the first pair of groups that are all parties
abbrev pub NobodyHoldsBoth : Structure → Type 0
NobodyHoldsBoth s =
    (i j : ℕ) → IsFirstCovering s i j
    → (p : ℕ) → p < s.parties → (holds s p i && holds s p j) ≡ false

-- each pair of summands is the duty of a party
abbrev pub EachHasParty : Structure → Type 0
EachHasParty s = (i j : ℕ) → i < length s.groups → j < length s.groups → duty s i j < s.parties

-- that is so exactly where no two groups are all parties
abbrev pub Q2IsDuty : Structure → Type 0
Q2IsDuty s = IsQ2 s ↔ EachHasParty s

-- ---- who multiplies which pairs

-- a party is given only pairs of which it holds both summands
abbrev pub AreOwnPairs : Structure → (ℕ → ℕ → ℕ → Bool) → Type 0
AreOwnPairs s is_given =
    (p i j : ℕ) → p < s.parties → i < length s.groups → j < length s.groups
    → is_given p i j ≡ true → (holds s p i && holds s p j) ≡ true

-- the sum of the products of a party's pairs
abbrev pub pair_products : Structure → (ℕ → ℕ → Bool) → (ℕ → ℕ) → (ℕ → ℕ) → ℕ
pair_products s is_mine x y =
    total (length s.groups) (λ i. total (length s.groups) (λ j. if is_mine i j then x i * y j else 0))

-- each party multiplies pairs that it holds, and together that comes to the product of any two values
pub record MultiplyPairs (bits : ℕ) (s : Structure) (is_given : ℕ → ℕ → ℕ → Bool) : Type 0 where
  pub own : AreOwnPairs s is_given
  pub products : (x y : ℕ → ℕ) → total s.parties (λ p. pair_products s (is_given p) x y) % 2 ^ bits
      ≡ total (length s.groups) x * total (length s.groups) y % 2 ^ bits

-- whoever is given which pairs, that needs Q2
abbrev pub PairsNeedQ2 : Type 0
PairsNeedQ2 =
    (bits : ℕ) (s : Structure) (is_given : ℕ → ℕ → ℕ → Bool)
    → 0 < bits → MultiplyPairs bits s is_given → IsQ2 s

-- and with Q2 there is who multiplies: each pair is given to the party whose duty it is
abbrev pub DutiesMultiply : Type 0
DutiesMultiply =
    (bits : ℕ) (s : Structure) → IsQ2 s → MultiplyPairs bits s (λ p i j. nat_eq (duty s i j) p)

-- ---- whatever the parties do by themselves

-- what party p makes of the summands of two values depends on those alone that it holds
abbrev pub IsLocal : Structure → ℕ → ((ℕ → ℕ) → (ℕ → ℕ) → ℕ) → Type 0
IsLocal s p make =
    (x y a b : ℕ → ℕ)
    → ((i : ℕ) → i < length s.groups → holds s p i ≡ true → (x i ≡ a i) × (y i ≡ b i))
    → make x y ≡ make a b

-- each party makes a number of what it holds, and they add up to the product of any two values
pub record MakeProducts (bits : ℕ) (s : Structure) (make : ℕ → (ℕ → ℕ) → (ℕ → ℕ) → ℕ) : Type 0 where
  pub local : (p : ℕ) → p < s.parties → IsLocal s p (make p)
  pub products : (x y : ℕ → ℕ) → total s.parties (λ p. make p x y) % 2 ^ bits
      ≡ total (length s.groups) x * total (length s.groups) y % 2 ^ bits

-- whatever they make, that needs Q2
abbrev pub ProductsNeedQ2 : Type 0
ProductsNeedQ2 =
    (bits : ℕ) (s : Structure) (make : ℕ → (ℕ → ℕ) → (ℕ → ℕ) → ℕ)
    → 0 < bits → MakeProducts bits s make → IsQ2 s
