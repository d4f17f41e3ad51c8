-- Maurer's protocol over replicated additive shares, as one system of equations.
use Rattle.std.specs.Prelude.{◌≡◌, ℕ, zero, suc, ◌+◌, ◌-◌, ◌*◌, ◌%◌, ◌<◌, Bool, true, nat_eq, nat_lt, if◌then◌else◌}
use Rattle.list_laws.specs.Lists.{total, some_below}
use Rattle.mpc_ring.specs.Differences.{difference}
use Rattle.circuit_model.specs.declared.gate.Operation.{Operation}
use Rattle.circuit_model.specs.declared.gate.Gate.{Gate}
use Rattle.circuit_model.specs.Circuits.{is_product, operate, set_at, values}
use Rattle.circuit_model.specs.declared.gate.Operation.TheVariants.{Inv, Eq}

-- who holds what, and who multiplies what
pub record Scheme : Type 0 where
  pub modulus : ℕ
  pub parties : ℕ
  pub shares : ℕ  -- the summands of a value
  pub holds : ℕ → ℕ → Bool  -- party, summand
  pub duty : ℕ → ℕ → ℕ  -- the party that multiplies summand i of one wire by summand j of another

-- summand i of the value v, dealt with these words: the words, and last what is missing to v
abbrev pub dealt : Scheme → ℕ → (ℕ → ℕ) → ℕ → ℕ
dealt s v words i = if nat_lt (suc i) s.shares then words i else difference s.modulus v (total (s.shares - 1) words)

-- the sum of the products that are party p's duty
abbrev pub own_product : Scheme → ℕ → (ℕ → ℕ) → (ℕ → ℕ) → ℕ
own_product s p x y =
    total s.shares (λ i. total s.shares (λ j. if nat_eq (s.duty i j) p then x i * y j else 0)) % s.modulus

-- some pair of summands is party p's duty
abbrev pub has_pair : Scheme → ℕ → Bool
has_pair s p = some_below s.shares (λ i. some_below s.shares (λ j. nat_eq (s.duty i j) p))

-- summand i of the product of x and y, where party p deals the value v as deal p v
abbrev pub product_summand : Scheme → (ℕ → ℕ → ℕ → ℕ) → (ℕ → ℕ) → (ℕ → ℕ) → ℕ → ℕ
product_summand s deal x y i =
    total s.parties (λ p. if has_pair s p then deal p (own_product s p x y) i else 0) % s.modulus

-- what a linear operation makes of summand i of its wires: a constant stands in summand 0
abbrev pub local : ℕ → Operation → ℕ → ℕ → ℕ → ℕ → ℕ
local q Inv c zero a b = (a + 1) % q
local q Inv c (suc i) a b = a
local q Eq c zero a b = c % q
local q Eq c (suc i) a b = 0
local q op c i a b = operate q op c a b

-- what the gates are run on
pub record Run : Type 0 where
  pub scheme : Scheme
  pub gates : ℕ → Gate
  pub start : ℕ → ℕ → ℕ  -- wire: its summands before the first gate
  pub product : ℕ → (ℕ → ℕ) → (ℕ → ℕ) → ℕ → ℕ  -- gate, summands x, summands y: the summands of their product

-- the summands that a gate sets, from those of its wires
abbrev pub gate_summands : Run → ℕ → (ℕ → ℕ) → (ℕ → ℕ) → ℕ → ℕ
gate_summands r t x y i =
    if is_product (r.gates t).operation then r.product t x y i
    else local r.scheme.modulus (r.gates t).operation (r.gates t).constant i (x i) (y i)

-- summand i of wire v after the first t gates
abbrev pub summands : Run → ℕ → ℕ → ℕ → ℕ
summands r zero = r.start
summands r (suc t) =
    set_at (summands r t) (r.gates t).output
    (gate_summands r t (summands r t (r.gates t).first) (summands r t (r.gates t).second))

-- what party p multiplies at gate t
abbrev pub own_value : Run → ℕ → ℕ → ℕ
own_value r t p = own_product r.scheme p (summands r t (r.gates t).first) (summands r t (r.gates t).second)

-- ---- the law

-- there are summands, and each pair of them is the duty of a party that holds both
pub record IsScheme (s : Scheme) : Type 0 where
  pub modulus : 1 < s.modulus
  pub shares : 0 < s.shares
  pub duty : (i j : ℕ) → i < s.shares → j < s.shares → s.duty i j < s.parties
  pub first : (i j : ℕ) → i < s.shares → j < s.shares → s.holds (s.duty i j) i ≡ true
  pub second : (i j : ℕ) → i < s.shares → j < s.shares → s.holds (s.duty i j) j ≡ true

-- the summands of each wire add up to its value
abbrev pub AddUp : Scheme → (ℕ → ℕ → ℕ) → (ℕ → ℕ) → Type 0
AddUp s x value = (v : ℕ) → total s.shares (x v) % s.modulus ≡ value v

-- the summands of a product add up to it
pub record IsRun (r : Run) : Type 0 where
  pub scheme : IsScheme r.scheme
  pub products : (t : ℕ) (x y : ℕ → ℕ) → total r.scheme.shares (r.product t x y) % r.scheme.modulus
      ≡ total r.scheme.shares x * total r.scheme.shares y % r.scheme.modulus

-- the summands that are dealt of a value add up to it
abbrev pub DealtAddUp : Scheme → Type 0
DealtAddUp s = (v : ℕ) (words : ℕ → ℕ) → total s.shares (dealt s v words) % s.modulus ≡ v % s.modulus

-- where the summands of each wire add up to its value before the first gate, they do after each gate
abbrev pub SumIsPlain : Run → (ℕ → ℕ) → Type 0
SumIsPlain r v =
    AddUp r.scheme r.start v → (t : ℕ) → AddUp r.scheme (summands r t) (values r.scheme.modulus r.gates v t)
