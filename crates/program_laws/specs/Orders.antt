-- Programs of any order in which a party posts before it takes, and which parties can go on.
use Rattle.std.specs.Prelude.{◌≡◌, ℕ, ◌<◌, ◌≤◌, length, List}
use Rattle.plan_model.specs.Plans.{Plan}
use Rattle.plan_model.specs.Messages.{messages}
use Rattle.plan_model.specs.Numbers.{message}
use Rattle.program_model.specs.declared.instruction.Instruction.{Instruction}
use Rattle.program_model.specs.declared.instruction.Instruction.TheVariants.{Post, Take}
use Rattle.program_model.specs.Programs.{at, post}
use Rattle.program_laws.specs.Once.{IsSameOrLater, take_session, take_slot}

-- message n is there, comes from a party, and is taken in session s, in its own slot or behind the session that it is
-- of
pub record ComesTo (plan : Plan) (s n : ℕ) : Type 0 where
  pub number : n < length (messages plan)
  pub sender : (message plan n).sender < plan.parties
  pub session : take_session plan n ≡ s
  pub order : IsSameOrLater (message plan n).session (message plan n).slot (take_session plan n, take_slot plan n)

-- the instructions of p in session s: what it posts in a slot stands before what it takes in that slot or a later one;
-- each message of the session that it sends is posted; and each that it takes comes to the session
pub record PostsFirst (plan : Plan) (s p : ℕ) (es : List Instruction) : Type 0 where
  pub order : (q r n i m j : ℕ) → at es q ≡ Post n i → at es r ≡ Take m j
      → (message plan n).slot ≤ take_slot plan m → q < r
  pub posts : (n : ℕ) → n < length (messages plan) → (message plan n).session ≡ s → (message plan n).sender ≡ p
      → (q : ℕ) × (q < length es) × (at es q ≡ post plan n)
  pub takes : (r m j : ℕ) → r < length es → at es r ≡ Take m j → ComesTo plan s m

-- ---- where party r has the instructions es s r in session s, and stands at this position

-- all parties are at their end in the sessions before s
abbrev pub EarlierEnded : Plan → (ℕ → ℕ → List Instruction) → (ℕ → ℕ → ℕ) → ℕ → Type 0
EarlierEnded plan es position s = (t r : ℕ) → t < s → r < plan.parties → length (es t r) ≤ position t r

-- the sender of message n is past its post
abbrev pub IsPosted : Plan → (ℕ → ℕ → List Instruction) → (ℕ → ℕ → ℕ) → ℕ → Type 0
IsPosted plan es position n =
    (q : ℕ) × (q < position (message plan n).session (message plan n).sender)
    × (at (es (message plan n).session (message plan n).sender) q ≡ post plan n)

-- p has instructions left in session s, and the next is no take of a message that wasn't posted
abbrev pub CanMove : Plan → (ℕ → ℕ → List Instruction) → (ℕ → ℕ → ℕ) → ℕ → ℕ → Type 0
CanMove plan es position s p =
    (position s p < length (es s p))
    × ((n i : ℕ) → at (es s p) (position s p) ≡ Take n i → IsPosted plan es position n)

-- some party can
abbrev pub SomeCanMove : Plan → (ℕ → ℕ → List Instruction) → (ℕ → ℕ → ℕ) → ℕ → Type 0
SomeCanMove plan es position s = (r : ℕ) × (r < plan.parties) × CanMove plan es position s r
