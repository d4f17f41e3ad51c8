-- The equations of the protocol over the wires of valid circuits, for all sessions at once.
use Rattle.std.specs.Prelude.{◌≡◌, ℕ, ◌%◌, ◌<◌, ◌⊎◌, ◌==◌, not, Bool, true, false, if◌then◌else◌, length}
use Rattle.list_laws.specs.Lists.{total}
use Rattle.circuit_model.specs.declared.gate.Operation.{Operation}
use Rattle.circuit_model.specs.Circuits.{is_product}
use Rattle.circuit_model.specs.Netlists.{arity, is_constant}
use Rattle.secret_sharing.specs.Schemes.{dealt, local, own_product, has_pair}
use Rattle.secret_sharing.specs.Prepared.{prepared_summand}
use Rattle.session_slots.specs.declared.source.Source.TheVariants.{Given, Earlier}
use Rattle.session_slots.specs.Sessions.{owners, source, Session, Slot, gate, is_direct, is_prepared}
use Rattle.session_slots.specs.Sessions.Slot.{Input, At_gate, Mask_product}
use Rattle.session_slots.specs.declared.side.Side.TheVariants.{First, Second}
use Rattle.session_slots.specs.SoundSessions.{Inside}
use Rattle.plan_model.specs.Plans.{Plan, scheme, session, deals_in, CarriesEarlier}
use Rattle.share_world.specs.Worlds.{World, input_of, tape_word, mask, carried_wire, end_summands, plain, deal_of}

-- the operation reads the first wire of its gate
abbrev pub reads_first : Operation → Bool
reads_first o = not (is_constant o)

-- it reads the second
abbrev pub reads_second : Operation → Bool
reads_second o = arity o == 2

-- wire v is an input wire, or the output of one of the first t gates
abbrev pub SetBefore : Session → ℕ → ℕ → Type 0
SetBefore s t v = (v < length (owners s)) ⊎ ((u : ℕ) × (u < t) × ((gate s u).output ≡ v))

-- each gate reads set wires and sets a wire that isn't set
pub record GatesInOrder (s : Session) : Type 0 where
  pub first : (t : ℕ) → t < length s.gates → reads_first (gate s t).operation ≡ true → SetBefore s t (gate s t).first
  pub second : (t : ℕ) → t < length s.gates → reads_second (gate s t).operation ≡ true → SetBefore s t (gate s t).second
  pub output : (t : ℕ) → t < length s.gates → SetBefore s t (gate s t).output → ⊥

-- so in each session of a plan, and each session carries from earlier ones alone
pub record IsOrdered (plan : Plan) : Type 0 where
  pub gates : (s : ℕ) → s < length plan.sessions → GatesInOrder (session plan s)
  pub carried : CarriesEarlier plan

-- summand i of what all parties deal in a slot of products
abbrev pub dealt_sum : Plan → (ℕ → Slot → ℕ → ℕ) → Slot → ℕ → ℕ
dealt_sum plan deal kind i =
    total plan.parties (λ p. if has_pair (scheme plan) p then deal p kind i else 0) % (scheme plan).modulus

-- summands of the wires, by session and wire, and of the deals, by session, party and slot, are in session s as the
-- protocol has them
pub record SummandsSolve (w : World) (s : ℕ) (summand : ℕ → ℕ → ℕ → ℕ) (deal : ℕ → ℕ → Slot → ℕ → ℕ) : Type 0 where
  pub input_deals : (v p i : ℕ) → v < length (owners (session w.plan s)) → source (session w.plan s) v ≡ Given p
      → deal s p (Input v) i ≡ dealt (scheme w.plan) (input_of w s v) (tape_word w s (Input v) p) i
  pub product_deals : (t p i : ℕ) → t < length (session w.plan s).gates → is_direct (session w.plan s) t ≡ true
      → deal s p (At_gate t) i
      ≡ dealt (scheme w.plan) (own_product (scheme w.plan) p (summand s (gate (session w.plan s) t).first)
      (summand s (gate (session w.plan s) t).second)) (tape_word w s (At_gate t) p) i
  pub mask_deals : (t p i : ℕ) → t < length (session w.plan s).gates → is_prepared (session w.plan s) t ≡ true
      → deal s p (Mask_product t) i
      ≡ dealt (scheme w.plan) (own_product (scheme w.plan) p (mask w s t First) (mask w s t Second))
      (tape_word w s (Mask_product t) p) i
  pub given : (v p i : ℕ) → v < length (owners (session w.plan s)) → source (session w.plan s) v ≡ Given p
      → summand s v i ≡ deal s p (Input v) i
  pub carried : (v r c at i : ℕ) → source (session w.plan s) v ≡ Earlier r c at
      → summand s v i ≡ summand r (carried_wire w.plan r c at) i
  pub linear : (t i : ℕ) → t < length (session w.plan s).gates
      → is_product (gate (session w.plan s) t).operation ≡ false
      → summand s (gate (session w.plan s) t).output i
      ≡ local (scheme w.plan).modulus (gate (session w.plan s) t).operation (gate (session w.plan s) t).constant i
      (summand s (gate (session w.plan s) t).first i) (summand s (gate (session w.plan s) t).second i)
  pub products : (t i : ℕ) → t < length (session w.plan s).gates → is_direct (session w.plan s) t ≡ true
      → summand s (gate (session w.plan s) t).output i ≡ dealt_sum w.plan (deal s) (At_gate t) i
  pub prepared : (t i : ℕ) → t < length (session w.plan s).gates → is_prepared (session w.plan s) t ≡ true
      → summand s (gate (session w.plan s) t).output i
      ≡ prepared_summand (scheme w.plan) (mask w s t First) (mask w s t Second)
      (dealt_sum w.plan (deal s) (Mask_product t)) (summand s (gate (session w.plan s) t).first)
      (summand s (gate (session w.plan s) t).second) i
  pub unset : (v i : ℕ) → (SetBefore (session w.plan s) (length (session w.plan s).gates) v → ⊥) → summand s v i ≡ 0

-- they are so in each session
abbrev pub AllSolve : World → (ℕ → ℕ → ℕ → ℕ) → (ℕ → ℕ → Slot → ℕ → ℕ) → Type 0
AllSolve w summand deal = (s : ℕ) → s < length w.plan.sessions → SummandsSolve w s summand deal

-- these summands of the wires and of the deals are in session s the world's
pub record AreSummands (w : World) (s : ℕ) (summand : ℕ → ℕ → ℕ → ℕ) (deal : ℕ → ℕ → Slot → ℕ → ℕ) : Type 0 where
  pub wires : (v i : ℕ) → i < length w.plan.groups → summand s v i ≡ end_summands w s v i
  pub deals : (p : ℕ) (kind : Slot) (i : ℕ) → Inside (session w.plan s) kind → deals_in w.plan s p kind ≡ true
      → deal s p kind i ≡ deal_of w s p kind i

-- the world's summands are the only solution
abbrev pub OnlySolution : World → Type 0
OnlySolution w =
    IsOrdered w.plan → (summand : ℕ → ℕ → ℕ → ℕ) (deal : ℕ → ℕ → Slot → ℕ → ℕ) → AllSolve w summand deal
    → (s : ℕ) → s < length w.plan.sessions → AreSummands w s summand deal

-- and they are a solution
abbrev pub IsSolution : World → Type 0
IsSolution w = IsOrdered w.plan → AllSolve w (end_summands w) (deal_of w)

-- a carried wire has the value of the wire that it carries
abbrev pub CarriedArePlain : World → Type 0
CarriedArePlain w =
    IsOrdered w.plan → (s v r c at : ℕ) → source (session w.plan s) v ≡ Earlier r c at
    → plain w s v ≡ plain w r (carried_wire w.plan r c at)
