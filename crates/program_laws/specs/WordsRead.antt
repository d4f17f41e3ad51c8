-- The words of a desk's wires that are still to be read.
use Rattle.std.specs.Prelude.{◌≡◌, ◌≢◌, ℕ, ◌+◌, ◌<◌, ◌≤◌, ◌⊎◌, nat_eq, true, List, length, slice_index}
use Rattle.std.specs.List.{list_any}
use Rattle.circuit_model.specs.declared.gate.Gate.{Gate}
use Rattle.secret_sharing.specs.Schemes.{has_pair}
use Rattle.session_slots.specs.Sessions.{Session, Slot, gate, kept_wire, operand, output_wire, mask_wire, product_wire, product_in}
use Rattle.session_slots.specs.Sessions.Slot.{Input, At_gate, Output, Mask, Mask_product, Masked, Kept}
use Rattle.session_slots.specs.KeptWires.{is_read, reads_in}
use Rattle.plan_model.specs.Plans.{Plan, is_holder, holder_of, scheme, session, slot}
use Rattle.program_model.specs.declared.instruction.Instruction.{Instruction}
use Rattle.program_model.specs.declared.instruction.Instruction.TheVariants.{Draw, Deal, Post, Take, Linear, Own, Sum, Open, Join, Deliver}
use Rattle.program_model.specs.Programs.{program, at}
use Rattle.program_model.specs.States.{slot_of, taking_slot}

-- the gate of slot k, or the product of masks that is dealt there
abbrev pub gate_at : Plan → ℕ → ℕ → Gate
gate_at plan s k = product_in (session plan s) (slot plan s k)

-- the wire whose summands are dealt in a slot
abbrev pub Deals : Session → Slot → ℕ → Type 0
Deals s (Input u) v = v ≡ u
Deals s (At_gate t) v = v ≡ (gate s t).output
Deals s (Mask_product t) v = v ≡ product_wire s t
Deals s _ v = ⊥

-- the wire into whose summands the words that are taken in a slot are put
abbrev pub TakesInto : Session → Slot → ℕ → Type 0
TakesInto s (Input u) v = v ≡ u
TakesInto s (Mask t side) v = v ≡ mask_wire s t side
TakesInto s _ v = ⊥

-- slot k reads wire v
abbrev pub Reads : Plan → ℕ → ℕ → ℕ → Type 0
Reads plan s k v = list_any (nat_eq v) (reads_in (session plan s) (slot plan s k)) ≡ true

-- a wire whose summands are in the words of a slot's messages
abbrev pub Carries : Session → Slot → ℕ → Type 0
Carries s (Input u) v = v ≡ u
Carries s (At_gate t) v = v ≡ (gate s t).output
Carries s (Output o) v = v ≡ output_wire s o
Carries s (Mask t side) v = v ≡ mask_wire s t side
Carries s (Mask_product t) v = v ≡ product_wire s t
Carries s (Masked t side) v = (v ≡ operand (gate s t) side) ⊎ (v ≡ mask_wire s t side)
Carries s (Kept j) v = v ≡ kept_wire s j

-- the instruction of party p sets summand i of wire v, or what the party has of it before it takes the rest
abbrev pub SetsSummand : Plan → ℕ → ℕ → Instruction → ℕ → ℕ → Type 0
SetsSummand plan p s (Draw k) v i = TakesInto (session plan s) (slot plan s k) v × (holder_of plan i ≡ p)
SetsSummand plan p s (Deal k d) v i = Deals (session plan s) (slot plan s k) v
SetsSummand plan p s (Take n j) v i = TakesInto (session plan s) (taking_slot plan n) v × (i ≡ j)
SetsSummand plan p s (Linear k) v i = v ≡ (gate_at plan s k).output
SetsSummand plan p s (Sum k) v i = v ≡ (gate_at plan s k).output
SetsSummand plan p s (Join k) v i = v ≡ (gate_at plan s k).output
SetsSummand plan p s _ v i = ⊥

-- the instruction of party p reads summand i of wire v: it posts it, or computes with those that p holds. The sum of a
-- product reads what p dealt, if p did and any slot reads the product.
abbrev pub ReadsSummand : Plan → ℕ → ℕ → Instruction → ℕ → ℕ → Type 0
ReadsSummand plan p s (Post n j) v i = Carries (session plan s) (slot_of plan n) v × (i ≡ j)
ReadsSummand plan p s (Linear k) v i = Reads plan s k v × (is_holder plan p i ≡ true)
ReadsSummand plan p s (Own k) v i = Reads plan s k v × (is_holder plan p i ≡ true)
ReadsSummand plan p s (Sum k) v i =
    (v ≡ (gate_at plan s k).output) × (has_pair (scheme plan) p ≡ true) × (is_read (session plan s) v ≡ true)
    × (is_holder plan p i ≡ true)
ReadsSummand plan p s (Open k) v i = Reads plan s k v × (is_holder plan p i ≡ true)
ReadsSummand plan p s (Join k) v i = Reads plan s k v × (is_holder plan p i ≡ true)
ReadsSummand plan p s (Deliver k) v i = Reads plan s k v × (is_holder plan p i ≡ true)
ReadsSummand plan p s _ v i = ⊥

-- an instruction before position q sets summand i of wire v
abbrev pub IsSet : Plan → ℕ → ℕ → ℕ → ℕ → ℕ → Type 0
IsSet plan p s q v i = (r : ℕ) × (r < q) × SetsSummand plan p s (at (program plan p s) r) v i

-- an instruction from position q on reads it
abbrev pub IsToRead : Plan → ℕ → ℕ → ℕ → ℕ → ℕ → Type 0
IsToRead plan p s q v i = (r : ℕ) × (q ≤ r) × ReadsSummand plan p s (at (program plan p s) r) v i

-- what an instruction of p reads of a wire, an instruction before it sets
abbrev pub ReadsWhatIsSet : Plan → ℕ → ℕ → Type 0
ReadsWhatIsSet plan p s =
    (q v i : ℕ) → i < length plan.groups → ReadsSummand plan p s (at (program plan p s) q) v i → IsSet plan p s q v i

-- while an instruction sets a wire, each other wire that is set and still to be read has another row
abbrev pub KeepsRowsApart : Plan → ℕ → ℕ → List ℕ → Type 0
KeepsRowsApart plan p s rows =
    (q v w i j : ℕ) → SetsSummand plan p s (at (program plan p s) q) w j → IsSet plan p s q v i
    → IsToRead plan p s (q + 1) v i
    → v ≢ w → slice_index rows v ≢ slice_index rows w
