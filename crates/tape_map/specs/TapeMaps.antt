-- The change of tapes that hides other inputs from a group: it makes a second world, in which the
-- group sees what it saw.
use Rattle.std.specs.Prelude.{ℕ, ◌+◌, ◌%◌, ◌^◌, Bool, false, nat_eq, if◌then◌else◌, List, [], length, slice_index_or}
use Rattle.std.specs.List.{position_or_len}
use Rattle.list_laws.specs.Lists.{joined, listed}
use Rattle.mpc_ring.specs.Differences.{difference}
use Rattle.secret_sharing.specs.Schemes.{own_product, summands}
use Rattle.party_set.specs.Parties.{has_party, within}
use Rattle.session_slots.specs.declared.source.Source.{Source}
use Rattle.session_slots.specs.declared.source.Source.TheVariants.{Given, Earlier}
use Rattle.session_slots.specs.Sessions.{Slot, gate, operand}
use Rattle.session_slots.specs.Sessions.Slot.{Input, At_gate, Mask, Mask_product}
use Rattle.session_slots.specs.declared.side.Side.{Side}
use Rattle.session_slots.specs.declared.side.Side.TheVariants.{First, Second}
use Rattle.plan_model.specs.Plans.{Plan, scheme, session, slot, slots, words_in, holder_of, least_held}
use Rattle.share_world.specs.Worlds.{World, input_of, tape_word, value_before, mask, dealt_value, run_of}
use Rattle.plan_model.specs.InputWords.{InputLists}

-- ---- the worlds of one plan

-- this world, but with other inputs
abbrev pub with_inputs : World → InputLists → World
with_inputs w other = record { plan = w.plan; inputs = other; tapes = w.tapes }

-- this world, but with other tapes
abbrev pub with_tapes : World → List (List ℕ) → World
with_tapes w tapes = record { plan = w.plan; inputs = w.inputs; tapes = tapes }

-- the tape of party p
abbrev pub tape_of : World → ℕ → List ℕ
tape_of w p = slice_index_or w.tapes p []

-- by how much the value of wire v of session s before gate t grows with the other inputs, of this session and of those
-- that it carries from
abbrev pub delta : World → InputLists → ℕ → ℕ → ℕ → ℕ
delta w other s t v =
    difference (2 ^ w.plan.bits) (value_before (with_inputs w other) s t v) (value_before w s t v)

-- a member of the group gives the wire; nobody gives one that is carried
abbrev pub member_gives : ℕ → Source → Bool
member_gives group (Given p) = has_party group p
member_gives group (Earlier r c i) = false

-- ---- what is to change

-- the first maximal group that has all parties of this one: no member holds its summand
abbrev pub hidden : Plan → ℕ → ℕ
hidden plan group = position_or_len (within plan.parties group) plan.groups

-- the numbers x, but with d more at place g, modulo q
abbrev pub raised : ℕ → ℕ → ℕ → (ℕ → ℕ) → ℕ → ℕ
raised q g d x i = if nat_eq i g then (x i + d) % q else x i

-- the summands of wire v before gate t, where the hidden one grows as the value does
abbrev pub moved_summands : World → InputLists → ℕ → ℕ → ℕ → ℕ → ℕ → ℕ
moved_summands w other group s t v =
    raised (2 ^ w.plan.bits) (hidden w.plan group) (delta w other s t v) (summands (run_of w s) t v)

-- the mask of the wire that gate t reads on this side, where the hidden summand grows as the wire's value does
abbrev pub moved_mask : World → InputLists → ℕ → ℕ → ℕ → Side → ℕ → ℕ
moved_mask w other group s t side =
    raised (2 ^ w.plan.bits) (hidden w.plan group) (delta w other s t (operand (gate (session w.plan s) t) side))
    (mask w s t side)

-- what party p is to deal in a slot: its other input, or its own product of the moved summands, or of the moved masks
abbrev pub moved_value : World → InputLists → ℕ → ℕ → ℕ → Slot → ℕ
moved_value w other group s p (Input v) = input_of (with_inputs w other) s v
moved_value w other group s p (At_gate t) =
    let moved = moved_summands w other group s t in
    let wires = gate (session w.plan s) t in
    own_product (scheme w.plan) p (moved wires.first) (moved wires.second)
moved_value w other group s p (Mask_product t) =
    own_product (scheme w.plan) p (moved_mask w other group s t First) (moved_mask w other group s t Second)
moved_value w other group s p _ = 0

-- ---- the change

-- which of the words that p draws in a slot is the hidden summand's: that of its number in a deal, and in a mask the
-- one that p draws for it, if p is its least holder, and else none; no word is drawn of what is carried or kept
abbrev pub hidden_word : Plan → ℕ → ℕ → Slot → ℕ
hidden_word plan group p (Mask t side) =
    let g = hidden plan group in
    least_held plan p (if nat_eq (holder_of plan g) p then g else length plan.groups)
hidden_word plan group p _ = hidden plan group

-- by how much that word grows: in a mask as the masked wire's value does, in a deal as the value that p deals
abbrev pub growth : World → InputLists → ℕ → ℕ → ℕ → Slot → ℕ
growth w other group s p (Mask t side) = delta w other s t (operand (gate (session w.plan s) t) side)
growth w other group s p kind =
    difference (2 ^ w.plan.bits) (moved_value w other group s p kind) (dealt_value w s p kind)

-- the words that party p draws in a slot of session s: a member's stay, and of any other party's the hidden one grows
abbrev pub moved_words : World → InputLists → ℕ → ℕ → Slot → ℕ → ℕ → ℕ
moved_words w other group s kind p =
    if has_party group p then tape_word w s kind p
    else raised (2 ^ w.plan.bits) (hidden_word w.plan group p kind) (growth w other group s p kind)
    (tape_word w s kind p)

-- party p's piece of tape for session s, changed, slot by slot
abbrev pub piece_map : World → InputLists → ℕ → ℕ → ℕ → List ℕ
piece_map w other group p s =
    joined (slots w.plan s) (λ k.
    listed (words_in w.plan s p (slot w.plan s k)) (moved_words w other group s (slot w.plan s k) p))

-- party p's tape, changed, session by session
abbrev pub tape_map : World → InputLists → ℕ → ℕ → List ℕ
tape_map w other group p = joined (length w.plan.sessions) (piece_map w other group p)

-- the tapes of all parties, changed
abbrev pub changed_tapes : World → InputLists → ℕ → List (List ℕ)
changed_tapes w other group = listed w.plan.parties (tape_map w other group)

-- the world of the other inputs and the changed tapes
abbrev pub second_world : World → InputLists → ℕ → World
second_world w other group =
    record { plan = w.plan; inputs = other; tapes = changed_tapes w other group }
