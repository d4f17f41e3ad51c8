-- The instructions of a party in a session, which go by batches.
use Rattle.std.specs.Prelude.{ℕ, suc, ◌+◌, ◌-◌, Bool, true, false, not, nat_eq, nat_lt, List, [], ◌∷◌, ◌++◌, map, filter, slice_index_or, length}
use Rattle.list_laws.specs.Lists.{total, joined, only_if}
use Rattle.circuit_model.specs.Circuits.{is_product}
use Rattle.session_slots.specs.declared.source.Source.{Source}
use Rattle.session_slots.specs.declared.source.Source.TheVariants.{Given, Earlier}
use Rattle.session_slots.specs.Sessions.{Session, Slot, gate, is_direct, is_prepared, no_kept, source}
use Rattle.job_session.specs.Batches.{batch, is_last}
use Rattle.plan_model.specs.Plans.{Plan, session, slot, slots, deals_in, keeping_slot, opens_to, words_in}
use Rattle.session_slots.specs.Sessions.Slot.{Input, At_gate, Output, Mask, Mask_product, Masked, Kept}
use Rattle.plan_model.specs.Numbers.{message, deals_before}
use Rattle.plan_model.specs.Firsts.{first, numbers}
use Rattle.program_model.specs.declared.half.Half.{Half}
use Rattle.program_model.specs.declared.half.Half.TheVariants.{Head, Tail}
use Rattle.program_model.specs.declared.instruction.Instruction.{Instruction}
use Rattle.program_model.specs.declared.instruction.Instruction.TheVariants.{Draw, Deal, Post, Take, Linear, Own, Sum, Open, Join, Deliver, End}

-- party p sends message n
abbrev pub from : Plan → ℕ → ℕ → Bool
from plan p n = nat_eq (message plan n).sender p

-- party p gets it
abbrev pub to : Plan → ℕ → ℕ → Bool
to plan p n = nat_eq (message plan n).receiver p

-- the post of message n
abbrev pub post : Plan → ℕ → Instruction
post plan n = Post n (message plan n).share

-- its take
abbrev pub take_of : Plan → ℕ → Instruction
take_of plan n = Take n (message plan n).share

-- of a message: its post, or its take, and whether it is party p that posts it, or takes it
abbrev pub passing : Bool → Plan → ℕ → Instruction
passing true = post
passing false = take_of

-- whether p posts message n, or takes it
abbrev pub passes : Bool → Plan → ℕ → ℕ → Bool
passes true = from
passes false = to

-- what p does before its posts in a slot
abbrev pub opening : Plan → ℕ → ℕ → ℕ → Slot → List Instruction
opening plan p s k (Input v) = only_if (deals_in plan s p (Input v)) (Deal k (deals_before plan p s k) ∷ [])
opening plan p s k (At_gate t) =
    only_if (deals_in plan s p (At_gate t)) (Own k ∷ Deal k (deals_before plan p s k) ∷ [])
    ++ only_if (not (is_product (gate (session plan s) t).operation)) (Linear k ∷ [])
opening plan p s k (Mask t side) = only_if (nat_lt 0 (words_in plan s p (Mask t side))) (Draw k ∷ [])
opening plan p s k (Mask_product t) =
    only_if (deals_in plan s p (Mask_product t)) (Own k ∷ Deal k (deals_before plan p s k) ∷ [])
opening plan p s k _ = []

-- what p does after its takes
abbrev pub closing : Plan → ℕ → ℕ → ℕ → Slot → List Instruction
closing plan p s k (At_gate t) =
    only_if (is_direct (session plan s) t) (Sum k ∷ []) ++ only_if (is_prepared (session plan s) t) (Join k ∷ [])
closing plan p s k (Output o) = only_if (opens_to plan s p (Output o)) (Deliver k ∷ [])
closing plan p s k (Mask_product t) = Sum k ∷ []
closing plan p s k (Masked t side) = Open k ∷ []
closing plan p s k _ = []

-- ---- the messages that are taken in a slot

-- of an input that comes from there: its own, and where it is carried those by which the earlier session keeps it
abbrev pub input_taken : Plan → ℕ → ℕ → ℕ → Source → List ℕ
input_taken plan s k v (Given p) = numbers plan s k
input_taken plan s k v (Earlier r c i) = numbers plan r (keeping_slot plan s v r)

-- of another slot its own; those of a kept wire are taken in the session that carries it
abbrev pub taken_in : Plan → ℕ → ℕ → Slot → List ℕ
taken_in plan s k (Input v) = input_taken plan s k v (source (session plan s) v)
taken_in plan s k (Kept j) = []
taken_in plan s k _ = numbers plan s k

-- the numbers of the messages that are taken in slot k
abbrev pub taken : Plan → ℕ → ℕ → List ℕ
taken plan s k = taken_in plan s k (slot plan s k)

-- the first of them for an input that comes from there
abbrev pub first_of_input : Plan → ℕ → ℕ → ℕ → Source → ℕ
first_of_input plan s k v (Given p) = first plan s k
first_of_input plan s k v (Earlier r c i) = first plan r (keeping_slot plan s v r)

-- of any slot
abbrev pub first_in : Plan → ℕ → ℕ → Slot → ℕ
first_in plan s k (Input v) = first_of_input plan s k v (source (session plan s) v)
first_in plan s k _ = first plan s k

-- the number of the first message that is posted or taken in slot k
abbrev pub first_named : Plan → ℕ → ℕ → ℕ
first_named plan s k = first_in plan s k (slot plan s k)

-- what a slot of a session is of where its messages are taken: of the input wire that carries the kept wire, and of
-- itself where none is kept
abbrev pub taken_as : Session → Slot → Slot
taken_as x (Kept j) = Input (slice_index_or x.kept j no_kept).wire
taken_as x z = z

-- in which session: the one that carries the kept wire, and else the session s itself
abbrev pub taking_session : ℕ → Session → Slot → ℕ
taking_session s x (Kept j) = (slice_index_or x.kept j no_kept).session
taking_session s x _ = s

-- ---- posts and takes

-- the posts of party p in slot k, by rising number
abbrev pub posts : Plan → ℕ → ℕ → ℕ → List Instruction
posts plan p s k = map (post plan) (filter (from plan p) (numbers plan s k))

-- its takes there
abbrev pub takes : Plan → ℕ → ℕ → ℕ → List Instruction
takes plan p s k = map (take_of plan) (filter (to plan p) (taken plan s k))

-- the numbers of the messages that are posted in slot k, or of those that are taken there
abbrev pub passed : Bool → Plan → ℕ → ℕ → List ℕ
passed true = numbers
passed false = taken

-- the posts of party p in slot k, or its takes
abbrev pub passings : Bool → Plan → ℕ → ℕ → ℕ → List Instruction
passings posting plan p s k = map (passing posting plan) (filter (passes posting plan p) (passed posting plan s k))

-- the head of a slot: what p does there before it needs what others post
abbrev pub head : Plan → ℕ → ℕ → ℕ → List Instruction
head plan p s k = opening plan p s k (slot plan s k) ++ posts plan p s k

-- its tail: the rest
abbrev pub tail : Plan → ℕ → ℕ → ℕ → List Instruction
tail plan p s k = takes plan p s k ++ closing plan p s k (slot plan s k)

-- the one half of a slot or the other
abbrev pub half_program : Plan → ℕ → ℕ → Half → ℕ → List Instruction
half_program plan p s Head k = head plan p s k
half_program plan p s Tail k = tail plan p s k

-- the tails of the slots from a up to b
abbrev pub tails : Plan → ℕ → ℕ → ℕ → ℕ → List Instruction
tails plan p s a b = joined (b - a) (λ j. tail plan p s (a + j))

-- the head of slot k, and where the slot is the last of its batch, the tails of the whole batch
abbrev pub turn : Plan → ℕ → ℕ → ℕ → List Instruction
turn plan p s k =
    head plan p s k ++ only_if (is_last (session plan s) k) (tails plan p s (batch (session plan s) k) (suc k))

-- the list of instructions, after which comes the end: batch after batch, the heads of its slots and then their tails
abbrev pub program : Plan → ℕ → ℕ → List Instruction
program plan p s = joined (slots plan s) (turn plan p s)

-- what party p does in slot k of session s, where it goes slot by slot
abbrev pub slot_program : Plan → ℕ → ℕ → ℕ → List Instruction
slot_program plan p s k = head plan p s k ++ tail plan p s k

-- the instruction at position q
abbrev pub at : List Instruction → ℕ → Instruction
at program q = slice_index_or program q End

-- how many instructions of p stand in the first k slots
abbrev pub instructions_before : Plan → ℕ → ℕ → ℕ → ℕ
instructions_before plan p s k = total k (λ j. length (slot_program plan p s j))
