-- When other inputs can be hidden from a group, and the laws of the change that hides them.
use Rattle.std.specs.Prelude.{◌≡◌, ◌≢◌, ℕ, ◌^◌, ◌<◌, true, false, List, length}
use Rattle.std.specs.List.{Contains}
use Rattle.mpc_ring.specs.Differences.{difference}
use Rattle.circuit_model.specs.Netlists.{read_by}
use Rattle.secret_sharing.specs.Schemes.{summands}
use Rattle.party_set.specs.Parties.{has_party}
use Rattle.maximal_groups.specs.Families.{LiesWithin}
use Rattle.plan_model.specs.InputWords.{AreInputs, InputLists}
use Rattle.plan_model.specs.Messages.{messages}
use Rattle.plan_model.specs.Numbers.{message}
use Rattle.session_slots.specs.Sessions.{owners, readers, gate, is_prepared, output_wire, source}
use Rattle.session_slots.specs.declared.side.Side.{Side}
use Rattle.plan_model.specs.Plans.{Plan, structure, is_holder, session, reads, slot, slots, words_in}
use Rattle.share_world.specs.Worlds.{World, input_of, tape_word, mask, masked_summand, dealt_value, run_of, plain, word, touches, view}
use Rattle.share_world.specs.Laws.{IsWhole, AreTapes}
use Rattle.tape_map.specs.TapeMaps.{member_gives, hidden_word, with_inputs, with_tapes, tape_of, delta, moved_summands, moved_mask, moved_value, moved_words, tape_map, changed_tapes, second_world}

-- with the other inputs a group's members give what they gave, and read what they read
pub record Agree (w : World) (other : InputLists) (group : ℕ) : Type 0 where
  pub inputs : (s v : ℕ) → v < length (owners (session w.plan s))
      → member_gives group (source (session w.plan s) v) ≡ true
      → input_of (with_inputs w other) s v ≡ input_of w s v
  pub outputs : (s o r : ℕ) → o < length (readers (session w.plan s)) → r < w.plan.parties
      → has_party group r ≡ true → reads w.plan r s o ≡ true
      → plain (with_inputs w other) s (output_wire (session w.plan s) o)
      ≡ plain w s (output_wire (session w.plan s) o)

-- the other inputs can be hidden from the group: it is tolerated, and agrees
pub record CanHide (w : World) (other : InputLists) (group : ℕ) : Type 0 where
  pub whole : IsWhole w
  pub others : AreInputs w.plan other
  pub tolerated : LiesWithin (structure w.plan) group
  pub agree : Agree w other group

-- ---- the hidden summand

-- g is the first summand that no member of the group holds
pub record IsFirstLacked (plan : Plan) (group g : ℕ) : Type 0 where
  pub there : g < length plan.groups
  pub lacked : (p : ℕ) → p < plan.parties → has_party group p ≡ true → is_holder plan p g ≡ false
  pub first : (i : ℕ) → i < g
      → (p : ℕ) × (p < plan.parties) × (has_party group p ≡ true) × (is_holder plan p i ≡ true)

-- ---- what the group sees

-- in the second world the group sees what it saw
abbrev pub SameView : World → InputLists → ℕ → Type 0
SameView w other group = view (second_world w other group) group ≡ view w group

-- each message that a member sends or receives has the word that it had
abbrev pub SameWords : World → InputLists → ℕ → Type 0
SameWords w other group =
    (n : ℕ) → n < length (messages w.plan) → touches group (message w.plan n) ≡ true
    → word (second_world w other group) (message w.plan n) ≡ word w (message w.plan n)

-- each output that a member reads is what it was
abbrev pub SameOutputs : World → InputLists → ℕ → Type 0
SameOutputs w other group =
    (s o r : ℕ) → o < length (readers (session w.plan s)) → r < w.plan.parties
    → has_party group r ≡ true → reads w.plan r s o ≡ true
    → plain (second_world w other group) s (output_wire (session w.plan s) o)
    ≡ plain w s (output_wire (session w.plan s) o)

-- ---- the way back

-- the first inputs can be hidden in the second world
abbrev pub CanGoBack : World → InputLists → ℕ → Type 0
CanGoBack w other group = CanHide (second_world w other group) w.inputs group

-- and that gives the first world
abbrev pub GoesBack : World → InputLists → ℕ → Type 0
GoesBack w other group = second_world (second_world w other group) w.inputs group ≡ w

-- tapes that are changed into the same are the same
abbrev pub OneToOne : World → InputLists → ℕ → Type 0
OneToOne w other group =
    (tapes : List (List ℕ)) → AreTapes w.plan tapes
    → changed_tapes (with_tapes w tapes) other group ≡ changed_tapes w other group → tapes ≡ w.tapes

-- all tapes of the plan are what some tapes are changed into
abbrev pub Onto : World → InputLists → ℕ → Type 0
Onto w other group =
    (tapes : List (List ℕ)) → AreTapes w.plan tapes
    → (before : List (List ℕ)) × AreTapes w.plan before
    × (changed_tapes (with_tapes w before) other group ≡ tapes)

-- ---- what stays, and what moves

-- a member's tape stays
abbrev pub MembersStay : World → InputLists → ℕ → Type 0
MembersStay w other group =
    (p : ℕ) → p < w.plan.parties → has_party group p ≡ true → tape_map w other group p ≡ tape_of w p

-- word i that party p draws in slot k of session s of the second world is the changed one
abbrev pub WordsMove : World → InputLists → ℕ → Type 0
WordsMove w other group =
    (s k p i : ℕ) → s < length w.plan.sessions → k < slots w.plan s → p < w.plan.parties
    → i < words_in w.plan s p (slot w.plan s k)
    → tape_word (second_world w other group) s (slot w.plan s k) p i
    ≡ moved_words w other group s (slot w.plan s k) p i

-- a word of the second world's tapes that isn't the hidden summand's is the first world's
abbrev pub OthersStay : World → InputLists → ℕ → Type 0
OthersStay w other group =
    (s k p i : ℕ) → s < length w.plan.sessions → k < slots w.plan s → p < w.plan.parties
    → i < words_in w.plan s p (slot w.plan s k) → i ≢ hidden_word w.plan group p (slot w.plan s k)
    → tape_word (second_world w other group) s (slot w.plan s k) p i ≡ tape_word w s (slot w.plan s k) p i

-- the summands of the second world's wires are the moved ones
abbrev pub SummandsMove : World → InputLists → ℕ → Type 0
SummandsMove w other group =
    (s t v i : ℕ) → s < length w.plan.sessions → i < length w.plan.groups
    → summands (run_of (second_world w other group) s) t v i ≡ moved_summands w other group s t v i

-- the masks of the second world are the moved ones
abbrev pub MasksMove : World → InputLists → ℕ → Type 0
MasksMove w other group =
    (s t i : ℕ) (side : Side) → s < length w.plan.sessions → t < length (session w.plan s).gates
    → is_prepared (session w.plan s) t ≡ true → i < length w.plan.groups
    → mask (second_world w other group) s t side i ≡ moved_mask w other group s t side i

-- what a wire of a prepared product has more than its mask stays
abbrev pub ExcessStays : World → InputLists → ℕ → Type 0
ExcessStays w other group =
    (s t i : ℕ) (side : Side) → s < length w.plan.sessions → t < length (session w.plan s).gates
    → is_prepared (session w.plan s) t ≡ true → i < length w.plan.groups
    → masked_summand (second_world w other group) s t side i ≡ masked_summand w s t side i

-- each party deals there what it is to deal
abbrev pub ValuesMove : World → InputLists → ℕ → Type 0
ValuesMove w other group =
    (s k p : ℕ) → s < length w.plan.sessions → k < slots w.plan s
    → dealt_value (second_world w other group) s p (slot w.plan s k)
    ≡ moved_value w other group s p (slot w.plan s k)

-- ---- the premises

-- a whole world is so with other inputs of its plan
abbrev pub InputsChange : World → InputLists → Type 0
InputsChange w other = AreInputs w.plan other → IsWhole (with_inputs w other)

-- and as a second world
abbrev pub SecondIsWhole : World → InputLists → ℕ → Type 0
SecondIsWhole w other group = AreInputs w.plan other → IsWhole (second_world w other group)

-- who agrees one way agrees the other way, whatever the tapes are
abbrev pub AgreesBack : World → InputLists → ℕ → Type 0
AgreesBack w other group =
    (tapes : List (List ℕ)) → Agree w other group
    → Agree (with_tapes (with_inputs w other) tapes) w.inputs group

-- before a gate, each wire that it reads grows as its plain value does
abbrev pub DeltaIsPlain : World → InputLists → Type 0
DeltaIsPlain w other =
    (s t v : ℕ) → s < length w.plan.sessions → t < length (session w.plan s).gates
    → Contains (read_by (gate (session w.plan s) t)) v
    → delta w other s t v
    ≡ difference (2 ^ w.plan.bits) (plain (with_inputs w other) s v) (plain w s v)
