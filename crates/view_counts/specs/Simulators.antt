-- What a group sees, made of what it knows: its members' inputs, the outputs that they read, and
-- their tapes.
use Rattle.std.specs.Prelude.{ℕ, ◌^◌, ◌&&◌, Bool, if◌then◌else◌, List, [], map, count_by, length, slice_index, slice_index_or, replicate, filter}
use Rattle.list_laws.specs.Lists.{total, listed, some_below}
use Rattle.mpc_ring.specs.Differences.{difference}
use Rattle.secret_sharing.specs.Schemes.{summands}
use Rattle.party_set.specs.Parties.{has_party}
use Rattle.plan_model.specs.declared.key.Key.{Key}
use Rattle.plan_model.specs.Messages.{messages}
use Rattle.session_slots.specs.Sessions.{Slot, owners, readers, output_wire}
use Rattle.plan_model.specs.Plans.{Plan, session, gives, reads, slot}
use Rattle.session_slots.specs.Sessions.Slot.{Output}
use Rattle.share_world.specs.Worlds.{World, run_of, plain, word_in, touches}
use Rattle.tape_map.specs.TapeMaps.{hidden, raised, tape_of}
use Rattle.view_counts.specs.Counts.{choices}
use Rattle.plan_model.specs.InputWords.{InputLists}

-- ---- what a group knows

-- what the simulator is given of a world: what a group's members give, read and draw
pub record Known : Type 0 where
  pub inputs : InputLists  -- by party, session, position; none but of members
  pub outputs : List (List ℕ)  -- by session and output wire; 0 but where a member reads
  pub tapes : List (List ℕ)  -- by party; empty but of members

-- a member of the group reads output wire o of session s
abbrev pub is_read : Plan → ℕ → ℕ → ℕ → Bool
is_read plan group s o = some_below plan.parties (λ r. has_party group r && reads plan r s o)

-- the outputs of session s that the group reads
abbrev pub known_outputs : World → ℕ → ℕ → List ℕ
known_outputs w group s =
    listed (length (readers (session w.plan s)))
    (λ o. if is_read w.plan group s o then plain w s (output_wire (session w.plan s) o) else 0)

-- what party p gives
abbrev pub inputs_of : World → ℕ → List (List ℕ)
inputs_of w p = slice_index_or w.inputs p []

-- what the group knows of a world, apart from what it sees
abbrev pub known : World → ℕ → Known
known w group = record {
  inputs = listed w.plan.parties (λ p. if has_party group p then inputs_of w p else []);
  outputs = listed (length w.plan.sessions) (known_outputs w group);
  tapes = listed w.plan.parties (λ p. if has_party group p then tape_of w p else []);
}

-- ---- a run without the others' inputs

-- as many zeros as party p gives inputs in session s
abbrev pub zeros : Plan → ℕ → ℕ → List ℕ
zeros plan p s =
    replicate (total (length (owners (session plan s))) (λ v. if gives plan s p v then 1 else 0)) 0

-- the members' inputs, and zeros for all others
abbrev pub simulated_inputs : Plan → ℕ → Known → InputLists
simulated_inputs plan group k =
    listed plan.parties (λ p.
    if has_party group p then slice_index_or k.inputs p []
    else listed (length plan.sessions) (zeros plan p))

-- the protocol is run with these inputs
abbrev pub simulation : Plan → ℕ → Known → List (List ℕ) → World
simulation plan group k tapes =
    record { plan = plan; inputs = simulated_inputs plan group k; tapes = tapes }

-- its word of a message, where these are the outputs that the group reads: the summand of an output
-- that no member holds grows by what the output lacks
abbrev pub simulated_word_in : World → ℕ → List (List ℕ) → Key → Slot → ℕ
simulated_word_in u group outputs key (Output o) =
    let s = key.session in
    let x = session u.plan s in
    let q = 2 ^ u.plan.bits in
    let wire = output_wire x o in
    let lacks = difference q (slice_index (slice_index_or outputs s []) o) (plain u s wire) in
    raised q (hidden u.plan group) lacks (summands (run_of u s) (length x.gates) wire) key.share
simulated_word_in u group outputs key kind = word_in u key kind

-- of the slot that the message belongs to
abbrev pub simulated_word : World → ℕ → List (List ℕ) → Key → ℕ
simulated_word u group outputs key =
    simulated_word_in u group outputs key (slot u.plan key.session key.slot)

-- what the simulator shows the group, where these are the tapes
abbrev pub simulated_view : Plan → ℕ → Known → List (List ℕ) → List (Key × ℕ)
simulated_view plan group k tapes =
    map (λ key. (key, simulated_word (simulation plan group k tapes) group k.outputs key))
    (filter (touches group) (messages plan))

-- for how many choices of the others' tapes that passes the test
abbrev pub simulated_ways : Plan → ℕ → Known → (List (Key × ℕ) → Bool) → ℕ
simulated_ways plan group k test =
    count_by (λ tapes. test (simulated_view plan group k tapes)) (choices plan group k.tapes)
