-- Why other inputs can't be hidden from a group.
use Rattle.std.specs.Prelude.{◌≡◌, ℕ, ◌<◌, Bool, ◌&&◌, not, nat_eq, Option, List, [], ◌∷◌, ◌++◌, length, slice_index_or}
use Rattle.std.specs.List.{list_any}
use Rattle.list_laws.specs.Lists.{joined, listed}
use Rattle.list_laws.specs.Checks.{◌answers◌, first_fault}
use Rattle.party_set.specs.Parties.{has_party, within}
use Rattle.session_slots.specs.Sessions.{owners, readers, output_wire, source}
use Rattle.plan_model.specs.Plans.{Plan, session, reads}
use Rattle.share_world.specs.Worlds.{World, input_of, plain}
use Rattle.tape_map.specs.TapeMaps.{member_gives, with_inputs}
use Rattle.tape_map.specs.declared.fault.MapFault.{MapFault}
use Rattle.tape_map.specs.declared.fault.MapFault.TheVariants.{NotTolerated, InputDiffers, OutputDiffers}
use Rattle.plan_model.specs.InputWords.{InputLists}

-- a maximal group has all parties of this one
abbrev pub is_tolerated : Plan → ℕ → Bool
is_tolerated plan group = list_any (within plan.parties group) plan.groups

-- a member gives one word on an input wire, and is to give another
abbrev pub input_check : World → InputLists → ℕ → ℕ → ℕ → Option MapFault
input_check w other group s v =
    let first = input_of w s v in
    let second = input_of (with_inputs w other) s v in
    (member_gives group (source (session w.plan s) v) && not (nat_eq first second))
    answers InputDiffers s v first second

-- a member r reads one value on output wire o, and is to read another
abbrev pub output_check : Plan → ℕ → ℕ → ℕ → ℕ → ℕ → ℕ → Option MapFault
output_check plan group s first second o r =
    (has_party group r && (reads plan r s o && not (nat_eq first second)))
    answers OutputDiffers s (output_wire (session plan s) o) r first second

-- the checks of the inputs of session s, by wires
abbrev pub input_checks : World → InputLists → ℕ → ℕ → List (Option MapFault)
input_checks w other group s =
    listed (length (owners (session w.plan s))) (input_check w other group s)

-- the checks of its outputs, by wires and parties, where its wires have these values with the
-- inputs and with the others
abbrev pub value_checks : Plan → ℕ → ℕ → (ℕ → ℕ) → (ℕ → ℕ) → List (Option MapFault)
value_checks plan group s first second =
    joined (length (readers (session plan s))) (λ o.
    let wire = output_wire (session plan s) o in
    listed plan.parties (output_check plan group s (first wire) (second wire) o))

-- a value for each wire of each session
pub record AreValues (plan : Plan) (lists : List (List ℕ)) : Type 0 where
  pub sessions : length lists ≡ length plan.sessions
  pub wires : (s : ℕ) → s < length plan.sessions → length (slice_index_or lists s []) ≡ (session plan s).wires

abbrev pub output_checks : World → InputLists → ℕ → ℕ → List (Option MapFault)
output_checks w other group s =
    value_checks w.plan group s (plain w s) (plain (with_inputs w other) s)

-- all checks in their order: of the group, of all inputs, of all outputs
abbrev pub map_checks : World → InputLists → ℕ → List (Option MapFault)
map_checks w other group =
    (not (is_tolerated w.plan group) answers NotTolerated)
    ∷ (joined (length w.plan.sessions) (input_checks w other group)
    ++ joined (length w.plan.sessions) (output_checks w other group))

-- why the other inputs can't be hidden from the group: the fault of the first check that fails
abbrev pub map_fault : World → InputLists → ℕ → Option MapFault
map_fault w other group = first_fault (map_checks w other group)

-- the member that reads another value, where the fault tells one, is below this number
abbrev pub HasRecipientBelow : ℕ → MapFault → Type 0
HasRecipientBelow parties (OutputDiffers s v recipient first second) = recipient < parties
HasRecipientBelow parties _ = Unit
