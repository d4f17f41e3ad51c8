-- Where the instructions of each slot stand in a program, and the tables that a program keeps in place of them.
use Rattle.std.specs.Prelude.{◌≡◌, ℕ, ◌+◌, ◌<◌, ◌≤◌, nat_lt, if◌then◌else◌, List, length, map, slice_index, vec_capacity}
use Rattle.std.specs.Global.{Vec}
use Rattle.mask_list.specs.Masks.{AreMasksOf}
use Rattle.list_laws.specs.Lists.{total, listed}
use Rattle.plan_model.specs.declared.pattern.Pattern.{Pattern}
use Rattle.plan_model.specs.declared.pattern.Pattern.TheVariants.{Silent, Dealt, Multiplied, Opened, HandedOut, OpenedToAll, Joined, Held, Received}
use Rattle.session_slots.specs.declared.source.Source.TheVariants.{Earlier}
use Rattle.session_slots.specs.Sessions.{Session, readers, source}
use Rattle.job_session.specs.Batches.{IsInBatch}
use Rattle.secret_sharing.specs.Schemes.{has_pair}
use Rattle.plan_model.specs.Plans.{Plan, deals_in, keeping_slot, scheme, session, slot, slots}
use Rattle.plan_model.specs.Numbers.{deals_before}
use Rattle.plan_model.specs.Firsts.{first}
use Rattle.plan_model.specs.Patterns.{pattern_at, Occurs}
use Rattle.plan_model.specs.Sound.{IsSound}
use Rattle.program_model.specs.declared.half.Half.{Half}
use Rattle.program_model.specs.declared.half.Half.TheVariants.{Head, Tail}
use Rattle.party_program.specs.declared.program.Program.{Program}
use Rattle.party_program.specs.declared.place.Place.{Place}
use Rattle.party_program.specs.declared.deals.ProductCounts.{ProductCounts}
use Rattle.party_program.specs.declared.deals.SessionSteps.{SessionSteps}
use Rattle.party_program.specs.declared.deals.Tally.{Tally}
use Rattle.party_program.specs.declared.step_table.StepTable.{StepTable}
use Rattle.party_program.specs.PartySteps.{steps}
use Rattle.program_model.specs.Programs.{first_named, half_program, instructions_before, slot_program}

-- how many instructions stand in this half of the first k slots
abbrev pub halves_before : Plan → ℕ → ℕ → Half → ℕ → ℕ
halves_before plan p s half k = total k (λ j. length (half_program plan p s half j))

-- the position of the first instruction of this half of slot k, where the slots from a up to b are a batch
abbrev pub position_of : Plan → ℕ → ℕ → Half → ℕ → ℕ → ℕ → ℕ
position_of plan p s Head a b k = halves_before plan p s Head k + halves_before plan p s Tail a
position_of plan p s Tail a b k = halves_before plan p s Head b + halves_before plan p s Tail k

-- the pattern of slot k, where there is such a slot
abbrev pub IsPatternIn : Plan → ℕ → ℕ → Pattern → Type 0
IsPatternIn plan s k pattern = k < slots plan s → pattern ≡ pattern_at plan s k

-- how many instructions of p stand in this half of slot k, none past the last slot
abbrev pub count_in : Plan → ℕ → ℕ → Half → ℕ → ℕ
count_in plan p s half k = if nat_lt k (slots plan s) then length (half_program plan p s half k) else 0

-- position q stands at this place: `done` instructions on in a half of a slot that has more, or past all
pub record IsPlace (plan : Plan) (p s : ℕ) (place : Place) (q : ℕ) : Type 0 where
  pub batch : IsInBatch (session plan s) place.batch place.end place.slot
  pub pattern : IsPatternIn plan s place.slot place.pattern
  pub first : place.first ≡ first_named plan s place.slot
  pub done : q ≡ position_of plan p s place.half place.batch place.end place.slot + place.done
  pub count : place.count ≡ count_in plan p s place.half place.slot
  pub within : place.slot < slots plan s → place.done < place.count

-- an instruction of this half of a product stands at the place
abbrev pub InProduct : Half → Place → Type 0
InProduct half place = (place.half ≡ half) × (place.pattern ≡ Multiplied) × (place.done < place.count)

-- a pattern of the plan that a slot of session s has
pub record OccursIn (plan : Plan) (s : ℕ) (pattern : Pattern) : Type 0 where
  pub slot : ℕ
  pub slot_there : slot < slots plan s
  pub is : pattern ≡ pattern_at plan s slot
  pub occurs : Occurs plan pattern

-- the steps of p in this half of a slot, for each pattern of session s
pub record AreSteps (plan : Plan) (p s : ℕ) (half : Half) (table : StepTable) : Type 0 where
  pub silent : table.silent ≡ steps plan p half Silent
  pub multiplied : table.multiplied ≡ steps plan p half Multiplied
  pub handed_out : table.handed_out ≡ steps plan p half HandedOut
  pub opened_to_all : table.opened_to_all ≡ steps plan p half OpenedToAll
  pub joined : table.joined ≡ steps plan p half Joined
  pub held : table.held ≡ steps plan p half Held
  pub received : table.received ≡ steps plan p half Received
  pub dealt : table.dealt.items ≡ listed plan.parties (λ q. steps plan p half (Dealt q))
  pub readers : AreMasksOf table.readers (readers (session plan s))
  pub opened : table.opened.items ≡ map (λ mask. steps plan p half (Opened mask)) table.readers

-- the party and the session are of the plan, and these are the party's steps there
pub record AreSessionSteps (own : SessionSteps) : Type 0 where
  pub party : own.party < own.plan.now.parties
  pub session : own.session < length own.plan.now.sessions
  pub heads : AreSteps own.plan.now own.party own.session Head own.heads.now
  pub tails : AreSteps own.plan.now own.party own.session Tail own.tails.now

-- the session of which they are
abbrev pub session_of : SessionSteps → Session
session_of own = session own.plan.now own.session

-- this number is listed for input wire v
abbrev pub IsListed : List ℕ → ℕ → ℕ → Type 0
IsListed list v number = (v < length list) × (slice_index list v ≡ number)

-- the first message by which session r keeps what input wire v of session s carries from it is listed for the wire
abbrev pub IsReceived : Plan → ℕ → List ℕ → ℕ → ℕ → Type 0
IsReceived plan s received v r = IsListed received v (first plan r (keeping_slot plan s v r))

-- so for each wire that session s carries from one of the first n
abbrev pub AreReceived : Plan → ℕ → ℕ → List ℕ → Type 0
AreReceived plan s n received =
    (v r c i : ℕ) → r < n → source (session plan s) v ≡ Earlier r c i → IsReceived plan s received v r

-- how many deals p makes before each of the first k slots are listed, these are the instructions and deals of p in
-- those, and there is room for the others
pub record AreDeals (plan : Plan) (p s k : ℕ) (list : Vec ℕ) (tally : Tally) : Type 0 where
  pub deals : list.items ≡ listed k (deals_before plan p s)
  pub instructions : tally.instructions ≡ instructions_before plan p s k
  pub dealt : tally.deals ≡ deals_before plan p s k
  pub few : tally.deals ≤ k
  pub room : slots plan s ≤ vec_capacity list

-- the same for the party and the session of these steps
abbrev pub AreDealsTo : SessionSteps → ℕ → Vec ℕ → Tally → Type 0
AreDealsTo own k list tally = AreDeals own.plan.now own.party own.session k list tally

-- the party has so many instructions and deals in slot k
pub record HasInSlot (own : SessionSteps) (k count deals : ℕ) : Type 0 where
  pub there : k < slots own.plan.now own.session
  pub instructions : count ≡ length (slot_program own.plan.now own.party own.session k)
  pub dealt : deals ≡ (if deals_in own.plan.now own.session own.party (slot own.plan.now own.session k) then 1 else 0)

-- in each of the slots k and k + 1 it has so many instructions and no deal
abbrev pub HasInTwo : SessionSteps → ℕ → ℕ → Type 0
HasInTwo own k each = HasInSlot own k each 0 × HasInSlot own (k + 1) each 0

-- and in the next one so many of both
abbrev pub HasInThree : SessionSteps → ℕ → ℕ → ℕ → ℕ → Type 0
HasInThree own k each last deals = HasInTwo own k each × HasInSlot own (k + 2) last deals

-- how many instructions the party has in a slot of this pattern
abbrev pub steps_in : SessionSteps → Pattern → ℕ
steps_in own pattern =
    length (steps own.plan.now own.party Head pattern) + length (steps own.plan.now own.party Tail pattern)

-- the party's instructions in each slot of what a prepared product needs, and its deals in that of the product of masks
pub record AreProductCounts (own : SessionSteps) (counts : ProductCounts) : Type 0 where
  pub mask : counts.mask ≡ steps_in own HandedOut
  pub product : counts.product ≡ steps_in own Multiplied
  pub opening : counts.opening ≡ steps_in own OpenedToAll
  pub join : counts.join ≡ steps_in own Joined
  pub deals : counts.deals ≡ (if has_pair (scheme own.plan.now) own.party then 1 else 0)

-- the program of party p in session s of a plan within the limits
pub record IsProgram (plan : Plan) (p s : ℕ) (program : Program) : Type 0 where
  pub sound : IsSound plan
  pub of_party : program.party ≡ p
  pub of_session : program.session ≡ s
  pub party_there : p < plan.parties
  pub session_there : s < length plan.sessions
  pub heads : AreSteps plan p s Head program.heads
  pub tails : AreSteps plan p s Tail program.tails
  pub received : AreReceived plan s s program.received.items
  pub deals : program.deals.items ≡ listed (slots plan s) (deals_before plan p s)
  pub length : program.length ≡ instructions_before plan p s (slots plan s)
