-- The deals before each slot, one slot after another.
use Rattle.std.proofs.Common.{rules, Bool, true, false, ◌≡◌, ℕ, ◌+◌, ◌<◌, ◌≤◌, if◌then◌else◌, [], ◌∷◌, ◌++◌, length, refl, ap, ◌∙◌, arith, vec_capacity}
use Rattle.std.specs.Global.{Vec}
use Rattle.std.specs.Int.{from_bool}
use Rattle.std.specs.Vec.{vec_len}
use Rattle.list_laws.proofs.JoinedLists.{length-listed}
use Rattle.list_laws.proofs.Totals.{total_more}
use Rattle.plan_model.specs.Plans.{Plan, slot, slots, deals_in}
use Rattle.plan_model.specs.Sound.{IsSound}
use Rattle.plan_model.proofs.GrownLists.{listed_push}
use Rattle.party_program.specs.declared.deals.Tally.{Tally}
use Rattle.program_model.specs.Programs.{slot_program}
use Rattle.party_program.specs.ProgramPlaces.{AreDeals}
use Rattle.plan_model.specs.Numbers.{deals_before}
use Rattle.program_model.proofs.ShortPrograms.{few_instructions}

-- a truth value as a number
pub as_number : (b : Bool) → from_bool b ≡ (if b then 1 else 0)
as_number true = refl
as_number false = refl

one_most : (b : Bool) → (if b then 1 else 0) ≤ 1
one_most true = omega arith
one_most false = omega arith

module _ (plan : Plan) (p s k : ℕ) (list : Vec ℕ) (tally : Tally) (before : AreDeals plan p s k list tally) where
  -- there is room for the next one
  pub room_left : k < slots plan s → vec_len list < vec_capacity list
  room_left l =
      let all : vec_len list ≡ length list.items = search rules in
      let long = ap length before.deals ∙ length-listed k (deals_before plan p s) in
      omega (arith, before.room)

  -- the instructions of the next slot fit
  pub instructions_fit : (n : ℕ) → IsSound plan → s < length plan.sessions → k < slots plan s → n ≡ length (slot_program plan p s k) → tally.instructions + n < 4294967296
  instructions_fit n sound ls lk is =
      let more = total_more k (λ j. length (slot_program plan p s j)) in
      let few = few_instructions plan p s (k + 1) sound ls (omega arith) in
      let so_far = before.instructions in
      omega arith

  -- the next slot has so many instructions and deals
  pub one_more : (longer : Vec ℕ) (n d : ℕ) → longer.items ≡ list.items ++ tally.deals ∷ [] → vec_capacity longer ≡ vec_capacity list
      → n ≡ length (slot_program plan p s k) → d ≡ (if deals_in plan s p (slot plan s k) then 1 else 0)
      → AreDeals plan p s (k + 1) longer (record { instructions = tally.instructions + n; deals = tally.deals + d })
  one_more longer n d items capacity instructions deals =
      let more = total_more k (λ j. length (slot_program plan p s j)) in
      let next = total_more k (λ j. if deals_in plan s p (slot plan s j) then 1 else 0) in
      let one = one_most (deals_in plan s p (slot plan s k)) in
      let so_far = before.instructions in
      let dealt = before.dealt in
      let few_so_far = before.few in
      let room_so_far = before.room in
      record {
        deals = items ∙ listed_push k (deals_before plan p s) list.items tally.deals before.deals before.dealt;
        instructions = omega arith;
        dealt = omega arith;
        few = omega arith;
        room = omega arith;
      }
