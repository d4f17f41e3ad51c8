use Rattle.std.proofs.Common.{rules, ◌≡◌, ℕ, ◌+◌, ◌-◌, ◌<◌, length, sym, ap, ◌∙◌, subst, arith}
use Rattle.std.specs.Vec.{vec_len}
use Rattle.std.proofs.lemmas.List.{get_or_default}
use Rattle.session_slots.specs.SlotNumbers.{first_input}
use Rattle.plan_model.specs.declared.pattern.Pattern.TheVariants.{Received}
use Rattle.plan_model.specs.Plans.{Plan, session, slots}
use Rattle.plan_model.specs.Patterns.{pattern_at}
use Rattle.plan_model.proofs.PlanSchemes.{plan_is}
use Rattle.party_program.specs.declared.program.Program.{Program}
use Rattle.program_model.specs.Programs.{first_named}
use Rattle.party_program.specs.ProgramPlaces.{IsListed, IsProgram}
use Rattle.party_program.proofs.NamedSlots.{found_number, found_named, wire_of}
use Rattle.party_program.proofs.program.Program.first_received.Goals as goal

-- the slot is that of an input wire, for which the message is listed
module _ (plan : Plan) (own : Program) (k first : ℕ) (is : IsProgram plan own.party own.session own) (lk : k < slots plan own.session) (carried : pattern_at plan own.session k ≡ Received) (begin : first ≡ first_input (session plan own.session)) where
  abbrev wire : ℕ
  wire = wire_of plan (plan_is plan is.sound) own.session k lk carried

  number : k ≡ first + wire
  number = found_number plan (plan_is plan is.sound) own.session k lk carried ∙ ap (λ n. n + wire) (sym begin)

  listed : IsListed own.received.items (k - first) (first_named plan own.session k)
  listed =
      let this : wire ≡ k - first = omega (arith, number) in
      subst (λ v. IsListed own.received.items v (first_named plan own.session k)) this (found_named plan (plan_is plan is.sound) own.session k lk carried own.received.items is.received)

pub overflow_sub-wire : goal.overflow_sub-wire
overflow_sub-wire c =
    let begin = c.first_input_slot.ensures ∙ ap first_input c.part.ensures in
    omega (arith, number c.args.plan.now c.args.self.now c.args.slot c.first_input_slot.result c.requires.is c.requires.slot c.requires.received begin)

pub index-requires : goal.index-requires
index-requires c =
    let begin = c.first_input_slot.ensures ∙ ap first_input c.part.ensures in
    let here = listed c.args.plan.now c.args.self.now c.args.slot c.first_input_slot.result c.requires.is c.requires.slot c.requires.received begin in
    let same : vec_len c.args.self.now.received ≡ length c.args.self.now.received.items = search rules in
    omega (arith, here.0)

pub returns : goal.returns
returns c =
    let begin = c.first_input_slot.ensures ∙ ap first_input c.part.ensures in
    let here = listed c.args.plan.now c.args.self.now c.args.slot c.first_input_slot.result c.requires.is c.requires.slot c.requires.received begin in
    c.index.ensures ∙ get_or_default c.args.self.now.received.items (c.args.slot - c.first_input_slot.result) c.index.result.now 0 here.0 ∙ here.1
