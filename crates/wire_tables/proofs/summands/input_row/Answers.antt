use Rattle.std.proofs.Common.{◌≡◌, ◌<◌, ◌^◌, true, [], length, refl, sym, ap, ◌∙◌, subst, arith, inl, inr}
use Rattle.std.specs.Prelude.{slice_index, slice_index_or}
use Rattle.std.proofs.lemmas.Bool.{cases_lt, eq-eqb}
use Rattle.std.proofs.lemmas.List.{get_or_past}
use Rattle.std.proofs.lemmas.Result.{on_ok_weaker}
use Rattle.list_laws.proofs.JoinedLists.{length-listed, listed_at}
use Rattle.session_slots.specs.declared.source.Source.TheVariants.{Given, Earlier}
use Rattle.session_slots.specs.Sessions.{Session, given_by, owners, source}
use Rattle.session_slots.specs.Sessions.Slot.{Input}
use Rattle.plan_model.specs.Plans.{deals_in, session, slot}
use Rattle.share_world.specs.Worlds.{World, carried_wire, end_summands, input_of, source_input}
use Rattle.wire_tables.specs.WireTables.{world_of}
use Rattle.wire_tables.proofs.NextPlaces.{has_words}
use Rattle.wire_tables.proofs.SlotWords.{inside_here}
use Rattle.wire_tables.proofs.MadeRows.{given_made, carried_made}
use Rattle.wire_tables.proofs.summands.input_row.Goals as goal

pub source-requires : goal.source-requires
source-requires c =
    let w : World = world_of c.args.world.now in
    let lv = inside_here w c.args.before.now.session c.args.before.now.slot c.requires.before.in_slot (Input c.args.v) c.requires.input in
    subst (λ (y : Session). c.args.v < length (owners y)) (sym c.part.ensures) lv

pub bounds-before-v : goal.bounds-before-v
bounds-before-v c =
    let w : World = world_of c.args.world.now in
    let lv = inside_here w c.args.before.now.session c.args.before.now.slot c.requires.before.in_slot (Input c.args.v) c.requires.input in
    omega (arith, lv, ap length c.requires.before.given, length-listed (length (owners (session c.args.world.now.plan.now c.args.before.now.session))) (input_of w c.args.before.now.session))

pub deal_into-requires-clause-value : goal.deal_into-requires-clause-value
deal_into-requires-clause-value c =
    let w : World = world_of c.args.world.now in
    let x : Session = session c.args.world.now.plan.now c.args.before.now.session in
    let lv = inside_here w c.args.before.now.session c.args.before.now.slot c.requires.before.in_slot (Input c.args.v) c.requires.input in
    let from : source x c.args.v ≡ Given c.in-Given.party = ap (λ (y : Session). source y c.args.v) (sym c.part.ensures) ∙ sym c.source.ensures ∙ c.in-Given.is in
    let word : slice_index c.args.before.now.given.now c.args.v ≡ input_of w c.args.before.now.session c.args.v = ap (λ xs. slice_index xs c.args.v) c.requires.before.given ∙ listed_at (length (owners x)) (input_of w c.args.before.now.session) c.args.v 0 lv in
    subst (λ n. n < 2 ^ c.args.world.now.plan.now.bits) (sym (word ∙ ap (source_input w c.args.before.now.session c.args.v) from)) (c.requires.whole.inputs.below c.in-Given.party c.args.before.now.session _)

pub deal_into-requires-clause-words : goal.deal_into-requires-clause-words
deal_into-requires-clause-words c =
    let plan = c.args.world.now.plan.now in
    let w : World = world_of c.args.world.now in
    let p = c.in-Given.party in
    let lv = inside_here w c.args.before.now.session c.args.before.now.slot c.requires.before.in_slot (Input c.args.v) c.requires.input in
    let from : source (session plan c.args.before.now.session) c.args.v ≡ Given p = ap (λ (y : Session). source y c.args.v) (sym c.part.ensures) ∙ sym c.source.ensures ∙ c.in-Given.is in
    let party = (c.requires.whole.sound.sessions c.args.before.now.session c.requires.before.in_session).owned c.args.v p lv from in
    let deals : deals_in plan c.args.before.now.session p (slot plan c.args.before.now.session c.args.before.now.slot) ≡ true = ap (deals_in plan c.args.before.now.session p) c.requires.input ∙ ap (given_by p) from ∙ eq-eqb p p refl in
    has_words w c.requires.whole c.args.before.now.session c.args.before.now.slot c.args.before.now.places.now c.requires.before.in_session c.requires.before.in_slot c.requires.before.places p party deals

pub row-requires-clause-wire : goal.row-requires-clause-wire
row-requires-clause-wire c =
    let plan = c.args.world.now.plan.now in
    let w : World = world_of c.args.world.now in
    let r = c.in-Earlier.session in
    let wire = carried_wire plan r c.in-Earlier.value c.in-Earlier.wire in
    let from : source (session plan c.args.before.now.session) c.args.v ≡ Earlier r c.in-Earlier.value c.in-Earlier.wire = ap (λ (y : Session). source y c.args.v) (sym c.part.ensures) ∙ sym c.source.ensures ∙ c.in-Earlier.is in
    let row = c.requires.before.carried.are c.args.before.now.session c.args.v r c.in-Earlier.value c.in-Earlier.wire from (c.requires.whole.sound.earlier c.args.before.now.session c.args.v r c.in-Earlier.value c.in-Earlier.wire from) in
    elim (cases_lt c.args.v (length (slice_index_or c.args.before.now.carried.now c.args.before.now.session []))) [
      | inl l ↦ l
      | inr past ↦
          let none = ap length (sym (get_or_past (slice_index_or c.args.before.now.carried.now c.args.before.now.session []) c.args.v [] past) ∙ row) ∙ length-listed (length plan.groups) (end_summands w r wire) in
          absurd (omega (arith, none, c.requires.whole.sound.some_groups))
    ]

pub returns-in-Given : goal.returns-in-Given
returns-in-Given c =
    let plan = c.args.world.now.plan.now in
    let w : World = world_of c.args.world.now in
    let x : Session = session plan c.args.before.now.session in
    let p = c.in-Given.party in
    let lv = inside_here w c.args.before.now.session c.args.before.now.slot c.requires.before.in_slot (Input c.args.v) c.requires.input in
    let from : source x c.args.v ≡ Given p = ap (λ (y : Session). source y c.args.v) (sym c.part.ensures) ∙ sym c.source.ensures ∙ c.in-Given.is in
    let word : slice_index c.args.before.now.given.now c.args.v ≡ input_of w c.args.before.now.session c.args.v = ap (λ xs. slice_index xs c.args.v) c.requires.before.given ∙ listed_at (length (owners x)) (input_of w c.args.before.now.session) c.args.v 0 lv in
    on_ok_weaker c.deal_into.result
    (given_made w c.requires.whole c.args.before.now.session c.args.before.now.slot c.requires.before.in_session c.requires.before.in_slot c.args.before.now.places.now c.requires.before.places c.args.v p (slice_index c.args.before.now.given.now c.args.v) c.deal_into.new.row.items c.requires.input from word)
    c.deal_into.ensures

pub returns-in-Earlier : goal.returns-in-Earlier
returns-in-Earlier c =
    let plan = c.args.world.now.plan.now in
    let w : World = world_of c.args.world.now in
    let r = c.in-Earlier.session in
    let from : source (session plan c.args.before.now.session) c.args.v ≡ Earlier r c.in-Earlier.value c.in-Earlier.wire = ap (λ (y : Session). source y c.args.v) (sym c.part.ensures) ∙ sym c.source.ensures ∙ c.in-Earlier.is in
    let row = c.requires.before.carried.are c.args.before.now.session c.args.v r c.in-Earlier.value c.in-Earlier.wire from (c.requires.whole.sound.earlier c.args.before.now.session c.args.v r c.in-Earlier.value c.in-Earlier.wire from) in
    on_ok_weaker c.copy_into.result
    (λ is. carried_made w c.requires.whole c.args.before.now.session c.args.before.now.slot c.requires.before.in_session c.requires.before.in_slot c.args.v r c.in-Earlier.value c.in-Earlier.wire c.copy_into.new.row.items c.requires.input from (is ∙ c.row.ensures ∙ row))
    c.copy_into.ensures
