use Rattle.std.proofs.Common.{◌≡◌, ◌<◌, length, sym, ap, ◌∙◌, subst, arith}
use Rattle.std.specs.Prelude.{slice_index}
use Rattle.std.proofs.lemmas.Grind.{common_steps, get_or_default_zero}
use Rattle.list_laws.specs.Lists.{listed}
use Rattle.list_laws.proofs.JoinedLists.{length-listed, listed_at}
use Rattle.plan_model.specs.Plans.{slot}
use Rattle.share_world.specs.Worlds.{World, word}
use Rattle.wire_tables.specs.Places.{ArePlaces}
use Rattle.wire_tables.specs.SlotRows.{sent}
use Rattle.wire_tables.specs.WireTables.{world_given}
use Rattle.wire_tables.proofs.MessageSenders.{stands_so, to_anyone}
use Rattle.wire_tables.proofs.word.word_of.Goals as goal

pub carried_before-requires-clause-session : goal.carried_before-requires-clause-session
carried_before-requires-clause-session c =
    let st = stands_so (world_given c.args.plan.now c.args.inputs.now c.args.tapes.now) c.requires.whole c.args.number c.requires.number c.message-key.ensures.is in
    st.in_session

pub make-requires-clause-session : goal.make-requires-clause-session
make-requires-clause-session c =
    let st = stands_so (world_given c.args.plan.now c.args.inputs.now c.args.tapes.now) c.requires.whole c.args.number c.requires.number c.message-key.ensures.is in
    st.in_session

pub places_before-requires-clause-session : goal.places_before-requires-clause-session
places_before-requires-clause-session c =
    let st = stands_so (world_given c.args.plan.now c.args.inputs.now c.args.tapes.now) c.requires.whole c.args.number c.requires.number c.message-key.ensures.is in
    st.in_session

pub sent_row-requires-clause-at : goal.sent_row-requires-clause-at
sent_row-requires-clause-at c =
    let st = stands_so (world_given c.args.plan.now c.args.inputs.now c.args.tapes.now) c.requires.whole c.args.number c.requires.number c.message-key.ensures.is in record {
      in_session = st.in_session;
      in_slot = st.in_slot;
      table = c.in_ok-table.ensures.table;
      places = subst (ArePlaces c.args.plan.now c.message-key.result.session c.message-key.result.slot) (sym c.deref.ensures.value) c.in_ok-places.ensures;
    }

pub places_before-requires-clause-slot : goal.places_before-requires-clause-slot
places_before-requires-clause-slot c =
    let st = stands_so (world_given c.args.plan.now c.args.inputs.now c.args.tapes.now) c.requires.whole c.args.number c.requires.number c.message-key.ensures.is in
    let within = st.in_slot in
    omega (arith, within)

pub sent_row-requires-clause-party : goal.sent_row-requires-clause-party
sent_row-requires-clause-party c =
    let st = stands_so (world_given c.args.plan.now c.args.inputs.now c.args.tapes.now) c.requires.whole c.args.number c.requires.number c.message-key.ensures.is in
    st.sender

pub index-requires : goal.index-requires
index-requires c =
    let st = stands_so (world_given c.args.plan.now c.args.inputs.now c.args.tapes.now) c.requires.whole c.args.number c.requires.number c.message-key.ensures.is in
    let key = c.message-key.result in
    let w : World = world_given c.args.plan.now c.args.inputs.now c.args.tapes.now in
    let row : c.in_ok-row.row.items ≡ listed (length c.args.plan.now.groups) (sent w key.session key.slot key.sender) = c.in_ok-row.ensures st.sends in
    let there : key.share < length c.in_ok-row.row.items = subst (λ n. key.share < n) (sym (ap length row ∙ length-listed (length c.args.plan.now.groups) (sent w key.session key.slot key.sender))) st.share in
    grind (arith, common_steps)

pub returns : goal.returns
returns c =
    let st = stands_so (world_given c.args.plan.now c.args.inputs.now c.args.tapes.now) c.requires.whole c.args.number c.requires.number c.message-key.ensures.is in
    let key = c.message-key.result in
    let w : World = world_given c.args.plan.now c.args.inputs.now c.args.tapes.now in
    let row : c.in_ok-row.row.items ≡ listed (length c.args.plan.now.groups) (sent w key.session key.slot key.sender) = c.in_ok-row.ensures st.sends in
    let there : key.share < length c.in_ok-row.row.items = subst (λ n. key.share < n) (sym (ap length row ∙ length-listed (length c.args.plan.now.groups) (sent w key.session key.slot key.sender))) st.share in
    c.index.ensures ∙ get_or_default_zero c.in_ok-row.row.items key.share c.index.result.now there
    ∙ ap (λ xs. slice_index xs key.share) row ∙ listed_at (length c.args.plan.now.groups) (sent w key.session key.slot key.sender) key.share 0 st.share
    ∙ to_anyone w key (slot c.args.plan.now key.session key.slot) ∙ ap (word w) c.message-key.ensures.is
