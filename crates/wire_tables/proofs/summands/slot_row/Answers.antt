use Rattle.std.proofs.Common.{◌≡◌, sym, ap, ◌∙◌, subst}
use Rattle.session_slots.specs.Sessions.{Session, mask_wire, product_in, session_slot}
use Rattle.session_slots.specs.Sessions.Slot.{Mask, Mask_product}
use Rattle.plan_model.specs.Plans.{session, slot, deals_in}
use Rattle.share_world.specs.Worlds.{World}
use Rattle.wire_tables.specs.Steps.{SetsRow}
use Rattle.wire_tables.specs.WireTables.{world_of}
use Rattle.wire_tables.proofs.NextPlaces.{has_words, has_mask_words}
use Rattle.wire_tables.proofs.MadeRows.{mask_made, masks_are_rows, masks_set}
use Rattle.wire_tables.proofs.summands.slot_row.Goals as goal

pub input_row-requires-clause-input : goal.input_row-requires-clause-input
input_row-requires-clause-input c = ap (λ y. session_slot y c.args.before.now.slot) (sym c.part-part.ensures) ∙ sym c.in-Input.ensures.is

pub mask_into-requires : goal.mask_into-requires
mask_into-requires c =
    let plan = c.args.world.now.plan.now in
    let w : World = world_of c.args.world.now in
    let x : Session = session plan c.args.before.now.session in
    let is : slot plan c.args.before.now.session c.args.before.now.slot ≡ Mask c.in-Mask.t c.in-Mask.side = ap (λ y. session_slot y c.args.before.now.slot) (sym c.part-part.ensures) ∙ sym c.in-Mask.ensures.is in
    has_mask_words w c.requires.whole c.args.before.now.session c.args.before.now.slot c.args.before.now.places.now c.requires.before.in_session c.requires.before.in_slot c.requires.before.places c.in-Mask.t c.in-Mask.side is

pub returns-in_ok-mask_into-in-Mask : goal.returns-in_ok-mask_into-in-Mask
returns-in_ok-mask_into-in-Mask c =
    let plan = c.args.world.now.plan.now in
    let w : World = world_of c.args.world.now in
    let x : Session = session plan c.args.before.now.session in
    let is : slot plan c.args.before.now.session c.args.before.now.slot ≡ Mask c.in-Mask.t c.in-Mask.side = ap (λ y. session_slot y c.args.before.now.slot) (sym c.part-part.ensures) ∙ sym c.in-Mask.ensures.is in
    let name : c.mask_wire.result ≡ mask_wire x c.in-Mask.t c.in-Mask.side = c.mask_wire.ensures ∙ ap (λ y. mask_wire y c.in-Mask.t c.in-Mask.side) c.part-part.ensures in
    subst (λ n. SetsRow w c.args.before.now.session c.args.before.now.slot n c.mask_into.new.row.items) (sym name)
    (mask_made w c.requires.whole c.args.before.now.session c.args.before.now.slot c.requires.before.in_session c.requires.before.in_slot c.args.before.now.places.now c.requires.before.places c.in-Mask.t c.in-Mask.side c.mask_into.new.row.items is c.in_ok-mask_into-in-Mask.ensures)

pub product_into-requires-clause-first : goal.product_into-requires-clause-first
product_into-requires-clause-first c =
    let w : World = world_of c.args.world.now in
    let is : slot w.plan c.args.before.now.session c.args.before.now.slot ≡ Mask_product c.in-MaskProduct.t = ap (λ y. session_slot y c.args.before.now.slot) (sym c.part-part.ensures) ∙ sym c.in-MaskProduct.ensures.is in
    let masks = c.product_of_masks-masks.ensures ∙ ap (λ (y : Session). product_in y (Mask_product c.in-MaskProduct.t)) c.part-part.ensures in
    (masks_are_rows w c.requires.whole c.args.before.now c.requires.before c.in-MaskProduct.t is _ masks _ _ c.row_of-a.ensures c.row_of-b.ensures).0.long

pub product_into-requires-clause-second : goal.product_into-requires-clause-second
product_into-requires-clause-second c =
    let w : World = world_of c.args.world.now in
    let is : slot w.plan c.args.before.now.session c.args.before.now.slot ≡ Mask_product c.in-MaskProduct.t = ap (λ y. session_slot y c.args.before.now.slot) (sym c.part-part.ensures) ∙ sym c.in-MaskProduct.ensures.is in
    let masks = c.product_of_masks-masks.ensures ∙ ap (λ (y : Session). product_in y (Mask_product c.in-MaskProduct.t)) c.part-part.ensures in
    (masks_are_rows w c.requires.whole c.args.before.now c.requires.before c.in-MaskProduct.t is _ masks _ _ c.row_of-a.ensures c.row_of-b.ensures).1.long

pub product_into-requires-clause-tapes : goal.product_into-requires-clause-tapes
product_into-requires-clause-tapes c p lp pair =
    let w : World = world_of c.args.world.now in
    let is : slot w.plan c.args.before.now.session c.args.before.now.slot ≡ Mask_product c.in-MaskProduct.t = ap (λ y. session_slot y c.args.before.now.slot) (sym c.part-part.ensures) ∙ sym c.in-MaskProduct.ensures.is in
    has_words w c.requires.whole c.args.before.now.session c.args.before.now.slot c.args.before.now.places.now c.requires.before.in_session c.requires.before.in_slot c.requires.before.places p lp (ap (deals_in w.plan c.args.before.now.session p) is ∙ pair)

pub returns-in_ok-product_into-in-MaskProduct : goal.returns-in_ok-product_into-in-MaskProduct
returns-in_ok-product_into-in-MaskProduct c =
    let w : World = world_of c.args.world.now in
    let is : slot w.plan c.args.before.now.session c.args.before.now.slot ≡ Mask_product c.in-MaskProduct.t = ap (λ y. session_slot y c.args.before.now.slot) (sym c.part-part.ensures) ∙ sym c.in-MaskProduct.ensures.is in
    let masks = c.product_of_masks-masks.ensures ∙ ap (λ (y : Session). product_in y (Mask_product c.in-MaskProduct.t)) c.part-part.ensures in
    masks_set w c.requires.whole c.args.before.now c.requires.before c.in-MaskProduct.t is _ masks _ _ c.row_of-a.ensures c.row_of-b.ensures c.product_into.new.sums.items c.in_ok-product_into-in-MaskProduct.ensures
