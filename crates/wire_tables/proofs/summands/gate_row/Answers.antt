use Rattle.std.proofs.Common.{refl, sym, ap, ◌∙◌}
use Rattle.std.proofs.lemmas.Result.{on_ok_weaker}
use Rattle.session_slots.specs.Sessions.{Session, product_in}
use Rattle.session_slots.specs.Sessions.Slot.{Mask_product}
use Rattle.wire_tables.proofs.NextPlaces.{has_words}
use Rattle.wire_tables.proofs.MadeRows.{at_gate, first_named, gate_within, join_set, linear_set, mask_rows, part_dealt, product_set, second_named, wire_rows}
use Rattle.wire_tables.proofs.TableRows.{row_small}
use Rattle.wire_tables.proofs.summands.gate_row.Goals as goal

pub gate-gate-requires : goal.gate-gate-requires
gate-gate-requires c = gate_within _ _ _ _ (at_gate _ _ _ _ _ c.requires.whole c.requires.before c.requires.gate c.part-part.ensures refl) _ c.part-part.ensures

pub row_of-x-requires : goal.row_of-x-requires
row_of-x-requires c = first_named _ _ _ _ (at_gate _ _ _ _ _ c.requires.whole c.requires.before c.requires.gate c.part-part.ensures c.gate-gate.ensures)

pub row_of-y-requires : goal.row_of-y-requires
row_of-y-requires c = second_named _ _ _ _ (at_gate _ _ _ _ _ c.requires.whole c.requires.before c.requires.gate c.part-part.ensures c.gate-gate.ensures)

pub linear_into-requires-clause-long : goal.linear_into-requires-clause-long
linear_into-requires-clause-long c =
    let rows = wire_rows _ _ _ _ (at_gate _ _ _ _ _ c.requires.whole c.requires.before c.requires.gate c.part-part.ensures c.gate-gate.ensures) _ _ c.row_of-x.ensures c.row_of-y.ensures in rows.0.long ∙ sym rows.1.long

pub linear_into-requires-clause-words : goal.linear_into-requires-clause-words
linear_into-requires-clause-words c =
    row_small _ _ _ c.ring.ensures.is (wire_rows _ _ _ _ (at_gate _ _ _ _ _ c.requires.whole c.requires.before c.requires.gate c.part-part.ensures c.gate-gate.ensures) _ _ c.row_of-x.ensures c.row_of-y.ensures).0

pub linear_into-requires-clause-more_words : goal.linear_into-requires-clause-more_words
linear_into-requires-clause-more_words c =
    row_small _ _ _ c.ring.ensures.is (wire_rows _ _ _ _ (at_gate _ _ _ _ _ c.requires.whole c.requires.before c.requires.gate c.part-part.ensures c.gate-gate.ensures) _ _ c.row_of-x.ensures c.row_of-y.ensures).1

pub returns-then-not-is_product : goal.returns-then-not-is_product
returns-then-not-is_product c =
    on_ok_weaker c.linear_into.result (linear_set _ _ _ _ (at_gate _ _ _ _ _ c.requires.whole c.requires.before c.requires.gate c.part-part.ensures c.gate-gate.ensures) _ _ c.row_of-x.ensures c.row_of-y.ensures _ _ (sym c.is_product.ensures ∙ c.if-not-is_product.true) c.ring.ensures.is) c.linear_into.ensures

pub product_into-requires-clause-first : goal.product_into-requires-clause-first
product_into-requires-clause-first c =
    (wire_rows _ _ _ _ (at_gate _ _ _ _ _ c.requires.whole c.requires.before c.requires.gate c.part-part.ensures c.gate-gate.ensures) _ _ c.row_of-x.ensures c.row_of-y.ensures).0.long

pub product_into-requires-clause-second : goal.product_into-requires-clause-second
product_into-requires-clause-second c =
    (wire_rows _ _ _ _ (at_gate _ _ _ _ _ c.requires.whole c.requires.before c.requires.gate c.part-part.ensures c.gate-gate.ensures) _ _ c.row_of-x.ensures c.row_of-y.ensures).1.long

pub product_into-requires-clause-tapes : goal.product_into-requires-clause-tapes
product_into-requires-clause-tapes c p lp pair =
    has_words _ c.requires.whole _ _ _ c.requires.before.in_session c.requires.before.in_slot c.requires.before.places p lp
    (part_dealt _ _ _ _ (at_gate _ _ _ _ _ c.requires.whole c.requires.before c.requires.gate c.part-part.ensures c.gate-gate.ensures) _ _ c.row_of-x.ensures c.row_of-y.ensures (sym c.is_product.ensures ∙ c.if-not-is_product.false) (sym (c.is_prepared.ensures ∙ ap (λ (y : Session). y.prepared) c.part-part.ensures) ∙ c.if-not-is_prepared.true) p pair)

pub returns-then-not-is_prepared : goal.returns-then-not-is_prepared
returns-then-not-is_prepared c =
    on_ok_weaker c.product_into.result (product_set _ _ _ _ (at_gate _ _ _ _ _ c.requires.whole c.requires.before c.requires.gate c.part-part.ensures c.gate-gate.ensures) _ _ c.row_of-x.ensures c.row_of-y.ensures (sym c.is_product.ensures ∙ c.if-not-is_product.false) (sym (c.is_prepared.ensures ∙ ap (λ (y : Session). y.prepared) c.part-part.ensures) ∙ c.if-not-is_prepared.true) _) c.product_into.ensures

pub joined_into-requires-clause-first_wire : goal.joined_into-requires-clause-first_wire
joined_into-requires-clause-first_wire c =
    (wire_rows _ _ _ _ (at_gate _ _ _ _ _ c.requires.whole c.requires.before c.requires.gate c.part-part.ensures c.gate-gate.ensures) _ _ c.row_of-x.ensures c.row_of-y.ensures).0

pub joined_into-requires-clause-second_wire : goal.joined_into-requires-clause-second_wire
joined_into-requires-clause-second_wire c =
    (wire_rows _ _ _ _ (at_gate _ _ _ _ _ c.requires.whole c.requires.before c.requires.gate c.part-part.ensures c.gate-gate.ensures) _ _ c.row_of-x.ensures c.row_of-y.ensures).1

pub joined_into-requires-clause-first_mask : goal.joined_into-requires-clause-first_mask
joined_into-requires-clause-first_mask c =
    (mask_rows _ _ _ _ (at_gate _ _ _ _ _ c.requires.whole c.requires.before c.requires.gate c.part-part.ensures c.gate-gate.ensures) _ _ c.row_of-x.ensures c.row_of-y.ensures (sym c.is_product.ensures ∙ c.if-not-is_product.false) (sym (c.is_prepared.ensures ∙ ap (λ (y : Session). y.prepared) c.part-part.ensures) ∙ c.if-not-is_prepared.false) _ (c.product_of_masks-masks.ensures ∙ ap (λ (y : Session). product_in y (Mask_product c.args.t)) c.part-part.ensures) _ _ _ c.row_of-a.ensures c.row_of-b.ensures c.row_of.ensures).0

pub joined_into-requires-clause-second_mask : goal.joined_into-requires-clause-second_mask
joined_into-requires-clause-second_mask c =
    (mask_rows _ _ _ _ (at_gate _ _ _ _ _ c.requires.whole c.requires.before c.requires.gate c.part-part.ensures c.gate-gate.ensures) _ _ c.row_of-x.ensures c.row_of-y.ensures (sym c.is_product.ensures ∙ c.if-not-is_product.false) (sym (c.is_prepared.ensures ∙ ap (λ (y : Session). y.prepared) c.part-part.ensures) ∙ c.if-not-is_prepared.false) _ (c.product_of_masks-masks.ensures ∙ ap (λ (y : Session). product_in y (Mask_product c.args.t)) c.part-part.ensures) _ _ _ c.row_of-a.ensures c.row_of-b.ensures c.row_of.ensures).1

pub joined_into-requires-clause-mask_product : goal.joined_into-requires-clause-mask_product
joined_into-requires-clause-mask_product c =
    (mask_rows _ _ _ _ (at_gate _ _ _ _ _ c.requires.whole c.requires.before c.requires.gate c.part-part.ensures c.gate-gate.ensures) _ _ c.row_of-x.ensures c.row_of-y.ensures (sym c.is_product.ensures ∙ c.if-not-is_product.false) (sym (c.is_prepared.ensures ∙ ap (λ (y : Session). y.prepared) c.part-part.ensures) ∙ c.if-not-is_prepared.false) _ (c.product_of_masks-masks.ensures ∙ ap (λ (y : Session). product_in y (Mask_product c.args.t)) c.part-part.ensures) _ _ _ c.row_of-a.ensures c.row_of-b.ensures c.row_of.ensures).2

pub returns : goal.returns
returns c =
    on_ok_weaker c.joined_into.result (join_set _ _ _ _ (at_gate _ _ _ _ _ c.requires.whole c.requires.before c.requires.gate c.part-part.ensures c.gate-gate.ensures) _ _ c.row_of-x.ensures c.row_of-y.ensures (sym c.is_product.ensures ∙ c.if-not-is_product.false) (sym (c.is_prepared.ensures ∙ ap (λ (y : Session). y.prepared) c.part-part.ensures) ∙ c.if-not-is_prepared.false) _ (c.product_of_masks-masks.ensures ∙ ap (λ (y : Session). product_in y (Mask_product c.args.t)) c.part-part.ensures) _ _ _ c.row_of-a.ensures c.row_of-b.ensures c.row_of.ensures _) c.joined_into.ensures
