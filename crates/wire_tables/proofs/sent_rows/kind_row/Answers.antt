use Rattle.std.proofs.Common.{List, ℕ, ◌^◌, sym, ap, ap₂, ◌∙◌, subst}
use Rattle.std.specs.Prelude.{slice_index}
use Rattle.std.specs.Global.{Vec}
use Rattle.std.proofs.lemmas.Result.{IfOk-weaker}
use Rattle.list_laws.specs.Lists.{listed}
use Rattle.mpc_ring.specs.Differences.{difference}
use Rattle.session_slots.specs.SoundSessions.{slot_of_kind, Inside}
use Rattle.plan_model.specs.Plans.{deals_in}
use Rattle.share_world.specs.Worlds.{World}
use Rattle.wire_tables.specs.WireTables.{world_of}
use Rattle.wire_tables.proofs.NextPlaces.{has_words}
use Rattle.wire_tables.proofs.SlotWords.{inside_here}
use Rattle.wire_tables.proofs.SentRows.{at_slot, excess_rows, excess_sent, product_deals, product_rows, product_sent, row_sent}
use Rattle.wire_tables.proofs.TableRows.{row_small}
use Rattle.wire_tables.proofs.sent_rows.kind_row.Goals as goal

pub content-requires : goal.content-requires
content-requires c =
    let w : World = world_of c.args.world.now in
    subst (λ y. Inside y (slot_of_kind c.args.kind)) (sym c.part.ensures) (inside_here w c.args.at.now.session c.args.at.now.slot c.requires.at.in_slot (slot_of_kind c.args.kind) c.requires.kind)

pub row-requires : goal.row-requires
row-requires c = (at_slot _ _ _ _ _ _ c.requires.whole c.requires.at c.requires.kind c.requires.sends c.part.ensures c.in-Row.ensures.named c.in-Row.ensures.is).named

pub row-requires-in-Excess : goal.row-requires-in-Excess
row-requires-in-Excess c =
    (at_slot _ _ _ _ _ _ c.requires.whole c.requires.at c.requires.kind c.requires.sends c.part.ensures c.in-Excess.ensures.named c.in-Excess.ensures.is).named.0

pub row-requires-in-Excess-2 : goal.row-requires-in-Excess-2
row-requires-in-Excess-2 c =
    (at_slot _ _ _ _ _ _ c.requires.whole c.requires.at c.requires.kind c.requires.sends c.part.ensures c.in-Excess.ensures.named c.in-Excess.ensures.is).named.1

pub masked_row-requires-clause-long : goal.masked_row-requires-clause-long
masked_row-requires-clause-long c =
    let rows = excess_rows _ _ _ _ _ _ _ (at_slot _ _ _ _ _ _ c.requires.whole c.requires.at c.requires.kind c.requires.sends c.part.ensures c.in-Excess.ensures.named c.in-Excess.ensures.is) _ _ c.row-in-Excess.ensures c.row-in-Excess-2.ensures in rows.0.long ∙ sym rows.1.long

pub masked_row-requires-clause-words : goal.masked_row-requires-clause-words
masked_row-requires-clause-words c =
    row_small _ _ _ c.ring.ensures.is (excess_rows _ _ _ _ _ _ _ (at_slot _ _ _ _ _ _ c.requires.whole c.requires.at c.requires.kind c.requires.sends c.part.ensures c.in-Excess.ensures.named c.in-Excess.ensures.is) _ _ c.row-in-Excess.ensures c.row-in-Excess-2.ensures).0

pub masked_row-requires-clause-more_words : goal.masked_row-requires-clause-more_words
masked_row-requires-clause-more_words c =
    row_small _ _ _ c.ring.ensures.is (excess_rows _ _ _ _ _ _ _ (at_slot _ _ _ _ _ _ c.requires.whole c.requires.at c.requires.kind c.requires.sends c.part.ensures c.in-Excess.ensures.named c.in-Excess.ensures.is) _ _ c.row-in-Excess.ensures c.row-in-Excess-2.ensures).1

pub row-x-requires : goal.row-x-requires
row-x-requires c =
    (at_slot _ _ _ _ _ _ c.requires.whole c.requires.at c.requires.kind c.requires.sends c.part.ensures c.in-Product.ensures.named c.in-Product.ensures.is).named.0

pub row-y-requires : goal.row-y-requires
row-y-requires c =
    (at_slot _ _ _ _ _ _ c.requires.whole c.requires.at c.requires.kind c.requires.sends c.part.ensures c.in-Product.ensures.named c.in-Product.ensures.is).named.1

pub part_row-requires-clause-first : goal.part_row-requires-clause-first
part_row-requires-clause-first c =
    (product_rows _ _ _ _ _ (at_slot _ _ _ _ _ _ c.requires.whole c.requires.at c.requires.kind c.requires.sends c.part.ensures c.in-Product.ensures.named c.in-Product.ensures.is) _ _ c.row-x.ensures c.row-y.ensures).0.long

pub part_row-requires-clause-second : goal.part_row-requires-clause-second
part_row-requires-clause-second c =
    (product_rows _ _ _ _ _ (at_slot _ _ _ _ _ _ c.requires.whole c.requires.at c.requires.kind c.requires.sends c.part.ensures c.in-Product.ensures.named c.in-Product.ensures.is) _ _ c.row-x.ensures c.row-y.ensures).1.long

pub part_row-requires-clause-words : goal.part_row-requires-clause-words
part_row-requires-clause-words c =
    has_words _ c.requires.whole _ _ _ c.requires.at.in_session c.requires.at.in_slot c.requires.at.places c.args.p c.requires.party
    (ap (deals_in c.args.world.now.plan.now c.args.at.now.session c.args.p) c.requires.kind ∙ product_deals _ _ _ _ _ (at_slot _ _ _ _ _ _ c.requires.whole c.requires.at c.requires.kind c.requires.sends c.part.ensures c.in-Product.ensures.named c.in-Product.ensures.is) _ _ c.row-x.ensures c.row-y.ensures)

pub returns-in-Row : goal.returns-in-Row
returns-in-Row c =
    IfOk-weaker c.from_slice.result _ _ (λ (row : Vec ℕ) e. row_sent _ _ _ _ _ (at_slot _ _ _ _ _ _ c.requires.whole c.requires.at c.requires.kind c.requires.sends c.part.ensures c.in-Row.ensures.named c.in-Row.ensures.is) row.items (e ∙ c.row.ensures)) c.from_slice.ensures.items

pub returns-in-Excess : goal.returns-in-Excess
returns-in-Excess c =
    let difference_of : ℕ → ℕ → List ℕ = λ n bits. listed n (λ i. difference (2 ^ bits) (slice_index c.row-in-Excess.result.now i) (slice_index c.row-in-Excess-2.result.now i)) in
    IfOk-weaker c.masked_row.result _ _ (λ (row : Vec ℕ) e.
    excess_sent _ _ _ _ _ _ _ (at_slot _ _ _ _ _ _ c.requires.whole c.requires.at c.requires.kind c.requires.sends c.part.ensures c.in-Excess.ensures.named c.in-Excess.ensures.is) _ _ c.row-in-Excess.ensures c.row-in-Excess-2.ensures row.items (e ∙ ap₂ difference_of (excess_rows _ _ _ _ _ _ _ (at_slot _ _ _ _ _ _ c.requires.whole c.requires.at c.requires.kind c.requires.sends c.part.ensures c.in-Excess.ensures.named c.in-Excess.ensures.is) _ _ c.row-in-Excess.ensures c.row-in-Excess-2.ensures).0.long c.ring.ensures.is)) c.masked_row.ensures

pub returns-in-Product : goal.returns-in-Product
returns-in-Product c =
    IfOk-weaker c.part_row.result _ _ (λ (row : Vec ℕ) e. product_sent _ _ _ _ _ (at_slot _ _ _ _ _ _ c.requires.whole c.requires.at c.requires.kind c.requires.sends c.part.ensures c.in-Product.ensures.named c.in-Product.ensures.is) _ _ c.row-x.ensures c.row-y.ensures c.requires.party row.items e) c.part_row.ensures
