use Rattle.std.proofs.Common.{◌≡◌, [], ap, ◌∙◌, arith}
use Rattle.std.proofs.lemmas.Grind.{common_steps, get_or_default_zero}
use Rattle.party_set.specs.Parties.{Structure}
use Rattle.plan_model.specs.Plans.{holder_of, plan_of}
use Rattle.plan_model.proofs.GrownLists.{listed_push}
use Rattle.wire_tables.specs.Places.{mask_at}
use Rattle.wire_tables.specs.WireTables.{world_of}
use Rattle.wire_tables.proofs.DealtRows.{mask_word}
use Rattle.wire_tables.proofs.rows.mask_into.Goals as goal

pub index-requires : goal.index-requires
index-requires c =
    let i = c.loop-i.i in
    let holder : c.least_holder-p.result ≡ holder_of c.args.world.now.plan.now i = c.least_holder-p.ensures.is ∙ ap (λ (y : Structure). holder_of (plan_of 0 y []) i) c.layout.ensures in
    let word = mask_word c.args.world.now c.args.places.now i c.least_holder-p.result c.least_held.result c.index-tapes-p.result c.requires (omega arith) holder c.least_held.ensures c.index-tapes-p.is in
    let there = word.0 in
    grind (arith, common_steps)

pub loop-i-preserved : goal.loop-i-preserved
loop-i-preserved c =
    let i = c.loop-i.i in
    let holder : c.least_holder-p.result ≡ holder_of c.args.world.now.plan.now i = c.least_holder-p.ensures.is ∙ ap (λ (y : Structure). holder_of (plan_of 0 y []) i) c.layout.ensures in
    let word = mask_word c.args.world.now c.args.places.now i c.least_holder-p.result c.least_held.result c.index-tapes-p.result c.requires (omega arith) holder c.least_held.ensures c.index-tapes-p.is in
    c.in_ok-push.ensures.items
    ∙ listed_push i (mask_at (world_of c.args.world.now) c.args.places.now) c.loop-i.row.items c.index.result.now c.loop-i.invariant
    (c.index.ensures ∙ get_or_default_zero c.index-tapes-p.result.items _ c.index.result.now word.0 ∙ word.1)
