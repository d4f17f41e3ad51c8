use Rattle.std.proofs.Common.{◌≡◌, ℕ, length, ap, ap₂, ◌∙◌}
use Rattle.std.specs.Prelude.{slice_index}
use Rattle.list_laws.specs.Lists.{listed}
use Rattle.party_set.specs.Parties.{Structure}
use Rattle.secret_sharing.specs.Duties.{scheme_of}
use Rattle.secret_sharing.specs.Schemes.{own_product}
use Rattle.plan_model.specs.Plans.{scheme}
use Rattle.wire_tables.specs.Places.{dealt_at}
use Rattle.wire_tables.specs.WireTables.{world_of}
use Rattle.wire_tables.proofs.sent_rows.part_row.Goals as goal

pub returns : goal.returns
returns c =
    let plan = c.args.world.now.plan.now in
    let p = c.args.p in
    let own_is : c.own_products-own.result ≡ own_product (scheme plan) p (slice_index c.args.x.now) (slice_index c.args.y.now) =
    c.own_products-own.ensures.is ∙ ap₂ (λ (bits : ℕ) (y : Structure). own_product (scheme_of bits y) p (slice_index c.args.x.now) (slice_index c.args.y.now)) c.ring.ensures.is c.duty.ensures in
    c.in_ok-deal_into.ensures ∙ ap (λ v. listed (length plan.groups) (dealt_at (world_of c.args.world.now) c.args.places.now p v)) own_is
