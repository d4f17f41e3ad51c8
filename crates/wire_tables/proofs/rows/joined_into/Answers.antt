use Rattle.std.proofs.Common.{◌≡◌, ℕ, ◌^◌, length, refl, ap, ◌∙◌}
use Rattle.std.specs.Prelude.{slice_index}
use Rattle.secret_sharing.specs.Prepared.{joined_summand, prepared_summand}
use Rattle.plan_model.specs.Plans.{scheme}
use Rattle.plan_model.proofs.GrownLists.{listed_push}
use Rattle.share_world.proofs.LocalWords.{joined_same}
use Rattle.wire_tables.proofs.DealtRows.{excess_is}
use Rattle.wire_tables.proofs.rows.joined_into.Goals as goal

pub loop-i-preserved : goal.loop-i-preserved
loop-i-preserved c =
    let plan = c.args.plan.now in
    let i = c.loop-i.i in
    let a : ℕ → ℕ = slice_index c.args.first.now in
    let b : ℕ → ℕ = slice_index c.args.second.now in
    let p : ℕ → ℕ = slice_index c.args.product.now in
    let d = excess_is plan c.ring-ring.result (length c.args.x.now) c.excess-d.result (slice_index c.args.x.now) a c.ring-ring.ensures.is c.requires.first_wire.long c.excess-d.ensures.is in
    let e = excess_is plan c.ring-ring.result (length c.args.y.now) c.excess-e.result (slice_index c.args.y.now) b c.ring-ring.ensures.is c.requires.second_wire.long c.excess-e.ensures.is in
    let word : c.joined_summand.result ≡ prepared_summand (scheme plan) a b p (slice_index c.args.x.now) (slice_index c.args.y.now) i =
    c.joined_summand.ensures.is i refl
    ∙ ap (λ bits. joined_summand (2 ^ bits) c.excess-d.result c.excess-e.result a b p i) c.ring-ring.ensures.is
    ∙ joined_same (2 ^ plan.bits) i d e refl refl refl in
    c.in_ok-push.ensures.items
    ∙ listed_push i (prepared_summand (scheme plan) a b p (slice_index c.args.x.now) (slice_index c.args.y.now)) c.loop-i.row.items c.joined_summand.result c.loop-i.invariant word
