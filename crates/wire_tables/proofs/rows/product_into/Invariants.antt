use Rattle.std.proofs.Common.{◌≡◌, ℕ, ◌%◌, ◌^◌, ◌<◌, if◌then◌else◌, All, length}
use Rattle.std.specs.Prelude.{slice_index}
use Rattle.list_laws.specs.Lists.{total}
use Rattle.secret_sharing.specs.Schemes.{has_pair, own_product}
use Rattle.plan_model.specs.Plans.{scheme}
use Rattle.wire_tables.specs.Places.{dealt_at}
use Rattle.wire_tables.specs.WireTables.{world_of}
use Rattle.wire_tables.proofs.rows.product_into.Given as goal

-- the sums of what the parties so far deal
abbrev pub invariant-loop-p : goal.invariant-loop-p
invariant-loop-p l = record {
  long : length l.sums.items ≡ length l.world.plan.now.groups;
  small : All (λ word. word < 2 ^ l.world.plan.now.bits) l.sums.items;
  sums : (i : ℕ) → i < length l.world.plan.now.groups → slice_index l.sums.items i
      ≡ total l.p (λ p. if has_pair (scheme l.world.plan.now) p then dealt_at (world_of l.world) l.places p (own_product (scheme l.world.plan.now) p (slice_index l.x) (slice_index l.y)) i else 0) % 2 ^ l.world.plan.now.bits;
}
