use Rattle.std.proofs.Common.{◌≡◌, ◌≤◌, length}
use Rattle.std.specs.Prelude.{filter, map, All}
use Rattle.std.specs.List.{range_with_len}
use Rattle.party_set.specs.Parties.{Members}
use Rattle.maximal_groups.specs.Families.{is_maximal}
use Rattle.maximal_groups.proofs.find.find_groups.Given as goal

abbrev pub invariant-loop-mask : goal.invariant-loop-mask
invariant-loop-mask g l = record {
  found : map (λ (m : Members). m.mask) l.groups.items ≡ filter (is_maximal (g.F.Family.count l.family) (g.F.Family.is_tolerated l.family)) (range_with_len 0 l.mask);
  parties : All (λ (m : Members). m.parties ≡ l.parties) l.groups.items;
  fits : length l.groups.items ≤ 64;
}
