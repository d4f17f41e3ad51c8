use Rattle.std.proofs.Common.{◌≢◌, arith}
use Rattle.maximal_groups.proofs.Lists.{by_masks}
use Rattle.maximal_groups.proofs.listed.ListedFamily.tolerated.Goals as goal

pub returns-else-mask-eq0 : goal.returns-else-mask-eq0
returns-else-mask-eq0 c =
    let some : c.args.g.mask ≢ 0 = λ e. omega (arith, c.mask.ensures.is, c.if-mask-eq0.false) in
    by_masks c.args.self.now c.self.inside.parties c.args.g c.deref.result.now c.self.inside.groups.items c.lies_within_any.result c.self.view_is c.deref.ensures.value c.requires some
    c.lies_within_any.ensures
