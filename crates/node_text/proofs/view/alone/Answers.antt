use Rattle.std.proofs.Common.{◌<◌, ◌^◌, sym, subst}
use Rattle.std.proofs.Math.Pow.{pow-lt}
use Rattle.node_text.proofs.view.alone.Goals as goal

pub group_of_mask-requires-clause-mask : goal.group_of_mask-requires-clause-mask
group_of_mask-requires-clause-mask c = subst (λ n. n < 2 ^ c.args.parties) (sym c.party_mask.ensures) (pow-lt {i = c.args.party} {j = c.args.parties} c.requires.party)
