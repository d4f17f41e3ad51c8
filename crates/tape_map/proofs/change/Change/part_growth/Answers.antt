use Rattle.std.proofs.Common.{length, ap, ◌∙◌, arith}
use Rattle.tape_map.proofs.ChangedPieces.{moved_count, moved_wide}
use Rattle.tape_map.proofs.change.Change.part_growth.Goals as goal

pub moved_row-moved_x-requires : goal.moved_row-moved_x-requires
moved_row-moved_x-requires c = omega (arith, c.requires.named.0, moved_count c.args.plan.now c.args.self.now c.requires.fits)

pub moved_row-moved_y-requires : goal.moved_row-moved_y-requires
moved_row-moved_y-requires c = omega (arith, c.requires.named.1, moved_count c.args.plan.now c.args.self.now c.requires.fits)

pub product_growth-requires-clause-moved_first : goal.product_growth-requires-clause-moved_first
product_growth-requires-clause-moved_first c =
    ap length c.moved_row-moved_x.ensures ∙ moved_wide c.args.plan.now c.args.self.now c.requires.fits c.args.gate.first c.requires.named.0 ∙ c.requires.whole.0.long

pub product_growth-requires-clause-moved_second : goal.product_growth-requires-clause-moved_second
product_growth-requires-clause-moved_second c =
    ap length c.moved_row-moved_y.ensures ∙ moved_wide c.args.plan.now c.args.self.now c.requires.fits c.args.gate.second c.requires.named.1 ∙ c.requires.whole.1.long
