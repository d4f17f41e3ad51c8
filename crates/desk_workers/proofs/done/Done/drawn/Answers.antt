use Rattle.std.proofs.Common.{◌∙◌}
use Rattle.desk_workers.proofs.RunDesks.{found}
use Rattle.desk_workers.proofs.done.Done.drawn.Goals as goal

pub returns : goal.returns
returns c w over ls lp = c.drawn.ensures ∙ (found w c.args.self.now over c.args.session c.args.party ls lp c.desk.result.now c.desk.ensures).drawn
