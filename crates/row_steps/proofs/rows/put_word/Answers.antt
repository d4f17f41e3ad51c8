use Rattle.std.proofs.Common.{arith}
use Rattle.row_steps.proofs.RowWrites.{row_put}
use Rattle.row_steps.proofs.rows.put_word.Goals as goal

pub returns-clause-rows : goal.returns-clause-rows
returns-clause-rows c u j lj = row_put c.args.shares c.args.table.now c.args.number c.args.share c.args.word c.requires.within (omega arith) u j lj
