use Rattle.std.proofs.Common.{ℕ, ◌^◌, ap₂, ◌∙◌, arith, rules}
use Rattle.secret_sharing.specs.Schemes.{local}
use Rattle.row_steps.specs.Rows.{row}
use Rattle.row_steps.proofs.RowWrites.{fill_step, fill_unread}
use Rattle.row_steps.proofs.gates.fill_row.Goals as goal

pub loop-i-preserved : goal.loop-i-preserved
loop-i-preserved c =
    let m = c.args.shares in
    let i = c.loop-i.i in
    let g = c.args.gate in
    let f = row m c.args.table.now in
    let new : ℕ → ℕ = λ i. local (2 ^ c.args.ring) c.args.operation g.constant i (f g.first i) (f g.second i) in
    let h = c.loop-i.invariant.rows in record {
      small = search rules;
      rows = fill_step m c.loop-i.table f g.output new i _ h (omega arith) (omega arith)
          (c.local_summand.ensures.is i (search rules)
          ∙ ap₂ (local (2 ^ c.args.ring) c.args.operation g.constant i) (h g.first i (omega arith) ∙ fill_unread f g.output new i g.first) (h g.second i (omega arith) ∙ fill_unread f g.output new i g.second));
    }
