use Rattle.std.proofs.Common.{ℕ, ◌+◌, ◌*◌, ◌<◌, ◌^◌, ◌∙◌, arith, rules}
use Rattle.std.proofs.lemmas.List.Elements.{All-set}
use Rattle.secret_sharing.specs.Prepared.{joined_summand}
use Rattle.row_steps.specs.Rows.{row}
use Rattle.row_steps.proofs.RingSums.{same_summand}
use Rattle.row_steps.proofs.RowWrites.{fill_step, fill_unread}
use Rattle.row_steps.proofs.products.join_each.Goals as goal

pub loop-i-preserved : goal.loop-i-preserved
loop-i-preserved c =
    let m = c.args.shares in
    let i = c.loop-i.i in
    let g = c.args.masks in
    let f = row m c.args.table.now in
    let q : ℕ = 2 ^ c.args.ring in
    let d : ℕ = c.args.excess.0 in
    let e : ℕ = c.args.excess.1 in
    let new : ℕ → ℕ = joined_summand q d e (f g.first) (f g.second) (f g.output) in
    let h = c.loop-i.invariant.rows in record {
      small = All-set (λ y. y < q) c.loop-i.table (c.args.number * m + i) c.joined_summand.result c.joined_summand.ensures.below c.loop-i.invariant.small;
      rows = fill_step m c.loop-i.table f c.args.number new i _ h (omega arith) (omega arith)
          (c.joined_summand.ensures.is i (search rules)
          ∙ same_summand q d e i _ _ _ (f g.first i) (f g.second i) (f g.output i)
          (h g.first i (omega arith) ∙ fill_unread f c.args.number new i g.first) (h g.second i (omega arith) ∙ fill_unread f c.args.number new i g.second) (h g.output i (omega arith) ∙ fill_unread f c.args.number new i g.output));
    }
