use Rattle.std.proofs.Common.{ℕ, ◌+◌, ◌%◌, ◌^◌, ◌<◌, ◌≢◌, if◌then◌else◌, length, ap₂, ◌∙◌, arith, rules, get_or-set_other, get_or-set_same, below_more}
use Rattle.std.specs.Prelude.{slice_index}
use Rattle.row_steps.specs.Rows.{row}
use Rattle.row_steps.proofs.RowWrites.{fill_step, fill_unread}
use Rattle.row_steps.proofs.products.sum_each.Goals as goal

pub loop-i-preserved : goal.loop-i-preserved
loop-i-preserved c =
    let m = c.args.shares in
    let i = c.loop-i.i in
    let f = row m c.args.table.now in
    let new : ℕ → ℕ = λ j. ((if c.args.dealt then f c.args.number j else 0) + slice_index c.args.sums.now j) % 2 ^ c.args.ring in
    let h = c.loop-i.invariant in record {
      small = search rules;
      small_sums = search rules;
      rows = fill_step m c.loop-i.table f c.args.number new i _ h.rows (omega arith) (omega arith)
          (c.summed.ensures.is ∙ ap₂ (λ a b. ((if c.args.dealt then a else 0) + b) % 2 ^ c.args.ring) (h.rows c.args.number i (omega arith) ∙ fill_unread f c.args.number new i c.args.number) (h.left i (omega arith)));
      done = below_more _ _
          (λ k l. let ne : k ≢ i = omega arith in rw get_or-set_other (h.done k l))
          (let lt : i < length c.loop-i.sums = omega arith in rw get_or-set_same c.zero.ensures.is);
      left = λ k l. let ne : k ≢ i = omega arith in rw get_or-set_other (h.left k (omega arith));
    }
