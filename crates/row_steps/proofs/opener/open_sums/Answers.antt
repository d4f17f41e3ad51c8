use Rattle.std.proofs.Common.{◌%◌, ◌^◌, ap, sym, ◌∙◌}
use Rattle.list_laws.proofs.Totals.{total_items}
use Rattle.row_steps.proofs.opener.open_sums.Goals as goal

pub returns-clause-value : goal.returns-clause-value
returns-clause-value c = c.open_sum-sum.ensures.is ∙ ap (λ z. z % 2 ^ c.args.ring) (sym (total_items c.args.sums.now))
