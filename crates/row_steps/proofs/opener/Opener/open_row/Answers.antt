use Rattle.std.proofs.Common.{◌≡◌, ◌%◌, ◌^◌, ◌∙◌, ap, length}
use Rattle.std.specs.Prelude.{slice_index}
use Rattle.list_laws.specs.Lists.{total}
use Rattle.list_laws.proofs.Totals.{total_eq}
use Rattle.row_steps.proofs.opener.Opener.open_row.Goals as goal

pub returns-clause-value : goal.returns-clause-value
returns-clause-value c =
    let q = 2 ^ c.args.self.now.ring in
    let m = length c.args.self.now.layout.now.groups in
    let long : length c.put_held.new.sums ≡ m = c.put_held.auto.sums ∙ c.requires.sums in
    c.open_sums.ensures.value
    ∙ ap (λ n. total n (slice_index c.put_held.new.sums) % q) long
    ∙ ap (λ z. z % q) (total_eq m _ _ (λ i li. c.put_held.ensures i li))
