use Rattle.std.proofs.Common.{ℕ, ◌%◌, ◌^◌, sym, ap, ◌∙◌}
use Rattle.std.specs.Prelude.{slice_index}
use Rattle.list_laws.specs.Lists.{total}
use Rattle.row_steps.specs.Rows.{excess_row, held_or}
use Rattle.row_steps.proofs.RingSums.{three_added}
use Rattle.row_steps.proofs.opener.Opener.open_three.Goals as goal

pub returns-clause-value : goal.returns-clause-value
returns-clause-value c =
    let own = c.args.self.now in
    let q : ℕ = 2 ^ own.ring in
    let words : ℕ → ℕ = held_or own (excess_row own c.args.x c.args.a) (slice_index c.args.sums.now) in
    three_added q c.add-both.result c.add.result words _ _ _ c.excess_or-first.ensures.is c.excess_or-second.ensures.is c.excess_or-third.ensures.is c.add-both.ensures.is c.add.ensures.is
    ∙ ap (λ n. total n words % q) (sym c.requires.three)
