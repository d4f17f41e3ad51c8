use Rattle.std.proofs.Common.{◌≡◌, ℕ, ◌+◌, ◌*◌, ◌%◌, ◌^◌, ◌<◌, if◌then◌else◌, sym, ap, ◌∙◌, arith}
use Rattle.std.specs.Prelude.{slice_index}
use Rattle.std.proofs.lemmas.List.Elements.{All-set}
use Rattle.row_steps.specs.Rows.{row}
use Rattle.row_steps.proofs.RowWrites.{three_filled}
use Rattle.row_steps.proofs.products.sum_three.Goals as goal

at_start : (n : ℕ) → n + 0 ≡ n
at_start n = omega arith

pub returns-clause-rows : goal.returns-clause-rows
returns-clause-rows c =
    let table = c.args.table.now in
    let number = c.args.number in
    let before = row 3 table in
    let sum : ℕ → ℕ → ℕ = λ a b. ((if c.args.dealt then a else 0) + b) % 2 ^ c.args.ring in
    let first = c.summed-first.ensures.is ∙ ap (λ n. sum (slice_index table n) (slice_index c.args.sums.now 0)) (sym (at_start (number * 3))) in
    three_filled table number (λ i. sum (before number i) (slice_index c.args.sums.now i)) c.summed-first.result c.summed-second.result c.summed-third.result c.requires.row first c.summed-second.ensures.is c.summed-third.ensures.is

pub returns-clause-small : goal.returns-clause-small
returns-clause-small c =
    let q : ℕ → Type 0 = λ x. x < 2 ^ c.args.ring in
    let at' = c.args.number * 3 in
    All-set q _ (at' + 2) _ c.summed-third.ensures.below (All-set q _ (at' + 1) _ c.summed-second.ensures.below (All-set q c.args.table.now at' _ c.summed-first.ensures.below c.requires.small))
