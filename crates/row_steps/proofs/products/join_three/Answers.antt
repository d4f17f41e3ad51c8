use Rattle.std.proofs.Common.{◌≡◌, ℕ, ◌+◌, ◌*◌, ◌^◌, ◌<◌, refl, sym, ap, ◌∙◌, arith}
use Rattle.std.specs.Prelude.{slice_index}
use Rattle.std.proofs.lemmas.List.Elements.{All-set}
use Rattle.secret_sharing.specs.Prepared.{joined_summand}
use Rattle.row_steps.specs.Rows.{row}
use Rattle.row_steps.proofs.RingSums.{same_summand}
use Rattle.row_steps.proofs.RowWrites.{three_filled}
use Rattle.row_steps.proofs.products.join_three.Goals as goal

at_start : (n : ℕ) → n + 0 ≡ n
at_start n = omega arith

pub returns-clause-rows : goal.returns-clause-rows
returns-clause-rows c =
    let table = c.args.table.now in
    let g = c.args.masks in
    let f = row 3 table in
    let q : ℕ = 2 ^ c.args.ring in
    let d : ℕ = c.args.excess.0 in
    let e : ℕ = c.args.excess.1 in
    let first = c.joined_summand-first.ensures.is 0 refl
    ∙ same_summand q d e 0 _ _ _ (f g.first 0) (f g.second 0) (f g.output 0)
    (ap (slice_index table) (sym (at_start (g.first * 3)))) (ap (slice_index table) (sym (at_start (g.second * 3)))) (ap (slice_index table) (sym (at_start (g.output * 3)))) in
    three_filled table c.args.number (joined_summand q d e (f g.first) (f g.second) (f g.output)) c.joined_summand-first.result c.joined_summand-second.result c.joined_summand-third.result c.requires.row first (c.joined_summand-second.ensures.is 1 refl) (c.joined_summand-third.ensures.is 2 refl)

pub returns-clause-small : goal.returns-clause-small
returns-clause-small c =
    let q : ℕ → Type 0 = λ x. x < 2 ^ c.args.ring in
    let at' = c.args.number * 3 in
    All-set q _ (at' + 2) _ c.joined_summand-third.ensures.below (All-set q _ (at' + 1) _ c.joined_summand-second.ensures.below (All-set q c.args.table.now at' _ c.joined_summand-first.ensures.below c.requires.small))
