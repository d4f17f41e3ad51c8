use Rattle.std.proofs.Common.{◌≡◌, ℕ, ◌+◌, ◌-◌, ◌*◌, ◌∙◌, refl, length, drop, arith}
use Rattle.std.specs.Prelude.{slice_index}
use Rattle.std.proofs.lemmas.List.{length-drop, length-take-le}
use Rattle.secret_sharing.specs.Schemes.{dealt}
use Rattle.row_steps.specs.Rows.{row}
use Rattle.row_steps.proofs.RowWrites.{row_range, set_same}
use Rattle.row_steps.proofs.rows.deal_row.Goals as goal

pub returns-clause-rows : goal.returns-clause-rows
returns-clause-rows c s modulus shares u i li =
    let m = c.args.shares in
    let table = c.args.table.now in
    let number = c.args.number in
    let k : ℕ = number * m + m - number * m in
    let all : k ≡ m = omega arith in
    let long : length c.deal.new.out ≡ m = omega (arith, c.deal.auto.out, c.requires.row, all, length-drop (number * m) table, length-take-le k (drop (number * m) table) (omega (arith, c.requires.row, all, length-drop (number * m) table))) in
    row_range m table c.deal.new.out number k all long c.requires.row u i li
    ∙ set_same m (row m table) (row m table) number (slice_index c.deal.new.out) (dealt s c.args.value (slice_index c.args.tape.now)) (λ w j l. refl)
    (λ j l. c.deal.ensures.dealt s modulus (omega (arith, long, shares)) j (omega (arith, shares, l))) u i li
