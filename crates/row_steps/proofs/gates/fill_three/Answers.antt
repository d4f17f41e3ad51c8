use Rattle.std.proofs.Common.{◌≡◌, ℕ, ◌+◌, ◌*◌, ◌^◌, refl, sym, ap, ap₂, ◌∙◌, arith}
use Rattle.std.specs.Prelude.{slice_index}
use Rattle.secret_sharing.specs.Schemes.{local}
use Rattle.row_steps.specs.Rows.{row}
use Rattle.row_steps.proofs.RowWrites.{three_filled}
use Rattle.row_steps.proofs.gates.fill_three.Goals as goal

at_start : (n : ℕ) → n + 0 ≡ n
at_start n = omega arith

pub returns-clause-filled : goal.returns-clause-filled
returns-clause-filled c =
    let table = c.args.table.now in
    let gate = c.args.gate in
    let before = row 3 table in
    let summand : ℕ → ℕ → ℕ → ℕ = local (2 ^ c.args.ring) c.args.operation gate.constant in
    let first = c.local_summand-first.ensures.is 0 refl
    ∙ ap₂ (summand 0) (ap (slice_index table) (sym (at_start (gate.first * 3)))) (ap (slice_index table) (sym (at_start (gate.second * 3)))) in
    three_filled table gate.output (λ i. summand i (before gate.first i) (before gate.second i)) c.local_summand-first.result c.local_summand-second.result c.local_summand-third.result c.requires.rows.2 first (c.local_summand-second.ensures.is 1 refl) (c.local_summand-third.ensures.is 2 refl)
