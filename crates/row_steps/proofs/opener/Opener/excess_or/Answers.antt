use Rattle.std.proofs.Common.{ℕ, ◌^◌, List, sym, ap, ◌∙◌}
use Rattle.std.proofs.lemmas.Bool.{cond-true}
use Rattle.mpc_ring.specs.Differences.{difference}
use Rattle.share_layout.specs.Layouts.{holds}
use Rattle.row_steps.specs.Rows.{row, excess_row}
use Rattle.row_steps.proofs.opener.Opener.excess_or.Goals as goal

pub returns-clause-is : goal.returns-clause-is
returns-clause-is c =
    let q : ℕ = 2 ^ c.args.self.now.ring in
    let i = c.args.i in
    let table : List ℕ = c.args.self.now.table.now in
    c.sub.ensures.is
    ∙ ap (λ m. difference q (row m table c.args.x i) (row m table c.args.a i)) c.shares-shares.ensures.is
    ∙ sym (cond-true (holds c.args.self.now.layout.now c.args.self.now.party i) (excess_row c.args.self.now c.args.x c.args.a i) c.args.other (sym c.holds.ensures ∙ c.if-not-holds.false))
