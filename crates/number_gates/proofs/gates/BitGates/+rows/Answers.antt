use Rattle.std.proofs.Common.{sym, refl, ap, length, ◌-◌, ◌/◌, arith}
use Rattle.number_gates.specs.Products.{kept_pair, rows, saved}
use Rattle.number_gates.proofs.ProductSteps.{rows_zero, rows_small, rows_more}
use Rattle.number_gates.proofs.RunSteps.{runs_then, runs_along}
use Rattle.number_gates.proofs.CarrySteps.{ok_so}
use Rattle.number_gates.proofs.gates.BitGates.+rows.Goals as goal

pub returns-then-depth-eq0 : goal.returns-then-depth-eq0
returns-then-depth-eq0 t c =
    ok_so c.first_row.result _ _ c.first_row.ensures (λ r h. runs_along (sym (rows_zero c.args.depth c.args.a.now c.args.b.now c.if-depth-eq0.true)) h)

pub returns-then-a-lt2 : goal.returns-then-a-lt2
returns-then-a-lt2 t c =
    ok_so c.first_row-then-a-lt2.result _ _ c.first_row-then-a-lt2.ensures (λ r h. runs_along (sym (rows_small c.args.depth c.args.a.now c.args.b.now (omega arith))) h)

pub returns : goal.returns
returns t c =
    ok_so c.saved.result _ _ c.saved.ensures (λ r h.
    runs_along (sym (rows_more c.args.depth (c.args.depth - 1) (length c.args.a.now / 2) c.args.a.now c.args.b.now (omega arith) (omega arith) refl refl))
    (runs_then _ (runs_along (ap (λ xs. rows (c.args.depth - 1) xs c.args.b.now) c.front.ensures) c.in_ok-low.ensures)
    (runs_then _ (runs_along (ap (λ xs. rows (c.args.depth - 1) xs c.args.b.now) c.back.ensures) c.in_ok-high.ensures)
    (runs_along (ap (λ n. saved n (length c.args.a.now / 2) (kept_pair c.in_ok-low.low) (kept_pair c.in_ok-high.high)) c.in_ok-width.ensures) h))))
