use Rattle.std.proofs.Common.{◌≡◌, ◌<◌, ◌≤◌, length, replicate, sym, ap, ◌∙◌, subst, arith}
use Rattle.session_slots.specs.Sessions.{Session, row_names}
use Rattle.session_slots.proofs.RowNames.{wires_named}
use Rattle.plan_model.specs.Plans.{Plan, session}
use Rattle.wire_tables.proofs.RowSteps.{rows_first}
use Rattle.wire_tables.proofs.summands.unset_rows.Goals as goal

pub returns : goal.returns
returns c w same =
    let s = c.args.s in
    let x : Session = session c.args.plan.now s in
    let part : c.part-part.result.now ≡ x = c.part-part.ensures in
    let wires : c.wires-mask.result ≡ x.wires = c.wires-mask.ensures ∙ ap (λ (y : Session). y.wires) part in
    let names : c.row_names-mask-end.result ≡ row_names x = c.row_names-mask-end.ensures ∙ ap row_names part in
    let more : x.wires ≤ row_names x = wires_named x in
    let h = c.loop-mask.invariant in
    let all : c.loop-mask._mask ≡ row_names x = omega (arith, c.loop-mask.auto._mask-end) in
    rows_first w s c.loop-mask.rows.items (h.long ∙ all ∙ ap (λ (p : Plan). row_names (session p s)) (sym same))
    (λ v l. h.wires v (subst (λ (p : Plan). v < (session p s).wires) same l) ∙ ap (λ (p : Plan). replicate (length p.groups) 0) (sym same))
    (λ v le l.
    let below : v < row_names x = subst (λ (p : Plan). v < row_names (session p s)) same l in
    h.masks v (subst (λ (p : Plan). (session p s).wires ≤ v) same le) (omega (arith, all, below)))
