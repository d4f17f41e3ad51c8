use Rattle.std.proofs.Common.{◌≡◌, length, replicate, None, ◌+◌, ◌*◌, sym, ap, ◌∙◌, subst}
use Rattle.std.specs.Arc.{arc_value}
use Rattle.job_session.specs.Rows.{IsRows}
use Rattle.session_slots.specs.KeptWires.{live}
use Rattle.session_slots.specs.Sessions.{Session, readers}
use Rattle.job_session.specs.declared.row_table.RowTable.{RowTable}
use Rattle.plan_model.specs.Plans.{session}
use Rattle.party_desk.proofs.reserved.Reserved.make.Goals as goal

pub returns : goal.returns
returns c =
    let plan = c.args.plan.now in
    let x : Session = session plan c.args.s in
    let table : IsRows x (arc_value c.in_ok-table.table) = subst (IsRows x) (sym c.in_ok-table.ensures) c.rows.ensures in
    let shares = c.shares-shares.ensures.is in
    let count : c.count.result ≡ live x + 1 = c.count.ensures ∙ ap (λ (t : RowTable). t.count) c.deref.ensures ∙ table.1 in
    record {
      program = c.in_ok-program.ensures;
      inputs = c.in_ok-inputs.ensures.items;
      table = table;
      rows = c.in_ok-rows.ensures ∙ ap (λ n. replicate n 0) (ap (λ n. n * c.shares-shares.result) count ∙ ap (λ n. (live x + 1) * n) shares);
      sums = c.in_ok-sums.ensures ∙ ap (λ n. replicate n 0) shares;
      outputs = c.in_ok-outputs.ensures ∙ ap (λ n. replicate n None) (c.output_wires.ensures ∙ ap (λ (y : Session). length (readers y)) c.part-part.ensures);
    }
