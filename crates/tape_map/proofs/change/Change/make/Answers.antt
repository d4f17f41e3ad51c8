use Rattle.std.proofs.Common.{sym, ap, ◌∙◌, subst}
use Rattle.session_slots.specs.Sessions.{Session, row_names}
use Rattle.plan_model.specs.Plans.{session}
use Rattle.wire_tables.specs.WireTables.{world_of}
use Rattle.tape_map.specs.Changes.{AreNamedRows, AreNumbers, row_growths}
use Rattle.tape_map.proofs.ChangedPieces.{row_numbers, rows_fit}
use Rattle.tape_map.proofs.change.Change.make.Goals as goal

pub moved_rows-requires-clause-growths : goal.moved_rows-requires-clause-growths
moved_rows-requires-clause-growths c =
    let plan = c.args.world.now.plan.now in
    let x : Session = session plan c.args.s in
    let are = c.deref.ensures.value ∙ c.in_ok-growths.ensures ∙ ap (λ (y : Session). row_growths y c.args.growths.now) c.part.ensures in
    subst (AreNumbers plan (row_names x)) (sym are) (row_numbers plan x c.args.growths.now c.requires.growths)

pub moved_rows-requires-clause-rows : goal.moved_rows-requires-clause-rows
moved_rows-requires-clause-rows c =
    subst (AreNamedRows c.args.world.now.plan.now c.args.s) (sym c.in_ok-rows.ensures.table) (rows_fit (world_of c.args.world.now) c.args.s c.requires.whole c.requires.session)
