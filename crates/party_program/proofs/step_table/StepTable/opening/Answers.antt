use Rattle.std.proofs.Common.{sym}
use Rattle.party_program.proofs.OccurringPatterns.{opened_to}
use Rattle.party_program.proofs.step_table.StepTable.opening.Goals as goal

pub place-requires : goal.place-requires
place-requires c =
    let occurs = c.requires.5 in
    (c.requires.4.readers c.args.readers).1 (opened_to c.requires.0 c.requires.2 occurs.slot c.args.readers occurs.slot_there (sym occurs.is))
