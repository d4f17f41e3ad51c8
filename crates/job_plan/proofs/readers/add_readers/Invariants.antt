use Rattle.std.proofs.Common.{◌++◌, take}
use Rattle.mask_list.specs.Masks.{AreMasksOf}
use Rattle.session_slots.specs.Sessions.{readers}
use Rattle.plan_model.specs.Plans.{session}
use Rattle.job_plan.proofs.readers.add_readers.Given as goal

-- the readers of the output wires so far were added
abbrev pub invariant-loop-o : goal.invariant-loop-o
invariant-loop-o l = AreMasksOf l.masks (l.initial.masks ++ take l.o (readers (session l.outline l.s)))
