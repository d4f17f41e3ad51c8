use Rattle.std.proofs.Common.{take, map}
use Rattle.plan_model.specs.Patterns.{named}
use Rattle.view_check.specs.Audits.{audited_world}
use Rattle.view_text.specs.Seen.{seen_of}
use Rattle.view_check.specs.Views.{Passes}
use Rattle.view_check.proofs.messages.check_slot.Given as goal

-- the messages of the first transfers are passed
abbrev pub invariant-loop-i : goal.invariant-loop-i
invariant-loop-i l =
    Passes l.run.names.now (seen_of (audited_world l.run) l.run.group.mask (map (named l.at.session l.at.slot) (take l.i l.transfers))) l.fn.rest l.rest
