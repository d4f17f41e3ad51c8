use Rattle.std.proofs.Common.{◌≡◌, None}
use Rattle.list_laws.specs.Lists.{joined}
use Rattle.list_laws.specs.Checks.{first_fault}
use Rattle.plan_model.specs.InputWords.{session_words}
use Rattle.wire_tables.specs.WireTables.{value_at}
use Rattle.tape_map.specs.MapFaults.{value_checks}
use Rattle.tape_map.proofs.outputs.output_fault.Given as goal

-- all checks so far pass
abbrev pub invariant-loop-s : goal.invariant-loop-s
invariant-loop-s l =
    first_fault (joined l.s (λ s. value_checks l.plan l.group.mask s (value_at (session_words l.first) s) (value_at (session_words l.second) s))) ≡ None
