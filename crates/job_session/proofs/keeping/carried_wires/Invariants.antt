use Rattle.std.proofs.Common.{◌≡◌, map}
use Rattle.std.specs.Global.{Vec}
use Rattle.list_laws.specs.Lists.{listed}
use Rattle.session_slots.specs.declared.values.KeptWire.{KeptWire}
use Rattle.session_slots.specs.Carries.{kept_from}
use Rattle.job_session.proofs.keeping.carried_wires.Given as goal

-- of the sessions so far
abbrev pub invariant-loop-r : goal.invariant-loop-r
invariant-loop-r l = map (λ (wires : Vec KeptWire). wires.items) l.kept.items ≡ listed l.r (λ r. kept_from r l.parts)
