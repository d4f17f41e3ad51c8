-- What a net over TCP shows, and what listening does.
use Rattle.std.specs.Prelude.{◌≡◌, ℕ, false, Option, None, Result, IsErrOf}
use Rattle.outer_io.specs.Count.{Rose}
use Rattle.outer_io.specs.Links.{LinksReading, NetReading}
use Rattle.outer_io.specs.declared.net.NetRefusal.{NetRefusal}
use Rattle.outer_io.specs.declared.net.NetRefusal.TheVariants.{Failed}
use Rattle.socket_link.specs.Sockets.{unused}

-- a net that has failed so often, and keeps these links
abbrev pub net_reading : ℕ → Option LinksReading → NetReading
net_reading faults kept = record { faults = faults; steady = false; expects = None; offers = unused; kept = kept }

-- Listening changes nothing that the net shows but its count of faults, which rises where it fails.
pub record Listens (before after : NetReading) (result : Result Unit NetRefusal) : Type 0 where
  pub failed : IsErrOf result Failed → Rose before.faults after.faults
  pub quiet : ¬ IsErrOf result Failed → after.faults ≡ before.faults
  pub rest : after ≡ record before { faults = after.faults }
