-- What links between threads show: nothing of what comes and goes.
use Rattle.std.specs.Prelude.{false, None}
use Rattle.std.specs.Option.{is_none}
use Rattle.pipe_nodes.specs.declared.thread_inlet.ThreadInlet.{ThreadInlet}
use Rattle.pipe_nodes.specs.declared.thread_outlet.ThreadOutlet.{ThreadOutlet}
use Rattle.outer_io.specs.Inlet.{InletReading}
use Rattle.outer_io.specs.Links.{LinksReading, links_reading}
use Rattle.outer_io.specs.declared.net.Links.{Links}
use Rattle.outer_io.specs.Outlet.{OutletReading}
use Rattle.socket_link.specs.Sockets.{untold}

abbrev pub inlet_reading : ThreadInlet → InletReading
inlet_reading i =
    record { told = None; faults = i.faults; ended = i.ended; steady = false; closed = is_none i.receiver }

abbrev pub outlet_reading : ThreadOutlet → OutletReading
outlet_reading o = record { sink = untold o.faults; holds = false; closed = is_none o.sender }

abbrev pub thread_links : Links ThreadInlet ThreadOutlet → LinksReading
thread_links links = links_reading inlet_reading outlet_reading links
