-- What links over TCP show: nothing of what comes and goes.
use Rattle.std.specs.Prelude.{ℕ, ◌==◌, not, false, List, length, replicate, None}
use Rattle.std.specs.Option.{is_none, option_map_or}
use Rattle.std.specs.Io.Buffered.{writer_buffer}
use Rattle.socket_link.specs.declared.tcp_inlet.TcpInlet.{TcpInlet}
use Rattle.socket_link.specs.declared.tcp_outlet.TcpOutlet.{TcpOutlet}
use Rattle.outer_io.specs.Inlet.{InletReading}
use Rattle.outer_io.specs.Links.{LinksReading, links_reading}
use Rattle.outer_io.specs.declared.net.Links.{Links}
use Rattle.outer_io.specs.Outlet.{OutletReading}
use Rattle.outer_io.specs.Sink.{SinkReading}

abbrev pub inlet_reading : TcpInlet → InletReading
inlet_reading i =
    record { told = None; faults = i.faults; ended = i.ended; steady = false; closed = is_none i.reader }

-- a sink that has failed so often, and tells nothing
abbrev pub untold : ℕ → SinkReading
untold faults = record { told = None; faults = faults; steady = false; room = 0 }

-- the bytes that it was given and that did not go out yet
abbrev pub waiting : TcpOutlet → List ℕ
waiting o = option_map_or writer_buffer o.writer o.left.items

abbrev pub outlet_reading : TcpOutlet → OutletReading
outlet_reading o = record { sink = untold o.faults; holds = not (length (waiting o) == 0); closed = o.closed }

abbrev pub tcp_links : Links TcpInlet TcpOutlet → LinksReading
tcp_links links = links_reading inlet_reading outlet_reading links

-- ends of pipes over which nothing went yet
abbrev pub unread : InletReading
unread = record { told = None; faults = 0; ended = false; steady = false; closed = false }

abbrev pub unsent : OutletReading
unsent = record { sink = untold 0; holds = false; closed = false }

-- the links to `peers` peers
abbrev pub unused : ℕ → LinksReading
unused peers = record { inlets = replicate peers unread; outlets = replicate peers unsent }
