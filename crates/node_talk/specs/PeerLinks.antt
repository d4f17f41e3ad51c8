-- The links of a node, by the party at their other end.
use Rattle.std.specs.Prelude.{ℕ, ◌-◌, false, nat_lt, if◌then◌else◌, slice_index_or, None}
use Rattle.outer_io.specs.Inlet.{InletReading}
use Rattle.outer_io.specs.Outlet.{OutletReading}
use Rattle.outer_io.specs.Sink.{SinkReading}
use Rattle.outer_io.specs.Links.{LinksReading}
use Rattle.node_talk.specs.Talks.{Node}

-- where party q stands among the peers of party p
abbrev pub place_among : ℕ → ℕ → ℕ
place_among p q = if nat_lt q p then q else q - 1

-- what a link that isn't there shows
abbrev pub no_inlet : InletReading
no_inlet = record { told = None; faults = 0; ended = false; steady = false; closed = false }

abbrev pub no_outlet : OutletReading
no_outlet =
    record { sink = record { told = None; faults = 0; steady = false; room = 0 }; holds = false; closed = false }

-- the inlet from q
abbrev pub in_from : Node → LinksReading → ℕ → InletReading
in_from n links q = slice_index_or links.inlets (place_among n.me q) no_inlet

-- the outlet to q, as a sink
abbrev pub out_to : Node → LinksReading → ℕ → SinkReading
out_to n links q = (slice_index_or links.outlets (place_among n.me q) no_outlet).sink
