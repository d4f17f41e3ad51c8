-- What a net in memory shows.
use Rattle.std.specs.Prelude.{◌&&◌, [], Option, None, Some}
use Rattle.std.specs.Option.{option_map}
use Rattle.outer_io.specs.declared.list_inlet.ListInlet.{ListInlet}
use Rattle.outer_io.specs.declared.net.Links.{Links}
use Rattle.outer_io.specs.declared.pipe_net.PipeNet.{PipeNet}
use Rattle.outer_io.specs.declared.vec_outlet.VecOutlet.{VecOutlet}
use Rattle.outer_io.specs.Links.{LinksReading, Meeting, NetReading, are_steady}
use Rattle.outer_io.specs.Memory.{all_past}
use Rattle.outer_io.specs.Pipes.{pipe_links}

-- the meeting that a net was made for
abbrev pub meeting_of : PipeNet → Meeting
meeting_of n = record { hosts = n.hosts; port = n.port; me = n.me; parties = n.parties }

-- what links show that are still to be given; once they are given, there are none
abbrev pub offered : Option (Links ListInlet VecOutlet) → LinksReading
offered None = record { inlets = []; outlets = [] }
offered (Some links) = pipe_links links

abbrev pub pipe_reading : PipeNet → NetReading
pipe_reading n =
    record {
      faults = n.faults;
      steady = all_past n.failing.items n.calls && are_steady (offered n.links);
      expects = option_map (λ links. meeting_of n) n.links;
      offers = λ peers. offered n.links;
      kept = option_map pipe_links n.kept;
    }
