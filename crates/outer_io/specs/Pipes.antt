-- What links in memory show.
use Rattle.outer_io.specs.declared.list_inlet.ListInlet.{ListInlet}
use Rattle.outer_io.specs.declared.net.Links.{Links}
use Rattle.outer_io.specs.declared.vec_outlet.VecOutlet.{VecOutlet}
use Rattle.outer_io.specs.Links.{LinksReading, links_reading}
use Rattle.outer_io.specs.Memory.{inlet_reading, outlet_reading}

abbrev pub pipe_links : Links ListInlet VecOutlet → LinksReading
pipe_links links = links_reading inlet_reading outlet_reading links
