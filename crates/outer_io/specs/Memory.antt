-- What the forms in memory show.
use Rattle.std.specs.Prelude.{ℕ, ◌-◌, nat_lt, Bool, false, not, ◌&&◌, List, map, Option, Some, String, string_bytes, Vec, vec_len, drop}
use Rattle.std.specs.Option.{option_map}
use Rattle.std.specs.List.{list_all}
use Rattle.std.specs.BTreeMap.{BTreeMap, get_by_text}
use Rattle.std.specs.declared.alloc.Global.{Global}
use Rattle.outer_io.specs.declared.inline_spawner.InlineSpawner.{InlineSpawner}
use Rattle.outer_io.specs.declared.list_inlet.ListInlet.{ListInlet}
use Rattle.outer_io.specs.declared.map_files.MapFiles.{MapFiles}
use Rattle.outer_io.specs.declared.vec_outlet.VecOutlet.{VecOutlet}
use Rattle.outer_io.specs.declared.vec_sink.VecSink.{VecSink}
use Rattle.outer_io.specs.Files.{FilesReading}
use Rattle.outer_io.specs.Inlet.{InletReading}
use Rattle.outer_io.specs.Jobs.{SpawnerReading}
use Rattle.outer_io.specs.Outlet.{OutletReading}
use Rattle.outer_io.specs.Sink.{SinkReading}

-- none of the listed calls is still to come, after `calls` calls
abbrev pub all_past : List ℕ → ℕ → Bool
all_past listed calls = list_all (λ call. nat_lt call calls) listed

-- what a map from names to contents tells
abbrev pub contents : BTreeMap (String Global) (Vec ℕ Global) → List ℕ → Option (List ℕ)
contents files name = option_map (λ bytes. bytes.items) (get_by_text files name)

-- the names on a list
abbrev pub names_of : Vec (String Global) Global → List (List ℕ)
names_of list = map string_bytes list.items

abbrev pub map_reading : MapFiles → FilesReading
map_reading m =
    record {
      told = Some (contents m.files);
      faults = m.faults;
      taken = m.taken;
      steady = all_past m.failing.items m.calls;
      asked = names_of m.asked;
    }

-- the bytes that a sink in memory has
abbrev pub sink_bytes : VecSink → List ℕ
sink_bytes s = s.bytes.items

abbrev pub sink_reading : VecSink → SinkReading
sink_reading s =
    record {
      told = Some (sink_bytes s);
      faults = s.faults;
      steady = all_past s.failing.items s.calls;
      room = s.limit - vec_len s.bytes;
    }

-- the bytes that an outlet in memory has
abbrev pub outlet_bytes : VecOutlet → List ℕ
outlet_bytes o = sink_bytes o.sink

-- what an outlet over this sink shows, where nothing waits, and which is steady only while it is open
abbrev pub over_sink : Bool → SinkReading → OutletReading
over_sink closed sink =
    record { sink = record sink { steady = not closed && sink.steady }; holds = false; closed = closed }

abbrev pub outlet_reading : VecOutlet → OutletReading
outlet_reading o = over_sink o.closed (sink_reading o.sink)

abbrev pub inlet_reading : ListInlet → InletReading
inlet_reading i =
    record {
      told = Some (drop i.taken i.bytes.items);
      faults = i.faults;
      ended = i.ended;
      steady = not i.closed && all_past i.failing.items i.calls;
      closed = i.closed;
    }

abbrev pub spawner_reading : InlineSpawner → SpawnerReading
spawner_reading s = record { refusals = s.refusals; steady = all_past s.refusing.items s.starts }
