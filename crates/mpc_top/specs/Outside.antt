-- What the outside of a call shows.
use Rattle.std.specs.Prelude.{◌≡◌, ◌≤◌, IsTrue}
use Rattle.outer_io.specs.Files.{FilesReading}
use Rattle.outer_io.specs.Jobs.{SpawnerReading}
use Rattle.outer_io.specs.Links.{NetReading}
use Rattle.outer_io.specs.Sink.{SinkReading}

-- the readings of the files, of `out` and `err`, of the net and of the spawner
pub record Outside : Type 0 where
  pub files : FilesReading
  pub out : SinkReading
  pub err : SinkReading
  pub net : NetReading
  pub spawner : SpawnerReading

-- these readings, of files, `out`, `err`, the net and the spawner
abbrev pub outside_of : FilesReading → SinkReading → SinkReading → NetReading → SpawnerReading → Outside
outside_of files out err net spawner = record { files = files; out = out; err = err; net = net; spawner = spawner }

-- neither the net nor the spawner was asked for anything
abbrev pub LeavesNet : Outside → Outside → Type 0
LeavesNet before after = (after.net ≡ before.net) × (after.spawner ≡ before.spawner)

-- and `out` got nothing
abbrev pub LeavesAll : Outside → Outside → Type 0
LeavesAll before after = (after.out ≡ before.out) × LeavesNet before after

-- the count of faults of the net does not fall, and a steady net stays steady
pub record KeepsNet (before after : NetReading) : Type 0 where
  pub faults_grow : before.faults ≤ after.faults
  pub keeps_steady : IsTrue before.steady → IsTrue after.steady

-- nor does the spawner's count of refusals, and a steady spawner stays steady
pub record KeepsSpawner (before after : SpawnerReading) : Type 0 where
  pub refusals_grow : before.refusals ≤ after.refusals
  pub keeps_steady : IsTrue before.steady → IsTrue after.steady
