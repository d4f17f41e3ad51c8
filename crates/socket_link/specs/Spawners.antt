-- What a spawner of threads shows.
use Rattle.std.specs.Prelude.{false}
use Rattle.outer_io.specs.Jobs.{SpawnerReading}
use Rattle.socket_link.specs.declared.thread_spawner.ThreadSpawner.{ThreadSpawner}

abbrev pub thread_reading : {R : Type 0} → ThreadSpawner R → SpawnerReading
thread_reading s = record { refusals = s.refusals; steady = false }
