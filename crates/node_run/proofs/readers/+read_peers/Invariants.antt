use Rattle.std.proofs.Common.{vec_len}
use Rattle.node_run.proofs.readers.+read_peers.Given as goal

abbrev pub decreases-read_peers : goal.decreases-read_peers
decreases-read_peers g l = vec_len l.readers
