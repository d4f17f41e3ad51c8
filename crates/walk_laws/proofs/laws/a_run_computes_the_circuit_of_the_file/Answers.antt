use Rattle.walk_laws.proofs.FileCircuits.{runs_compute_circuits}
use Rattle.walk_laws.proofs.laws.a_run_computes_the_circuit_of_the_file.Goals as goal

pub returns : goal.returns
returns c = runs_compute_circuits
