use Rattle.circuit_file.proofs.WrittenCircuits.{circuit_stands, circuit_read}
use Rattle.circuit_file.proofs.laws.a_written_circuit_is_read_back.Goals as goal

pub returns-clause-stands : goal.returns-clause-stands
returns-clause-stands c = circuit_stands

pub returns-clause-read : goal.returns-clause-read
returns-clause-read c = circuit_read
