use Rattle.std.proofs.Common.{◌^◌}
use Rattle.circuit_model.specs.declared.layout.CircuitLayout.TheVariants as layouts
use Rattle.circuit_file.proofs.WrittenCircuits.{circuit_read}
use Rattle.expr_circuit.specs.Faults.{none_known}
use Rattle.expr_circuit.specs.Circuits.{draft_of, netlist, circuit}
use Rattle.expr_circuit.proofs.Wires.{known_after}
use Rattle.expr_circuit.proofs.Netlists.{draft_fits, gate_named}
use Rattle.expr_circuit.proofs.ValidPrograms.{good_program, valid_program}
use Rattle.expr_circuit.proofs.laws.a_compiled_text_is_read_back.Goals as goal

pub returns : goal.returns
unfolding netlist
returns c = λ bits text p some few is.
    circuit_read layouts.Ring (circuit bits p) (record {
      valid = valid_program bits text p is some few;
      operations = gate_named bits (known_after none_known p) (draft_of p) (draft_fits (2 ^ bits) p (good_program bits text p is));
      boolean = λ e. cc;
    })
