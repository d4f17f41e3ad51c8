use Rattle.std.proofs.Common.{◌∙◌, ap, arith, length-set}
use Rattle.circuit_file.specs.Tokens.{number_in}
use Rattle.circuit_file.proofs.GateScans.{wires_more}
use Rattle.circuit_file.proofs.gate_line.read_wires.Goals as goal

pub loop-at-preserved : goal.loop-at-preserved
loop-at-preserved c = record {
  read = wires_more c.args.row.now c.loop-at.wires c.loop-at.at c.number_in.result (omega arith) (omega arith) c.loop-at.invariant.read (c.number_in.ensures ∙ ap number_in c.token.ensures);
  three = length-set c.loop-at.wires c.loop-at.at c.number_in.result ∙ c.loop-at.invariant.three;
}
