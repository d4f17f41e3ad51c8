use Rattle.std.proofs.Common.{take, drop, refl, sym}
use Rattle.circuit_file.specs.Tokens.{numbers_in}
use Rattle.circuit_file.proofs.ReaderSteps.{gate_added}
use Rattle.circuit_file.proofs.gate_line.add_gate.Goals as goal

pub returns : goal.returns
returns c = λ layout row is.
    gate_added layout row c.args.builder.now c.gate.new.self c.gate.result c.args.parsed.now.form c.args.parsed.now.line (numbers_in (take c.args.parsed.now.form.wires (drop 2 row.tokens))) (take c.args.parsed.now.form.wires c.args.parsed.now.wires)
    c.split_at.result.0.now c.split_at.result.1.now (drop 2 row.tokens) (sym is.form) is.line refl refl is.wires c.split_at.ensures.front c.split_at.ensures.back c.requires.going c.gate.ensures.answer c.gate.ensures.next
