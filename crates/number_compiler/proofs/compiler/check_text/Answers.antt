use Rattle.std.proofs.Common.{cond, Ok, Err, sym, ap}
use Rattle.std.specs.Str.Lossy.{utf8_valid_len}
use Rattle.number_circuit.specs.declared.fault.NumberFault.TheVariants.{NotUtf8}
use Rattle.circuit_file.proofs.FileLaws.{text_related}
use Rattle.number_compiler.proofs.compiler.check_text.Goals as goal

pub returns-in-Ok : goal.returns-in-Ok
returns-in-Ok c = sym (ap (λ b. cond b (Err (NotUtf8 (utf8_valid_len c.args.bytes.now))) (Ok tt)) (text_related c.args.bytes.now c.in-Ok.ensures.cases.1))
