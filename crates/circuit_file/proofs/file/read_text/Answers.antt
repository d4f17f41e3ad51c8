use Rattle.std.proofs.Common.{◌≤◌, length, arith}
use Rattle.std.specs.Str.Lossy.{utf8_valid_len}
use Rattle.std.proofs.lemmas.Bool.{le-ltb}
use Rattle.std.proofs.lemmas.Str.{utf8_valid_len-IsUtf8}
use Rattle.circuit_file.proofs.file.read_text.Goals as goal

pub returns-in-Ok-clause-cause : goal.returns-in-Ok-clause-cause
returns-in-Ok-clause-cause c = le-ltb _ _ (let l : length c.args.bytes.now ≤ utf8_valid_len c.args.bytes.now = omega (arith, utf8_valid_len-IsUtf8 c.args.bytes.now c.in-Ok.ensures.cases.1) in l)
