use Rattle.std.proofs.Common.{arith}
use Rattle.std.proofs.lemmas.Str.Pattern.{strip_prefix_char}
use Rattle.job_file.proofs.Owners.{carry_told}
use Rattle.job_file.proofs.owner.carry_text.Goals as goal

pub returns-then-version_two : goal.returns-then-version_two
returns-then-version_two c =
    carry_told c.args.version_two c.args.text.now c.strip_prefix.result c.if-version_two.true (strip_prefix_char 64 c.args.text.now c.strip_prefix.result c.strip_prefix.ensures.cases (omega arith))
