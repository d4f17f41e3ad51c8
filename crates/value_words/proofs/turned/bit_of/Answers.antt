use Rattle.std.proofs.Common.{sym}
use Rattle.std.proofs.lemmas.Nat.Bits.{bit_at_above}
use Rattle.value_words.proofs.turned.bit_of.Goals as goal

pub returns-else-place-lt64 : goal.returns-else-place-lt64
returns-else-place-lt64 c = sym (bit_at_above c.args.number 64 c.args.place c.ranges.number.fits c.if-place-lt64.false)
