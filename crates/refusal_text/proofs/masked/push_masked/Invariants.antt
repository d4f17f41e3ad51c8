use Rattle.std.proofs.Common.{◌≡◌, ◌++◌}
use Rattle.std.specs.Prelude.{nat_le, ◌&&◌, if◌then◌else◌, slice_index}
use Rattle.list_laws.specs.Lists.{listed}
use Rattle.refusal_text.proofs.masked.push_masked.Given as goal

abbrev pub invariant-loop-byte : goal.invariant-loop-byte
invariant-loop-byte l = l.line.items ≡ l.initial.line.items ++ listed l.byte-index (λ i. let c = slice_index l.name i in if nat_le 33 c && nat_le c 126 then c else 63)
