use Rattle.std.proofs.Common.{◌≡◌, ◌+◌, ◌^◌, ◌++◌, length}
use Rattle.std.specs.Prelude.{slice_index}
use Rattle.list_laws.specs.Lists.{listed}
use Rattle.tape_map.specs.TapeMaps.{raised}
use Rattle.tape_map.proofs.change.push_words.Given as goal

-- the words so far
abbrev pub invariant-loop-i : goal.invariant-loop-i
invariant-loop-i l =
    l.changed.items ≡ l.fn.changed.items ++ listed l.i (raised (2 ^ l.ring) l.place l.growth (λ i. slice_index l.tape (length l.fn.changed.items + i)))
