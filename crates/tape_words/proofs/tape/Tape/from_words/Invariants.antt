use Rattle.std.proofs.Common.{ℕ, ◌^◌, ◌<◌}
use Rattle.std.specs.Prelude.{slice_index}
use Rattle.tape_words.proofs.tape.Tape.from_words.Given as goal

-- the words before this one are in the ring
abbrev pub invariant-loop-at : goal.invariant-loop-at
invariant-loop-at l = (k : ℕ) → k < l.at → slice_index l.word-items k < 2 ^ l.ring
