use Rattle.std.proofs.Common.{◌≡◌, take}
use Rattle.std.specs.List.{concat}
use Rattle.job_run.proofs.copies.words_of.Given as goal

-- the words of the pieces so far
abbrev pub invariant-loop-piece : goal.invariant-loop-piece
invariant-loop-piece l = l.words.items ≡ concat (take l.piece-index l.pieces)
