use Rattle.std.proofs.Common.{◌≡◌, ◌≤◌, ◌++◌, length, drop}
use Rattle.std.specs.Prelude.{sum}
use Rattle.tape_words.specs.Cuts.{cut}
use Rattle.tape_words.proofs.tape.Tape.pieces.Given as goal

-- the pieces so far, and those of the rest
abbrev pub invariant-loop-count : goal.invariant-loop-count
invariant-loop-count l = record {
  pieces : cut l.counts l.self ≡ l.pieces.items ++ cut (drop l.count-index l.counts) l.rest;
  enough : sum (drop l.count-index l.counts) ≤ length l.rest;
}
