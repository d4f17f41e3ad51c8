use Rattle.std.proofs.Common.{◌≡◌, [], replicate}
use Rattle.plan_model.specs.InputWords.{session_words}
use Rattle.tape_map.proofs.map.empty_tapes.Given as goal

abbrev pub invariant-loop-party : goal.invariant-loop-party
invariant-loop-party l = session_words l.tapes.items ≡ replicate l._party []
