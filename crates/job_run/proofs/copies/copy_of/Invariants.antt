use Rattle.std.proofs.Common.{◌≡◌, take}
use Rattle.plan_model.specs.InputWords.{session_words}
use Rattle.job_run.proofs.copies.copy_of.Given as goal

-- the sessions so far
abbrev pub invariant-loop-words : goal.invariant-loop-words
invariant-loop-words l = session_words l.copy.items ≡ session_words (take l.words-index l.sessions)
