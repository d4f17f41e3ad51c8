use Rattle.std.proofs.Common.{◌≡◌, ◌++◌}
use Rattle.list_laws.specs.Lists.{joined, listed}
use Rattle.plan_model.specs.InputWords.{session_words}
use Rattle.job_run.proofs.CutTapes.{cut_piece, cut_row}
use Rattle.job_run.proofs.cuts.cut_pieces.Given as goal

-- the pieces of the sessions so far
abbrev pub invariant-loop-s : goal.invariant-loop-s
invariant-loop-s l = l.pieces.items ≡ joined l.s (cut_row l.plan (session_words l.tapes))

-- and behind them those of the parties so far in this session
abbrev pub invariant-loop-p : goal.invariant-loop-p
invariant-loop-p l = l.pieces.items ≡ joined l.s (cut_row l.plan (session_words l.tapes)) ++ listed l.p (cut_piece l.plan (session_words l.tapes) l.s)
