use Rattle.frame_code.proofs.ReadFrames.{length-frame, one_word}
use Rattle.frame_code.proofs.each_frame_has_one_word.Goals as goal

pub returns-clause-long : goal.returns-clause-long
returns-clause-long c = length-frame

pub returns-clause-word : goal.returns-clause-word
returns-clause-word c = one_word
