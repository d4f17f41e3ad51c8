use Rattle.frame_code.proofs.ReadFrames.{one_message}
use Rattle.frame_code.proofs.each_frame_is_of_one_message.Goals as goal

pub returns : goal.returns
returns c = one_message
