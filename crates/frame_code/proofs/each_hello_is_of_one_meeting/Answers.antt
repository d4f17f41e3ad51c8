use Rattle.frame_code.proofs.ReadFrames.{one_meeting}
use Rattle.frame_code.proofs.each_hello_is_of_one_meeting.Goals as goal

pub returns : goal.returns
returns c = one_meeting
