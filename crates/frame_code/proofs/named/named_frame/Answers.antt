use Rattle.frame_code.specs.Frames.{named_frame}
use Rattle.frame_code.proofs.named.named_frame.Goals as goal

pub returns : goal.returns
unfolding named_frame
returns c = rw (c.write_u64.ensures, c.write_u32.ensures, c.write_u16.ensures)
