use Rattle.std.proofs.Common.{refl}
use Rattle.frame_code.proofs.ReadFrames.{written}
use Rattle.frame_code.proofs.short.short_frame.Goals as goal

pub returns-clause-frame : goal.returns-clause-frame
returns-clause-frame c =
    written c.args.bits c.word_bytes-count.result c.args.word _ _ _ c.word_bytes-count.ensures.most c.word_bytes-count.ensures.bytes c.requires.small refl c.write_u64.ensures
