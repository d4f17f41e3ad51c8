use Rattle.std.proofs.Common.{◌∙◌, ap, arith}
use Rattle.byteorder.specs.Endian.{big_number}
use Rattle.frame_code.proofs.ReadFrames.{shifted, read_there, read_word}
use Rattle.frame_code.proofs.short.short_word.Goals as goal

pub returns-clause-back : goal.returns-clause-back
returns-clause-back c = λ word small same.
    let number = shifted c.args.bits c.args.bytes.now.count _ c.args.bytes.now.bytes c.requires.bits c.requires.count (c.read_u64.ensures ∙ ap (big_number 8) c.all_of.ensures.is) c.all_of.ensures.small in
    read_word c.args.bits c.args.bytes.now.count _ word c.args.bytes.now.bytes c.requires.count number small same

pub returns-clause-reads : goal.returns-clause-reads
returns-clause-reads c =
    let number = shifted c.args.bits c.args.bytes.now.count _ c.args.bytes.now.bytes c.requires.bits c.requires.count (c.read_u64.ensures ∙ ap (big_number 8) c.all_of.ensures.is) c.all_of.ensures.small in
    read_there c.args.bits c.args.bytes.now.count _ c.args.bytes.now.bytes c.all_of.ensures.long c.all_of.ensures.small
    (let count = c.requires.count in let few = c.requires.bits in omega (arith, count, few)) c.requires.count number
