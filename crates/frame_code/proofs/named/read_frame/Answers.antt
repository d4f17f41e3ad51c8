use Rattle.std.proofs.Common.{Some, ap, ap₂, ◌∙◌}
use Rattle.std.specs.Prelude.{slice_index}
use Rattle.frame_code.proofs.ReadFrames.{reads, read_back, first_is_one, key_in, named_word}
use Rattle.frame_code.proofs.named.read_frame.Goals as goal

pub returns-then-bytes-ne1-clause-back : goal.returns-then-bytes-ne1-clause-back
returns-then-bytes-ne1-clause-back c key word fits small same =
    absurd (c.if-bytes-ne1.true (ap (λ xs. slice_index xs 0) same ∙ first_is_one key word))

pub returns-clause-reads : goal.returns-clause-reads
unfolding key_in named_word
returns-clause-reads c =
    rw (c.from.ensures, c.from_be_bytes.ensures, c.from_be_bytes-2.ensures, c.from-2.ensures, c.from-3.ensures, c.from-4.ensures, c.from_be_bytes-word.ensures)
    (reads c.args.bytes.now c.told-bytes c.fits-bytes c.if-bytes-ne1.false)

pub returns-clause-back : goal.returns-clause-back
unfolding key_in named_word
returns-clause-back c key word fits small same =
    let read = read_back c.args.bytes.now key word fits small same in
    rw (c.from.ensures, c.from_be_bytes.ensures, c.from_be_bytes-2.ensures, c.from-2.ensures, c.from-3.ensures, c.from-4.ensures, c.from_be_bytes-word.ensures)
    (ap₂ (λ k w. Some (k, w)) read.0 read.1)
