use Rattle.std.proofs.Common.{◌++◌, sym, ap₂, ◌∙◌}
use Rattle.job_run.proofs.PartyCopies.{concat_more}
use Rattle.job_run.proofs.copies.words_of.Goals as goal

pub loop-piece-preserved : goal.loop-piece-preserved
loop-piece-preserved c =
    c.in_ok-extend_from_slice.ensures.items
    ∙ ap₂ (λ front next. front ++ next) c.loop-piece.invariant (c.as_slice.ensures.value ∙ c.in_ok-copy_words.ensures ∙ c.piece-item.is)
    ∙ sym (concat_more c.args.pieces.now c.loop-piece.piece-index c.piece-item.result c.loop-piece-test.true)
