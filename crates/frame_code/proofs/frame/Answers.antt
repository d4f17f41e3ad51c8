use Rattle.std.proofs.Common.{refl, sym, ap, ◌∙◌}
use Rattle.std.specs.Prelude.{take}
use Rattle.frame_code.specs.Frames.{frame, frame_bytes, frame_as, bytes_as}
use Rattle.frame_code.proofs.ReadFrames.{length-named, all_shown}
use Rattle.frame_code.proofs.frame.Goals as goal

pub returns-in-Named-clause-frame : goal.returns-in-Named-clause-frame
unfolding frame
returns-in-Named-clause-frame c =
    ap (take 18) c.named_frame.ensures ∙ all_shown 18 _ (length-named c.args.key.now c.args.word) refl
    ∙ sym (ap (λ f. frame_as f c.args.framing.bits c.args.key.now c.args.word) c.in-Named.is)

pub returns-in-Named-clause-count : goal.returns-in-Named-clause-count
unfolding frame_bytes
returns-in-Named-clause-count c = sym (ap (λ f. bytes_as f c.args.framing.bits) c.in-Named.is)

pub returns-in-Short-clause-frame : goal.returns-in-Short-clause-frame
unfolding frame
returns-in-Short-clause-frame c = c.short_frame.ensures.frame ∙ sym (ap (λ f. frame_as f c.args.framing.bits c.args.key.now c.args.word) c.in-Short.is)

pub returns-in-Short-clause-count : goal.returns-in-Short-clause-count
unfolding frame_bytes
returns-in-Short-clause-count c = c.short_frame.ensures.count ∙ sym (ap (λ f. bytes_as f c.args.framing.bits) c.in-Short.is)
