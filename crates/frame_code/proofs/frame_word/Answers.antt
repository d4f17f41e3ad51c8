use Rattle.std.proofs.Common.{◌≡◌, ℕ, Option, Some, None, sym, ap, ◌∙◌}
use Rattle.std.specs.Prelude.{IfSome}
use Rattle.frame_code.specs.Frames.{frame, frame_bytes, frame_as, bytes_as, shown, named_frame}
use Rattle.frame_code.proofs.ReadFrames.{all_shown, small_64}
use Rattle.frame_code.proofs.frame_word.Goals as goal

-- what holds of the word that is there, if one is
kept : (o : Option ℕ) (P Q : ℕ → Type 0) → ((w : ℕ) → P w → Q w) → IfSome o P → IfSome o Q
kept None P Q f h = tt
kept (Some w) P Q f h = f w h

pub short_word-requires-clause-count : goal.short_word-requires-clause-count
unfolding frame_bytes
short_word-requires-clause-count c = c.requires.count ∙ ap (λ f. bytes_as f c.args.framing.bits) c.in-Short.is

pub returns-in-Named-clause-back : goal.returns-in-Named-clause-back
unfolding frame frame_bytes
returns-in-Named-clause-back c = λ word small same.
    let many = c.requires.count ∙ ap (λ f. bytes_as f c.args.framing.bits) c.in-Named.is in
    c.named_word.ensures.back word (small_64 c.args.framing.bits word c.requires.bits small)
    (c.all_of.ensures.is ∙ sym (all_shown c.args.bytes.now.count c.args.bytes.now.bytes c.all_of.ensures.long many) ∙ same ∙ ap (λ f. frame_as f c.args.framing.bits c.args.key.now word) c.in-Named.is)

pub returns-in-Named-clause-reads : goal.returns-in-Named-clause-reads
unfolding frame frame_bytes
returns-in-Named-clause-reads c =
    let many = c.requires.count ∙ ap (λ f. bytes_as f c.args.framing.bits) c.in-Named.is in
    kept c.named_word.result (λ word. c.all_of.result ≡ named_frame c.args.key.now word) (λ word. shown c.args.bytes.now ≡ frame c.args.framing c.args.key.now word)
    (λ word is. all_shown c.args.bytes.now.count c.args.bytes.now.bytes c.all_of.ensures.long many ∙ sym c.all_of.ensures.is ∙ is ∙ sym (ap (λ f. frame_as f c.args.framing.bits c.args.key.now word) c.in-Named.is))
    c.named_word.ensures.reads

pub returns-in-Short-clause-back : goal.returns-in-Short-clause-back
unfolding frame
returns-in-Short-clause-back c = λ word small same.
    ap Some (c.short_word.ensures.back word small (same ∙ ap (λ f. frame_as f c.args.framing.bits c.args.key.now word) c.in-Short.is))

pub returns-in-Short-clause-reads : goal.returns-in-Short-clause-reads
unfolding frame
returns-in-Short-clause-reads c = c.short_word.ensures.reads ∙ sym (ap (λ f. frame_as f c.args.framing.bits c.args.key.now c.short_word.result) c.in-Short.is)
