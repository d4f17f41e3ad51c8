use Rattle.std.proofs.Common.{◌≡◌, ◌+◌, ◌*◌, ◌^◌, sym, ap, ap₂, ◌∙◌, arith}
use Rattle.std.specs.Int.{bit_at}
use Rattle.list_laws.proofs.Totals.{total_more}
use Rattle.value_words.specs.Turned.{column}
use Rattle.output_text.specs.OutText.{wire_word}
use Rattle.output_text.proofs.OpenedOutputs.{one_read}
use Rattle.output_text.proofs.run.opened_number.Goals as goal

pub opened_word-requires : goal.opened_word-requires
opened_word-requires c =
    let q = c.requires.read in
    (q.0, q.1, one_read q.0.plan c.args.s c.args.first c.args.width c.args.r c.loop-wire.wire q.2 (omega arith))

pub loop-wire-preserved : goal.loop-wire-preserved
loop-wire-preserved c = record {
  below = c.with_bit-number.ensures.below;
  is = λ w f read.
      let word = wire_word w c.args.s c.args.first in
      c.with_bit-number.ensures.is
      ∙ ap₂ (λ n x. n + bit_at x c.args.lane * 2 ^ c.loop-wire.wire) (c.loop-wire.invariant.is w f read) (c.opened_word.ensures w f (one_read w.plan c.args.s c.args.first c.args.width c.args.r c.loop-wire.wire read (omega arith)))
      ∙ sym (total_more c.loop-wire.wire (λ i. bit_at (word i) c.args.lane * 2 ^ i));
}

pub returns : goal.returns
returns c = λ w f read.
    let all : c.loop-wire.wire ≡ c.args.width = omega arith in
    c.loop-wire.invariant.is w f read ∙ ap (λ n. column n (wire_word w c.args.s c.args.first) c.args.lane) all
