use Rattle.std.proofs.Common.{◌≡◌, ◌+◌, ◌*◌, ◌^◌, sym, ap, ap₂, ◌∙◌, arith}
use Rattle.std.specs.Int.{bit_at}
use Rattle.std.specs.Option.{unwrap_or}
use Rattle.list_laws.proofs.Totals.{total_more}
use Rattle.value_words.specs.Turned.{column}
use Rattle.node_text.specs.NodeText.{output_word}
use Rattle.node_text.proofs.lines.number_of.Goals as goal

pub loop-wire-preserved : goal.loop-wire-preserved
loop-wire-preserved c = record {
  below = c.with_bit-number.ensures.below;
  is =
      let word = output_word c.args.done.now c.args.s c.args.first in
      c.with_bit-number.ensures.is
      ∙ ap₂ (λ n x. n + bit_at x c.args.lane * 2 ^ c.loop-wire.wire) c.loop-wire.invariant.is (c.unwrap_or.ensures ∙ ap (λ o. unwrap_or o 0) c.delivered.ensures)
      ∙ sym (total_more c.loop-wire.wire (λ i. bit_at (word i) c.args.lane * 2 ^ i));
}

pub returns : goal.returns
returns c =
    let all : c.loop-wire.wire ≡ c.args.width = omega arith in
    c.loop-wire.invariant.is ∙ ap (λ n. column n (output_word c.args.done.now c.args.s c.args.first) c.args.lane) all
