use Rattle.std.proofs.Common.{◌≡◌, ◌<◌, ◌^◌}
use Rattle.value_words.specs.Turned.{column}
use Rattle.node_text.specs.NodeText.{output_word}
use Rattle.node_text.proofs.lines.number_of.Given as goal

abbrev pub invariant-loop-wire : goal.invariant-loop-wire
invariant-loop-wire l = record {
  below : l.number < 2 ^ l.wire;
  is : l.number ≡ column l.wire (output_word l.done l.s l.first) l.lane;
}
