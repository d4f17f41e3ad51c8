use Rattle.std.proofs.Common.{◌≡◌, ◌<◌, ◌^◌}
use Rattle.share_world.specs.Worlds.{World}
use Rattle.desk_workers.specs.Runs.{IsOver}
use Rattle.value_words.specs.Turned.{column}
use Rattle.output_text.specs.Opened.{IsRead}
use Rattle.output_text.specs.OutText.{wire_word}
use Rattle.output_text.proofs.run.opened_number.Given as goal

abbrev pub invariant-loop-wire : goal.invariant-loop-wire
invariant-loop-wire l = record {
  below : l.number < 2 ^ l.wire;
  is : (w : World) → IsOver w l.done → IsRead w.plan l.s l.first l.width l.r → l.number ≡ column l.wire (wire_word w l.s l.first) l.lane;
}
