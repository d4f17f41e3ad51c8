use Rattle.std.proofs.Common.{◌≡◌, ◌++◌, ap, ◌∙◌, arith}
use Rattle.std.specs.Prelude.{codes, decimal}
use Rattle.list_laws.specs.Lists.{joined}
use Rattle.outer_io.proofs.GatheredTexts.{adds_nothing}
use Rattle.text_parts.proofs.GatheredTexts.{adds_same, adds_more}
use Rattle.value_words.specs.Turned.{column}
use Rattle.view_text.proofs.OutputWires.{words_joined}
use Rattle.node_text.specs.NodeText.{output_word}
use Rattle.node_text.proofs.lines.gather_numbers.Goals as goal

pub loop-lane-init : goal.loop-lane-init
loop-lane-init g c = adds_nothing _

pub loop-lane-preserved : goal.loop-lane-preserved
loop-lane-preserved g c =
    adds_more c.loop-lane.lane (λ j. codes " " ++ decimal (column c.args.width (output_word c.args.done.now c.args.s c.args.first) j)) _ _ _ _
    (ap (λ word. codes " " ++ decimal word) c.number_of.ensures) c.loop-lane.invariant c.gather_word.ensures

pub returns : goal.returns
returns g c =
    let number = column c.args.width (output_word c.args.done.now c.args.s c.args.first) in
    let all : c.loop-lane.lane ≡ c.args.lanes = omega arith in
    adds_same _ _ _ _ (ap (λ n. joined n (λ i. codes " " ++ decimal (number i))) all ∙ words_joined c.args.lanes number) c.loop-lane.invariant
