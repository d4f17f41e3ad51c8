use Rattle.std.proofs.Common.{◌≡◌, ◌++◌, ap, ◌∙◌, arith}
use Rattle.std.specs.Prelude.{codes, decimal}
use Rattle.list_laws.specs.Lists.{joined}
use Rattle.outer_io.proofs.GatheredTexts.{adds_nothing}
use Rattle.text_parts.proofs.GatheredTexts.{adds_same, adds_more}
use Rattle.value_words.specs.Turned.{column}
use Rattle.view_text.proofs.OutputWires.{words_joined}
use Rattle.output_text.specs.OutText.{wire_word}
use Rattle.output_text.proofs.run.gather_numbers.Goals as goal

pub loop-lane-init : goal.loop-lane-init
loop-lane-init g c = λ w f read. adds_nothing _

pub loop-lane-preserved : goal.loop-lane-preserved
loop-lane-preserved g c = λ w f read.
    adds_more c.loop-lane.lane (λ j. codes " " ++ decimal (column c.args.width (wire_word w c.args.s c.args.first) j)) _ _ _ _
    (ap (λ word. codes " " ++ decimal word) (c.opened_number.ensures w f read)) (c.loop-lane.invariant w f read) c.gather_word.ensures

pub returns : goal.returns
returns g c = λ w f read.
    let number = column c.args.width (wire_word w c.args.s c.args.first) in
    let all : c.loop-lane.lane ≡ c.args.lanes = omega arith in
    adds_same _ _ _ _ (ap (λ n. joined n (λ i. codes " " ++ decimal (number i))) all ∙ words_joined c.args.lanes number) (c.loop-lane.invariant w f read)
