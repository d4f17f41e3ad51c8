use Rattle.std.proofs.Common.{◌≡◌, ℕ, ◌++◌, ◌+◌, ap, ◌∙◌, arith}
use Rattle.std.specs.Prelude.{codes, decimal}
use Rattle.std.specs.Option.{unwrap_or}
use Rattle.list_laws.specs.Lists.{joined}
use Rattle.outer_io.proofs.GatheredTexts.{adds_nothing}
use Rattle.text_parts.proofs.GatheredTexts.{adds_same, adds_more}
use Rattle.node_talk.specs.Runs.{output_of}
use Rattle.view_text.proofs.OutputWires.{words_joined}
use Rattle.node_text.proofs.lines.gather_words.Goals as goal

pub loop-i-init : goal.loop-i-init
loop-i-init g c = adds_nothing _

pub loop-i-preserved : goal.loop-i-preserved
loop-i-preserved g c =
    let word = λ (i : ℕ). unwrap_or (output_of c.args.done.now c.args.s (c.args.first + i)) 0 in
    adds_more c.loop-i.i (λ i. codes " " ++ decimal (word i)) _ _ _ _
    (ap (λ n. codes " " ++ decimal n) (c.unwrap_or.ensures ∙ ap (λ o. unwrap_or o 0) c.delivered.ensures)) c.loop-i.invariant c.gather_word.ensures

pub returns : goal.returns
returns g c =
    let word = λ (i : ℕ). unwrap_or (output_of c.args.done.now c.args.s (c.args.first + i)) 0 in
    let all : c.loop-i.i ≡ c.args.width = omega arith in
    adds_same _ _ _ _ (ap (λ n. joined n (λ i. codes " " ++ decimal (word i))) all ∙ words_joined c.args.width word) c.loop-i.invariant
