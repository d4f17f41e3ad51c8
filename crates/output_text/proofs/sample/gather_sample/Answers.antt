use Rattle.std.proofs.Common.{Bool, List, length, ap, ◌∙◌, sym}
use Rattle.std.specs.Prelude.{codes}
use Rattle.list_laws.specs.Lists.{joined}
use Rattle.outer_io.proofs.GatheredTexts.{adds_then}
use Rattle.text_parts.proofs.GatheredTexts.{adds_same}
use Rattle.session_slots.specs.Counts.{products}
use Rattle.plan_model.specs.Plans.{Plan, session}
use Rattle.plan_model.specs.Messages.{messages}
use Rattle.output_text.specs.CheckText.{count_line, words_line}
use Rattle.output_text.specs.OutText.{out_text}
use Rattle.output_text.specs.SampleText.{sample_text}
use Rattle.output_text.proofs.sample.gather_sample.Goals as goal

pub returns : goal.returns
unfolding sample_text
returns g c = λ w same f.
    let plan = c.args.run.now.plan.now in
    let multiplied = adds_same _ _ _ _ (ap (count_line (codes "products")) (c.products.ensures ∙ ap products c.part.ensures ∙ ap (λ (p : Plan). products (session p 0)) (sym same))) c.gather_count-2.ensures in
    let sent = adds_same _ _ _ _ (ap (count_line (codes "messages")) (c.messages.ensures ∙ ap (λ (p : Plan). length (messages p)) (sym same))) c.gather_count-3.ensures in
    let drawn = adds_same _ _ _ _ (ap (λ (p : Plan). joined p.parties (words_line c.args.run.now.names.now p)) (sym same)) c.gather_tapes.ensures in
    let outs = adds_same _ _ _ _ (ap (λ (numeric : List Bool). out_text c.args.run.now.names.now numeric w) c.requires.wires) (c.gather_out.ensures w same f) in
    adds_then _ _ _ _ _ c.gather_count.ensures (adds_then _ _ _ _ _ multiplied (adds_then _ _ _ _ _ sent (adds_then _ _ _ _ _ drawn outs)))
