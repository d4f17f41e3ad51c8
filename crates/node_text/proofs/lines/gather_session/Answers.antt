use Rattle.std.proofs.Common.{◌+◌, length, refl, ap, ap₂, sym, ◌∙◌, arith}
use Rattle.list_laws.proofs.Totals.{total_more}
use Rattle.session_slots.specs.declared.values.OutputValue.{OutputValue}
use Rattle.session_slots.specs.Sessions.{Session}
use Rattle.plan_model.specs.Plans.{session}
use Rattle.view_text.specs.OutLines.{output_value}
use Rattle.outer_io.proofs.GatheredTexts.{adds_nothing}
use Rattle.text_parts.proofs.GatheredTexts.{adds_more}
use Rattle.view_text.proofs.OutputWires.{few_wires}
use Rattle.node_text.specs.NodeText.{value_line}
use Rattle.node_text.proofs.lines.gather_session.Goals as goal

pub overflow_add-first : goal.overflow_add-first
overflow_add-first g c =
    let wide = ap (λ (v : OutputValue). v.width) c.value_of-first.ensures in
    let count = ap length (c.outputs-v-end.ensures ∙ ap (λ (p : Session). p.outputs) c.part.ensures) in
    omega (arith, wide, c.loop-v.invariant.first, few_wires c.args.reader.now.plan.now c.args.s c.loop-v.v c.requires.sound c.requires.session (omega (arith, count)))

pub loop-v-init : goal.loop-v-init
loop-v-init g c = record { first = refl; text = adds_nothing _ }

pub loop-v-preserved : goal.loop-v-preserved
loop-v-preserved g c = record {
  first =
      let wide = ap (λ (v : OutputValue). v.width) c.value_of-first.ensures in
      ap₂ (λ n m. n + m) c.loop-v.invariant.first wide ∙ sym (total_more c.loop-v.v (λ u. (output_value (session c.args.reader.now.plan.now c.args.s) u).width));
  text = adds_more c.loop-v.v (value_line c.args.reader.now.name.now c.args.reader.now.numeric.now c.args.reader.now.plan.now c.args.reader.now.party c.args.reader.now.done.now c.args.s) _ _ _ _ refl c.loop-v.invariant.text c.gather_value.ensures;
}
