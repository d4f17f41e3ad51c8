use Rattle.std.proofs.Common.{◌≡◌, ℕ, [], true, false, ap, ap₂, ◌∙◌, sym, arith}
use Rattle.std.proofs.lemmas.Bool.{cond-true, cond-false}
use Rattle.outer_io.proofs.GatheredTexts.{adds_nothing, adds_then}
use Rattle.text_parts.proofs.GatheredTexts.{adds_same}
use Rattle.party_set.specs.Parties.{has_party}
use Rattle.session_slots.specs.declared.values.OutputValue.{OutputValue}
use Rattle.plan_model.specs.Plans.{session}
use Rattle.view_text.specs.OutLines.{out_line, output_value}
use Rattle.view_text.proofs.OutputWires.{few_wires}
use Rattle.node_text.specs.NodeText.{shown_output}
use Rattle.node_text.proofs.lines.gather_value.Goals as goal

pub gather_shown-requires-clause-few : goal.gather_shown-requires-clause-few
gather_shown-requires-clause-few g c =
    let wide = ap (λ (v : OutputValue). v.width) c.value_of.ensures in
    omega (arith, wide, c.requires.first, few_wires c.args.reader.now.plan.now c.args.s c.args.v c.requires.sound c.requires.session c.requires.value)

pub returns-then-not-is_read : goal.returns-then-not-is_read
returns-then-not-is_read g c =
    let reads : has_party (output_value (session c.args.reader.now.plan.now c.args.s) c.args.v).readers.mask c.args.reader.now.party ≡ false = sym c.is_read.ensures ∙ c.if-not-is_read.true in
    adds_same _ _ _ _ (sym (cond-false (has_party (output_value (session c.args.reader.now.plan.now c.args.s) c.args.v).readers.mask c.args.reader.now.party) _ [] reads)) (adds_nothing _)

pub returns : goal.returns
returns g c =
    let reads : has_party (output_value (session c.args.reader.now.plan.now c.args.s) c.args.v).readers.mask c.args.reader.now.party ≡ true = sym c.is_read.ensures ∙ c.if-not-is_read.false in
    let wide = ap (λ (v : OutputValue). v.width) c.value_of.ensures in
    let line = λ (n : ℕ) (m : ℕ). out_line c.args.s c.args.v c.args.reader.now.name.now (shown_output c.args.reader.now.numeric.now c.args.reader.now.plan.now c.args.reader.now.done.now c.args.s n m) in
    adds_same _ _ _ _ (ap₂ line c.requires.first wide ∙ sym (cond-true (has_party (output_value (session c.args.reader.now.plan.now c.args.s) c.args.v).readers.mask c.args.reader.now.party) _ [] reads))
    (adds_then _ _ _ _ _ c.gather_out_head.ensures (adds_then _ _ _ _ _ c.gather_shown.ensures c.push.ensures))
