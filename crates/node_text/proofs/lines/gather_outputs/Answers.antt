use Rattle.std.proofs.Common.{◌≡◌, [], length, sym, ap, arith}
use Rattle.std.proofs.lemmas.Option.{get_or_from_slice_get}
use Rattle.outer_io.proofs.GatheredTexts.{adds_nothing}
use Rattle.list_laws.specs.Lists.{joined}
use Rattle.party_names.specs.Names.{name_at}
use Rattle.text_parts.proofs.GatheredTexts.{adds_more, adds_same}
use Rattle.node_text.specs.NodeText.{session_lines}
use Rattle.node_text.proofs.lines.gather_outputs.Goals as goal

pub loop-s-init : goal.loop-s-init
loop-s-init g c = adds_nothing _

pub loop-s-preserved : goal.loop-s-preserved
loop-s-preserved g c =
    adds_more c.loop-s.s (session_lines (name_at c.args.names.now c.args.me) c.args.numeric.now c.args.plan.now c.args.me c.args.done.now) _ _ _ _
    (ap (λ reader. session_lines reader c.args.numeric.now c.args.plan.now c.args.me c.args.done.now c.loop-s.s) (sym (get_or_from_slice_get c.args.names.now c.args.me c.name.result.now [] c.name.ensures)))
    c.loop-s.invariant c.gather_session.ensures

pub returns : goal.returns
returns g c =
    let all : c.loop-s.s ≡ length c.args.plan.now.sessions = omega (arith, c.sessions-s-end.ensures) in
    adds_same _ _ _ _ (ap (λ n. joined n (session_lines (name_at c.args.names.now c.args.me) c.args.numeric.now c.args.plan.now c.args.me c.args.done.now)) all) c.loop-s.invariant
