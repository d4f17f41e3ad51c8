use Rattle.std.proofs.Common.{◌≡◌, ap, ◌∙◌, arith}
use Rattle.sample_maker.specs.Drafts.{sample_draft}
use Rattle.sample_maker.proofs.SampleCircuit.{finished}
use Rattle.sample_maker.proofs.circuit.sample_circuit.Goals as goal

pub returns : goal.returns
returns c =
    let ended : c.loop-j.j ≡ c.args.count = omega arith in
    let made = finished c.args.count c.loop-j.builder c.finish.result (c.loop-j.invariant ∙ ap (sample_draft c.args.count) ended) c.finish.ensures in
    record { is = made.0; memory = made.1 }
