use Rattle.std.proofs.Common.{◌≡◌, replicate, rules}
use Rattle.sample_maker.proofs.SampleCircuit.{started}
use Rattle.sample_maker.proofs.circuit.start.Goals as goal

pub returns : goal.returns
returns c =
    let inputs : c.in_ok-inputs.inputs.items ≡ replicate 2 2 = search rules in
    let outputs : c.in_ok-outputs.outputs.items ≡ replicate 1 1 = search rules in
    let made = started c.args.count c.sample_ring.result c.from-gates.result _ _ _ c.start.result c.requires c.sample_ring.ensures c.from-gates.ensures inputs outputs c.start.ensures in
    record { is = made.0; memory = made.1 }
