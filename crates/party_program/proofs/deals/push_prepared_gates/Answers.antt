use Rattle.std.proofs.Common.{ℕ, ◌+◌, true, false, ◌&&◌, refl, ap₂}
use Rattle.session_slots.specs.SlotNumbers.{first_of_gate}
use Rattle.party_program.specs.ProgramPlaces.{session_of}
use Rattle.party_program.proofs.PreparedSlots.{found_there, found_product, in_gate, in_linear, next_gate, same_deals}
use Rattle.party_program.proofs.deals.push_prepared_gates.Goals as goal
use Rattle.party_program.proofs.deals.push_prepared_gates.Goals.{then-is_product, else-is_product}

pub push_three-requires-clause-next : goal.push_three-requires-clause-next
push_three-requires-clause-next c =
    let own = c.args.own.now in
    let x = session_of own in
    let t = c.loop-gate.gate-index in
    let less = found_there x _ c.part.ensures _ c.gates-gate-items.ensures t c.loop-gate-test.true in
    let product = found_product x _ c.part.ensures _ c.gates-gate-items.ensures t c.loop-gate-test.true _ true c.is_product.ensures c.if-is_product.true in
    let is = ap₂ (λ a b. a && b) c.requires.prepared product in
    (first_of_gate x t, in_gate own c.requires.steps c.recall.ensures t less c.args.counts c.requires.counts is (first_of_gate x t) refl, c.loop-gate.invariant)

pub push_slot-requires-clause-next : goal.push_slot-requires-clause-next
push_slot-requires-clause-next c =
    let own = c.args.own.now in
    let x = session_of own in
    let t = c.loop-gate.gate-index in
    let less = found_there x _ c.part.ensures _ c.gates-gate-items.ensures t c.loop-gate-test.true in
    let linear = found_product x _ c.part.ensures _ c.gates-gate-items.ensures t c.loop-gate-test.true _ false c.is_product.ensures c.if-is_product.false in
    (first_of_gate x t, in_linear own c.requires.steps c.recall.ensures t less linear (first_of_gate x t) refl, c.loop-gate.invariant)

pub loop-gate-preserved : goal.loop-gate-preserved
loop-gate-preserved c =
    let own = c.args.own.now in
    let x = session_of own in
    let t = c.loop-gate.gate-index in
    let less = found_there x _ c.part.ensures _ c.gates-gate-items.ensures t c.loop-gate-test.true in
    let k : ℕ = first_of_gate x t in
    elim c.if-is_product.branch [
      | then-is_product w ↦
          let product = found_product x _ c.part.ensures _ c.gates-gate-items.ensures t c.loop-gate-test.true _ true c.is_product.ensures w.if-is_product.true in
          let is = ap₂ (λ a b. a && b) c.requires.prepared product in
          same_deals own (k + 3) (first_of_gate x (t + 1)) _ _ _ _ (next_gate own c.requires.steps c.recall.ensures t less true is) w.list-is w.tally-is
          (w.push_three.ensures k (in_gate own c.requires.steps c.recall.ensures t less c.args.counts c.requires.counts is k refl) c.loop-gate.invariant)
      | else-is_product w ↦
          let linear = found_product x _ c.part.ensures _ c.gates-gate-items.ensures t c.loop-gate-test.true _ false c.is_product.ensures w.if-is_product.false in
          let is = ap₂ (λ a b. a && b) c.requires.prepared linear in
          same_deals own (k + 1) (first_of_gate x (t + 1)) _ _ _ _ (next_gate own c.requires.steps c.recall.ensures t less false is) w.list-is w.tally-is
          (w.push_slot.ensures k (in_linear own c.requires.steps c.recall.ensures t less linear k refl) c.loop-gate.invariant)
    ]
