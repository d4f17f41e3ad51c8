use Rattle.std.proofs.Common.{ℕ, ◌+◌, ◌*◌, true, false, ◌&&◌, sym, ap₂, arith}
use Rattle.session_slots.specs.SlotNumbers.{prepared_before}
use Rattle.session_slots.proofs.SessionSlots.{turn_first, turn_product}
use Rattle.party_program.specs.ProgramPlaces.{session_of}
use Rattle.party_program.proofs.PreparedSlots.{found_there, found_product, in_mask_product, in_masks, next_prepared, same_deals}
use Rattle.party_program.proofs.deals.push_turns.Goals as goal
use Rattle.party_program.proofs.deals.push_turns.Goals.{then-is_product, else-is_product}

pub push_three-requires-clause-next : goal.push_three-requires-clause-next
push_three-requires-clause-next c =
    let own = c.args.own.now in
    let x = session_of own in
    let t = c.loop-gate.gate-index in
    let k : ℕ = 3 * prepared_before x t in
    let less = found_there x _ c.part.ensures _ c.gates-gate-items.ensures t c.loop-gate-test.true in
    let product = found_product x _ c.part.ensures _ c.gates-gate-items.ensures t c.loop-gate-test.true _ true c.is_product.ensures c.if-is_product.true in
    let is = ap₂ (λ a b. a && b) c.requires.prepared product in
    let masks = in_masks own c.requires.steps c.recall.ensures t less c.args.counts c.requires.counts is k (sym (turn_first x c.requires.in_turn t)) in
    let last = in_mask_product own c.requires.steps c.recall.ensures t less c.args.counts c.requires.counts is (k + 2) (sym (turn_product x c.requires.in_turn t)) in
    (k, (masks, last), c.loop-gate.invariant)

pub loop-gate-preserved : goal.loop-gate-preserved
loop-gate-preserved c =
    let own = c.args.own.now in
    let x = session_of own in
    let t = c.loop-gate.gate-index in
    let less = found_there x _ c.part.ensures _ c.gates-gate-items.ensures t c.loop-gate-test.true in
    let k : ℕ = 3 * prepared_before x t in
    elim c.if-is_product.branch [
      | then-is_product w ↦
          let product = found_product x _ c.part.ensures _ c.gates-gate-items.ensures t c.loop-gate-test.true _ true c.is_product.ensures w.if-is_product.true in
          let is = ap₂ (λ a b. a && b) c.requires.prepared product in
          let next = next_prepared own c.requires.steps c.recall.ensures t less true is in
          let masks = in_masks own c.requires.steps c.recall.ensures t less c.args.counts c.requires.counts is k (sym (turn_first x c.requires.in_turn t)) in
          let last = in_mask_product own c.requires.steps c.recall.ensures t less c.args.counts c.requires.counts is (k + 2) (sym (turn_product x c.requires.in_turn t)) in
          same_deals own (k + 3) (3 * prepared_before x (t + 1)) _ _ _ _ (omega (arith, next)) w.list-is w.tally-is (w.push_three.ensures k (masks, last) c.loop-gate.invariant)
      | else-is_product w ↦
          let product = found_product x _ c.part.ensures _ c.gates-gate-items.ensures t c.loop-gate-test.true _ false c.is_product.ensures w.if-is_product.false in
          let is = ap₂ (λ a b. a && b) c.requires.prepared product in
          let next = next_prepared own c.requires.steps c.recall.ensures t less false is in
          same_deals own k (3 * prepared_before x (t + 1)) _ _ _ _ (omega (arith, next)) w.list-is w.tally-is c.loop-gate.invariant
    ]
