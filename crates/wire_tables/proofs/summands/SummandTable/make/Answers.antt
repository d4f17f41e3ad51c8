use Rattle.std.proofs.Common.{◌≡◌, ℕ, ◌+◌, length, set, sym, ap, ◌∙◌, subst, arith}
use Rattle.std.specs.Global.{Vec}
use Rattle.std.proofs.lemmas.List.{with_items_is}
use Rattle.session_slots.proofs.RowNames.{wires_named}
use Rattle.plan_model.specs.InputWords.{session_words}
use Rattle.plan_model.specs.Plans.{session}
use Rattle.share_world.specs.Worlds.{World}
use Rattle.wire_tables.specs.Places.{ArePlaces}
use Rattle.wire_tables.specs.Steps.{AreRows, Sets}
use Rattle.wire_tables.specs.WireTables.{summand_rows, world_of}
use Rattle.wire_tables.proofs.HandedOn.{carried_next}
use Rattle.wire_tables.proofs.RowSteps.{rows_set, rows_kept, rows_last}
use Rattle.wire_tables.proofs.summands.SummandTable.make.Goals as goal
use Rattle.wire_tables.proofs.summands.SummandTable.make.Goals.{in-Some, in_default}

pub loop-k-preserved : goal.loop-k-preserved
loop-k-preserved c =
    let plan = c.args.world.now.plan.now in
    let s = c.args.s in
    let k = c.loop-k.k in
    let w : World = world_of c.args.world.now in
    let places = subst (ArePlaces plan s (k + 1)) (sym (with_items_is c.loop-k.places c.pass_slot.new.places (omega (arith, c.pass_slot.auto.places, c.deref_mut.ensures.len)))) c.pass_slot.ensures in
    let rows : AreRows w s (k + 1) c.match-name.rows.items = elim c.match-name.branch [
      | in-Some v ↦
          let made = subst (λ o. Sets w s k o c.slot_row.new.row.items) v.in-Some.is c.in_ok-name.ensures in
          let next = rows_set w s k v.in-Some.name c.loop-k.rows.items c.slot_row.new.row c.loop-k.invariant.rows made in
          subst (λ (rs : Vec (Vec ℕ)). AreRows w s (k + 1) rs.items) (sym v.rows-is)
          (subst (λ r. AreRows w s (k + 1) (set c.loop-k.rows.items v.in-Some.name r)) (sym v.swap.ensures.x_after) next)
      | in_default v ↦
          let none = subst (λ o. Sets w s k o c.slot_row.new.row.items) v.in_default.is c.in_ok-name.ensures in
          subst (λ (rs : Vec (Vec ℕ)). AreRows w s (k + 1) rs.items) (sym v.rows-is) (rows_kept w s k c.loop-k.rows.items c.loop-k.invariant.rows none)
    ] in
    record { places = places; rows = rows }

pub hand_on-requires-clause-rows : goal.hand_on-requires-clause-rows
hand_on-requires-clause-rows c =
    let w : World = world_of c.args.world.now in
    omega (arith, c.loop-k.invariant.rows.names, wires_named (session w.plan c.args.s), c.deref-2.ensures.len, ap (length {A = Vec ℕ}) c.deref-2.ensures.value)

pub returns-clause-table : goal.returns-clause-table
returns-clause-table c =
    let w : World = world_of c.args.world.now in
    rows_last w c.args.s c.requires.whole c.requires.session c.loop-k.k c.loop-k.rows.items (omega (arith, c.slots-k-end.ensures, c.loop-k-test.false, c.loop-k.auto.k-end)) c.loop-k.invariant.rows

pub returns-clause-carried : goal.returns-clause-carried
returns-clause-carried c =
    let w : World = world_of c.args.world.now in
    let table : session_words c.deref-2.result.now ≡ summand_rows w c.args.s =
    ap session_words c.deref-2.ensures.value
    ∙ rows_last w c.args.s c.requires.whole c.requires.session c.loop-k.k c.loop-k.rows.items (omega (arith, c.slots-k-end.ensures, c.loop-k-test.false, c.loop-k.auto.k-end)) c.loop-k.invariant.rows in
    carried_next w c.args.s (session_words c.deref-2.result.now) c.args.carried.now c.hand_on.new.self c.requires.whole.sound table c.requires.carried c.in_ok-hand_on.ensures.sessions c.in_ok-hand_on.ensures.handed_on
