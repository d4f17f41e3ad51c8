use Rattle.std.proofs.Common.{◌≡◌, ℕ, ◌+◌, ◌*◌, ◌<◌, ◌≤◌, All, List, length, sym, ap, ◌∙◌, subst, arith}
use Rattle.std.specs.Prelude.{slice_index}
use Rattle.std.specs.Arc.{arc_value}
use Rattle.std.proofs.lemmas.Nat.{mul-le}
use Rattle.circuit_model.specs.declared.gate.Gate.{Gate}
use Rattle.job_session.specs.declared.row_table.RowTable.{RowTable}
use Rattle.session_slots.specs.declared.side.Side.TheVariants.{First, Second}
use Rattle.session_slots.specs.Sessions.{gate, mask_wire, product_in, product_wire, Session}
use Rattle.session_slots.specs.Sessions.Slot.{Mask_product}
use Rattle.session_slots.proofs.RowNames.{mask_within, product_named}
use Rattle.plan_model.specs.Plans.{session}
use Rattle.party_desk.proofs.NamedRows.{gate_named}
use Rattle.party_desk.proofs.memory.Memory.join.Goals as goal

-- the row of a wire lies in the table of summands
row_fits : (rows : List ℕ) (live m w r n : ℕ) (table : List ℕ) → All (λ row. row < live + 1) rows → w < length rows → r ≡ slice_index rows w → n ≡ m → length table ≡ (live + 1) * m → (r + 1) * n ≤ length table
row_fits rows live m w r n table below lw is same long =
    let row : slice_index rows w < live + 1 = below w 0 lw in
    omega (arith, mul-le (r + 1) n (live + 1) m (omega (arith, row, is)) (omega (arith, same)), long)

pub row-row-requires : goal.row-row-requires
row-row-requires c =
    let plan = c.args.plan.now in
    let is = c.gate.ensures ∙ ap (λ (z : Session). gate z c.args.t) c.part-part.ensures in
    let named = gate_named plan c.recall.ensures c.args.s c.requires.session c.args.t c.requires.gate in
    subst (λ (g : Gate). g.output < length (arc_value c.args.self.now.table).rows.items) (sym is) (omega (arith, named, c.requires.fits.table.0.wires))

pub join_row-requires-clause-masks : goal.join_row-requires-clause-masks
join_row-requires-clause-masks c =
    let x : Session = session c.args.plan.now c.args.s in
    let fits = c.requires.fits in
    let long = ap length c.as_mut_slice-rows.ensures.value ∙ fits.rows in
    let same = c.shares-shares.ensures.is in
    let masks = c.product_of_masks.ensures ∙ ap (λ (z : Session). product_in z (Mask_product c.args.t)) c.part-part.ensures in
    let a : c.product_of_masks.result.first ≡ mask_wire x c.args.t First = ap (λ (g : Gate). g.first) masks in
    let b : c.product_of_masks.result.second ≡ mask_wire x c.args.t Second = ap (λ (g : Gate). g.second) masks in
    let d : c.product_of_masks.result.output ≡ product_wire x c.args.t = ap (λ (g : Gate). g.output) masks in
    let row_is : (w : ℕ) → slice_index c.rows.result.now w ≡ slice_index (arc_value c.args.self.now.table).rows.items w = λ w. ap (λ xs. slice_index xs w) c.rows.ensures ∙ ap (λ (z : RowTable). slice_index z.rows.items w) c.deref.ensures in (
      row_fits _ _ _ c.product_of_masks.result.first _ _ _ fits.table.0.below (omega (arith, a, mask_within x c.args.t First c.requires.gate c.requires.prepared, fits.table.0.wires)) (ap (λ (g : Gate). g.first) c.on_rows-placed.ensures ∙ row_is _) same long,
      row_fits _ _ _ c.product_of_masks.result.second _ _ _ fits.table.0.below (omega (arith, b, mask_within x c.args.t Second c.requires.gate c.requires.prepared, fits.table.0.wires)) (ap (λ (g : Gate). g.second) c.on_rows-placed.ensures ∙ row_is _) same long,
      row_fits _ _ _ c.product_of_masks.result.output _ _ _ fits.table.0.below (omega (arith, d, product_named x c.args.t c.requires.gate c.requires.prepared, fits.table.0.wires)) (ap (λ (g : Gate). g.output) c.on_rows-placed.ensures ∙ row_is _) same long,
    )
