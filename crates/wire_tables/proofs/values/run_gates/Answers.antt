use Rattle.std.proofs.Common.{◌≡◌, ℕ, suc, ◌+◌, ◌-◌, ◌^◌, ◌<◌, All, length, replicate, sym, ap, ◌∙◌, subst, arith, inl, inr, pow_pos, length-append}
use Rattle.std.specs.Prelude.{slice_index}
use Rattle.std.proofs.Math.ListN.{get_or-eq_default}
use Rattle.std.proofs.lemmas.Bool.{cases_lt}
use Rattle.std.proofs.lemmas.List.{length-replicate, get_or_default, with_items_is}
use Rattle.circuit_model.specs.declared.gate.Gate.{Gate}
use Rattle.circuit_model.specs.Circuits.{operate, set_at, values}
use Rattle.session_slots.specs.Sessions.{Session, gate}
use Rattle.plan_model.specs.Plans.{session}
use Rattle.wire_tables.proofs.ListedRows.{listed_of}
use Rattle.wire_tables.proofs.ValueSteps.{padded, value_next}
use Rattle.wire_tables.proofs.values.run_gates.Goals as goal

pub pad-requires : goal.pad-requires
pad-requires c =
    let x : Session = session c.args.plan.now c.args.s in
    omega (arith, c.requires.inputs, c.wires.ensures, ap (λ (y : Session). y.wires) c.part-part.ensures, (c.ring-ring.ensures.sound.sessions c.args.s c.requires.session).wired.input_wires)

pub loop-t-init : goal.loop-t-init
loop-t-init c =
    let x : Session = session c.args.plan.now c.args.s in
    let q : ℕ = 2 ^ c.args.plan.now.bits in
    let old = c.args.list.now.items in
    let m : ℕ = c.wires.result - length old in
    let start : (v : ℕ) → slice_index c.pad.new.values.items v ≡ slice_index old v = λ v. ap (λ xs. slice_index xs v) c.in_ok-pad.ensures ∙ padded old m v in
    let small : (v : ℕ) → slice_index old v < q = λ v. elim (cases_lt v (length old)) [
      | inl l ↦ c.requires.words v 0 l
      | inr past ↦ subst (λ n. n < q) (sym (get_or-eq_default old 0 past)) (pow_pos c.args.plan.now.bits)
    ] in
    record {
      long = ap length c.in_ok-pad.ensures ∙ length-append old (replicate m 0)
          ∙ omega (arith, length-replicate {A = ℕ} m 0, c.requires.inputs, c.wires.ensures, ap (λ (y : Session). y.wires) c.part-part.ensures, (c.ring-ring.ensures.sound.sessions c.args.s c.requires.session).wired.input_wires);
      words = λ k d l. subst (λ z. z < q) (sym (get_or_default c.pad.new.values.items k d 0 l ∙ start k)) (small k);
      values = start;
    }

pub loop-t-preserved : goal.loop-t-preserved
loop-t-preserved c =
    let x : Session = session c.args.plan.now c.args.s in
    let q : ℕ = 2 ^ c.args.plan.now.bits in
    let t = c.loop-t.t in
    let now = c.loop-t.list.items in
    let new = c.set_wire.new.values in
    let is = with_items_is c.loop-t.list new (omega (arith, c.set_wire.ensures.long, c.deref_mut.ensures.len)) in
    let old : c.deref_mut.result.now ≡ now = c.deref_mut.ensures.value in
    let at : c.gate.result ≡ gate x t = c.gate.ensures ∙ ap (λ (y : Session). gate y t) c.part-part.ensures in
    let one : suc t ≡ t + 1 = omega arith in
    let set : (v : ℕ) → slice_index new v ≡ set_at (slice_index now) (gate x t).output (operate q (gate x t).operation (gate x t).constant (slice_index now (gate x t).first) (slice_index now (gate x t).second)) v = λ v.
    c.set_wire.ensures.values v
    ∙ ap (λ xs. set_at (slice_index xs) c.gate.result.output (operate (2 ^ c.ring-ring.result) c.gate.result.operation c.gate.result.constant (slice_index xs c.gate.result.first) (slice_index xs c.gate.result.second)) v) old
    ∙ ap (λ b. set_at (slice_index now) c.gate.result.output (operate (2 ^ b) c.gate.result.operation c.gate.result.constant (slice_index now c.gate.result.first) (slice_index now c.gate.result.second)) v) c.ring-ring.ensures.is
    ∙ ap (λ (g : Gate). set_at (slice_index now) g.output (operate q g.operation g.constant (slice_index now g.first) (slice_index now g.second)) v) at in
    record {
      long = ap length is ∙ c.set_wire.ensures.long ∙ ap length old ∙ c.loop-t.invariant.long;
      words = subst (λ xs. All (λ word. word < q) xs) (sym is) (subst (λ b. All (λ word. word < 2 ^ b) new) c.ring-ring.ensures.is c.set_wire.ensures.words);
      values = λ v. ap (λ xs. slice_index xs v) is
          ∙ value_next q t (gate x) (slice_index c.args.list.now.items) (slice_index now) (slice_index new) c.loop-t.invariant.values set v
          ∙ ap (λ k. values q (gate x) (slice_index c.args.list.now.items) k v) one;
    }

pub returns : goal.returns
returns c =
    let plan = c.args.plan.now in
    let x : Session = session plan c.args.s in
    let q : ℕ = 2 ^ plan.bits in
    let gates : length c.part-part.result.now.gates ≡ length x.gates = ap (λ (y : Session). length y.gates) c.part-part.ensures in
    let ended : c.loop-t.t ≡ length x.gates = omega (arith, c.loop-t-test.false, ap (length {A = Gate}) c.gates.ensures, c.loop-t.auto.t-end) in
    listed_of 0 x.wires (values q (gate x) (slice_index c.args.list.now.items) (length x.gates)) c.loop-t.list.items c.loop-t.invariant.long
    (λ v l. c.loop-t.invariant.values v ∙ ap (λ n. values q (gate x) (slice_index c.args.list.now.items) n v) ended)
