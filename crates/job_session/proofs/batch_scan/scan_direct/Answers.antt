use Rattle.std.proofs.Common.{◌≡◌, ◌+◌, ◌-◌, ◌<◌, length, ap, arith}
use Rattle.session_slots.specs.Sessions.{owners, readers, session_slots}
use Rattle.session_slots.specs.Wirings.{session_in}
use Rattle.job_session.proofs.ScannedBatches.{input_slot, output_slot, gate_slot, same_slots}
use Rattle.session_slots.proofs.WiringSlots.{wiring_count, owners_count}
use Rattle.job_session.proofs.batch_scan.scan_direct.Goals as goal

pub step-requires-clause-slot : goal.step-requires-clause-slot
step-requires-clause-slot c = omega (arith, c.loop-v-test.true, c.len-inputs.ensures, wiring_count c.args.wiring.now c.requires.wiring c.requires.direct)

pub step-requires-clause-reads : goal.step-requires-clause-reads
step-requires-clause-reads c =
    (input_slot (session_in c.args.wiring.now) c.requires.direct c.loop-v.v (omega (arith, c.loop-v-test.true, c.len-inputs.ensures, owners_count _ c.requires.wiring))).0

pub step-requires-clause-completes : goal.step-requires-clause-completes
step-requires-clause-completes c =
    (input_slot (session_in c.args.wiring.now) c.requires.direct c.loop-v.v (omega (arith, c.loop-v-test.true, c.len-inputs.ensures, owners_count _ c.requires.wiring))).1

pub step_gate-requires-clause-slot : goal.step_gate-requires-clause-slot
step_gate-requires-clause-slot c = omega (arith, c.loop-t-test.true, c.len-inputs.ensures, c.len-gates.ensures, wiring_count c.args.wiring.now c.requires.wiring c.requires.direct)

pub step-requires-in-loop-o-clause-slot : goal.step-requires-in-loop-o-clause-slot
step-requires-in-loop-o-clause-slot c = omega (arith, c.loop-o-test.true, c.len-o-end.ensures, c.len-inputs.ensures, c.len-gates.ensures, wiring_count c.args.wiring.now c.requires.wiring c.requires.direct)

pub step-requires-in-loop-o-clause-reads : goal.step-requires-in-loop-o-clause-reads
step-requires-in-loop-o-clause-reads c =
    let s = session_in c.args.wiring.now in
    let k = c.len-inputs.result + c.len-gates.result + c.loop-o.o in
    let within : c.loop-o.o < length (readers s) = omega (arith, c.loop-o-test.true, c.len-o-end.ensures, ap length c.requires.wiring.read) in
    let at : k ≡ length (owners s) + length s.gates + c.loop-o.o = omega (arith, c.len-inputs.ensures, c.len-gates.ensures, owners_count _ c.requires.wiring) in
    (output_slot s c.requires.direct k c.loop-o.o c.output_wire.result within at c.output_wire.ensures).0

pub step-requires-in-loop-o-clause-completes : goal.step-requires-in-loop-o-clause-completes
step-requires-in-loop-o-clause-completes c =
    let s = session_in c.args.wiring.now in
    let k = c.len-inputs.result + c.len-gates.result + c.loop-o.o in
    let within : c.loop-o.o < length (readers s) = omega (arith, c.loop-o-test.true, c.len-o-end.ensures, ap length c.requires.wiring.read) in
    let at : k ≡ length (owners s) + length s.gates + c.loop-o.o = omega (arith, c.len-inputs.ensures, c.len-gates.ensures, owners_count _ c.requires.wiring) in
    (output_slot s c.requires.direct k c.loop-o.o c.output_wire.result within at c.output_wire.ensures).1

pub step_gate-requires-clause-gate : goal.step_gate-requires-clause-gate
step_gate-requires-clause-gate c =
    let s = session_in c.args.wiring.now in
    let n = c.len-inputs.result in
    let inputs : n ≡ length (owners s) = omega (arith, c.len-inputs.ensures, owners_count _ c.requires.wiring) in
    let within : c.loop-t.t < length s.gates = omega (arith, c.loop-t-test.true, c.len-gates.ensures) in
    gate_slot s n c.loop-t.t c.index-gate.result.now c.requires.wiring.wired c.requires.direct within inputs c.index-gate.ensures

pub loop-t-init : goal.loop-t-init
loop-t-init c =
    let s = session_in c.args.wiring.now in
    let all : c.loop-v.v ≡ length c.args.wiring.now.owners.items = omega (arith, c.loop-v.auto.v-end, c.loop-v-test.false, c.len-inputs.ensures) in
    same_slots s (c.loop-v.v - 1) _ c.loop-v.v _ c.loop-v.scan (omega (arith, all)) (omega (arith, all)) c.loop-v.invariant

pub loop-t-preserved : goal.loop-t-preserved
loop-t-preserved c =
    let s = session_in c.args.wiring.now in
    same_slots s (c.len-inputs.result + c.loop-t.t) _ (c.len-inputs.result + c.loop-t.t + 1) _ c.step_gate.new.self
    (omega (arith, c.len-inputs.ensures)) (omega (arith, c.len-inputs.ensures)) c.in_ok-step_gate.ensures

pub loop-o-init : goal.loop-o-init
loop-o-init c =
    let s = session_in c.args.wiring.now in
    let n = length c.args.wiring.now.owners.items in
    let all : c.loop-t.t ≡ length s.gates = omega (arith, c.loop-t.auto.t-end, c.loop-t-test.false, c.len-gates.ensures) in
    same_slots s (n + c.loop-t.t - 1) _ (n + c.loop-t.t) _ c.loop-t.scan (omega (arith, all)) (omega (arith, all)) c.loop-t.invariant

pub loop-o-preserved : goal.loop-o-preserved
loop-o-preserved c =
    let s = session_in c.args.wiring.now in
    let k = c.len-inputs.result + c.len-gates.result + c.loop-o.o in
    same_slots s k _ (k + 1) _ c.step-in-loop-o.new.self (omega (arith, c.len-inputs.ensures, c.len-gates.ensures)) (omega (arith, c.len-inputs.ensures, c.len-gates.ensures)) c.in_ok-step-2.ensures

pub returns : goal.returns
returns c =
    let s = session_in c.args.wiring.now in
    let k = length c.args.wiring.now.owners.items + length s.gates + c.loop-o.o in
    let all : k ≡ session_slots s = omega (arith, c.loop-o.auto.o-end, c.loop-o-test.false, c.len-o-end.ensures, wiring_count c.args.wiring.now c.requires.wiring c.requires.direct, ap length c.requires.bare) in
    same_slots s (k - 1) _ k _ c.loop-o.scan (omega (arith, all)) all c.loop-o.invariant
