use Rattle.std.proofs.Common.{◌≡◌, ℕ, ◌+◌, length, ap, subst, arith}
use Rattle.session_slots.specs.Sessions.{session_slots}
use Rattle.job_session.specs.RowScans.{IsScan}
use Rattle.session_slots.specs.Wirings.{IsTouched, session_in}
use Rattle.session_slots.proofs.WiringSlots.{wiring_count}
use Rattle.job_session.proofs.row_table.scan_direct.Goals as goal

pub step-requires-clause-slot : goal.step-requires-clause-slot
step-requires-clause-slot c = omega (arith, c.loop-v-test.true, c.len-inputs.ensures, wiring_count c.args.wiring.now c.requires.wiring c.requires.direct)

pub step-requires-in-loop-t-clause-slot : goal.step-requires-in-loop-t-clause-slot
step-requires-in-loop-t-clause-slot c = omega (arith, c.loop-t-test.true, c.len-inputs.ensures, c.len-gates.ensures, wiring_count c.args.wiring.now c.requires.wiring c.requires.direct)

pub step-requires-in-loop-o-clause-slot : goal.step-requires-in-loop-o-clause-slot
step-requires-in-loop-o-clause-slot c =
    omega (arith, c.loop-o-test.true, c.len-o-end.ensures, c.len-inputs.ensures, c.len-gates.ensures, wiring_count c.args.wiring.now c.requires.wiring c.requires.direct)

pub returns : goal.returns
returns c =
    let s = session_in c.args.wiring.now in
    let k = length c.args.wiring.now.owners.items + length s.gates + c.loop-o.o in
    let all : k ≡ session_slots s = omega (arith, c.loop-o.auto.o-end, c.loop-o-test.false, c.len-o-end.ensures, wiring_count c.args.wiring.now c.requires.wiring c.requires.direct, ap length c.requires.bare) in
    subst (λ (k : ℕ). IsScan s k c.loop-o.scan) all c.loop-o.invariant

pub loop-v-init : goal.loop-v-init
loop-v-init c = c.requires.scan

pub loop-v-preserved : goal.loop-v-preserved
loop-v-preserved c = c.in_ok-step.ensures

pub loop-t-init : goal.loop-t-init
loop-t-init c =
    let s = session_in c.args.wiring.now in
    let all : c.loop-v.v ≡ length c.args.wiring.now.owners.items + 0 = omega (arith, c.loop-v.auto.v-end, c.loop-v-test.false, c.len-inputs.ensures) in
    subst (λ (k : ℕ). IsScan s k c.loop-v.scan) all c.loop-v.invariant

pub loop-t-preserved : goal.loop-t-preserved
loop-t-preserved c =
    let s = session_in c.args.wiring.now in
    let next : c.len-inputs.result + c.loop-t.t + 1 ≡ length c.args.wiring.now.owners.items + (c.loop-t.t + 1) = omega (arith, c.len-inputs.ensures) in
    subst (λ (k : ℕ). IsScan s k c.step-in-loop-t.new.self) next c.in_ok-step-2.ensures

pub loop-o-init : goal.loop-o-init
loop-o-init c =
    let s = session_in c.args.wiring.now in
    let n = length c.args.wiring.now.owners.items in
    let all : n + c.loop-t.t ≡ n + length s.gates + 0 = omega (arith, c.loop-t.auto.t-end, c.loop-t-test.false, c.len-gates.ensures) in
    subst (λ (k : ℕ). IsScan s k c.loop-t.scan) all c.loop-t.invariant

pub loop-o-preserved : goal.loop-o-preserved
loop-o-preserved c =
    let s = session_in c.args.wiring.now in
    let n = length c.args.wiring.now.owners.items in
    let next : c.len-inputs.result + c.len-gates.result + c.loop-o.o + 1 ≡ n + length s.gates + (c.loop-o.o + 1) = omega (arith, c.len-inputs.ensures, c.len-gates.ensures) in
    subst (λ (k : ℕ). IsScan s k c.step-in-loop-o.new.self) next c.in_ok-step-3.ensures

pub input_touched-requires : goal.input_touched-requires
input_touched-requires c =
    record { wiring = c.requires.wiring; direct = c.requires.direct; within = omega (arith, c.loop-v-test.true, c.len-inputs.ensures) }

pub gate_touched-requires : goal.gate_touched-requires
gate_touched-requires c =
    record { wiring = c.requires.wiring; direct = c.requires.direct; within = omega (arith, c.loop-t-test.true, c.len-gates.ensures) }

pub output_touched-requires : goal.output_touched-requires
output_touched-requires c =
    record { wiring = c.requires.wiring; direct = c.requires.direct; within = omega (arith, c.loop-o-test.true, c.len-o-end.ensures) }

pub step-requires-clause-wiring : goal.step-requires-clause-wiring
step-requires-clause-wiring c = c.requires.wiring

pub step-requires-clause-last : goal.step-requires-clause-last
step-requires-clause-last c = c.requires.last

pub step-requires-clause-touched : goal.step-requires-clause-touched
step-requires-clause-touched c = c.input_touched.ensures

pub step-requires-clause-scan : goal.step-requires-clause-scan
step-requires-clause-scan c = c.loop-v.invariant

pub step-requires-in-loop-t-clause-wiring : goal.step-requires-in-loop-t-clause-wiring
step-requires-in-loop-t-clause-wiring c = c.requires.wiring

pub step-requires-in-loop-t-clause-last : goal.step-requires-in-loop-t-clause-last
step-requires-in-loop-t-clause-last c = c.requires.last

pub step-requires-in-loop-t-clause-touched : goal.step-requires-in-loop-t-clause-touched
step-requires-in-loop-t-clause-touched c =
    let s = session_in c.args.wiring.now in
    let inputs : length c.args.wiring.now.owners.items ≡ c.len-inputs.result = omega (arith, c.len-inputs.ensures) in
    subst (λ (n : ℕ). IsTouched s (n + c.loop-t.t) c.gate_touched.result) inputs c.gate_touched.ensures

pub step-requires-in-loop-t-clause-scan : goal.step-requires-in-loop-t-clause-scan
step-requires-in-loop-t-clause-scan c =
    let s = session_in c.args.wiring.now in
    let inputs : length c.args.wiring.now.owners.items ≡ c.len-inputs.result = omega (arith, c.len-inputs.ensures) in
    subst (λ (n : ℕ). IsScan s (n + c.loop-t.t) c.loop-t.scan) inputs c.loop-t.invariant

pub step-requires-in-loop-o-clause-wiring : goal.step-requires-in-loop-o-clause-wiring
step-requires-in-loop-o-clause-wiring c = c.requires.wiring

pub step-requires-in-loop-o-clause-last : goal.step-requires-in-loop-o-clause-last
step-requires-in-loop-o-clause-last c = c.requires.last

pub step-requires-in-loop-o-clause-touched : goal.step-requires-in-loop-o-clause-touched
step-requires-in-loop-o-clause-touched c =
    let s = session_in c.args.wiring.now in
    let at : length c.args.wiring.now.owners.items + length s.gates + c.loop-o.o ≡ c.len-inputs.result + c.len-gates.result + c.loop-o.o = omega (arith, c.len-inputs.ensures, c.len-gates.ensures) in
    subst (λ (k : ℕ). IsTouched s k c.output_touched.result) at c.output_touched.ensures

pub step-requires-in-loop-o-clause-scan : goal.step-requires-in-loop-o-clause-scan
step-requires-in-loop-o-clause-scan c =
    let s = session_in c.args.wiring.now in
    let at : length c.args.wiring.now.owners.items + length s.gates + c.loop-o.o ≡ c.len-inputs.result + c.len-gates.result + c.loop-o.o = omega (arith, c.len-inputs.ensures, c.len-gates.ensures) in
    subst (λ (k : ℕ). IsScan s k c.loop-o.scan) at c.loop-o.invariant
