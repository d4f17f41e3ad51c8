use Rattle.std.proofs.Common.{◌≡◌, ℕ, ◌+◌, List, sym, subst, arith}
use Rattle.list_laws.specs.Lists.{joined}
use Rattle.plan_model.specs.declared.key.Key.{Key}
use Rattle.plan_model.specs.Plans.{slot, slots}
use Rattle.plan_model.specs.Messages.{slot_messages}
use Rattle.share_world.specs.Worlds.{World}
use Rattle.std.proofs.lemmas.List.{with_items_is}
use Rattle.wire_tables.specs.Places.{ArePlaces}
use Rattle.view_check.specs.Audits.{audited_world}
use Rattle.view_text.specs.Seen.{seen_of}
use Rattle.view_check.specs.Views.{Passes}
use Rattle.view_check.proofs.Walks.{handed_on}
use Rattle.view_check.proofs.SlotTransfers.{pass_part, stop_part}
use Rattle.view_check.proofs.messages.check_session.Goals as goal

pub returns-in_err-check_slot-clause-lines : goal.returns-in_err-check_slot-clause-lines
returns-in_err-check_slot-clause-lines c =
    let plan = c.args.run.now.world.plan.now in
    let w : World = audited_world c.args.run.now in
    let f : ℕ → List Key = λ k. slot_messages plan c.args.s k (slot plan c.args.s k) in
    handed_on _ _ _ c.in_err-check_slot.field-0.0 c.from_residual-in_err-check_slot.ensures.1
    (stop_part w c.args.run.now.group.mask c.args.run.now.names.now f (slots plan c.args.s) c.loop-k.k c.args.rest.now c.loop-k.rest c.in_err-check_slot.field-0.0 (omega arith) c.loop-k.invariant.passed c.in_err-check_slot.ensures)

pub loop-k-preserved : goal.loop-k-preserved
loop-k-preserved c =
    let plan = c.args.run.now.world.plan.now in
    let w : World = audited_world c.args.run.now in
    let f : ℕ → List Key = λ k. slot_messages plan c.args.s k (slot plan c.args.s k) in
    record {
      places = subst (ArePlaces plan c.args.s (c.loop-k.k + 1)) (sym (with_items_is c.loop-k.places c.pass_slot.new.places (omega (arith, c.pass_slot.auto.places, c.deref_mut.ensures.len)))) c.pass_slot.ensures;
      passed = pass_part w c.args.run.now.group.mask c.args.run.now.names.now f c.loop-k.k c.args.rest.now c.loop-k.rest c.check_slot.new.rest c.loop-k.invariant.passed c.in_ok-check_slot.ensures;
    }

pub returns-clause-lines : goal.returns-clause-lines
returns-clause-lines c =
    let plan = c.args.run.now.world.plan.now in
    let w : World = audited_world c.args.run.now in
    let f : ℕ → List Key = λ k. slot_messages plan c.args.s k (slot plan c.args.s k) in
    let all : c.loop-k.k ≡ slots plan c.args.s = omega arith in
    subst (λ n. Passes c.args.run.now.names.now (seen_of w c.args.run.now.group.mask (joined n f)) c.args.rest.now c.loop-k.rest) all c.loop-k.invariant.passed
