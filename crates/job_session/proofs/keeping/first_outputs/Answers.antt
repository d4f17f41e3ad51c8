use Rattle.std.proofs.Common.{◌≡◌, ℕ, suc, ◌+◌, ◌<◌, ◌∷◌, [], length, sym, ap, ◌∙◌, subst, arith}
use Rattle.std.specs.Prelude.{slice_index_or}
use Rattle.list_laws.proofs.JoinedLists.{joined_step}
use Rattle.session_slots.specs.declared.values.OutputValue.{OutputValue}
use Rattle.session_slots.specs.Sessions.{Session, first_output}
use Rattle.session_slots.proofs.KeptSessions.{first_more, first_most}
use Rattle.job_session.proofs.keeping.first_outputs.Goals as goal

-- the next value begins behind this one
next : (part : Session) (k : ℕ) (value : OutputValue) → k < length part.outputs → value ≡ slice_index_or part.outputs k value → first_output part (k + 1) ≡ first_output part k + value.width
next part k value l is =
    let one : k + 1 ≡ suc k = omega arith in
    ap (first_output part) one ∙ first_more part.outputs k value l ∙ ap (λ (v : OutputValue). first_output part k + v.width) (sym is)

pub overflow_add-first : goal.overflow_add-first
overflow_add-first c =
    let part = c.args.part.now in
    let k = c.loop-value.value-index in
    let item = c.value-item.is ∙ ap (λ values. slice_index_or values k c.value-item.result) c.outputs-value-items.ensures in
    let there : k < length part.outputs = subst (λ values. k < length values) c.outputs-value-items.ensures (omega (arith, c.loop-value-test.true, c.loop-value.auto.value-index-end)) in
    omega (arith, c.requires.wires, c.requires.output_wires, c.loop-value.invariant.first, next part k c.value-item.result there item, first_most part.outputs (k + 1))

pub loop-value-preserved : goal.loop-value-preserved
loop-value-preserved c =
    let part = c.args.part.now in
    let k = c.loop-value.value-index in
    let item = c.value-item.is ∙ ap (λ values. slice_index_or values k c.value-item.result) c.outputs-value-items.ensures in
    let there : k < length part.outputs = subst (λ values. k < length values) c.outputs-value-items.ensures (omega (arith, c.loop-value-test.true, c.loop-value.auto.value-index-end)) in
    record {
      firsts = c.in_ok-push.ensures.items ∙ joined_step k (λ i. first_output part i ∷ []) [] c.loop-value.firsts.items (c.loop-value.first ∷ []) c.loop-value.invariant.firsts (ap (λ n. n ∷ []) c.loop-value.invariant.first);
      first = omega (arith, c.loop-value.invariant.first, next part k c.value-item.result there item);
    }
