use Rattle.std.proofs.Common.{◌≡◌, ◌+◌, length, ap, ◌∙◌, arith}
use Rattle.session_slots.specs.Sessions.{session_slots}
use Rattle.plan_model.specs.Patterns.{transfers}
use Rattle.plan_model.specs.Firsts.{first, count}
use Rattle.plan_model.proofs.SlotMessages.{first_within}
use Rattle.plan_model.proofs.SlotStarts.{pattern_count, first_next}
use Rattle.plan_model.proofs.GrownLists.{listed_push}
use Rattle.job_plan.proofs.lists.list_starts_of.Goals as goal

pub overflow_cast-next : goal.overflow_cast-next
overflow_cast-next c =
    let plan = c.args.outline.now in
    let s = c.args.s in
    let k = c.loop-k.k in
    let long : length c.transfers.result.now ≡ count plan s k = ap length (c.transfers.ensures plan c.requires.transfers c.pattern.ensures.occurs ∙ ap (transfers plan) c.pattern.ensures.is) ∙ pattern_count plan s k in
    let within = first_within plan s (k + 1) c.requires.session (omega (arith, c.slots-slots.ensures, ap session_slots c.part.ensures.is)) in
    omega (arith, first_next plan s k)

pub overflow_add-next : goal.overflow_add-next
overflow_add-next c =
    let plan = c.args.outline.now in
    let s = c.args.s in
    let k = c.loop-k.k in
    let long : length c.transfers.result.now ≡ count plan s k = ap length (c.transfers.ensures plan c.requires.transfers c.pattern.ensures.occurs ∙ ap (transfers plan) c.pattern.ensures.is) ∙ pattern_count plan s k in
    let within = first_within plan s (k + 1) c.requires.session (omega (arith, c.slots-slots.ensures, ap session_slots c.part.ensures.is)) in
    omega (arith, first_next plan s k, c.loop-k.invariant.next)

pub loop-k-preserved : goal.loop-k-preserved
loop-k-preserved c =
    let plan = c.args.outline.now in
    let s = c.args.s in
    let k = c.loop-k.k in
    let long : length c.transfers.result.now ≡ count plan s k = ap length (c.transfers.ensures plan c.requires.transfers c.pattern.ensures.occurs ∙ ap (transfers plan) c.pattern.ensures.is) ∙ pattern_count plan s k in
    record {
      starts = c.in_ok-push.ensures.items ∙ listed_push k (first plan s) c.loop-k.starts.items c.loop-k.next c.loop-k.invariant.starts c.loop-k.invariant.next;
      next = omega (arith, first_next plan s k, c.loop-k.invariant.next);
    }
