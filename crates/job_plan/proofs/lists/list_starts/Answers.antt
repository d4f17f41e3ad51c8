use Rattle.std.proofs.Common.{◌≡◌, length, ap, ap₂, sym, ◌∙◌, arith}
use Rattle.std.specs.Prelude.{slice_index}
use Rattle.session_slots.specs.Sessions.{session_slots}
use Rattle.plan_model.specs.Plans.{slots}
use Rattle.plan_model.specs.Firsts.{session_starts}
use Rattle.plan_model.proofs.SlotStarts.{first_after, start_at, starts_long}
use Rattle.plan_model.proofs.GrownLists.{listed_push}
use Rattle.job_plan.proofs.lists.list_starts.Goals as goal

pub at-before-requires : goal.at-before-requires
at-before-requires c =
    let plan = c.args.outline.now in
    omega (arith, ap length c.in_ok-starts.ensures, starts_long plan c.loop-s.s, c.slots.ensures, ap session_slots c.part.ensures.is)

pub loop-s-preserved : goal.loop-s-preserved
loop-s-preserved c =
    let plan = c.args.outline.now in
    let s = c.loop-s.s in
    let at_end : c.slots.result ≡ slots plan s = c.slots.ensures ∙ ap session_slots c.part.ensures.is in
    record {
      list = c.in_ok-push.ensures.items ∙ listed_push s (session_starts plan) c.loop-s.list.items c.in_ok-starts.starts c.loop-s.invariant.list c.in_ok-starts.ensures;
      before = c.at-before.ensures ∙ ap₂ slice_index c.in_ok-starts.ensures at_end ∙ start_at plan s (slots plan s) (omega arith) ∙ sym (first_after plan s);
    }
