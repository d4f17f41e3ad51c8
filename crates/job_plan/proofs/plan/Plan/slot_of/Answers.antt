use Rattle.std.proofs.Common.{◌≡◌, ◌+◌, ◌-◌, ◌<◌, length, ap, sym, ◌∙◌, subst, arith}
use Rattle.std.specs.Prelude.{slice_index}
use Rattle.std.specs.List.Sorted.{IsNonDecreasing}
use Rattle.list_laws.proofs.JoinedLists.{length-listed}
use Rattle.plan_model.specs.Plans.{session, slots}
use Rattle.session_slots.specs.SoundSessions.{IsSoundSession}
use Rattle.plan_model.specs.Firsts.{session_starts, starts_of}
use Rattle.plan_model.proofs.SlotStarts.{start_at, starts_long, starts_rise}
use Rattle.plan_model.proofs.GrownLists.{row_is}
use Rattle.plan_model.proofs.Slots.{few_slots}
use Rattle.job_plan.proofs.plan.Plan.slot_of.Goals as goal

pub index-requires : goal.index-requires
index-requires c =
    let plan = c.args.self.now in
    let begin : c.self.inside.starts.items ≡ starts_of plan = c.self.invariant.begin ∙ ap starts_of c.self.view_is in
    omega (arith, c.self.inside.starts.ok.0, ap length begin, length-listed (length plan.sessions) (session_starts plan))

pub part_of-requires : goal.part_of-requires
part_of-requires c =
    let plan = c.args.self.now in
    let s = c.args.s in
    let count = slots plan s in
    let begin : c.self.inside.starts.items ≡ starts_of plan = c.self.invariant.begin ∙ ap starts_of c.self.view_is in
    let row = row_is c.self.inside.starts.items (length plan.sessions) (session_starts plan) s c.index.result.now begin c.requires.session c.index.ensures in
    let long = ap length row ∙ starts_long plan s in
    let last : length c.index.result.now - 1 ≡ count = omega arith in
    let sound = subst (λ p. IsSoundSession p.parties (session p s)) c.self.view_is (c.self.invariant.sound.sessions s (omega (arith, c.requires.session, ap (λ p. length p.sessions) c.self.view_is))) in
    record {
      some = omega arith;
      few = omega (arith, few_slots (session plan s) sound.wired);
      rising = subst IsNonDecreasing (sym row) (starts_rise plan s);
      begin = omega (arith, ap (λ xs. slice_index xs 0) row, start_at plan s 0 (omega arith), c.requires.begin);
      end = omega (arith, ap (λ xs. slice_index xs (length c.index.result.now - 1)) row, ap (slice_index (session_starts plan s)) last, start_at plan s count (omega arith), c.requires.end);
    }

pub returns : goal.returns
returns c =
    let plan = c.args.self.now in
    let s = c.args.s in
    let k = c.part_of.result in
    let begin : c.self.inside.starts.items ≡ starts_of plan = c.self.invariant.begin ∙ ap starts_of c.self.view_is in
    let row = row_is c.self.inside.starts.items (length plan.sessions) (session_starts plan) s c.index.result.now begin c.requires.session c.index.ensures in
    let there : k < slots plan s = omega (arith, ap length row, starts_long plan s, c.part_of.ensures.there) in
    record {
      there = there;
      begin = omega (arith, ap (λ xs. slice_index xs k) row, start_at plan s k (omega arith), c.part_of.ensures.begin);
      end = omega (arith, ap (λ xs. slice_index xs (k + 1)) row, start_at plan s (k + 1) (omega arith), c.part_of.ensures.end);
    }
