use Rattle.std.proofs.Common.{ℕ, List, map, ap, ◌∙◌, subst}
use Rattle.std.specs.List.{Contains}
use Rattle.plan_model.specs.declared.pattern.Pattern.TheVariants.{Opened}
use Rattle.party_program.specs.PartySteps.{steps}
use Rattle.party_program.proofs.OccurringPatterns.{opening_occurs}
use Rattle.party_program.proofs.step_table.StepTable.make.Goals as goal

pub openings_to_each-requires-clause-occur : goal.openings_to_each-requires-clause-occur
openings_to_each-requires-clause-occur c = λ mask there.
    let listed = subst (λ (masks : List ℕ). Contains masks mask) c.as_slice.ensures.is there in
    opening_occurs c.args.plan.now c.args.s c.requires.session mask ((c.in_ok-readers.ensures mask).0 listed)

pub returns : goal.returns
returns c = record {
  silent = c.in_ok-silent.ensures;
  multiplied = c.in_ok-multiplied.ensures;
  handed_out = c.in_ok-handed_out.ensures;
  opened_to_all = c.in_ok-opened_to_all.ensures;
  joined = c.in_ok-joined.ensures;
  held = c.in_ok-held.ensures;
  received = c.in_ok-received.ensures;
  dealt = c.in_ok-dealt.ensures;
  readers = c.in_ok-readers.ensures;
  opened = c.in_ok-opened.ensures ∙ ap (map (λ mask. steps c.args.plan.now c.args.p c.args.half (Opened mask))) c.as_slice.ensures.is;
}
