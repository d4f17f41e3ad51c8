use Rattle.std.proofs.Common.{◌≡◌, ◌+◌, refl, sym, ap, ◌∙◌, subst, arith}
use Rattle.plan_model.specs.declared.pattern.Pattern.TheVariants.{Silent, Multiplied}
use Rattle.program_model.specs.declared.half.Half.TheVariants.{Head}
use Rattle.program_model.specs.declared.instruction.Instruction.TheVariants.{Linear}
use Rattle.party_desk.specs.Desks.{instruction_at}
use Rattle.desk_walks.specs.Walks.{IsBefore}
use Rattle.desk_walks.proofs.ComputedGates.{own_here, sum_here}
use Rattle.desk_walks.proofs.GatePlaces.{linear_begins, one_silent}
use Rattle.desk_walks.proofs.GatePosts.{goes_at}
use Rattle.desk_walks.proofs.walks.linear_gate.Goals as goal

pub end_gate-requires-clause-linear : goal.end_gate-requires-clause-linear
end_gate-requires-clause-linear c given goes = sym (goes_at c.args.plan.now given c.args.desk.now goes c.instruction_at.result c.instruction_at.ensures) ∙ c.in-Linear.is

pub returns-clause-does : goal.returns-clause-does
returns-clause-does c z given goes =
    let plan = c.args.plan.now in
    let d = c.args.desk.now in
    let is : instruction_at given d ≡ Linear c.in-Linear.slot = sym (goes_at plan given d goes c.instruction_at.result c.instruction_at.ensures) ∙ c.in-Linear.is in
    let begins = linear_begins plan given d goes c.in-Linear.slot is in
    let more = ap (λ z. z.position) c.end_gate.ensures.rest in
    record {
      gate = begins.1;
      before = subst (λ k. IsBefore plan given Head (k + 1) c.end_gate.new.desk) begins.0 (c.end_gate.ensures.before given goes);
      on = omega (arith, more);
      no_post = one_silent given d c.end_gate.new.desk (Linear c.in-Linear.slot) is (λ m j z. cc) more;
    }

pub returns-in_default : goal.returns-in_default
returns-in_default c = record {
  does = λ z. absurd cc;
  still = λ z. refl;
  through = λ z given goes. (
    (λ k is. let clash : Silent ≡ Multiplied = sym c.requires.silent ∙ (own_here given c.args.desk.now goes.desk k is).1 in cc),
    (λ k is. let clash : Silent ≡ Multiplied = sym c.requires.silent ∙ (sum_here given c.args.desk.now goes.desk k is).1 in cc),
    (λ k is. c.in_default.not-Linear k (goes_at c.args.plan.now given c.args.desk.now goes c.instruction_at.result c.instruction_at.ensures ∙ is)),
  );
}
