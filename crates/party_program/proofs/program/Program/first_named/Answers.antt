use Rattle.std.proofs.Common.{sym, ◌∙◌, inl, inr}
use Rattle.std.proofs.lemmas.Bool.{cases_lt}
use Rattle.plan_model.specs.Plans.{slot, slots}
use Rattle.party_program.proofs.NamedSlots.{named_own, named_past}
use Rattle.party_program.proofs.program.Program.first_named.Goals as goal

pub returns : goal.returns
returns c =
    let plan = c.args.plan.now in
    let s = c.args.self.now.session in
    c.first.ensures.is ∙ sym (elim (cases_lt c.args.slot (slots plan s)) [
      | inl l ↦ named_own plan s c.args.slot (slot plan s c.args.slot) (λ e. c.in_default.not-Received (c.requires.pattern l ∙ e))
      | inr past ↦ named_past plan s c.args.slot past
    ])
