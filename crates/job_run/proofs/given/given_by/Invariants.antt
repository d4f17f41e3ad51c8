use Rattle.std.proofs.Common.{◌≡◌, ◌++◌, map}
use Rattle.plan_model.specs.InputWords.{input_words}
use Rattle.party_file.specs.Table.{PartyForm}
use Rattle.party_file.specs.Forms.{form_of}
use Rattle.job_run.specs.Pieces.{tape_words}
use Rattle.job_run.proofs.given.given_by.Given as goal

-- what was taken, and behind it what the parties that are left give
abbrev pub invariant-loop-party : goal.invariant-loop-party
invariant-loop-party l = record {
  inputs : input_words l.inputs.items ++ map (λ (party : PartyForm). party.inputs) (map form_of l.party-iterator.rest.items) ≡ map (λ (party : PartyForm). party.inputs) (map form_of l.fn.parties.items);
  tapes : tape_words l.tapes.items ++ map (λ (party : PartyForm). party.tapes) (map form_of l.party-iterator.rest.items) ≡ map (λ (party : PartyForm). party.tapes) (map form_of l.fn.parties.items);
}
