use Rattle.std.proofs.Common.{◌≡◌, map, take}
use Rattle.plan_model.specs.InputWords.{input_words, session_words}
use Rattle.party_file.specs.declared.data.PartyData.{PartyData}
use Rattle.job_run.proofs.copies.inputs_of.Given as goal

-- the inputs of the parties so far
abbrev pub invariant-loop-party : goal.invariant-loop-party
invariant-loop-party l = input_words l.inputs.items ≡ map (λ (party : PartyData). session_words party.inputs.items) (take l.party-index l.parties)
