use Rattle.std.proofs.Common.{◌≡◌, map, take}
use Rattle.std.specs.List.{concat}
use Rattle.plan_model.specs.InputWords.{session_words}
use Rattle.party_file.specs.declared.data.PartyData.{PartyData}
use Rattle.job_run.proofs.copies.tapes_of.Given as goal

-- the tapes of the parties so far
abbrev pub invariant-loop-party : goal.invariant-loop-party
invariant-loop-party l = session_words l.tapes.items ≡ map (λ (party : PartyData). concat party.tapes.items) (take l.party-index l.parties)
