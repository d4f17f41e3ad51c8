-- What the parties of a job give, and the world that it runs.
use Rattle.std.specs.Prelude.{◌≡◌, ℕ, List, map, Some, slice_get}
use Rattle.std.specs.List.{concat}
use Rattle.plan_model.specs.Plans.{Plan}
use Rattle.share_world.specs.Worlds.{World}
use Rattle.party_file.specs.Table.{PartyForm}
use Rattle.party_file.specs.Forms.{FitsPlan, form_of}
use Rattle.party_file.specs.declared.data.PartyData.{PartyData}

-- what each party gives fits the plan
abbrev pub AllFit : Plan → List PartyData → Type 0
AllFit plan parties =
    (p : ℕ) (party : PartyData) → slice_get parties p ≡ Some party → FitsPlan plan p (form_of party)

-- each party gives its inputs, and its tape is its pieces, session after session
abbrev pub world_of : Plan → List PartyForm → World
world_of plan parties = record {
  plan = plan;
  inputs = map (λ party. party.inputs) parties;
  tapes = map (λ party. concat party.tapes) parties;
}
