-- The worlds of both runs.
use Rattle.std.proofs.Common.{◌≡◌, ℕ, List, length, map, ap₂, subst}
use Rattle.std.specs.Global.{Vec}
use Rattle.plan_model.specs.Plans.{Plan}
use Rattle.plan_model.specs.InputWords.{session_words}
use Rattle.plan_model.specs.Sound.{IsSound}
use Rattle.party_file.specs.Table.{PartyForm}
use Rattle.party_file.specs.Forms.{form_of}
use Rattle.party_file.specs.declared.data.PartyData.{PartyData}
use Rattle.share_world.specs.Laws.{IsWhole}
use Rattle.wire_tables.specs.WireTables as tables
use Rattle.desk_laws.proofs.OpenedDesks.{whole_is}
use Rattle.job_run.specs.Parties.{AllFit, world_of}
use Rattle.job_run.proofs.Worlds.{are_inputs, are_pieces, world_same}

-- the world of parties that fit the plan
pub parties_whole : (plan : Plan) → IsSound plan → (parties : List PartyData) → length parties ≡ plan.parties → AllFit plan parties → IsWhole (world_of plan (map form_of parties))
parties_whole plan sound parties count fit =
    subst IsWhole (world_same plan parties count fit)
    (whole_is plan sound _ (are_inputs plan parties count fit) _ (are_pieces plan parties count fit))

-- and the world of their inputs and of the words of their tapes
pub world_is : (plan : Plan) (forms : List PartyForm) (inputs : List (List (List ℕ))) (tapes : List (Vec ℕ)) → inputs ≡ (world_of plan forms).inputs → session_words tapes ≡ (world_of plan forms).tapes
    → tables.world_given plan inputs tapes ≡ world_of plan forms
world_is plan forms inputs tapes i t = ap₂ (λ inputs tapes. record { plan = plan; inputs = inputs; tapes = tapes }) i t
