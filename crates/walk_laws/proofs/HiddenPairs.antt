-- The other inputs of an accepted pair can be hidden.
use Rattle.std.proofs.Common.{Bool, ◌≡◌, ℕ, List, Option, None, Some, Ok, sym, subst}
use Rattle.toml.specs.Data.{Members as Fields}
use Rattle.toml_fields.specs.Documents.{document_of}
use Rattle.list_laws.proofs.FirstFaults.{or_fault-ok}
use Rattle.plan_model.specs.Plans.{Plan}
use Rattle.plan_model.specs.InputWords.{AreInputs}
use Rattle.other_file.specs.Table.{other_fault, other_in, other_in_fields, other_inputs}
use Rattle.other_file.proofs.GivenInputs.{given_fit}
use Rattle.share_world.specs.Laws.{IsWhole}
use Rattle.tape_map.specs.Laws.{CanHide}
use Rattle.tape_map.specs.MapFaults.{map_fault}
use Rattle.tape_map.proofs.NoFaults.{no_fault}
use Rattle.job_walk.specs.Verdict.{Then, accepted}
use Rattle.job_walk.specs.JobOf.{Contents}
use Rattle.mpc_top.specs.WholeJobs.{PairedJob, OtherAt, PairAt, mask_of, paired_job}
use Rattle.walk_laws.specs.Whole.{PairsCanHide}
use Rattle.mpc_top.proofs.WholeWorlds.{jobs_are_whole, was_none, was_ok}

fields_fit : (numeric : List Bool) (plan : Plan) (names : List (List ℕ)) (inputs other : List (List (List ℕ))) (d : Option Fields) → AreInputs plan inputs → other_in_fields numeric plan names inputs d ≡ Ok other → AreInputs plan other
fields_fit numeric plan names inputs other None are e = cc
fields_fit numeric plan names inputs other (Some fields) are e =
    let both = or_fault-ok (other_fault numeric plan names fields) (other_inputs numeric plan names inputs fields) other (sym e) in
    subst (AreInputs plan) (sym both.1) (given_fit numeric plan names inputs fields are both.0)

bytes_fit : (numeric : List Bool) (plan : Plan) (names : List (List ℕ)) (inputs other : List (List (List ℕ))) (bytes : List ℕ) → AreInputs plan inputs → other_in numeric plan names inputs bytes ≡ Ok other → AreInputs plan other
unfolding other_in
bytes_fit numeric plan names inputs other bytes are e = fields_fit numeric plan names inputs other (document_of bytes) are e

-- other inputs that were read fit the plan
others_fit : (files : Contents) (dir : List ℕ) (numeric : List Bool) (plan : Plan) (names : List (List ℕ)) (inputs other : List (List (List ℕ))) → AreInputs plan inputs
    → OtherAt files dir numeric plan names inputs (accepted other) → AreInputs plan other
unfolding OtherAt Then
others_fit files dir numeric plan names inputs other are (bytes, there, e) = bytes_fit numeric plan names inputs other bytes are (was_ok _ (other_in numeric plan names inputs bytes) other e)

pub pairs_can_hide : PairsCanHide
unfolding PairAt Then
pairs_can_hide files dir asked pair (job, at, (other, read, e)) =
    let whole : IsWhole job.world = jobs_are_whole files dir (Some asked) job at in
    let others : AreInputs job.world.plan other = others_fit files dir job.numeric job.world.plan job.names job.world.inputs other whole.inputs read in
    let found = was_none (map_fault job.world other (mask_of job.group)) _ pair (paired_job job other) e in
    subst (λ (pair : PairedJob). CanHide pair.first pair.other pair.group) (sym found.1) ((no_fault job.world other (mask_of job.group) whole others).0 found.0)
