use Rattle.std.proofs.Common.{◌≡◌, List, ℕ, [], length, drop, map, Result, Vec}
use Rattle.std.specs.declared.alloc.Global.{Global}
use Rattle.outer_io.specs.Files.{FilesReading}
use Rattle.party_file.specs.declared.data.PartyData.{PartyData}
use Rattle.job_run.specs.Parties.{AllFit}
use Rattle.job_walk.specs.declared.stop.Stop.{Stop}
use Rattle.job_walk.specs.JobOf.{PartiesAfter}
use Rattle.mpc_top.specs.Seen.{parties_view}
use Rattle.job_walk.specs.FilesAsked.{party_files}
use Rattle.job_walk.specs.Reads.{ReadsAs}
use Rattle.mpc_top.proofs.parties.read_parties.Given as goal

-- whatever reads the files that are left reads them all
abbrev pub invariant-loop-p : goal.invariant-loop-p
invariant-loop-p g l = record {
  reads : (after : FilesReading) (result : Result (Vec PartyData Global) Stop)
      → ReadsAs l.dir (party_files (drop l.p (map (λ (name : List ℕ). name) l.planned.names))) parties_view (λ m. PartiesAfter m l.dir l.planned.numeric.items l.planned.plan (parties_view l.parties) (drop l.p (map (λ (name : List ℕ). name) l.planned.names))) (g.F.Files.reading l.files) after result
      → ReadsAs l.dir (party_files l.planned.names) parties_view (λ m. PartiesAfter m l.dir l.planned.numeric.items l.planned.plan [] l.planned.names) (g.F.Files.reading l.initial.files) after result;
  count : length l.parties.items ≡ l.p;
  fit : AllFit l.planned.plan l.parties.items;
}
