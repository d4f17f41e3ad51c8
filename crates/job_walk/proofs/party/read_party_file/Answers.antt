use Rattle.std.proofs.Common.{◌≡◌, ◌∙◌}
use Rattle.party_file.specs.Table.{party_in}
use Rattle.refusal_text.specs.Lines.{party_line}
use Rattle.job_walk.specs.Names.{party_file}
use Rattle.job_walk.specs.Verdict.{verdict_of}
use Rattle.job_walk.specs.JobOf.{PartyAt}
use Rattle.job_walk.proofs.Steps.{reads_exit, reads_then, reads_walk}
use Rattle.job_walk.proofs.Equal.{file_named, bytes_same}
use Rattle.job_walk.proofs.party.read_party_file.Goals as goal

pub returns-in_err-bytes-clause-reads : goal.returns-in_err-bytes-clause-reads
unfolding PartyAt
returns-in_err-bytes-clause-reads g c =
    let name : c.as_str.result.now ≡ party_file c.args.name.now = c.as_str.ensures.value ∙ c.in_ok-file.ensures in
    reads_exit _ _ _ _ _ _ _ _ _ c.from_residual-in_err-bytes.ensures.1 (file_named _ _ _ _ _ _ _ name c.in_err-bytes.ensures)

pub returns-clause-reads : goal.returns-clause-reads
unfolding PartyAt
returns-clause-reads g c =
    let name : c.as_str.result.now ≡ party_file c.args.name.now = c.as_str.ensures.value ∙ c.in_ok-file.ensures in
    let name' : c.as_str-2.result.now ≡ party_file c.args.name.now = c.as_str-2.ensures.value ∙ c.in_ok-file.ensures in
    reads_then _ _ _ _ _ _ _ _ _ (file_named _ _ _ _ _ _ _ name c.in_ok-bytes.ensures)
    (reads_walk _ _ _ _ (bytes_same _ (λ n. verdict_of (party_line n) (party_in c.args.numeric.now c.args.plan.now c.args.p c.in_ok-bytes.bytes.items)) _ _ _ name'
    (bytes_same _ (λ b. verdict_of (party_line c.as_str-2.result.now) (party_in c.args.numeric.now c.args.plan.now c.args.p b)) _ _ _ c.deref.ensures.value c.party_in.ensures.walks)))
