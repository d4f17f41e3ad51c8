use Rattle.std.proofs.Common.{◌++◌, length, sym, subst}
use Rattle.std.specs.Int.{w64, to_be_bytes}
use Rattle.sha2.specs.Hashers.{Holds256}
use Rattle.job_digest.specs.Digests.{joined_files}
use Rattle.job_digest.proofs.JoinedFiles.{joined_more}
use Rattle.job_digest.proofs.JobDigest.add.Goals as goal

pub returns : goal.returns
returns c = λ files has.
    subst (Holds256 c.update-2.new.self) (sym (joined_more files c.args.file.now))
    (c.update-2.ensures (joined_files files ++ to_be_bytes w64 (length c.args.file.now))
    (subst (λ bytes. Holds256 c.update.new.self (joined_files files ++ bytes)) c.to_be_bytes.ensures (c.update.ensures (joined_files files) has)))
