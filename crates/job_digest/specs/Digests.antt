-- The digest of a job's files.
use Rattle.std.specs.Prelude.{ℕ, ◌<◌, ◌^◌, All, List, [], ◌∷◌, ◌++◌, length}
use Rattle.std.specs.Int.{w64, to_be_bytes}
use Rattle.sha2.specs.Hashers.{Holds256}
use Rattle.sha2.specs.Sha256.{sha256}
use Rattle.job_digest.specs.declared.JobDigest.{JobDigest}

-- each file after its length, which takes eight bytes
unfoldable pub joined_files : List (List ℕ) → List ℕ
joined_files [] = []
joined_files (file ∷ files) = to_be_bytes w64 (length file) ++ (file ++ joined_files files)

-- the digest of these files
abbrev pub digest_of : List (List ℕ) → List ℕ
digest_of files = sha256 (joined_files files)

-- these files were added
abbrev pub HasFiles : JobDigest → List (List ℕ) → Type 0
HasFiles digest files = Holds256 digest.hasher (joined_files files)

-- the length of each file fits eight bytes
abbrev pub AreFiles : List (List ℕ) → Type 0
AreFiles files = All (λ (file : List ℕ). length file < 2 ^ 64) files
