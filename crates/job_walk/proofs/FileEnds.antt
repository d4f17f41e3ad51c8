-- What a read of a file says of the walk.
use Rattle.std.proofs.Common.{◌≡◌, ℕ, ◌<◌, ◌≤◌, List, [], ◌∷◌, ◌++◌, length, Option, None, Some, Vec, Result, Err, refl, arith, ap, ◌∙◌, sym, inl, inr}
use Rattle.std.specs.Prelude.{◌⊎◌, IfSome, IsErrOf}
use Rattle.std.proofs.lemmas.List.{append-nil}
use Rattle.std.specs.declared.alloc.Global.{Global}
use Rattle.outer_io.specs.declared.files.ReadRefusal.{ReadRefusal}
use Rattle.outer_io.specs.declared.files.ReadRefusal.TheVariants.{Failed, TooLong, Memory}
use Rattle.outer_io.specs.Files.{FilesReading, Told, Reads, IsContent, IsLonger, IsThere}
use Rattle.job_walk.specs.Names.{path_of}
use Rattle.job_walk.specs.JobOf.{file_at, bytes_of}
use Rattle.job_walk.specs.Verdict.{accepted, missing, refused}
use Rattle.job_walk.specs.FilesAsked.{AsksFor, AsksPart, IsLast}
use Rattle.job_walk.specs.Reads.{KeepsFiles}
use Rattle.job_walk.proofs.Asks.{part_all}
use Rattle.refusal_text.specs.Lines.{too_long_line}
use Rattle.job_limits.specs.declared.limits.TheConstants.{FILE_LIMIT}

pub read_keeps : (name : List ℕ) (limit : ℕ) (before after : FilesReading) (result : Result (Vec ℕ Global) ReadRefusal) → Reads name limit before after result → KeepsFiles before after
read_keeps name limit before after result r = record {
  same_told = r.same_told;
  faults_grow = r.faults_grow;
  taken_grows = r.taken_grows;
  keeps_steady = r.keeps_steady;
}

bytes_of-short : (bytes name : List ℕ) → length bytes ≤ FILE_LIMIT → bytes_of (Some bytes) name ≡ accepted bytes
unfolding bytes_of
bytes_of-short bytes name h = grind arith

bytes_of-long : (bytes name : List ℕ) → FILE_LIMIT < length bytes → bytes_of (Some bytes) name ≡ refused 3 (too_long_line name)
unfolding bytes_of
bytes_of-long bytes name h = grind arith

pub file_ok : (told : Told) (dir : List ℕ) (name : List ℕ) (path bytes : List ℕ) → path ≡ path_of dir name → IsContent told path bytes → length bytes ≤ FILE_LIMIT
    → IfSome told (λ m. accepted bytes ≡ file_at m dir name)
unfolding file_at
file_ok None dir name path bytes same is short = tt
file_ok (Some m) dir name path bytes same is short = sym (ap (λ o. bytes_of o name) (ap m (sym same) ∙ is) ∙ bytes_of-short bytes name short)

pub file_long : (told : Told) (dir : List ℕ) (name : List ℕ) (path : List ℕ) → path ≡ path_of dir name → IsLonger told path FILE_LIMIT
    → IfSome told (λ m. refused 3 (too_long_line name) ≡ file_at m dir name)
unfolding file_at
file_long None dir name path same is = tt
file_long (Some m) dir name path same is = sym (ap (λ o. bytes_of o name) (ap m (sym same) ∙ is.1) ∙ bytes_of-long is.0 name is.2)

missing_or : (o : Option (List ℕ)) (name : List ℕ) → ((bytes : List ℕ) × (o ≡ Some bytes) → ⊥) → bytes_of o name ≡ missing name
unfolding bytes_of
missing_or None name not = refl
missing_or (Some bytes) name not = absurd (not (bytes, refl))

pub file_missing : (told : Told) (dir : List ℕ) (name : List ℕ) (path : List ℕ) → path ≡ path_of dir name → (IsThere told path → ⊥)
    → IfSome told (λ m. missing name ≡ file_at m dir name)
unfolding file_at
file_missing None dir name path same not = tt
file_missing (Some m) dir name path same not = sym (missing_or (m (path_of dir name)) name (λ h. not (h.0, ap m same ∙ h.1)))

pub long_is_no_fault : (result : Result (Vec ℕ Global) ReadRefusal) (refusal : ReadRefusal) → result ≡ Err refusal → refusal ≡ TooLong → result ≡ Err Failed → ⊥
long_is_no_fault result refusal is long failed = cc

-- ---- the name that was asked for

module _ (dir file path : List ℕ) (limit : ℕ) (before after : FilesReading) (result : Result (Vec ℕ Global) ReadRefusal) (r : Reads path limit before after result) (same : path ≡ path_of dir file) where
  of_file : after.asked ≡ before.asked ++ (path ∷ []) → AsksFor dir (file ∷ []) before after
  of_file asked = asked ∙ ap (λ p. before.asked ++ (p ∷ [])) same

  pub read_asks : ¬ IsErrOf result Memory → AsksFor dir (file ∷ []) before after
  read_asks room = noted r.asked where
    noted : (after.asked ≡ before.asked ++ (path ∷ [])) ⊎ (IsErrOf result Memory × (after.asked ≡ before.asked)) → AsksFor dir (file ∷ []) before after
    noted (inl asked) = of_file asked
    noted (inr none) = absurd (room none.0)

  pub read_part : AsksPart dir (file ∷ []) before after
  read_part = noted r.asked where
    noted : (after.asked ≡ before.asked ++ (path ∷ [])) ⊎ (IsErrOf result Memory × (after.asked ≡ before.asked)) → AsksPart dir (file ∷ []) before after
    noted (inl asked) = part_all dir (file ∷ []) before after (of_file asked)
    noted (inr none) = ([], file ∷ [], refl, none.1 ∙ sym (append-nil before.asked))

  pub read_last : (name : List ℕ) → name ≡ file → ¬ IsErrOf result Memory → IsLast dir name after
  read_last name is room = (before.asked, read_asks room ∙ ap (λ f. before.asked ++ (path_of dir f ∷ [])) (sym is))

pub failed_is_no_memory : (result : Result (Vec ℕ Global) ReadRefusal) (refusal : ReadRefusal) → result ≡ Err refusal → refusal ≡ Failed → result ≡ Err Memory → ⊥
failed_is_no_memory result refusal is failed memory = cc

pub memory_is_no_fault : (result : Result (Vec ℕ Global) ReadRefusal) (refusal : ReadRefusal) → result ≡ Err refusal → refusal ≡ Memory → result ≡ Err Failed → ⊥
memory_is_no_fault result refusal is memory failed = cc
