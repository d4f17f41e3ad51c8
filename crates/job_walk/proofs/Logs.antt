-- What a log was told of the files that were read.
use Rattle.std.proofs.Common.{◌≡◌, ℕ, ◌+◌, ◌<◌, List, [], ◌∷◌, ◌++◌, map, take, length, get_or, Option, None, Some, Result, Ok, Err, Bool, true, false, sym, subst, ap, ap₂, ◌∙◌, refl, append_assoc}
use Rattle.std.specs.Prelude.{IfSome, OnOk, nat_le, if◌then◌else◌}
use Rattle.std.specs.Option.{unwrap_or}
use Rattle.std.proofs.lemmas.List.{append-nil, map-append, take_more}
use Rattle.outer_io.specs.Files.{Told}
use Rattle.job_file.specs.Forms.{JobForm, SessionForm}
use Rattle.job_file.specs.Jobs.{session_view}
use Rattle.job_file.specs.declared.job.JobSession.{JobSession}
use Rattle.job_digest.specs.declared.JobDigest.{JobDigest}
use Rattle.job_digest.specs.Digests.{HasFiles, digest_of}
use Rattle.job_walk.specs.declared.stop.Stop.{Stop}
use Rattle.job_walk.specs.Names.{job_file, path_of}
use Rattle.job_walk.specs.Verdict.{Verdict, accepted, missing, refused}
use Rattle.job_walk.specs.JobOf.{bytes_of, file_at}
use Rattle.job_walk.specs.FileLogs.{bytes_at, all_bytes_at, Logs}
use Rattle.job_walk.specs.NodeOf.{NodeForm, circuit_files, job_digest}
use Rattle.refusal_text.specs.Lines.{too_long_line}
use Rattle.job_limits.specs.declared.limits.TheConstants.{FILE_LIMIT}

-- ---- one file

abbrev bytes_accepted : Verdict (List ℕ) → List ℕ
bytes_accepted (accepted bytes) = bytes
bytes_accepted (missing name) = []
bytes_accepted (refused status line) = []

abbrev IsAccepted : Verdict (List ℕ) → Type 0
IsAccepted (accepted bytes) = Unit {0}
IsAccepted (missing name) = ⊥
IsAccepted (refused status line) = ⊥

limited : (b : Bool) (bytes held name : List ℕ) → accepted bytes ≡ (if b then accepted held else refused 3 (too_long_line name)) → bytes ≡ held
limited true bytes held name is = ap bytes_accepted is
limited false bytes held name is = absurd (subst IsAccepted is tt)

pub content_held : (content : Option (List ℕ)) (bytes name : List ℕ) → accepted bytes ≡ bytes_of content name → content ≡ Some bytes
unfolding bytes_of
content_held None bytes name is = absurd (subst IsAccepted is tt)
content_held (Some there) bytes name is = ap Some (sym (limited (nat_le (length there) FILE_LIMIT) bytes there name is))

module _ {L : Type 0} (has : L → List (List ℕ) → Type 0) (dir : List ℕ) where
  -- a file that was read, and that the log was told
  pub log_file : (told : Told) (name bytes : List ℕ) (before after : L) → IfSome told (λ m. accepted bytes ≡ file_at m dir name)
      → ((had : List (List ℕ)) → has before had → has after (had ++ bytes ∷ [])) → Logs has told dir (name ∷ []) before after
  unfolding file_at
  log_file None name bytes before after is adds = tt
  log_file (Some m) name bytes before after is adds = λ had h.
      subst (λ (o : Option (List ℕ)). has after (had ++ unwrap_or o [] ∷ [])) (sym (content_held (m (path_of dir name)) bytes name is)) (adds had h)

  -- some files, and then more
  pub logs_then : (told : Told) (names more : List (List ℕ)) (before mid after : L) → Logs has told dir names before mid → Logs has told dir more mid after → Logs has told dir (names ++ more) before after
  logs_then None names more before mid after first next = tt
  logs_then (Some m) names more before mid after first next = λ had h.
      subst (has after) (append_assoc had (all_bytes_at m dir names) (all_bytes_at m dir more) ∙ ap (λ xs. had ++ xs) (sym (map-append (bytes_at m dir) names more)))
      (next (had ++ all_bytes_at m dir names) (first had h))

  pub logs_none : (told : Told) (log : L) → Logs has told dir [] log log
  logs_none None log = tt
  logs_none (Some m) log = λ had h. subst (has log) (sym (append-nil had)) h

-- ---- the circuits' files

abbrev pub circuits_of : List JobSession → List (List ℕ)
circuits_of sessions = map (λ (session : JobSession). session.circuit) sessions

pub circuits_are : (sessions : List JobSession) → map (λ (session : SessionForm). session.circuit) (map session_view sessions) ≡ circuits_of sessions
circuits_are [] = refl
circuits_are (session ∷ sessions) = ap (λ files. session.circuit ∷ files) (circuits_are sessions)

-- one more session
pub circuits_more : (sessions : List JobSession) (s : ℕ) (session : JobSession) → s < length sessions → session ≡ get_or sessions s session
    → circuits_of (take s sessions) ++ session.circuit ∷ [] ≡ circuits_of (take (s + 1) sessions)
circuits_more sessions s session l is =
    let circuit : JobSession → List ℕ = λ session. session.circuit in
    sym (ap (map circuit) (take_more sessions s session l ∙ ap (λ x. take s sessions ++ x ∷ []) (sym is)) ∙ map-append circuit (take s sessions) (session ∷ []))

-- a fact holds in particular of an `Ok`
pub on_ok : {C : Type 0} (result : Result C Stop) (Fact : Type 0) → Fact → OnOk result Fact
on_ok (Ok found) Fact fact = fact
on_ok (Err stop) Fact fact = tt

-- ---- the digest

-- the digest of a log that was told the job's file and then the circuits' files
pub digest_known : (told : Told) (dir : List ℕ) (job : JobForm) (start mid end : JobDigest) (bytes : List ℕ) → HasFiles start []
    → Logs HasFiles told dir (job_file ∷ []) start mid → Logs HasFiles told dir (circuit_files job) mid end
    → ((files : List (List ℕ)) → HasFiles end files → bytes ≡ digest_of files) → IfSome told (λ m. bytes ≡ job_digest m dir job)
digest_known None dir job start mid end bytes none first next is = tt
digest_known (Some m) dir job start mid end bytes none first next is =
    is _ (logs_then HasFiles dir (Some m) (job_file ∷ []) (circuit_files job) start mid end first next [] none)

-- what is known of a node, over files that tell the same
pub node_known : (told told' : Told) (dir : List ℕ) (job : JobForm) (node : List Bool → List ℕ → NodeForm) (numeric other : List Bool) (bytes : List ℕ) → told' ≡ told → numeric ≡ other
    → IfSome told (λ m. bytes ≡ job_digest m dir job) → IfSome told' (λ m. accepted (node numeric bytes) ≡ accepted (node other (job_digest m dir job)))
node_known told told' dir job node numeric other bytes same alike is = known told' (subst (λ t. IfSome t (λ m. bytes ≡ job_digest m dir job)) (sym same) is) where
  known : (told : Told) → IfSome told (λ m. bytes ≡ job_digest m dir job) → IfSome told (λ m. accepted (node numeric bytes) ≡ accepted (node other (job_digest m dir job)))
  known None is = tt
  known (Some m) is = ap₂ (λ ns d. accepted (node ns d)) alike is
