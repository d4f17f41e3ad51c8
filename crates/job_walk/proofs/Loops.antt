-- How the sessions are read one after another.
use Rattle.std.proofs.Common.{◌≡◌, ℕ, ◌<◌, ◌≤◌, ◌+◌, List, [], ◌∷◌, ◌++◌, length, drop, map, get_or, Result, Ok, Err, Vec, sym, ap, ◌∙◌, subst}
use Rattle.std.specs.Prelude.{IsErrAnd}
use Rattle.std.specs.declared.alloc.Global.{Global}
use Rattle.outer_io.specs.Files.{FilesReading}
use Rattle.session_slots.specs.Sessions.{Session}
use Rattle.job_file.specs.Forms.{JobForm, SessionForm}
use Rattle.job_file.specs.Jobs.{session_view}
use Rattle.job_file.specs.declared.job.JobSession.{JobSession}
use Rattle.job_walk.specs.declared.stop.Stop.{Stop}
use Rattle.job_walk.specs.JobOf.{SessionAt, SessionsAfter}
use Rattle.job_walk.specs.Reads.{ReadsAs}
use Rattle.job_walk.proofs.Steps.{reads_exit, reads_then, reads_end}
use Rattle.job_walk.proofs.Equal.{left_of, none_left}

abbrev pub seen_parts : Vec Session Global → List Session
seen_parts parts = parts.items

-- the files of the circuits of these sessions
abbrev pub circuits : List SessionForm → List (List ℕ)
circuits forms = map (λ (session : SessionForm). session.circuit) forms

module _ (dir : List ℕ) (job : JobForm) (sessions : List JobSession) (s : ℕ) (before : FilesReading) (result : Result (Vec Session Global) Stop) where
  abbrev ReadsForms : List Session → List SessionForm → FilesReading → FilesReading → Type 0
  ReadsForms parts forms before after = ReadsAs dir (circuits forms) seen_parts (λ m. SessionsAfter m dir job parts forms) before after result

  abbrev ReadsRest : List Session → ℕ → FilesReading → FilesReading → Type 0
  ReadsRest parts s before after = ReadsForms parts (drop s (map session_view sessions)) before after

  -- the same over an equal list
  pub parts_same : (parts parts' : List Session) (k : ℕ) (mid after : FilesReading) → parts ≡ parts' → ReadsRest parts k mid after → ReadsRest parts' k mid after
  parts_same parts parts' k mid after same r = subst (λ ps. ReadsRest ps k mid after) same r

  module _ (session : JobSession) (is : session ≡ get_or sessions s session) (l : s < length sessions) (shown parts : List Session) (same : shown ≡ parts) where
    abbrev form : SessionForm
    form = session_view session

    on_list : (after : FilesReading) → ReadsForms parts (form ∷ drop (s + 1) (map session_view sessions)) before after → ReadsRest parts s before after
    on_list after r = subst (λ xs. ReadsForms parts xs before after) (sym (left_of session_view sessions s session l ∙ ap (λ x. session_view x ∷ drop (s + 1) (map session_view sessions)) (sym is))) r

    pub session_next : (mid after : FilesReading) (part : Session) → ReadsAs dir (session.circuit ∷ []) (λ (part : Session). part) (λ m. SessionAt m dir job shown form) before mid (Ok part)
        → ReadsRest (parts ++ part ∷ []) (s + 1) mid after → ReadsRest parts s before after
    unfolding SessionsAfter
    session_next mid after part r rest =
        on_list after (reads_then _ _ _ _ before mid after part result (subst (λ earlier. ReadsAs dir (session.circuit ∷ []) (λ (part : Session). part) (λ m. SessionAt m dir job earlier form) before mid (Ok part)) same r) rest)

    pub session_stops : (after : FilesReading) (stop : Stop) → IsErrAnd result (λ e. e ≡ stop) → ReadsAs {C = Session} dir (session.circuit ∷ []) (λ part. part) (λ m. SessionAt m dir job shown form) before after (Err stop) → ReadsRest parts s before after
    unfolding SessionsAfter
    session_stops after stop err r =
        on_list after (reads_exit _ _ _ _ _ before after stop result err (subst (λ earlier. ReadsAs {C = Session} dir (session.circuit ∷ []) (λ part. part) (λ m. SessionAt m dir job earlier form) before after (Err stop)) same r))

pub sessions_end : (dir : List ℕ) (job : JobForm) (sessions : List JobSession) (s : ℕ) (now : FilesReading) (parts : Vec Session Global) → length sessions ≤ s
    → ReadsAs dir (circuits (drop s (map session_view sessions))) seen_parts (λ m. SessionsAfter m dir job parts.items (drop s (map session_view sessions))) now now (Ok parts)
unfolding SessionsAfter
sessions_end dir job sessions s now parts all =
    subst (λ xs. ReadsAs dir (circuits xs) seen_parts (λ m. SessionsAfter m dir job parts.items xs) now now (Ok parts)) (sym (none_left session_view sessions s all)) (reads_end seen_parts now parts)
