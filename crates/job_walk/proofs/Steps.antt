-- How the steps of the walk follow each other.
use Rattle.std.proofs.Common.{◌≡◌, ◌≢◌, ℕ, ◌≤◌, List, [], ◌++◌, None, Some, Result, Ok, Err, Vec, refl, arith, ◌∙◌, sym, subst, inl, inr}
use Rattle.std.specs.Prelude.{IfSome, IfOk, IsErrAnd, IsTrue, MatchResult}
use Rattle.std.specs.declared.alloc.Global.{Global}
use Rattle.std.specs.declared.alloc.AllocError.{AllocError}
use Rattle.std.proofs.lemmas.Result.{err_from_is_err_and}
use Rattle.std.proofs.lemmas.List.{append-nil}
use Rattle.outer_io.specs.Count.{Rose}
use Rattle.outer_io.specs.Files.{FilesReading, Told}
use Rattle.job_walk.specs.declared.stop.Stop.{Stop}
use Rattle.job_walk.specs.declared.stop.Stop.TheVariants.{Memory, Words, Out, Net, Peer, Files, Refused, Covering}
use Rattle.job_walk.specs.Verdict.{Verdict, accepted, missing, refused, Ends, Then}
use Rattle.job_walk.specs.JobOf.{Contents}
use Rattle.job_walk.proofs.Asks.{asks_none, asks_then, part_none, part_more, part_then}
use Rattle.job_walk.specs.Reads.{KeepsFiles, ReadsAs, StopsAt, Meets, WalksAs, StopsBy}
use Rattle.job_walk.specs.Stops.{IsStopOf}

le_trans : {a b c : ℕ} → a ≤ b → b ≤ c → a ≤ c
le_trans {a} {b} {c} p q = omega arith

-- ---- what reading keeps

pub keeps_now : (now : FilesReading) → KeepsFiles now now
keeps_now now = record {
  same_told = refl;
  faults_grow = omega arith;
  taken_grows = omega arith;
  keeps_steady = λ steady. steady;
}

pub keeps_then : (before mid after : FilesReading) → KeepsFiles before mid → KeepsFiles mid after → KeepsFiles before after
keeps_then before mid after first next = record {
  same_told = next.same_told ∙ first.same_told;
  faults_grow = le_trans first.faults_grow next.faults_grow;
  taken_grows = le_trans first.taken_grows next.taken_grows;
  keeps_steady = λ steady. next.keeps_steady (first.keeps_steady steady);
}

-- ---- walks

module _ {A B : Type 0} (first : Verdict A → Type 0) (next : A → Verdict B → Type 0) where
  -- what the first accepted goes on
  then_goes_on : (a : A) (end : Verdict B) → first (accepted a) → next a end → Then first next end
  unfolding Then
  then_goes_on a (accepted b) is then = (a, is, then)
  then_goes_on a (missing name) is then = inr (a, is, then)
  then_goes_on a (refused status line) is then = inr (a, is, then)

  walk_stops_first : (stop : Stop) → StopsBy first stop → StopsBy (Then first next) stop
  unfolding Then
  walk_stops_first Memory cause = tt
  walk_stops_first Words cause = cause
  walk_stops_first Out cause = cause
  walk_stops_first Net cause = cause
  walk_stops_first (Peer names fault) cause = cause
  walk_stops_first (Files name) cause = cause
  walk_stops_first (Refused line) cause = inl cause
  walk_stops_first (Covering line) cause = inl cause

  walk_stops_later : (a : A) (stop : Stop) → first (accepted a) → StopsBy (next a) stop → StopsBy (Then first next) stop
  unfolding Then
  walk_stops_later a Memory is cause = tt
  walk_stops_later a Words is cause = cause
  walk_stops_later a Out is cause = cause
  walk_stops_later a Net is cause = cause
  walk_stops_later a (Peer names fault) is cause = cause
  walk_stops_later a (Files name) is cause = cause
  walk_stops_later a (Refused line) is cause = inr (a, is, cause)
  walk_stops_later a (Covering line) is cause = inr (a, is, cause)

  module _ {C D : Type 0} (seen : C → A) (seen' : D → B) where
    -- a step that stops stops the whole, at the exit of a `?`
    pub walks_exit : (stop : Stop) (result : Result D Stop) → IsErrAnd result (λ e. e ≡ stop) → WalksAs seen first (Err stop) → WalksAs seen' (Then first next) result
    walks_exit stop result is w = let p = err_from_is_err_and result is in rw (p.1, p.2) (record { ok = tt; stop = walk_stops_first stop w.stop })

    -- what follows a step that accepted decides for the whole
    pub walks_then : (c : C) (result : Result D Stop) → WalksAs seen first (Ok c) → WalksAs seen' (next (seen c)) result → WalksAs seen' (Then first next) result
    walks_then c (Ok d) w v = record { ok = then_goes_on (seen c) (accepted (seen' d)) w.ok v.ok; stop = tt }
    walks_then c (Err stop) w v = record { ok = tt; stop = walk_stops_later (seen c) stop w.ok v.stop }

-- ---- the files that are asked for

module _ {A C : Type 0} {dir : List ℕ} {xs : List (List ℕ)} (seen : C → A) (walk : Contents → Verdict A → Type 0) (ys : List (List ℕ)) (before after : FilesReading) where
  -- a reading that stopped before more files were read
  pub reads_more : (stop : Stop) → ReadsAs dir xs seen walk before after (Err stop) → ReadsAs dir (xs ++ ys) seen walk before after (Err stop)
  reads_more stop r = record { ok = tt; quiet = tt; stop = r.stop; asks = part_more dir xs ys before after r.asks; asks_all = tt; keeps = r.keeps }

-- a reading of the same files
pub reads_same : {A C : Type 0} {dir : List ℕ} {xs ys : List (List ℕ)} {seen : C → A} {walk : Contents → Verdict A → Type 0} {before after : FilesReading} {result : Result C Stop}
    → xs ≡ ys → ReadsAs dir xs seen walk before after result → ReadsAs dir ys seen walk before after result
reads_same {A} {C} {dir} {xs} {ys} {seen} {walk} {before} {after} {result} same r = subst (λ names. ReadsAs dir names seen walk before after result) same r

-- ---- walks through files

module _ {A B : Type 0} (v : Contents → Verdict A → Type 0) (f : Contents → A → Verdict B → Type 0) where
  goes_on : (told : Told) (a : A) (end : Verdict B) → IfSome told (λ m. v m (accepted a)) → IfSome told (λ m. f m a end) → IfSome told (λ m. Then (v m) (f m) end)
  goes_on None a end is then = tt
  goes_on (Some m) a end is then = then_goes_on (v m) (f m) a end is then

  missing_first : (told : Told) (name : List ℕ) → IfSome told (λ m. v m (missing name)) → IfSome told (λ m. Then (v m) (f m) (missing name))
  unfolding Then
  missing_first None name is = tt
  missing_first (Some m) name is = inl is

  refused_first : (told : Told) (status : ℕ) (line : List ℕ) → IfSome told (λ m. v m (refused status line)) → IfSome told (λ m. Then (v m) (f m) (refused status line))
  unfolding Then
  refused_first None status line is = tt
  refused_first (Some m) status line is = inl is

  module _ (dir : List ℕ) where
    stops_first : (before after : FilesReading) (stop : Stop) → StopsAt v before after dir stop → StopsAt (λ m. Then (v m) (f m)) before after dir stop
    stops_first before after Memory cause = cause
    stops_first before after Words cause = cause
    stops_first before after Out cause = cause
    stops_first before after Net cause = cause
    stops_first before after (Peer names fault) cause = cause
    stops_first before after (Files name) (rose, last, gone) = (rose, last, λ steady. missing_first before.told name.items (gone steady))
    stops_first before after (Refused line) cause = (cause.0, refused_first before.told 3 line.items cause.1)
    stops_first before after (Covering line) cause = (cause.0, refused_first before.told 4 line.items cause.1)

    stops_later : (before mid after : FilesReading) (a : A) (stop : Stop)
        → Meets v before mid (accepted a) → mid.told ≡ before.told → (IsTrue before.steady → IsTrue mid.steady) → mid.faults ≡ before.faults
        → StopsAt (λ m. f m a) mid after dir stop → StopsAt (λ m. Then (v m) (f m)) before after dir stop
    stops_later before mid after a Memory is same keeps quiet cause = cause ∙ quiet
    stops_later before mid after a Words is same keeps quiet cause = cause
    stops_later before mid after a Out is same keeps quiet cause = cause
    stops_later before mid after a Net is same keeps quiet cause = cause
    stops_later before mid after a (Peer names fault) is same keeps quiet cause = cause
    stops_later before mid after a (Files name) is same keeps quiet (rose, last, gone) = (
      subst (λ n. Rose n after.faults) quiet rose,
      last,
      λ steady. goes_on before.told a (missing name.items) is (subst (λ told. IfSome told (λ m. f m a (missing name.items))) same (gone (keeps steady))),
    )
    stops_later before mid after a (Refused line) is same keeps quiet cause =
        (cause.0 ∙ quiet, goes_on before.told a (refused 3 line.items) is (subst (λ told. IfSome told (λ m. f m a (refused 3 line.items))) same cause.1))
    stops_later before mid after a (Covering line) is same keeps quiet cause =
        (cause.0 ∙ quiet, goes_on before.told a (refused 4 line.items) is (subst (λ told. IfSome told (λ m. f m a (refused 4 line.items))) same cause.1))

  module _ {dir : List ℕ} {C D : Type 0} (seen : C → A) (seen' : D → B) where
    -- a step that stops stops the whole
    pub reads_stop : {xs : List (List ℕ)} (before after : FilesReading) (stop : Stop) → ReadsAs dir xs seen v before after (Err stop) → ReadsAs dir xs seen' (λ m. Then (v m) (f m)) before after (Err stop)
    reads_stop before after stop r = record {
      ok = tt;
      quiet = tt;
      stop = stops_first dir before after stop r.stop;
      asks = r.asks;
      asks_all = tt;
      keeps = r.keeps;
    }

    -- the same at the exit of a `?`
    pub reads_leave : {xs : List (List ℕ)} (before after : FilesReading) (stop : Stop) (result : Result D Stop) → IsErrAnd result (λ e. e ≡ stop)
        → ReadsAs dir xs seen v before after (Err stop) → ReadsAs dir xs seen' (λ m. Then (v m) (f m)) before after result
    reads_leave before after stop result is r = let p = err_from_is_err_and result is in rw (p.1, p.2) (reads_stop before after stop r)

    -- and where more files were to be read
    pub reads_exit : {xs : List (List ℕ)} (ys : List (List ℕ)) (before after : FilesReading) (stop : Stop) (result : Result D Stop) → IsErrAnd result (λ e. e ≡ stop)
        → ReadsAs dir xs seen v before after (Err stop) → ReadsAs dir (xs ++ ys) seen' (λ m. Then (v m) (f m)) before after result
    reads_exit {xs} ys before after stop result is r =
        let p = err_from_is_err_and result is in rw (p.1, p.2) (reads_more seen' (λ m. Then (v m) (f m)) ys before after stop (reads_stop before after stop r))

    -- what follows a step that accepted decides for the whole
    pub reads_then : {xs ys : List (List ℕ)} (before mid after : FilesReading) (c : C) (result : Result D Stop) → ReadsAs dir xs seen v before mid (Ok c)
        → ReadsAs dir ys seen' (λ m. f m (seen c)) mid after result → ReadsAs dir (xs ++ ys) seen' (λ m. Then (v m) (f m)) before after result
    reads_then {xs} {ys} before mid after c (Ok d) r s = record {
      ok = goes_on before.told (seen c) (accepted (seen' d)) r.ok (subst (λ told. IfSome told (λ m. f m (seen c) (accepted (seen' d)))) r.keeps.same_told s.ok);
      quiet = s.quiet ∙ r.quiet;
      stop = tt;
      asks = part_then dir xs ys before mid after r.asks_all s.asks;
      asks_all = asks_then dir xs ys before mid after r.asks_all s.asks_all;
      keeps = keeps_then before mid after r.keeps s.keeps;
    }
    reads_then {xs} {ys} before mid after c (Err stop) r s = record {
      ok = tt;
      quiet = tt;
      stop = stops_later dir before mid after (seen c) stop r.ok r.keeps.same_told r.keeps.keeps_steady r.quiet s.stop;
      asks = part_then dir xs ys before mid after r.asks_all s.asks;
      asks_all = tt;
      keeps = keeps_then before mid after r.keeps s.keeps;
    }

    -- the same where what follows reads no more files
    pub reads_on : {xs : List (List ℕ)} (before mid after : FilesReading) (c : C) (result : Result D Stop) → ReadsAs dir xs seen v before mid (Ok c)
        → ReadsAs dir [] seen' (λ m. f m (seen c)) mid after result → ReadsAs dir xs seen' (λ m. Then (v m) (f m)) before after result
    reads_on {xs} before mid after c result r s = reads_same (append-nil xs) (reads_then before mid after c result r s)

-- ---- steps that read nothing

any_told : {P : Contents → Type 0} (told : Told) → ((m : Contents) → P m) → IfSome told P
any_told None all = tt
any_told (Some m) all = all m

module _ {A : Type 0} (dir : List ℕ) where
  walk_stop : (walk : Verdict A → Type 0) (now : FilesReading) (stop : Stop) → StopsBy walk stop → StopsAt (λ m. walk) now now dir stop
  walk_stop walk now Memory cause = refl
  walk_stop walk now Words cause = cause
  walk_stop walk now Out cause = cause
  walk_stop walk now Net cause = cause
  walk_stop walk now (Peer names fault) cause = cause
  walk_stop walk now (Files name) cause = absurd cause
  walk_stop walk now (Refused line) cause = (refl, any_told now.told (λ m. cause))
  walk_stop walk now (Covering line) cause = (refl, any_told now.told (λ m. cause))

module _ {A C : Type 0} {dir : List ℕ} (seen : C → A) where
  -- a step that reads no file
  pub reads_walk : (walk : Verdict A → Type 0) (now : FilesReading) (result : Result C Stop) → WalksAs seen walk result → ReadsAs dir [] seen (λ m. walk) now now result
  reads_walk walk now (Ok c) w = record {
    ok = any_told now.told (λ m. w.ok);
    quiet = refl;
    stop = tt;
    asks = part_none dir [] now;
    asks_all = asks_none dir now;
    keeps = keeps_now now;
  }
  reads_walk walk now (Err stop) w = record {
    ok = tt;
    quiet = tt;
    stop = walk_stop dir walk now stop w.stop;
    asks = part_none dir [] now;
    asks_all = tt;
    keeps = keeps_now now;
  }

  -- memory ran out, whatever the walk
  pub reads_memory : {xs : List (List ℕ)} (walk : Contents → Verdict A → Type 0) (now : FilesReading) (result : Result C Stop) → IsErrAnd result (λ stop. stop ≡ Memory) → ReadsAs dir xs seen walk now now result
  reads_memory {xs} walk now result is = let p = err_from_is_err_and result is in rw (p.1, p.2) (record {
    ok = tt;
    quiet = tt;
    stop = refl;
    asks = part_none dir xs now;
    asks_all = tt;
    keeps = keeps_now now;
  })

module _ {A C : Type 0} (seen : C → A) where
  pub walks_memory : (walk : Verdict A → Type 0) (result : Result C Stop) → IsErrAnd result (λ stop. stop ≡ Memory) → WalksAs seen walk result
  walks_memory walk result is = let p = err_from_is_err_and result is in rw (p.1, p.2) (record { ok = tt; stop = tt })

-- a value that is known
pub walks_end : {A : Type 0} (verdict : Verdict A) (a : A) → verdict ≡ accepted a → WalksAs (λ (c : A). c) (Ends verdict) (Ok a)
walks_end verdict a is = record { ok = sym is; stop = tt }

-- ---- refusals with a line

module _ (line : Result (Vec ℕ Global) AllocError) (stop : Stop) (text : List ℕ) (made : MatchResult line (λ l. stop ≡ Refused l) (λ e. stop ≡ Memory)) (written : IfOk line (λ l. l.items ≡ text)) where
  -- the line of a refusal of a walk
  pub refusal_walks : {A : Type 0} (walk : Verdict A → Type 0) → walk (refused 3 text) → StopsBy walk stop
  refusal_walks walk is = line_walks line made written where
    line_walks : (line : Result (Vec ℕ Global) AllocError) → MatchResult line (λ l. stop ≡ Refused l) (λ e. stop ≡ Memory) → IfOk line (λ l. l.items ≡ text) → StopsBy walk stop
    line_walks (Ok l) made written = subst (StopsBy walk) (sym made) (subst (λ t. walk (refused 3 t)) (sym written) is)
    line_walks (Err e) made written = subst (StopsBy walk) (sym made) tt

  -- and of a walk through files
  pub refusal_stops : {A : Type 0} (dir : List ℕ) (walk : Contents → Verdict A → Type 0) (before after : FilesReading) → after.faults ≡ before.faults → Meets walk before after (refused 3 text) → StopsAt walk before after dir stop
  refusal_stops dir walk before after quiet is = line_stops line made written where
    line_stops : (line : Result (Vec ℕ Global) AllocError) → MatchResult line (λ l. stop ≡ Refused l) (λ e. stop ≡ Memory) → IfOk line (λ l. l.items ≡ text) → StopsAt walk before after dir stop
    line_stops (Ok l) made written = subst (StopsAt walk before after dir) (sym made) (quiet, subst (λ t. Meets walk before after (refused 3 t)) (sym written) is)
    line_stops (Err e) made written = subst (StopsAt walk before after dir) (sym made) quiet

-- ---- the stop of a fault

module _ {A : Type 0} (walk : Verdict A → Type 0) (number : ℕ) (line : List ℕ) where
  -- it is the walk's, where the walk refuses with its line what is no want of memory
  pub fault_walks : (stop : Stop) → IsStopOf number line stop → (number ≢ 0 → walk (refused 3 line)) → StopsBy walk stop
  fault_walks Memory is refuses = tt
  fault_walks Words is refuses = is
  fault_walks Out is refuses = is
  fault_walks Net is refuses = is
  fault_walks (Peer names fault) is refuses = is
  fault_walks (Files name) is refuses = is
  fault_walks (Refused told) is refuses = subst (λ t. walk (refused 3 t)) (sym is.1) (refuses is.0)
  fault_walks (Covering told) is refuses = absurd is

-- nothing is left to read
pub reads_end : {A C : Type 0} {dir : List ℕ} (seen : C → A) (now : FilesReading) (c : C) → ReadsAs dir [] seen (λ m. Ends (accepted (seen c))) now now (Ok c)
reads_end seen now c = reads_walk seen (Ends (accepted (seen c))) now (Ok c) (record { ok = refl; stop = tt })

-- and what was read is the same as this
pub reads_equal : {A C : Type 0} {dir : List ℕ} (seen : C → A) (now : FilesReading) (c : C) (a : A) → seen c ≡ a → ReadsAs dir [] seen (λ m. Ends (accepted a)) now now (Ok c)
reads_equal {A} {C} {dir} seen now c a same = subst (λ a. ReadsAs dir [] seen (λ m. Ends (accepted a)) now now (Ok c)) same (reads_end seen now c)

-- the same where what is known depends on the files
pub reads_known : {A C : Type 0} {dir : List ℕ} (seen : C → A) (walk : Contents → Verdict A → Type 0) (now : FilesReading) (c : C) → IfSome now.told (λ m. walk m (accepted (seen c))) → ReadsAs dir [] seen walk now now (Ok c)
reads_known {A} {C} {dir} seen walk now c known = record { ok = known; quiet = refl; stop = tt; asks = part_none dir [] now; asks_all = asks_none dir now; keeps = keeps_now now }

-- ---- readings that are seen otherwise

module _ {A C D : Type 0} {dir : List ℕ} {xs : List (List ℕ)} (seen : C → A) (seen' : D → A) (walk : Contents → Verdict A → Type 0) (before after : FilesReading) where
  pub reads_seen : (c : C) (d : D) → seen c ≡ seen' d → ReadsAs dir xs seen walk before after (Ok c) → ReadsAs dir xs seen' walk before after (Ok d)
  reads_seen c d same r = record { ok = subst (λ a. Meets walk before after (accepted a)) same r.ok; quiet = r.quiet; stop = tt; asks = r.asks; asks_all = r.asks_all; keeps = r.keeps }

  -- one that stopped, at the exit of a `?`
  pub stop_seen : (stop : Stop) (result : Result D Stop) → IsErrAnd result (λ e. e ≡ stop) → ReadsAs dir xs seen walk before after (Err stop) → ReadsAs dir xs seen' walk before after result
  stop_seen stop result is r = let p = err_from_is_err_and result is in rw (p.1, p.2) (record { ok = tt; quiet = tt; stop = r.stop; asks = r.asks; asks_all = tt; keeps = r.keeps })
