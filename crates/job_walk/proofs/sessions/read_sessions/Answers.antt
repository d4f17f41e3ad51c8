use Rattle.std.specs.Prelude.{All}
use Rattle.std.specs.declared.alloc.Global.{Global}
use Rattle.std.proofs.Common.{◌≡◌, ℕ, List, Vec, get_or, map, ◌+◌, ◌∷◌, [], length, take, length-append, refl, sym, ap, subst, ◌∙◌, arith}
use Rattle.std.proofs.lemmas.List.{take_all}
use Rattle.std.proofs.lemmas.List.Elements.{All-nil, All-push, All-same}
use Rattle.session_slots.specs.SoundSessions.{IsSoundSession}
use Rattle.session_slots.specs.Sessions.{Session}
use Rattle.session_slots.specs.Carries.{CarriesFit, AllFit}
use Rattle.job_file.specs.declared.job.JobSession.{JobSession}
use Rattle.job_file.specs.Jobs.{job_view, session_view, IsSession}
use Rattle.job_walk.specs.JobOf.{SessionsAfter}
use Rattle.job_walk.specs.Reads.{ReadsAs}
use Rattle.job_walk.specs.FileLogs.{Logs}
use Rattle.job_walk.proofs.CarriedValues.{fit_push}
use Rattle.job_walk.proofs.Logs.{circuits_of, circuits_are, circuits_more, logs_none, logs_then}
use Rattle.job_walk.proofs.Steps.{reads_memory}
use Rattle.job_walk.proofs.Loops.{circuits, session_next, session_stops, sessions_end, parts_same}
use Rattle.job_walk.proofs.sessions.read_sessions.Goals as goal

-- an item of a list that is shown
shown_item : (shown sessions : List JobSession) (s : ℕ) (session : JobSession) → session ≡ get_or shown s session → shown ≡ sessions → session ≡ get_or sessions s session
shown_item shown sessions s session is same = is ∙ ap (λ (xs : List JobSession). get_or xs s session) same

pub read_session-requires-clause-few : goal.read_session-requires-clause-few
read_session-requires-clause-few g c = omega (arith, ap length c.deref.ensures.value, c.loop-session.invariant.count, c.requires.few_sessions)

pub read_session-requires-clause-session : goal.read_session-requires-clause-session
read_session-requires-clause-session g c =
    let parties = length c.args.job.now.names in
    let number : c.loop-session.session-index ≡ length c.deref.result.now = omega (arith, ap length c.deref.ensures.value, c.loop-session.invariant.count) in
    subst (λ number. IsSession parties number c.session-item.result) number
    (subst (IsSession parties c.loop-session.session-index) (sym (shown_item _ c.args.job.now.sessions.items _ _ c.session-item.is c.deref-session-items.ensures.value)) (c.requires.sessions c.loop-session.session-index c.session-item.result (omega arith)))

pub returns-in_err-part-clause-reads : goal.returns-in_err-part-clause-reads
returns-in_err-part-clause-reads g c =
    c.loop-session.invariant.reads _ _ (session_stops c.args.dir.now (job_view c.args.job.now) c.args.job.now.sessions.items c.loop-session.session-index _ _ c.session-item.result (shown_item _ c.args.job.now.sessions.items _ _ c.session-item.is c.deref-session-items.ensures.value) (omega arith) _ c.loop-session.parts.items c.deref.ensures.value _ _
    c.from_residual.ensures.1 c.in_err-part.ensures.reads)

pub returns-in_err-push-clause-reads : goal.returns-in_err-push-clause-reads
returns-in_err-push-clause-reads g c =
    c.loop-session.invariant.reads _ _ (session_next c.args.dir.now (job_view c.args.job.now) c.args.job.now.sessions.items c.loop-session.session-index _ _ c.session-item.result (shown_item _ c.args.job.now.sessions.items _ _ c.session-item.is c.deref-session-items.ensures.value) (omega arith) _ c.loop-session.parts.items c.deref.ensures.value _ _
    c.in_ok-part.part c.in_ok-part.ensures.reads (reads_memory _ _ _ _ c.from_residual-in_err-push.ensures.1))

pub loop-session-preserved : goal.loop-session-preserved
loop-session-preserved g c = record {
  reads = λ after result rest.
      c.loop-session.invariant.reads after result (session_next c.args.dir.now (job_view c.args.job.now) c.args.job.now.sessions.items c.loop-session.session-index _ result c.session-item.result (shown_item _ c.args.job.now.sessions.items _ _ c.session-item.is c.deref-session-items.ensures.value) (omega arith) _ c.loop-session.parts.items c.deref.ensures.value _ after
      c.in_ok-part.part c.in_ok-part.ensures.reads (parts_same c.args.dir.now (job_view c.args.job.now) c.args.job.now.sessions.items c.loop-session.session-index (g.F.Files.reading c.args.files.now) result _ _ (c.loop-session.session-index + 1) _ after c.in_ok-push.ensures.items rest));
  count = ap length c.in_ok-push.ensures.items ∙ length-append c.loop-session.parts.items (c.in_ok-part.part ∷ []) ∙ ap (λ n. n + 1) c.loop-session.invariant.count;
  sound = All-same (IsSoundSession (length c.args.job.now.names)) _ _ c.in_ok-push.ensures.items (All-push (IsSoundSession (length c.args.job.now.names)) c.loop-session.parts.items c.in_ok-part.part c.loop-session.invariant.sound c.in_ok-part.ensures.sound);
  fit =
      subst AllFit (sym c.in_ok-push.ensures.items)
      (fit_push c.loop-session.parts.items c.in_ok-part.part c.loop-session.invariant.fit (subst (λ earlier. CarriesFit earlier c.in_ok-part.part) c.deref.ensures.value c.in_ok-part.ensures.fit));
  told = c.in_ok-part.ensures.reads.keeps.same_told ∙ c.loop-session.invariant.told;
  log =
      (let told = (g.F.Files.reading c.args.files.now).told in
      subst (λ files. Logs g.L.FileLog.has told c.args.dir.now files c.args.log.now c.read_session.new.log) (circuits_more c.args.job.now.sessions.items c.loop-session.session-index c.session-item.result (omega arith) (shown_item _ c.args.job.now.sessions.items _ _ c.session-item.is c.deref-session-items.ensures.value))
      (logs_then g.L.FileLog.has c.args.dir.now told (circuits_of (take c.loop-session.session-index c.args.job.now.sessions.items)) (c.session-item.result.circuit ∷ []) _ _ _ c.loop-session.invariant.log
      (subst (λ t. Logs g.L.FileLog.has t c.args.dir.now (c.session-item.result.circuit ∷ []) c.loop-session.log c.read_session.new.log) c.loop-session.invariant.told c.in_ok-part.ensures.log)));
}

pub loop-session-init : goal.loop-session-init
loop-session-init g c = record {
  reads = λ after result rest.
      subst (λ (parts : List Session). ReadsAs c.args.dir.now (circuits (map session_view c.args.job.now.sessions.items)) (λ (parts : Vec Session Global). parts.items) (λ m. SessionsAfter m c.args.dir.now (job_view c.args.job.now) parts (map session_view c.args.job.now.sessions.items)) (g.F.Files.reading c.args.files.now) after result)
      c.new-parts.ensures.items rest;
  count = ap length c.new-parts.ensures.items;
  sound = subst (All (IsSoundSession (length c.args.job.now.names))) (sym c.new-parts.ensures.items) (All-nil (IsSoundSession (length c.args.job.now.names)));
  fit = subst AllFit (sym c.new-parts.ensures.items) (λ s l. absurd (omega (arith, l)));
  told = refl;
  log = logs_none g.L.FileLog.has c.args.dir.now (g.F.Files.reading c.args.files.now).told c.args.log.now;
}

pub returns-clause-log : goal.returns-clause-log
returns-clause-log g c =
    subst (λ files. Logs g.L.FileLog.has (g.F.Files.reading c.args.files.now).told c.args.dir.now files c.args.log.now c.loop-session.log)
    (ap circuits_of (take_all c.loop-session.session-index c.args.job.now.sessions.items (omega arith)) ∙ sym (circuits_are c.args.job.now.sessions.items)) c.loop-session.invariant.log

pub returns-clause-reads : goal.returns-clause-reads
returns-clause-reads g c = c.loop-session.invariant.reads _ _ (sessions_end c.args.dir.now (job_view c.args.job.now) c.args.job.now.sessions.items c.loop-session.session-index _ c.loop-session.parts (omega arith))
