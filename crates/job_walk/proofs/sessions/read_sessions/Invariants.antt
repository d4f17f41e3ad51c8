use Rattle.std.proofs.Common.{◌≡◌, All, [], length, drop, take, map, Result, Vec}
use Rattle.std.specs.declared.alloc.Global.{Global}
use Rattle.outer_io.specs.Files.{FilesReading}
use Rattle.session_slots.specs.Sessions.{Session}
use Rattle.session_slots.specs.SoundSessions.{IsSoundSession}
use Rattle.session_slots.specs.Carries.{AllFit}
use Rattle.job_file.specs.Jobs.{job_view, session_view}
use Rattle.job_walk.specs.declared.stop.Stop.{Stop}
use Rattle.job_walk.specs.JobOf.{SessionsAfter}
use Rattle.job_walk.specs.FileLogs.{Logs}
use Rattle.job_walk.specs.Reads.{ReadsAs}
use Rattle.job_walk.proofs.Logs.{circuits_of}
use Rattle.job_walk.proofs.Loops.{circuits}
use Rattle.job_walk.proofs.sessions.read_sessions.Given as goal

-- whatever reads the sessions that are left reads them all
abbrev pub invariant-loop-session : goal.invariant-loop-session
invariant-loop-session g l = record {
  reads : (after : FilesReading) (result : Result (Vec Session Global) Stop)
      → ReadsAs l.dir (circuits (drop l.session-index (map session_view l.job.sessions.items))) (λ (parts : Vec Session Global). parts.items) (λ m. SessionsAfter m l.dir (job_view l.job) l.parts.items (drop l.session-index (map session_view l.job.sessions.items))) (g.F.Files.reading l.files) after result
      → ReadsAs l.dir (circuits (map session_view l.job.sessions.items)) (λ (parts : Vec Session Global). parts.items) (λ m. SessionsAfter m l.dir (job_view l.job) [] (map session_view l.job.sessions.items)) (g.F.Files.reading l.initial.files) after result;
  count : length l.parts.items ≡ l.session-index;
  sound : All (IsSoundSession (length l.job.names)) l.parts.items;
  fit : AllFit l.parts.items;
  told : (g.F.Files.reading l.files).told ≡ (g.F.Files.reading l.initial.files).told;
  log : Logs g.L.FileLog.has (g.F.Files.reading l.initial.files).told l.dir (circuits_of (take l.session-index l.job.sessions.items)) l.initial.log l.log;
}
