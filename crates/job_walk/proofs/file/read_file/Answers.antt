use Rattle.std.proofs.Common.{◌≡◌, ◌∙◌, ap, sym, subst, Err, refl}
use Rattle.std.specs.Prelude.{IfSome}
use Rattle.job_walk.specs.Verdict.{Ends, missing}
use Rattle.job_walk.specs.JobOf.{file_at}
use Rattle.job_walk.proofs.FileEnds.{read_keeps, read_asks, read_part, read_last, file_ok, file_long, file_missing, long_is_no_fault, failed_is_no_memory, memory_is_no_fault}
use Rattle.job_walk.proofs.Asks.{part_none}
use Rattle.job_walk.proofs.Steps.{refusal_stops, keeps_now}
use Rattle.job_walk.proofs.file.read_file.Goals as goal

pub returns-in-Err : goal.returns-in-Err
returns-in-Err g c = record {
  ok = tt;
  quiet = tt;
  stop = refl;
  asks = part_none _ _ (g.F.Files.reading c.args.files.now);
  asks_all = tt;
  keeps = keeps_now (g.F.Files.reading c.args.files.now);
}

pub returns-in-Ok-read : goal.returns-in-Ok-read
returns-in-Ok-read g c =
    let e = c.as_str.ensures.value ∙ c.in-Ok.ensures.0 in
    let r = c.in-Ok-read.ensures in
    record {
      ok = file_ok _ _ _ _ _ e r.content r.within;
      quiet = r.quiet (λ failed. (cc));
      stop = tt;
      asks = read_part _ _ _ _ _ _ _ r e;
      asks_all = read_asks _ _ _ _ _ _ _ r e (λ memory. (cc));
      keeps = read_keeps _ _ _ _ _ r;
    }

pub returns-in-Err-Failed : goal.returns-in-Err-Failed
returns-in-Err-Failed g c =
    let e = c.as_str.ensures.value ∙ c.in-Ok.ensures.0 in
    let r = c.in-Err-Failed.ensures in
    let failed = ap Err c.in-Err-Failed.field-0-is in
    record {
      ok = tt;
      quiet = tt;
      stop = (
        r.failed failed,
        read_last _ _ _ _ _ _ _ r e _ c.in-Ok.ensures.1 (failed_is_no_memory _ _ refl c.in-Err-Failed.field-0-is),
        λ steady. subst (λ name. IfSome (g.F.Files.reading c.args.files.now).told (λ m. missing name ≡ file_at m c.args.dir.now c.args.name.now)) (sym c.in-Ok.ensures.1) (file_missing _ _ _ _ e (λ there. r.by_itself steady there failed)),
      );
      asks = read_part _ _ _ _ _ _ _ r e;
      asks_all = tt;
      keeps = read_keeps _ _ _ _ _ r;
    }

pub returns-in-Err-TooLong : goal.returns-in-Err-TooLong
returns-in-Err-TooLong g c =
    let e = c.as_str.ensures.value ∙ c.in-Ok.ensures.0 in
    let r = c.in-Err-TooLong.ensures in
    record {
      ok = tt;
      quiet = tt;
      stop = refusal_stops _ _ _ c.refusal.ensures c.too_long_line.ensures c.args.dir.now (λ m. Ends (file_at m c.args.dir.now c.args.name.now)) (g.F.Files.reading c.args.files.now) (g.F.Files.reading c.read.new.self) (r.quiet (long_is_no_fault _ _ refl c.in-Err-TooLong.field-0-is)) (file_long _ _ _ _ e (r.longer (ap Err c.in-Err-TooLong.field-0-is)));
      asks = read_part _ _ _ _ _ _ _ r e;
      asks_all = tt;
      keeps = read_keeps _ _ _ _ _ r;
    }

pub returns : goal.returns
returns g c =
    let e = c.as_str.ensures.value ∙ c.in-Ok.ensures.0 in
    let r = c.in-Err-Memory.ensures in
    record {
      ok = tt;
      quiet = tt;
      stop = r.quiet (memory_is_no_fault _ _ refl c.in-Err-Memory.field-0-is);
      asks = read_part _ _ _ _ _ _ _ r e;
      asks_all = tt;
      keeps = read_keeps _ _ _ _ _ r;
    }
