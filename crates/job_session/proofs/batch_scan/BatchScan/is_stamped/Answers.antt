use Rattle.std.proofs.Common.{◌≡◌, ◌+◌, ◌<◌, length, sym, ◌∙◌, ap, arith}
use Rattle.std.specs.Prelude.{nat_eq, slice_index}
use Rattle.std.proofs.lemmas.Grind.{common_steps, get_or_default_zero}
use Rattle.job_session.specs.BatchScans.{has_stamp}
use Rattle.job_session.proofs.HeldRows.{named_some}
use Rattle.job_session.proofs.batch_scan.BatchScan.is_stamped.Goals as goal

pub index-requires : goal.index-requires
index-requires c = let l = c.requires.within c.in-Some.found (named_some c.args.wire c.in-Some.found c.in-Some.is) in grind (arith, common_steps)

pub returns-in-Some : goal.returns-in-Some
returns-in-Some c =
    let stamps = c.args.self.now.stamps.items in
    let n = c.args.self.now.first + 1 in
    let l : c.in-Some.found < length stamps = c.requires.within c.in-Some.found (named_some c.args.wire c.in-Some.found c.in-Some.is) in
    let is : c.index.result.now ≡ slice_index stamps c.in-Some.found = c.index.ensures ∙ get_or_default_zero stamps c.in-Some.found c.index.result.now l in
    ap (λ x. nat_eq x n) is ∙ ap (λ o. has_stamp o stamps n) (sym c.in-Some.is)
