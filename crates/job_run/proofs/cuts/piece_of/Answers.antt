use Rattle.std.proofs.Common.{◌≡◌, ◌+◌, ◌-◌, length, take, drop, ap₂, ◌∙◌, arith}
use Rattle.list_laws.proofs.JoinedLists.{total_within}
use Rattle.plan_model.specs.Plans.{place, words}
use Rattle.job_run.proofs.cuts.piece_of.Goals as goal

pub slice_bounds-from_slice-end : goal.slice_bounds-from_slice-end
slice_bounds-from_slice-end c =
    let plan = c.args.plan.now in
    let at : c.tape_start-at.result ≡ place plan c.args.p c.args.s 0 = c.tape_start-at.ensures.is in
    let within = total_within (length plan.sessions) c.args.s (words plan c.args.p) c.requires.session in
    omega (arith, at, within, c.words-count.ensures, c.requires.long)

pub returns : goal.returns
returns c =
    let plan = c.args.plan.now in
    let at : c.tape_start-at.result ≡ place plan c.args.p c.args.s 0 = c.tape_start-at.ensures.is in
    let count : c.tape_start-at.result + c.words-count.result - c.tape_start-at.result ≡ words plan c.args.p c.args.s = omega (arith, c.words-count.ensures) in
    c.in-Ok.ensures.kept
    ∙ c.in_ok-words.ensures.items
    ∙ ap₂ (λ count at. take count (drop at c.args.tape.now)) count at
