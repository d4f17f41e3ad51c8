use Rattle.std.proofs.Common.{◌≡◌, ℕ, length, ap, ◌∙◌, arith}
use Rattle.std.specs.Prelude.{slice_index}
use Rattle.list_laws.proofs.JoinedLists.{length-listed, listed_at}
use Rattle.plan_model.specs.Plans.{place}
use Rattle.plan_model.proofs.GrownLists.{listed_push}
use Rattle.wire_tables.proofs.places.first_places.Goals as goal

pub loop-p-preserved : goal.loop-p-preserved
loop-p-preserved c =
    c.in_ok-push.ensures.items
    ∙ listed_push c.loop-p.p (λ p. place c.args.plan.now p c.args.s 0) c.loop-p.places.items c.tape_start.result c.loop-p.invariant c.tape_start.ensures.is

pub returns : goal.returns
returns c =
    let f : ℕ → ℕ = λ p. place c.args.plan.now p c.args.s 0 in
    let ended : c.loop-p.p ≡ c.args.plan.now.parties = omega arith in record {
      parties = ap length c.loop-p.invariant ∙ length-listed c.loop-p.p f ∙ ended;
      are = λ p lp. ap (λ xs. slice_index xs p) c.loop-p.invariant ∙ listed_at c.loop-p.p f p 0 (omega arith);
    }
