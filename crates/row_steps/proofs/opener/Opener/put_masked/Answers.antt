use Rattle.std.proofs.Common.{◌≢◌, ◌≡◌, ℕ, ◌<◌, ◌^◌, length, ap, ◌∙◌, arith, set, get_or-set_other, get_or-set_same, below_more}
use Rattle.std.specs.Prelude.{slice_index}
use Rattle.std.proofs.lemmas.List.Elements.{All-set}
use Rattle.row_steps.specs.Rows.{held_or, excess_row}
use Rattle.row_steps.proofs.opener.Opener.put_masked.Goals as goal

pub loop-i-preserved : goal.loop-i-preserved
loop-i-preserved c =
    let own = c.args.self.now in
    let i = c.loop-i.i in
    let h = c.loop-i.invariant in
    let sums = c.loop-i.sums in
    let x = c.excess_or.result in
    let within : i < length sums = omega (arith, c.loop-i-test.true, c.loop-i.auto.sums, c.requires.sums, c.shares-i-end.ensures.is) in
    let here = get_or-set_same sums i x 0 within ∙ c.excess_or.ensures.is ∙ ap (λ w. held_or own (excess_row own c.args.x c.args.a) (λ k. w) i) (h.left i (omega arith)) in
    let others : (k : ℕ) → k ≢ i → slice_index (set sums i x) k ≡ slice_index sums k = λ k ne. get_or-set_other sums i k x 0 ne in
    record {
      small = All-set (λ w. w < 2 ^ own.ring) sums i x c.excess_or.ensures.below h.small;
      done = below_more _ _ (λ k l. others k (omega (arith, l)) ∙ h.done k l) here;
      left = λ k l. others k (omega (arith, l)) ∙ h.left k (omega (arith, l));
    }
