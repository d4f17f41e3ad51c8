use Rattle.std.proofs.Common.{◌∙◌}
use Rattle.circuit_file.proofs.LineTokens.{numbers_step}
use Rattle.circuit_file.proofs.tokens.numbers.Goals as goal

pub loop-at-preserved : goal.loop-at-preserved
loop-at-preserved c = record {
  walks = (tt, tt);
  left = numbers_step c.loop-at.found.items c.push.new.self.items c.loop-at.tokens c.next.new.self c.in-Some.token.now c.args.count c.loop-at.at c.number_in.result
      c.in-Some.ensures.steps c.loop-at-test.true c.number_in.ensures c.in_ok-push-in-Some.ensures.items ∙ c.loop-at.invariant.left;
}
