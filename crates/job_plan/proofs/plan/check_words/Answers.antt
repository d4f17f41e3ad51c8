use Rattle.std.proofs.Common.{◌≡◌, ℕ, ◌<◌, ◌≤◌, sym, ◌∙◌, subst, below_more, arith}
use Rattle.plan_model.proofs.KeepingPlans.{tape_length_same}
use Rattle.job_plan.proofs.plan.check_words.Goals as goal

reaches : (p end parties at : ℕ) → p < parties → end ≡ parties → end ≤ at → p < at
reaches p end parties at below same far = omega arith

pub returns-then-words-gt-MOST_WORDS : goal.returns-then-words-gt-MOST_WORDS
returns-then-words-gt-MOST_WORDS c = (
  c.requires,
  record {
    there = subst (λ n. c.loop-party.party < n) c.parties-party-end.ensures.is c.loop-party-test.true;
    is = c.word_count-words.ensures ∙ sym (tape_length_same c.args.outline.now c.loop-party.party);
    over = c.if-words-gt-MOST_WORDS.true;
    first = c.loop-party.invariant;
  },
)

pub loop-party-preserved : goal.loop-party-preserved
loop-party-preserved c =
    below_more _ _ c.loop-party.invariant (subst (λ n. n ≤ 1048576) (c.word_count-words.ensures ∙ sym (tape_length_same c.args.outline.now c.loop-party.party)) c.if-words-gt-MOST_WORDS.false)

pub returns : goal.returns
returns c = record {
  messages = c.requires;
  words = λ p below. c.loop-party.invariant p (reaches p _ _ _ below c.parties-party-end.ensures.is c.loop-party-test.false);
}
