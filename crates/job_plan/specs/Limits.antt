-- The limits on messages and tape words, and the refusals of plans that go past them.
use Rattle.std.specs.Prelude.{◌≡◌, ℕ, ◌<◌, ◌≤◌, length}
use Rattle.plan_model.specs.Plans.{Plan}
use Rattle.plan_model.specs.Messages.{messages}
use Rattle.plan_model.specs.Tallies.{tape_length}
use Rattle.plan_faults.specs.declared.plan_fault.PlanFault.{PlanFault}
use Rattle.plan_faults.specs.declared.plan_fault.PlanFault.TheVariants.{TooManyMessages, TooManyWords, Memory}
use Rattle.job_limits.specs.declared.limits.TheConstants.{MOST_MESSAGES, MOST_WORDS}

-- at most 1,048,576 messages, and as many tape words of each party, in all sessions
pub record IsPlanWithin (plan : Plan) : Type 0 where
  pub messages : length (messages plan) ≤ MOST_MESSAGES
  pub words : (p : ℕ) → p < plan.parties → tape_length plan p ≤ MOST_WORDS

-- party is the first that draws too many tape words, and count is how many
pub record IsFirstOverdrawn (plan : Plan) (party count : ℕ) : Type 0 where
  pub there : party < plan.parties
  pub is : count ≡ tape_length plan party
  pub over : MOST_WORDS < count
  pub first : (p : ℕ) → p < party → tape_length plan p ≤ MOST_WORDS

-- when each refusal comes: too many messages, or else too many words, or else out of memory
abbrev pub IsPlanRefusal : Plan → PlanFault → Type 0
IsPlanRefusal plan (TooManyMessages count) = (count ≡ length (messages plan)) × (MOST_MESSAGES < count)
IsPlanRefusal plan (TooManyWords party count) =
    (length (messages plan) ≤ MOST_MESSAGES) × IsFirstOverdrawn plan party count
IsPlanRefusal plan Memory = IsPlanWithin plan
