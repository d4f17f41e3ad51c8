use Rattle.plan_model.specs.Plans.{Plan, KeepsCarried}
use Rattle.plan_model.specs.Sound.{IsOutline, IsSound}
use Rattle.job_plan.specs.Limits.{IsPlanWithin}
use Rattle.session_slots.proofs.KeptSessions.{carries_earlier}
use Rattle.job_plan.proofs.plan.tables_of.Goals as goal

sound_within : (plan : Plan) → IsOutline plan → KeepsCarried plan → IsPlanWithin plan → IsSound plan
sound_within plan outline kept within = record {
  some_bits = outline.some_bits;
  bits = outline.bits;
  some_parties = outline.some_parties;
  parties = outline.parties;
  some_groups = outline.some_groups;
  groups = outline.groups;
  q2 = outline.q2;
  few_sessions = outline.few_sessions;
  few_messages = within.messages;
  few_words = within.words;
  sessions = outline.sessions;
  earlier = carries_earlier plan.sessions outline.fit;
  kept = kept;
}

pub returns : goal.returns
returns c = record {
  sound = sound_within c.args.outline.now c.parties.ensures.outline c.requires.kept c.requires.within;
  counted = c.requires.count;
  transfers = c.in_ok-patterns.ensures;
  begin = c.in_ok-starts.ensures;
  drawn = c.in_ok-words.ensures;
}
