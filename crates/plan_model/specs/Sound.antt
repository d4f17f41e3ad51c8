-- Plans within the limits.
use Rattle.std.specs.Prelude.{ℕ, ◌<◌, ◌≤◌, length}
use Rattle.list_laws.specs.Lists.{total}
use Rattle.session_slots.specs.SoundSessions.{IsSoundSession}
use Rattle.plan_model.specs.Plans.{Plan, session, words, Q2, CarriesEarlier, KeepsCarried}
use Rattle.session_slots.specs.Carries.{AllFit}
use Rattle.plan_model.specs.Messages.{messages}
use Rattle.job_limits.specs.declared.limits.TheConstants.{MOST_MESSAGES, MOST_WORDS, MOST_SESSIONS}
use Rattle.party_set.specs.declared.limits.TheConstants.{MOST_PARTIES, MOST_GROUPS}

-- a sharing in which products can be computed, sessions whose carried values fit those before them, and all is within
-- the limits but for the messages and the tape words; what sessions keep may be other than what later ones carry
pub record IsOutline (plan : Plan) : Type 0 where
  pub some_bits : 0 < plan.bits
  pub bits : plan.bits ≤ 64
  pub some_parties : 0 < plan.parties
  pub parties : plan.parties ≤ MOST_PARTIES
  pub some_groups : 0 < length plan.groups
  pub groups : length plan.groups ≤ MOST_GROUPS
  pub q2 : Q2 plan
  pub few_sessions : length plan.sessions ≤ MOST_SESSIONS
  pub sessions : (s : ℕ) → s < length plan.sessions → IsSoundSession plan.parties (session plan s)
  pub fit : AllFit plan.sessions

-- a sharing in which products can be computed, sessions that keep what later ones carry, and all is within the limits:
-- ring, parties, groups, sessions, messages, tape words of a party
pub record IsSound (plan : Plan) : Type 0 where
  pub some_bits : 0 < plan.bits
  pub bits : plan.bits ≤ 64
  pub some_parties : 0 < plan.parties
  pub parties : plan.parties ≤ MOST_PARTIES
  pub some_groups : 0 < length plan.groups
  pub groups : length plan.groups ≤ MOST_GROUPS
  pub q2 : Q2 plan
  pub few_sessions : length plan.sessions ≤ MOST_SESSIONS
  pub few_messages : length (messages plan) ≤ MOST_MESSAGES
  pub few_words : (p : ℕ) → p < plan.parties → total (length plan.sessions) (words plan p) ≤ MOST_WORDS
  pub sessions : (s : ℕ) → s < length plan.sessions → IsSoundSession plan.parties (session plan s)
  pub earlier : CarriesEarlier plan
  pub kept : KeepsCarried plan
