-- What is given to a party in a session, where it is what the plan asks for.
use Rattle.std.specs.Prelude.{◌≡◌, ◌<◌, length}
use Rattle.plan_model.specs.Plans.{words, input_count}
use Rattle.plan_model.specs.Sound.{IsSound}
use Rattle.program_model.specs.States.{Given}

-- the plan is within the limits, it has this party and this session, and asks for as many inputs and tape words
pub record Suits (given : Given) : Type 0 where
  pub sound : IsSound given.plan
  pub party : given.party < given.plan.parties
  pub session : given.session < length given.plan.sessions
  pub inputs : length given.inputs ≡ input_count given.plan given.party given.session
  pub tape : length given.tape ≡ words given.plan given.party given.session
