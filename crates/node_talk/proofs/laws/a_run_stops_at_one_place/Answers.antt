use Rattle.node_talk.proofs.StopPlaces.{stops_at_one_place}
use Rattle.node_talk.proofs.laws.a_run_stops_at_one_place.Goals as goal

pub returns : goal.returns
returns c = stops_at_one_place
