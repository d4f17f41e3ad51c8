use Rattle.view_counts.proofs.SimulatedViews.{is_simulated, known_decides}
use Rattle.view_counts.proofs.views_are_simulated.Goals as goal

pub returns-clause-simulated : goal.returns-clause-simulated
returns-clause-simulated c = is_simulated

pub returns-clause-known : goal.returns-clause-known
returns-clause-known c = known_decides
