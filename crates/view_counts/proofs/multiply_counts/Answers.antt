use Rattle.view_counts.proofs.WorkedCounts.{choices_for_a, ways_for_a, ways_for_c, ways_for_both, known_to_a, known_to_c}
use Rattle.view_counts.proofs.multiply_counts.Goals as goal

pub returns-clause-choices_for_a : goal.returns-clause-choices_for_a
returns-clause-choices_for_a c = choices_for_a

pub returns-clause-ways_for_a : goal.returns-clause-ways_for_a
returns-clause-ways_for_a c = ways_for_a

pub returns-clause-ways_for_c : goal.returns-clause-ways_for_c
returns-clause-ways_for_c c = ways_for_c

pub returns-clause-ways_for_both : goal.returns-clause-ways_for_both
returns-clause-ways_for_both c = ways_for_both

pub returns-clause-known_to_a : goal.returns-clause-known_to_a
returns-clause-known_to_a c = known_to_a

pub returns-clause-known_to_c : goal.returns-clause-known_to_c
returns-clause-known_to_c c = known_to_c
