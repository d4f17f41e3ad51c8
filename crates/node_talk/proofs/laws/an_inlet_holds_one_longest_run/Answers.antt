use Rattle.node_talk.proofs.LongestRuns.{runs_agree, one_is_longest}
use Rattle.node_talk.proofs.laws.an_inlet_holds_one_longest_run.Goals as goal

pub returns-clause-words : goal.returns-clause-words
returns-clause-words c = runs_agree

pub returns-clause-longest : goal.returns-clause-longest
returns-clause-longest c = one_is_longest
