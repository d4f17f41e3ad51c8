use Rattle.party_names.proofs.NameFaults.{number_at}
use Rattle.party_names.proofs.names.Names.number.Goals as goal

pub returns-clause-party : goal.returns-clause-party
returns-clause-party c = rw (← c.self.view_is) (number_at c.self.inside.names.keys c.args.name.now c.in_ok-p.p c.in_ok-p.ensures.index)
