use Rattle.std.proofs.Common.{sym, subst, length, Option, IfSome}
use Rattle.job_file.specs.declared.owner.JobOwner.{JobOwner}
use Rattle.job_file.specs.Owners.{IsOwner}
use Rattle.job_file.proofs.Owners.{carry_within}
use Rattle.job_file.proofs.owner.owner_in.Goals as goal

pub returns-in-Some-clause-within : goal.returns-in-Some-clause-within
returns-in-Some-clause-within c =
    let P : Option JobOwner → Type 0 = λ owner. IfSome owner (IsOwner (length c.args.names.now) c.args.session) in
    subst P (sym c.carry_in.ensures) (carry_within (length c.args.names.now) c.args.session c.in-Some.carry.now)
