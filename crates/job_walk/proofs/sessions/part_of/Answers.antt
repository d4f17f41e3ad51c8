use Rattle.std.proofs.Common.{◌≡◌, ℕ, List, length, map, All, sym, subst}
use Rattle.party_set.specs.Parties.{Members}
use Rattle.job_file.specs.declared.owner.JobOwner.{JobOwner}
use Rattle.job_file.specs.Owners.{IsOwner}
use Rattle.session_slots.specs.declared.values.Owner.{Owner}
use Rattle.job_session.specs.Parts.{AreEarlier, AreOf}
use Rattle.session_slots.specs.Carries.{CarriesFit}
use Rattle.job_walk.specs.JobOf.{owner_of}
use Rattle.job_walk.proofs.CarriedValues.{owners_among, owners_earlier}
use Rattle.job_walk.proofs.sessions.part_of.Goals as goal

pub make-requires : goal.make-requires
make-requires c = subst (AreEarlier (length c.args.before.now)) (sym c.in_ok-owners.ensures) (owners_earlier (length c.args.job.now.names) (length c.args.before.now) c.args.session.now.owners.items c.requires.session.owners)

-- owners and readers as they were read
of_parties : (parties number : ℕ) (owners : List JobOwner) (made : List Owner) (readers cloned : List Members) → made ≡ map owner_of owners → cloned ≡ readers → All (IsOwner parties number) owners → All (λ (group : Members). group.parties ≡ parties) readers
    → AreOf parties made cloned
of_parties parties number owners made readers cloned o r owned read =
    subst (λ made. AreOf parties made cloned) (sym o) (subst (AreOf parties (map owner_of owners)) (sym r) (owners_among parties number owners readers owned read))

pub returns-in_ok-with_products-in-Ok-clause-sound : goal.returns-in_ok-with_products-in-Ok-clause-sound
returns-in_ok-with_products-in-Ok-clause-sound c =
    c.in_ok-with_products-in-Ok.ensures.sound (length c.args.job.now.names)
    (c.in-Ok.ensures.sound (length c.args.job.now.names) (of_parties _ _ _ _ _ _ c.in_ok-owners.ensures c.in_ok-readers.ensures c.requires.session.owners c.requires.session.readers))

pub returns-in_ok-with_products-in-Ok-clause-fit : goal.returns-in_ok-with_products-in-Ok-clause-fit
returns-in_ok-with_products-in-Ok-clause-fit c = subst (CarriesFit c.args.before.now) (sym c.in_ok-with_products-in-Ok.ensures.made) c.in-Ok.ensures.fit
