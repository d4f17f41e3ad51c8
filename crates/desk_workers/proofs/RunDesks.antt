-- The desks of a run that is over.
use Rattle.std.proofs.Common.{◌≡◌, ℕ, ◌<◌, length, subst}
use Rattle.std.specs.Prelude.{Some, IsSomeAnd}
use Rattle.share_world.specs.Worlds.{World}
use Rattle.party_desk.specs.declared.desk.Desk.{Desk}
use Rattle.desk_laws.specs.InWorld.{IsDeskDone}
use Rattle.desk_workers.specs.declared.done.Done.{Done}
use Rattle.desk_workers.specs.Runs.{IsOver, desk_of}

-- the desk that is found for party p in session s is theirs
pub found : (w : World) (o : Done) → IsOver w o → (s p : ℕ) → s < length w.plan.sessions → p < w.plan.parties → (d : Desk) → desk_of o s p ≡ Some d → IsDeskDone w s p d
found w o over s p ls lp d is = subst (λ z. IsSomeAnd z (IsDeskDone w s p)) is (over.desks s p ls lp)
