-- From the states of desks and cells to what the calls of a world tell.
use Rattle.std.proofs.Common.{◌≡◌, ℕ, ◌+◌, ◌*◌, ◌<◌, length, sym, ap, ap₂, ◌∙◌, subst}
use Rattle.std.specs.Prelude.{Some, IsSomeAnd, slice_get}
use Rattle.share_world.specs.Worlds.{World}
use Rattle.share_world.specs.Laws.{IsWhole}
use Rattle.program_model.specs.Programs.{program}
use Rattle.party_desk.specs.declared.desk.Desk.{Desk}
use Rattle.party_desk.specs.Desks.{IsDesk}
use Rattle.program_laws.specs.Lawful.{given_in}
use Rattle.core_world.specs.declared.world.World as code
use Rattle.core_world.specs.States.{AllFull}
use Rattle.desk_laws.specs.Pools.{AllEnded}
use Rattle.core_world.specs.Moments.{IsRunOf, IsMoment, IsFinish, desk_of}
use Rattle.desk_laws.proofs.Elements.{element_there}
use Rattle.desk_laws.proofs.StuckDesks.{quotient, remainder, beside, desk_there}
use Rattle.core_world.proofs.StuckDesks.{desks}
use Rattle.desk_laws.specs.InWorld.{IsRight, IsDeskDone}
use Rattle.desk_laws.proofs.Outputs.{right_now, done_at_end}

module _ (w : World) (whole : IsWhole w) (r : code.World) (h : IsRunOf w r) (s p : ℕ) (ls : s < length w.plan.sessions) (lp : p < w.plan.parties) where
  abbrev n : ℕ
  n = w.plan.parties

  abbrev k : ℕ
  k = s * n + p

  inside : k < length r.desks.items
  inside = beside w s p lp r.desks.items (desks w r.desks.items r.cells whole h.state) ls

  abbrev desk : Desk
  desk = (element_there r.desks.items k inside).0

  desk_is : desk_of r s p ≡ Some desk
  desk_is = ap (λ z. slice_get r.desks.items (s * z + p)) h.parties ∙ (element_there r.desks.items k inside).1

  is_desk : IsDesk (given_in w s p) desk
  is_desk = desk_there w s p lp r.desks.items (desks w r.desks.items r.cells whole h.state) ls desk (element_there r.desks.items k inside).1

  pub right_here : IsSomeAnd (desk_of r s p) (IsRight w s p)
  right_here = subst (λ found. IsSomeAnd found (IsRight w s p)) (sym desk_is) (right_now w s p desk whole is_desk)

  pub done_here : AllEnded w r.desks.items → IsSomeAnd (desk_of r s p) (IsDeskDone w s p)
  done_here ended =
      let at_end : desk.position ≡ length (program w.plan p s) =
      ended k desk (element_there r.desks.items k inside).1 ∙ ap₂ (λ a b. length (program w.plan a b)) (remainder w s p lp) (quotient w s p lp) in
      subst (λ found. IsSomeAnd found (IsDeskDone w s p)) (sym desk_is) (done_at_end w s p desk whole is_desk at_end)

pub moment : (w : World) (r : code.World) → IsWhole w → IsRunOf w r → IsMoment w r
moment w r whole h = record {
  run = h;
  cells = h.state.words;
  desks = λ s p ls lp. right_here w whole r h s p ls lp;
}

pub finishes : (w : World) (r : code.World) → IsWhole w → IsRunOf w r → AllEnded w r.desks.items → AllFull w r.cells → IsFinish w r
finishes w r whole h ended full = record {
  moment = moment w r whole h;
  ended = ended;
  cells = full;
  desks = λ s p ls lp. done_here w whole r h s p ls lp ended;
}
