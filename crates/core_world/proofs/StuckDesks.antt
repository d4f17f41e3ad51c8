-- Desks on plain cells among all desks of a world.
use Rattle.std.proofs.Common.{◌≡◌, ℕ, List, sym, ◌∙◌, ⊎_elim, inl, inr}
use Rattle.std.specs.Prelude.{Option, Some, None}
use Rattle.share_world.specs.Worlds.{World}
use Rattle.share_world.specs.Laws.{IsWhole}
use Rattle.message_board.specs.Plain.{plain_cell}
use Rattle.message_board.specs.declared.plain.PlainCells.{PlainCells}
use Rattle.party_desk.specs.declared.desk.Desk.{Desk}
use Rattle.desk_laws.specs.Pools.{AreDesks, AllHavePosts, AllEnded}
use Rattle.desk_laws.proofs.StuckDesks as ending
use Rattle.core_world.specs.States.{IsState, AllStuckOn, AllFull}

-- the words of the cells
abbrev full : PlainCells → ℕ → ℕ → Type 0
full cells n v = plain_cell cells.cells n ≡ Some v

module _ (w : World) (ds : List Desk) (cells : PlainCells) (whole : IsWhole w) (h : IsState w ds cells) where
  pub desks : AreDesks w ds
  desks = record { many = h.many; desks = h.desks }

  posts : AllHavePosts (full cells) w ds
  posts k d l q n i less e = h.full k q n i d l less e

  not_both : (o : Option ℕ) (v : ℕ) → o ≡ None → o ≡ Some v → ⊥
  not_both o v none some = let both : None ≡ Some v = sym none ∙ some in cc

  pub stuck_is_ended : AllStuckOn w ds cells.cells → AllEnded w ds
  stuck_is_ended stuck = ending.stuck_is_ended (full cells) w whole ds desks posts (λ k d l. ⊎_elim (λ a. inl a) (λ t. inr (t.0, t.1, t.2, λ v some. not_both (plain_cell cells.cells t.0) v t.3 some)) (stuck k d l))

  pub all_full : AllEnded w ds → AllFull w cells
  all_full ended = ending.all_posted (full cells) w whole ds desks posts ended
