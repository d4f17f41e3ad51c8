-- From desks at their end and the cells of a closed board to a run that is over.
use Rattle.std.proofs.Common.{◌≡◌, ℕ, ◌+◌, ◌*◌, ◌<◌, List, length, Some, sym, ap, subst, ◌∙◌}
use Rattle.std.specs.Prelude.{slice_get, IsSomeAnd}
use Rattle.message_board.specs.Pairs.{Knows, total_over}
use Rattle.message_board.specs.Plain.{plain_cell}
use Rattle.message_board.specs.Seats.{BoardModel, HasCells, slots_of}
use Rattle.plan_model.specs.Plans.{Plan}
use Rattle.plan_model.specs.Messages.{messages}
use Rattle.plan_model.specs.Numbers.{message}
use Rattle.share_world.specs.Worlds.{World, word}
use Rattle.party_desk.specs.declared.desk.Desk.{Desk}
use Rattle.desk_laws.specs.InWorld.{IsDeskDone}
use Rattle.desk_laws.specs.Pools.{AreDesks, AllEnded}
use Rattle.desk_laws.proofs.Outputs.{done_at_end}
use Rattle.desk_laws.proofs.Elements.{element_there}
use Rattle.desk_laws.proofs.StuckDesks.{beside, desk_there, program_there, all_posted}
use Rattle.desk_workers.specs.declared.promised.Promised.{Promised}
use Rattle.desk_workers.specs.declared.done.Done.{Done}
use Rattle.desk_workers.specs.Promises.{world_in, words_of}
use Rattle.desk_workers.specs.Pools.{IsPool, AllStand}
use Rattle.desk_workers.specs.Runs.{IsOver, desk_of}
use Rattle.desk_workers.proofs.Counts.{all_steps}
use Rattle.desk_workers.proofs.PostedPairs.{many_words}
use Rattle.desk_workers.proofs.DeskLists.{are_desks, have_posts}

module _ (plan : Plan) (board : BoardModel Promised) (pool : IsPool plan board) (seen : List (ℕ × ℕ)) (o : Done) where
  abbrev w : World
  w = world_in board.about.world

  abbrev ds : List Desk
  ds = o.desks.items

  module _ (count : length ds ≡ slots_of board.id) (all : AllStand w seen ds) (ended : AllEnded w ds) where
    are : AreDesks w ds
    are = are_desks plan board pool seen ds count all

    module _ (parties : o.parties ≡ w.plan.parties) (s p : ℕ) (ls : s < length w.plan.sessions) (lp : p < w.plan.parties) where
      abbrev k : ℕ
      k = s * w.plan.parties + p

      inside : k < length ds
      inside = beside w s p lp ds are ls

      abbrev desk : Desk
      desk = (element_there ds k inside).0

      done : IsSomeAnd (desk_of o s p) (IsDeskDone w s p)
      done =
          subst (λ z. IsSomeAnd z (IsDeskDone w s p)) (sym (ap (λ n. slice_get ds (s * n + p)) parties ∙ (element_there ds k inside).1))
          (done_at_end w s p desk pool.whole (desk_there w s p lp ds are ls desk (element_there ds k inside).1)
          (ended k desk (element_there ds k inside).1 ∙ ap length (program_there w s p lp)))

    posted : (n : ℕ) → n < length (messages w.plan) → Knows seen n (word w (message w.plan n))
    posted n l = all_posted (Knows seen) w pool.whole ds are (have_posts plan board pool seen ds count all) ended n l

    pub over : o.parties ≡ w.plan.parties → HasCells (words_of w) o.cells → ((n v : ℕ) → Knows seen n v → plain_cell o.cells n ≡ Some v) → o.steps ≡ total_over (λ (d : Desk). d.position) ds → IsOver w o
    over parties cells full steps = record {
      parties = parties;
      count = are.many;
      desks = λ s p ls lp. done parties s p ls lp;
      all_cells = cells.0 ∙ many_words w;
      cells = λ n l. full n (word w (message w.plan n)) (posted n l);
      steps = steps ∙ all_steps w ds are ended;
    }
