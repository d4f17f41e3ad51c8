-- Rows of desks, of which one is stepped.
use Rattle.std.proofs.Common.{◌≡◌, ◌≢◌, ℕ, ◌*◌, ◌<◌, ◌≤◌, List, length, get_or, set, length-set, get_or-set_same, sym, ap, ◌∙◌, subst, ⊎_elim, arith}
use Rattle.std.proofs.lemmas.List.{get_or-set_other}
use Rattle.std.proofs.lemmas.Bool.{cases_eq}
use Rattle.message_board.specs.Pairs.{Knows, Grows}
use Rattle.message_board.specs.Seats.{BoardModel, slots_of}
use Rattle.plan_model.specs.Plans.{Plan}
use Rattle.plan_model.specs.Sound.{IsSound}
use Rattle.share_world.specs.Worlds.{World}
use Rattle.party_desk.specs.declared.desk.Desk.{Desk}
use Rattle.desk_laws.specs.Pools.{AreDesks, AllHavePosts, AllStuck, AllEnded}
use Rattle.desk_laws.proofs.Elements.{by_place, by_element}
use Rattle.desk_laws.proofs.StuckDesks.{stuck_is_ended}
use Rattle.desk_workers.specs.declared.promised.Promised.{Promised}
use Rattle.desk_workers.specs.Promises.{world_in}
use Rattle.desk_workers.specs.Pools.{IsPool, StandsInWorld, AllStand}
use Rattle.desk_workers.proofs.Counts.{few_desks}
use Rattle.desk_workers.proofs.PostedPairs.{stands_more}

pub all_set : (w : World) (xs ys : List (ℕ × ℕ)) (ds : List Desk) (i : ℕ) (e : Desk) → Grows xs ys → i < length ds → StandsInWorld w ys i e → AllStand w xs ds → AllStand w ys (set ds i e)
all_set w xs ys ds i e more inside h all = by_element (StandsInWorld w ys) (set ds i e) (λ k d less.
    let len = length-set ds i e in
    ⊎_elim (λ (q : k ≡ i). subst (λ j. StandsInWorld w ys j (get_or (set ds i e) j d)) (sym q) (subst (StandsInWorld w ys i) (sym (get_or-set_same ds i e d inside)) h))
    (λ (ne : k ≢ i). subst (StandsInWorld w ys k) (sym (get_or-set_other ds i k e d ne)) (stands_more w xs ys k (get_or ds k d) more (by_place (StandsInWorld w xs) ds all k d (omega arith)))) (cases_eq k i))

module _ (plan : Plan) (board : BoardModel Promised) (pool : IsPool plan board) where
  pub few_slots : slots_of board.id ≤ 192
  few_slots = let few = few_desks plan (subst IsSound pool.same pool.whole.sound) in let slots = pool.slots in omega arith

  module _ (seen : List (ℕ × ℕ)) (ds : List Desk) (count : length ds ≡ slots_of board.id) (all : AllStand (world_in board.about.world) seen ds) where
    pub are_desks : AreDesks (world_in board.about.world) ds
    are_desks = record {
      many = count ∙ pool.slots ∙ ap (λ z. z.parties * length z.sessions) (sym pool.same);
      desks = λ k d l. (all k d l).desk;
    }

    pub have_posts : AllHavePosts (Knows seen) (world_in board.about.world) ds
    have_posts k d l = (all k d l).posted

    pub ended : AllStuck (Knows seen) (world_in board.about.world) ds → AllEnded (world_in board.about.world) ds
    ended stuck = stuck_is_ended (Knows seen) (world_in board.about.world) pool.whole ds are_desks have_posts stuck
