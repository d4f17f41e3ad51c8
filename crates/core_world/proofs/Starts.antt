-- A world that is opened is at its start.
use Rattle.std.proofs.Common.{◌≡◌, ℕ, zero, suc, List, length, replicate, refl, sym, ap, ◌∙◌}
use Rattle.std.specs.Prelude.{Option, None, Some}
use Rattle.plan_model.specs.Plans.{Plan}
use Rattle.plan_model.specs.InputWords.{AreInputs}
use Rattle.plan_model.specs.Sound.{IsSound}
use Rattle.plan_model.specs.Messages.{messages}
use Rattle.message_board.specs.Plain.{plain_cell}
use Rattle.share_world.specs.Worlds.{World}
use Rattle.desk_laws.specs.Pieces.{world_of_pieces, ArePieces}
use Rattle.desk_laws.specs.NewDesks.{AreNewDesks}
use Rattle.party_desk.specs.declared.desk.Desk.{Desk}
use Rattle.desk_laws.proofs.Elements.{by_place}
use Rattle.desk_laws.proofs.OpenedDesks.{new_desks, no_posts}
use Rattle.core_world.specs.declared.world.World as code
use Rattle.core_world.specs.States.{IsState}
use Rattle.core_world.specs.Moments.{IsStart}

module _ (plan : Plan) (sound : IsSound plan) (inputs : List (List (List ℕ))) (given' : AreInputs plan inputs) (pieces : List (List ℕ)) (h : ArePieces plan pieces) where
  abbrev w : World
  w = world_of_pieces plan inputs pieces

  empty_cell : (m n : ℕ) → plain_cell (replicate m None) n ≡ None
  empty_cell zero n = refl
  empty_cell (suc m) zero = refl
  empty_cell (suc m) (suc n) = empty_cell m n

  length-copies : (m : ℕ) → length {A = Option ℕ} (replicate m None) ≡ m
  length-copies zero = refl
  length-copies (suc m) = ap suc (length-copies m)

  none_is_some : (m n v : ℕ) → plain_cell (replicate m None) n ≡ Some v → ⊥
  none_is_some m n v e = let none = empty_cell m n in cc

  module _ (r : code.World) (parties : r.parties ≡ plan.parties) (count : length r.desks.items ≡ length pieces) (new : AreNewDesks plan inputs pieces r.desks.items) (c : ℕ) (bits : ℕ) (cells : r.cells ≡ record { cells = replicate c None; bits = bits }) (all : c ≡ length (messages plan)) (ring : bits ≡ plan.bits) where
    state_is : IsState w r.desks.items r.cells
    state_is = record {
      many = (new_desks plan sound inputs given' pieces h r.desks.items count new).many;
      desks = (new_desks plan sound inputs given' pieces h r.desks.items count new).desks;
      count = ap (λ z. length z.cells) cells ∙ length-copies c ∙ all;
      bits = ap (λ z. z.bits) cells ∙ ring;
      words = λ n v e. absurd (none_is_some c n v (ap (λ z. plain_cell z.cells n) (sym cells) ∙ e));
      full = λ k q n i d l less e. no_posts plan sound inputs given' pieces h r.desks.items count new (λ m v. plain_cell r.cells.cells m ≡ Some v) k d l q n i less e;
      sent = λ n v e. absurd (none_is_some c n v (ap (λ z. plain_cell z.cells n) (sym cells) ∙ e));
    }

    pub start_is : IsStart w r
    start_is = record {
      run = record { parties = parties; state = state_is };
      positions = by_place (λ k (d : Desk). d.position ≡ 0) r.desks.items (λ k d is. (new k d is).position);
      cells = λ n. ap (λ z. plain_cell z.cells n) cells ∙ empty_cell c n;
    }
