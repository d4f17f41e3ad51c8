-- What clauses say of a board and its seats.
use Rattle.std.specs.Prelude.{◌+◌, ◌*◌, ◌/◌, ◌⊎◌, length, ◌≡◌, ℕ, ◌<◌, ◌^◌, List, [], ◌∷◌, Option, Some, None, IfSome, slice_index, slice_get}
use base.Stored.{Coded, coded×, coded_ℕ, coded_list, coded_via}
use Rattle.std.specs.Coded.{coded_option}
use Rattle.atomic_table.specs.Seated.{TableId, table_id_coded}
use Rattle.message_board.specs.declared.steps.About.{About}
use Rattle.message_board.specs.declared.steps.View.{View}
use Rattle.message_board.specs.declared.cells.Posted.{Posted}
use Rattle.message_board.specs.declared.cells.Posted.TheVariants.{Done, Occupied}
use Rattle.message_board.specs.Pairs.{Knows, Has, times}
use Rattle.message_board.specs.Plain.{plain_cell}
use Rattle.message_board.specs.Words.{apart, cell_words}
use Rattle.message_board.specs.Rule.{newcomer, posts, TakesAs, looks, takes_out}

-- how many slots a table has
abbrev pub slots_of : TableId → ℕ
slots_of id = id.slots / apart

-- a board: which table it is, and what it is about
pub record BoardModel (W : Type 0) : Type 0 where
  pub id : TableId
  pub about : About W

-- a seat: which table it is of, and what it knows
pub record Sitting (W : Type 0) : Type 0 where
  pub id : TableId
  pub view : View W

module _ {W : Type 0} where
  abbrev pub about_coded : Coded W → Coded (About W)
  about_coded c =
      coded_via (coded× c coded_ℕ) (λ (a : About W). (a.world, a.seats))
      (λ x y e i. record { world = (e i).0; seats = (e i).1 })

  abbrev pub board_coded : Coded W → Coded (BoardModel W)
  board_coded c =
      coded_via (coded× table_id_coded (about_coded c)) (λ (b : BoardModel W). (b.id, b.about))
      (λ x y e i. record { id = (e i).0; about = (e i).1 })

  abbrev pub view_coded : Coded W → Coded (View W)
  view_coded c =
      coded_via (coded× (coded_option (about_coded c))
      (coded× coded_ℕ (coded× (coded_list (coded× coded_ℕ coded_ℕ))
      (coded× (coded_list coded_ℕ) (coded× (coded_list (coded× coded_ℕ coded_ℕ))
      (coded× (coded_list coded_ℕ) (coded× (coded_list (coded× coded_ℕ coded_ℕ)) (coded_list coded_ℕ))))))))
      (λ (v : View W). (v.about, (v.seats, (v.seen, (v.mine, (v.looked, (v.stored, (v.found, v.out))))))))
      (λ x y e i. record {
        about = (e i).0;
        seats = (e i).1.0;
        seen = (e i).1.1.0;
        mine = (e i).1.1.1.0;
        looked = (e i).1.1.1.1.0;
        stored = (e i).1.1.1.1.1.0;
        found = (e i).1.1.1.1.1.1.0;
        out = (e i).1.1.1.1.1.1.1;
      })

  abbrev pub sitting_coded : Coded W → Coded (Sitting W)
  sitting_coded c =
      coded_via (coded× table_id_coded (view_coded c)) (λ (s : Sitting W). (s.id, s.view))
      (λ x y e i. record { id = (e i).0; view = (e i).1 })

  -- the board is about this world, with `seats` seats and `slots` slots
  abbrev pub IsBoardOf : W → ℕ → ℕ → BoardModel W → Type 0
  IsBoardOf world seats slots board =
      (board.about ≡ record { world = world; seats = seats }) × (slots_of board.id ≡ slots)

  -- the seat is one of the board's
  abbrev pub IsSeatOf : BoardModel W → Sitting W → Type 0
  IsSeatOf board seat = (seat.id ≡ board.id) × (seat.view.about ≡ Some board.about)

  -- the seat is one of the board's and holds no slot
  abbrev pub IsFreeSeatOf : BoardModel W → Sitting W → Type 0
  IsFreeSeatOf board seat = IsSeatOf board seat × (seat.view.out ≡ [])

  -- seats of the board that hold no slot
  abbrev pub AreSeatsOf : BoardModel W → List (Sitting W) → Type 0
  AreSeatsOf board [] = Unit {0}
  AreSeatsOf board (s ∷ ss) = IsFreeSeatOf board s × AreSeatsOf board ss

  -- seats of the board, of which only the last may hold slots
  abbrev pub CanClose : BoardModel W → List (Sitting W) → Type 0
  CanClose board [] = Unit {0}
  CanClose board (s ∷ []) = IsSeatOf board s
  CanClose board (s ∷ t ∷ ss) = IsFreeSeatOf board s × CanClose board (t ∷ ss)

  -- seats of the board that know nothing yet, each for one seat
  abbrev pub AreNewSeats : BoardModel W → List (Sitting W) → Type 0
  AreNewSeats board [] = Unit {0}
  AreNewSeats board (s ∷ ss) = (IsSeatOf board s × (s.view ≡ newcomer board.about 1)) × AreNewSeats board ss

  -- some seat knows the pair
  abbrev pub KnownBy : List (Sitting W) → ℕ → ℕ → Type 0
  KnownBy [] k w = ⊥
  KnownBy (s ∷ ss) k w = Knows s.view.seen k w ⊎ KnownBy ss k w

  -- how often the number was posted, over all these seats
  abbrev pub times_by : ℕ → List (Sitting W) → ℕ
  times_by k [] = 0
  times_by k (s ∷ ss) = times k s.view.mine + times_by k ss

-- a table for `count` cells: the seats' word, value words, full words and turn words
pub record IsTableFor (count : ℕ) (id : TableId) : Type 0 where
  pub words : id.words ≡ cell_words count + id.slots + 1
  pub places : id.slots ≡ apart * slots_of id
  pub few_cells : count < 2 ^ 32
  pub few_slots : slots_of id < 2 ^ 32

-- one cell for each word, which is empty or holds the word
abbrev pub HasCells : List ℕ → List (Option ℕ) → Type 0
HasCells words cells =
    (length cells ≡ length words) × ((k : ℕ) → k < length words
    → (plain_cell cells k ≡ None) ⊎ (plain_cell cells k ≡ Some (slice_index words k)))

-- what a post of w may answer
abbrev pub IsPostAnswer : ℕ → Posted → Type 0
IsPostAnswer w r = (r ≡ Done) ⊎ (r ≡ Occupied w)

-- what a post of the word w at number n did to a seat, by its answer
abbrev pub HasPosted : {W : Type 0} → BoardModel W → Sitting W → Sitting W → ℕ → ℕ → Posted → Type 0
HasPosted board before after n w r = IsSeatOf board after × (after.view ≡ posts before.view n w r) × IsPostAnswer w r

-- what a take of number n did to a seat, by its answer: the promised word, and the one that the seat knew, if it knew
-- one; or a full word was found in which the cell's flag is 0
abbrev pub HasTaken : {W : Type 0} → (W → List ℕ) → BoardModel W → Sitting W → Sitting W → ℕ → Option ℕ → Type 0
HasTaken list board before after n r =
    IsSeatOf board after
    × TakesAs before.view n r after.view
    × IfSome r (λ w. slice_get (list board.about.world) n ≡ Some w)
    × ((w : ℕ) → Knows before.view.seen n w → r ≡ Some w)

-- the item x of a slot went out with a seat: it is good for the slot, and the seat knows what it posted
abbrev pub TookOut : {W T : Type 0} → (W → T → ℕ → Type 0) → (W → T → List (ℕ × ℕ)) → W → Sitting W → Sitting W → ℕ → T
    → Type 0
TookOut good posted world before after slot x =
    good world x slot × (after.view ≡ takes_out before.view slot (posted world x))

-- a seat found the turn word of a slot to be 0, and holds the slot itself if it stands for all seats
abbrev pub FoundOut : {W : Type 0} → (W → List ℕ) → BoardModel W → Sitting W → Sitting W → ℕ → Type 0
FoundOut list board before after slot =
    (after.view ≡ looks before.view (length (list board.about.world) + slot) 0)
    × (before.view.seats ≡ board.about.seats → Has before.view.out slot)

-- each word is below 2 to the k
abbrev pub AllBelow : ℕ → List ℕ → Type 0
AllBelow k words = (n w : ℕ) → slice_get words n ≡ Some w → w < 2 ^ k

-- each item is good for its slot, and has posted nothing
abbrev pub AreFresh : {W T : Type 0} → (W → T → ℕ → Type 0) → (W → T → List (ℕ × ℕ)) → W → List T → Type 0
AreFresh good posted world items = (i : ℕ) (x : _) → slice_get items i ≡ Some x → good world x i × (posted world x ≡ [])
