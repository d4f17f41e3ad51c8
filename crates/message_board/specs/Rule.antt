-- The rule of a board's table, and what its steps tell. Word 0 is the seats' word. Then come the value words of the
-- cells, then their full words, in each of which 64 cells have a flag, 1 where the cell is full, else 0. Then come,
-- apart from each other, a turn word for each slot, 1 where the slot's item is at home, else 0.
use Rattle.std.specs.Prelude.{◌≡◌, ℕ, ◌+◌, ◌-◌, ◌*◌, ◌<◌, ◌≤◌, ◌⊎◌, List, [], ◌∷◌, ◌++◌, length, slice_index, Option, Some, None}
use mathlib.Core.Option.{some}
use lib.ListN.{get_elem?}
use Rattle.atomic_table.specs.Table.{State, Me, Step, rest}
use Rattle.message_board.specs.declared.steps.About.{About}
use Rattle.message_board.specs.declared.steps.View.{View}
use Rattle.message_board.specs.declared.cells.Posted.{Posted}
use Rattle.message_board.specs.declared.cells.Posted.TheVariants.{Done, Occupied}
use Rattle.message_board.specs.Pairs.{Knows, Has, times, total_over}
use Rattle.message_board.specs.Words.{apart, cell_words, full_word, flag, flag_bit}

-- the words after the seats' word
abbrev pub cell : List ℕ → ℕ → ℕ
cell words k = slice_index words (k + 1)

-- all but the first
abbrev pub others : {X : Type 0} → List X → List X
others [] = []
others (x ∷ xs) = xs

-- Views.
module _ {W : Type 0} where
  -- a new seat's
  abbrev pub newcomer : About W → ℕ → View W
  newcomer about seats =
      record { about = Some about; seats = seats; seen = []; mine = []; looked = []; stored = []; found = []; out = [] }

  -- after the store of a value, and after the number was used
  abbrev pub stores : View W → ℕ → View W
  stores v k = record v { stored = k ∷ v.stored }

  abbrev pub unstores : View W → View W
  unstores v = record v { stored = others v.stored }

  -- after full word p was found to be n, and after that was used
  abbrev pub finds : View W → ℕ → ℕ → View W
  finds v p n = record v { looked = (p, n) ∷ v.looked; found = (p, n) ∷ v.found }

  abbrev pub unfinds : View W → View W
  unfinds v = record v { looked = others v.looked; found = [] }

  -- as a contract tells it: what a full word was found to be matters within a take alone
  abbrev pub settled : View W → View W
  settled v = record v { found = [] }

  -- after a post
  abbrev pub posts : View W → ℕ → ℕ → Posted → View W
  posts v k w Done = record v { seen = (k, w) ∷ v.seen; mine = k ∷ v.mine }
  posts v k w (Occupied x) = record v { seen = (k, x) ∷ v.seen }

  -- after a look in vain at word p, which was found to be n
  abbrev pub looks : View W → ℕ → ℕ → View W
  looks v p n = record v { looked = (p, n) ∷ v.looked }

  -- after the word x of cell k was found
  abbrev pub sees : View W → ℕ → ℕ → View W
  sees v k x = record v { seen = (k, x) ∷ v.seen }

  -- a take of cell k, by its answer: its word, or that its flag is 0 in the full word that was found
  abbrev pub TakesAs : View W → ℕ → Option ℕ → View W → Type 0
  TakesAs before k (Some x) after = after ≡ sees before k x
  TakesAs before k None after = (n : ℕ) × (flag k n ≡ 0) × (after ≡ looks before (full_word k) n)

  -- after the fold of another seat, which holds no slot
  abbrev pub folds : View W → View W → View W
  folds v u = record v { seats = v.seats + u.seats; seen = v.seen ++ u.seen; mine = v.mine ++ u.mine }

  -- the other's after it
  abbrev pub spent : View W
  spent = record { about = None; seats = 0; seen = []; mine = []; looked = []; stored = []; found = []; out = [] }

  -- of which a new seat has taken over one seat
  abbrev pub less_one : View W → View W
  less_one v = record v { seats = v.seats - 1 }

  -- the new seat's
  abbrev pub one_seat : View W → View W
  one_seat v = record v { seats = 1; seen = []; mine = []; looked = []; stored = []; found = []; out = [] }

  -- after a slot was taken, whose item posted these pairs
  abbrev pub takes_out : View W → ℕ → List (ℕ × ℕ) → View W
  takes_out v i pairs = record v { seen = pairs ++ v.seen; out = i ∷ v.out }

  -- after the slot that was taken last came home
  abbrev pub brings_home : View W → View W
  brings_home v = record v { out = others v.out }

module _ {W T : Type 0} (list : W → List ℕ) (good : W → T → ℕ → Type 0) (posted : W → T → List (ℕ × ℕ)) where
  -- the places of a cell's full word and of a slot's turn word
  abbrev pub full_place : About W → ℕ → ℕ
  full_place about k = length (list about.world) + full_word k

  abbrev pub turn : About W → ℕ → ℕ
  turn about i = cell_words (length (list about.world)) + apart * i

  -- the cell is empty, or full
  abbrev pub IsEmptyAt : About W → List ℕ → ℕ → Type 0
  IsEmptyAt about words k = flag k (cell words (full_place about k)) ≡ 0

  abbrev pub IsFullAt : About W → List ℕ → ℕ → Type 0
  IsFullAt about words k = flag k (cell words (full_place about k)) ≡ 1

  -- each pair is a full cell and its word
  abbrev pub Stand : About W → List ℕ → List (ℕ × ℕ) → Type 0
  Stand about words pairs =
      (k w : ℕ) → Knows pairs k w → (k < length (list about.world)) × IsFullAt about words k × (cell words k ≡ w)

  -- each cell is full whose flag was found 1, where p is the number of a full word and n what was found there
  abbrev pub AreFound : About W → List ℕ → List (ℕ × ℕ) → Type 0
  AreFound about words pairs =
      (p n k : ℕ) → Knows pairs p n → full_word k ≡ p → flag k n ≡ 1 → k < length (list about.world)
      → IsFullAt about words k

  -- what a view knows of the cells: each pair seen is there, each value stored is the promised one, each cell found
  -- full is full
  abbrev pub IsTold : About W → List ℕ → View W → Type 0
  IsTold about words v =
      Stand about words v.seen
      × ((k : ℕ) → Has v.stored k → (k < length (list about.world)) × (cell words k ≡ slice_index (list about.world) k))
      × AreFound about words v.found

  abbrev pub IsHome : About W → State (Option T) (View W) → ℕ → Type 0
  IsHome about s i =
      (cell s.words (turn about i) ≡ 1)
      × ((x : T) × (get_elem? s.homes (apart * i) ≡ some (some (Some x))) × good about.world x i
      × Stand about s.words (posted about.world x))

  abbrev pub IsOut : About W → State (Option T) (View W) → ℕ → Type 0
  IsOut about s i =
      (cell s.words (turn about i) ≡ 0)
      × ((id : ℕ) × (v : View W) × (get_elem? s.views id ≡ some v) × Has v.out i)

  -- the rule, which holds between any two steps
  pub record IsBoard (about : About W) (s : State (Option T) (View W)) : Type 0 where
    pub size : length s.words ≡ cell_words (length (list about.world)) + length s.homes + 1
    -- each cell is empty or holds its promised word
    pub cells : (k : ℕ) → k < length (list about.world)
        → IsEmptyAt about s.words k ⊎ (IsFullAt about s.words k × (cell s.words k ≡ slice_index (list about.world) k))
    -- what a view knows is so
    pub told : (id : ℕ) (v : View W) → get_elem? s.views id ≡ some v → IsTold about s.words v
    -- what a view has posted it has seen
    pub mine : (id : ℕ) (v : View W) → get_elem? s.views id ≡ some v → (k : ℕ) → 0 < times k v.mine
        → (w : ℕ) × Knows v.seen k w
    -- no number was posted twice
    pub once : (k : ℕ) → total_over (λ (v : View W). times k v.mine) s.views ≤ 1
    -- each slot has a good item, whose posts are there, or is out with a view
    pub slots : (i : ℕ) → apart * i < length s.homes → IsHome about s i ⊎ IsOut about s i
    -- together the views stand for the seats made
    pub seats : total_over (λ (v : View W). v.seats) s.views ≡ about.seats
    -- a view that stands for no seat has no slot, and one that stands for some knows the board
    pub idle : (id : ℕ) (v : View W) → get_elem? s.views id ≡ some v → v.seats ≡ 0 → v.out ≡ []
    pub knows : (id : ℕ) (v : View W) → get_elem? s.views id ≡ some v → 0 < v.seats → v.about ≡ Some about

  abbrev pub Sat : Type 0
  Sat = Me (Option T) (View W)

  -- the store of the promised word of cell k, the first step of a post
  abbrev pub stored_step : Step (Option T) → Sat → ℕ → Sat → Type 0
  stored_step st me n me' = (k : ℕ) → st.word ≡ k + 1 → (me'.1 ≡ me.1) × (me'.0 ≡ stores me.0 k)

  -- the bit-or of the flag of cell k into its full word, which ends a post
  abbrev pub posted_step : Step (Option T) → Sat → ℕ → Sat → Type 0
  posted_step st me n me' =
      (about : About W) (k w : ℕ) → me.0.about ≡ Some about → st.word ≡ full_place about k + 1
      → st.first ≡ flag_bit k → slice_index (list about.world) k ≡ w
      → (me'.1 ≡ me.1) × (((flag k n ≡ 0) × (me'.0 ≡ unstores (posts me.0 k w Done)))
      ⊎ ((flag k n ≡ 1) × (me'.0 ≡ unstores (posts me.0 k w (Occupied w)))))

  -- the load of a full word, the first step of a take. Where the flag of cell k is 0 the seat knew no word of it
  abbrev pub found_step : Step (Option T) → Sat → ℕ → Sat → Type 0
  found_step st me n me' =
      (about : About W) (k : ℕ) → me.0.about ≡ Some about → st.word ≡ full_place about k + 1
      → (me'.1 ≡ me.1) × (me'.0 ≡ finds me.0 (full_word k) n) × (flag k n ≡ 0 → (w : ℕ) → ¬ Knows me.0.seen k w)

  -- the load of a value, which ends a take: it is the promised word, and the one that the seat knew
  abbrev pub taken_step : Step (Option T) → Sat → ℕ → Sat → Type 0
  taken_step st me n me' =
      (about : About W) (k : ℕ) → me.0.about ≡ Some about → st.word ≡ k + 1
      → (me'.1 ≡ me.1) × (slice_index (list about.world) k ≡ n) × (me'.0 ≡ unfinds (sees me.0 k n))
      × ((x : ℕ) → Knows me.0.seen k x → x ≡ n)

  -- the compare-and-exchange of a turn word, 1 to 0. Where it was 1 the item is the seat's, and good for the slot; else
  -- the slot was out, with this seat where it stands for all seats
  abbrev pub out_step : Step (Option T) → Sat → ℕ → Sat → Type 0
  out_step st me n me' =
      (about : About W) (i : ℕ) → me.0.about ≡ Some about → st.word ≡ turn about i + 1
      → ((n ≡ 1) × ((x : T) × good about.world x i × (me'.0 ≡ takes_out me.0 i (posted about.world x))
      × (me'.1 ≡ (apart * i, Some x) ∷ me.1)))
      ⊎ ((n ≡ 0) × (me'.0 ≡ looks me.0 (length (list about.world) + i) n) × (me'.1 ≡ me.1)
      × (me.0.seats ≡ about.seats → Has me.0.out i))

  -- the store of 1 into a turn word, as the item comes home
  abbrev pub home_step : Step (Option T) → Sat → ℕ → Sat → Type 0
  home_step st me n me' = (me'.0 ≡ brings_home me.0) × (me'.1 ≡ rest me.1)
