-- The rule of an inbox's table, and what its steps tell. Word 0 is the seats' word, word 1 the count, word 2 the mark,
-- and then comes the value of each place. The mark is 0 while the writer goes on, then 1 for a whole inbox,
-- 2 for a fault.
use Rattle.std.specs.Prelude.{◌≡◌, ◌≢◌, ℕ, zero, suc, ◌+◌, ◌<◌, ◌≤◌, List, [], ◌∷◌, ◌++◌, length, slice_index, Option, Some, None}
use mathlib.Core.Option.{some}
use lib.ListN.{get_elem?}
use Rattle.atomic_table.specs.Table.{State, Me, Step}
use Rattle.message_board.specs.Pairs.{Knows, total_over}
use Rattle.inbox_board.specs.declared.steps.InboxView.{InboxView}

abbrev pub count_in : List ℕ → ℕ
count_in words = slice_index words 1

abbrev pub mark_in : List ℕ → ℕ
mark_in words = slice_index words 2

abbrev pub value_in : List ℕ → ℕ → ℕ
value_in words place = slice_index words (place + 3)

-- Views.
-- a new seat's, with `pens` pens
abbrev pub newcomer : ℕ → InboxView
newcomer pens =
    record {
      pens = pens;
      length = 0;
      ended = 0;
      stored = None;
      seen = [];
      upto = 0;
      noted = 0;
      total = None;
      counts = [];
      marks = [];
    }

-- after the store of a value
abbrev pub stores : InboxView → ℕ → InboxView
stores v w = record v { stored = Some w }

-- after that value was counted
abbrev pub counts_it : InboxView → ℕ → InboxView
counts_it v w = record v { length = v.length + 1; stored = None; seen = (v.length, w) ∷ v.seen }

-- after a push, which is both
abbrev pub pushes : InboxView → ℕ → InboxView
pushes v w = counts_it (stores v w) w

-- the total that is known once a count was found: that count, where this mark had been found, or else what was known
abbrev pub total_after : ℕ → ℕ → Option ℕ → Option ℕ
total_after zero n known = known
total_after (suc noted) n known = Some n

-- after this count was found
abbrev pub finds : InboxView → ℕ → InboxView
finds v n = record v { upto = n; total = total_after v.noted n v.total; counts = n ∷ v.counts }

-- after the value at a place was read
abbrev pub gets : InboxView → ℕ → ℕ → InboxView
gets v place w = record v { seen = (place, w) ∷ v.seen }

-- after this mark was given
abbrev pub ends : InboxView → ℕ → InboxView
ends v mark = record v { ended = mark }

-- after this mark was found
abbrev pub notes : InboxView → ℕ → InboxView
notes v mark = record v { noted = mark; marks = mark ∷ v.marks }

-- the second of two marks, where it was found, and of two totals
abbrev pub later : ℕ → ℕ → ℕ
later first zero = first
later first (suc second) = suc second

abbrev pub later_total : Option ℕ → Option ℕ → Option ℕ
later_total first None = first
later_total first (Some second) = Some second

-- after the fold of another seat. At most one has the pen, and the other has filled no place and given no mark
abbrev pub folds : InboxView → InboxView → InboxView
folds v u =
    record v {
      pens = v.pens + u.pens;
      length = v.length + u.length;
      ended = v.ended + u.ended;
      seen = v.seen ++ u.seen;
      noted = later v.noted u.noted;
      total = later_total v.total u.total;
    }

-- each pair has a place below the count, and that place's value
abbrev pub Stand : List ℕ → List (ℕ × ℕ) → Type 0
Stand words pairs = (place w : ℕ) → Knows pairs place w → (place < count_in words) × (value_in words place ≡ w)

-- what the view with the pen knows: the count, the mark, and within a push the value at the next place
pub record IsWriter (words : List ℕ) (v : InboxView) : Type 0 where
  pub length : v.length ≡ count_in words
  pub ended : v.ended ≡ mark_in words
  pub stored : (w : ℕ) → v.stored ≡ Some w → value_in words v.length ≡ w

-- what each view knows: words that stand, a count that was reached, the mark, if it found one, and the count after it
pub record IsTold (words : List ℕ) (v : InboxView) : Type 0 where
  pub seen : Stand words v.seen
  pub upto : v.upto ≤ count_in words
  pub noted : v.noted ≢ 0 → v.noted ≡ mark_in words
  pub total : (n : ℕ) → v.total ≡ Some n → (v.noted ≢ 0) × (n ≡ count_in words)

-- the rule, which holds between any two steps: exactly one view has the pen, and what the views know is so
pub record IsInbox (places : ℕ) (s : State (Unit {0}) InboxView) : Type 0 where
  pub size : length s.words ≡ places + 3
  pub pen : total_over (λ (v : InboxView). v.pens) s.views ≡ 1
  pub writer : (id : ℕ) (v : InboxView) → get_elem? s.views id ≡ some v → 0 < v.pens → IsWriter s.words v
  pub told : (id : ℕ) (v : InboxView) → get_elem? s.views id ≡ some v → IsTold s.words v

abbrev pub Sat : Type 0
Sat = Me (Unit {0}) InboxView

-- the store of a value at the next place, the first step of a push
abbrev pub stored_step : Step (Unit {0}) → Sat → ℕ → Sat → Type 0
stored_step st me n me' = (me'.1 ≡ me.1) × (me'.0 ≡ stores me.0 n)

-- the store of the count, one more, which ends a push
abbrev pub counted_step : Step (Unit {0}) → Sat → ℕ → Sat → Type 0
counted_step st me n me' = (w : ℕ) → me.0.stored ≡ Some w → (me'.1 ≡ me.1) × (me'.0 ≡ counts_it me.0 w)

-- the load of the count: it is past each place whose word the seat knew
abbrev pub found_step : Step (Unit {0}) → Sat → ℕ → Sat → Type 0
found_step st me n me' =
    (me'.1 ≡ me.1) × (me'.0 ≡ finds me.0 n) × ((place w : ℕ) → Knows me.0.seen place w → place < n)

-- the load of the value at a place: it is the word that the seat knew there, if it knew one
abbrev pub got_step : Step (Unit {0}) → Sat → ℕ → Sat → Type 0
got_step st me n me' =
    (place : ℕ) → st.word ≡ place + 3
    → (me'.1 ≡ me.1) × (me'.0 ≡ gets me.0 place n) × ((w : ℕ) → Knows me.0.seen place w → w ≡ n)

-- the store of the mark
abbrev pub ended_step : Step (Unit {0}) → Sat → ℕ → Sat → Type 0
ended_step st me n me' = (me'.1 ≡ me.1) × (me'.0 ≡ ends me.0 n)

-- the load of the mark: it is the one that the seat knew, if it knew one
abbrev pub noted_step : Step (Unit {0}) → Sat → ℕ → Sat → Type 0
noted_step st me n me' = (me'.1 ≡ me.1) × (me'.0 ≡ notes me.0 n) × (me.0.noted ≢ 0 → n ≡ me.0.noted)

-- what a view knows fits together: a place has one word, and with the pen each place known was filled, a mark found is
-- the one given, and a total is the count of the places filled
pub record FitsTogether (v : InboxView) : Type 0 where
  pub words : (place w x : ℕ) → Knows v.seen place w → Knows v.seen place x → w ≡ x
  pub places : 0 < v.pens → (place w : ℕ) → Knows v.seen place w → place < v.length
  pub mark : 0 < v.pens → v.noted ≢ 0 → v.noted ≡ v.ended
  pub total : 0 < v.pens → (n : ℕ) → v.total ≡ Some n → n ≡ v.length

-- a load of the seats' word, which changes nothing and tells that
abbrev pub compared_step : Step (Unit {0}) → Sat → ℕ → Sat → Type 0
compared_step st me n me' = (me'.1 ≡ me.1) × (me'.0 ≡ me.0) × FitsTogether me.0
