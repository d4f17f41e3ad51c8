-- Lists of seats, and a board at its start and its end.
use Rattle.std.proofs.Common.{◌≡◌, ◌⊎◌, ℕ, zero, suc, ◌+◌, ◌*◌, ◌<◌, ◌≤◌, List, [], ◌∷◌, ◌++◌, length, length-append, map, reverse, append_assoc, take, drop, replicate, Option, Some, None, sym, refl, ap, ◌∙◌, subst, inl, inr, ⊎_elim, arith, get_or-take}
use Rattle.std.specs.Prelude.{slice_index, slice_get}
use mathlib.Core.Option.{some, some-injective, some-ne-none}
use lib.ListN.{get_elem?}
use Rattle.std.proofs.lemmas.List.{reverse-append}
use Rattle.atomic_table.specs.Table.{opening, Final, Seen}
use Rattle.message_board.specs.declared.steps.About.{About}
use Rattle.message_board.specs.declared.steps.View.{View}
use Rattle.message_board.specs.Pairs.{Knows, times}
use Rattle.message_board.specs.Plain.{plain_cell}
use Rattle.message_board.specs.Words.{apart, full_word, flag, cell_words, spaced, word_as, cells_from, cells_of, held}
use Rattle.message_board.specs.Rule.{IsBoard, IsTold, newcomer, cell}
use Rattle.message_board.specs.Seats.{BoardModel, Sitting, IsSeatOf, IsFreeSeatOf, AreSeatsOf, CanClose, AreNewSeats, KnownBy, times_by, HasCells, AreFresh}
use Rattle.message_board.proofs.FlagBits.{flag_zero}
use Rattle.message_board.proofs.Pairs.{total_at}
use Rattle.message_board.proofs.StepAnswers.{word_full}

module _ {W : Type 0} where
  pub new_more : (b : BoardModel W) (ss : List (Sitting W)) (s : Sitting W) → AreNewSeats b ss → IsSeatOf b s → s.view ≡ newcomer b.about 1 → AreNewSeats b (ss ++ s ∷ [])
  new_more b [] s h i e = ((i, e), tt)
  new_more b (x ∷ xs) s h i e = (h.0, new_more b xs s h.1 i e)

  pub new_last : (b : BoardModel W) (ss : List (Sitting W)) (s : Sitting W) → AreNewSeats b (ss ++ s ∷ []) → IsSeatOf b s × (s.view ≡ newcomer b.about 1)
  new_last b [] s h = h.0
  new_last b (x ∷ xs) s h = new_last b xs s h.1

  pub last_is : (b : BoardModel W) (ss : List (Sitting W)) (s : Sitting W) → AreSeatsOf b (ss ++ s ∷ []) → AreSeatsOf b ss × IsFreeSeatOf b s
  last_is b [] s h = (tt, h.0)
  last_is b (x ∷ xs) s h = let r = last_is b xs s h.1 in ((h.0, r.0), r.1)

  pub can_last : (b : BoardModel W) (ss : List (Sitting W)) (s : Sitting W) → CanClose b (ss ++ s ∷ []) → AreSeatsOf b ss × IsSeatOf b s
  can_last b [] s h = (tt, h)
  can_last b (x ∷ []) s h = ((h.0, tt), h.1)
  can_last b (x ∷ y ∷ ys) s h = let r = can_last b (y ∷ ys) s h.1 in ((h.0, r.0), r.1)

  pub known_last : (ss : List (Sitting W)) (s : Sitting W) (k w : ℕ) → KnownBy (ss ++ s ∷ []) k w → KnownBy ss k w ⊎ Knows s.view.seen k w
  known_last [] s k w (inl h) = inr h
  known_last [] s k w (inr h) = absurd h
  known_last (x ∷ xs) s k w (inl h) = inl (inl h)
  known_last (x ∷ xs) s k w (inr h) = ⊎_elim (λ a. inl (inr a)) (λ b. inr b) (known_last xs s k w h)

  pub times_last : (k : ℕ) (ss : List (Sitting W)) (s : Sitting W) → times_by k (ss ++ s ∷ []) ≡ times_by k ss + times k s.view.mine
  times_last k [] s = omega arith
  times_last k (x ∷ xs) s = let r = times_last k xs s in omega arith

-- the board at its start
reps : (n : ℕ) (x : ℕ) → length {A = ℕ} (replicate n x) ≡ n
reps zero x = refl
reps (suc n) x = ap suc (reps n x)

starts_length : (a n : ℕ) → length {A = ℕ} (replicate a 0 ++ replicate n 1) ≡ a + n
starts_length zero n = reps n 1 ∙ (let e : n ≡ zero + n = omega arith in e)
starts_length (suc a) n = ap suc (starts_length a n) ∙ (let e : suc (a + n) ≡ suc a + n = omega arith in e)

-- an empty cell
starts_cell : (a n k : ℕ) → k < a → slice_index (replicate a 0 ++ replicate n 1) k ≡ 0
starts_cell zero n k h = absurd (omega arith)
starts_cell (suc a) n zero h = refl
starts_cell (suc a) n (suc k) h = starts_cell a n k (omega arith)

one_at : (n i : ℕ) → i < n → slice_index (replicate n 1) i ≡ 1
one_at zero i h = absurd (omega arith)
one_at (suc n) zero h = refl
one_at (suc n) (suc i) h = one_at n i (omega arith)

-- a slot's turn word
starts_turn : (a n i k : ℕ) → i < n → k ≡ a + i → slice_index (replicate a 0 ++ replicate n 1) k ≡ 1
starts_turn zero n i k h e = ap (slice_index (replicate n 1)) (let q : k ≡ i = omega arith in q) ∙ one_at n i h
starts_turn (suc a) n i zero h e = absurd (omega arith)
starts_turn (suc a) n i (suc k) h e = starts_turn a n i k h (omega arith)

-- what stands behind others
past : {X : Type 0} (xs ys : List X) (i : ℕ) → get_elem? (xs ++ ys) (length xs + i) ≡ get_elem? ys i
past [] ys i = ap (get_elem? ys) (let e : 0 + i ≡ i = omega arith in e)
past (x ∷ xs) ys i = ap (get_elem? (x ∷ xs ++ ys)) (let e : length (x ∷ xs) + i ≡ suc (length xs + i) = omega arith in e) ∙ past xs ys i

module _ {T : Type 0} where
  held_some : (slots : List (Option T)) (x : T) → held (slots ++ Some x ∷ []) ≡ held slots ++ x ∷ []
  held_some [] x = refl
  held_some (None ∷ slots) x = held_some slots x
  held_some (Some y ∷ slots) x = ap (λ l. y ∷ l) (held_some slots x)

  pub held_none : (slots : List (Option T)) → held (slots ++ None ∷ []) ≡ held slots
  held_none [] = refl
  held_none (None ∷ slots) = held_none slots
  held_none (Some y ∷ slots) = ap (λ l. y ∷ l) (held_none slots)

  -- what is put behind the slots in reverse stands before them all
  pub turned_more : (x : T) (xs : List T) (slots : List (Option T)) → slots ≡ (reverse (spaced xs) ++ replicate 15 None) ++ Some x ∷ [] → slots ≡ reverse (spaced (x ∷ xs))
  turned_more x xs slots is =
      let block : List (Option T) = Some x ∷ replicate 15 None in
      is ∙ append_assoc (reverse (spaced xs)) (replicate 15 None) (Some x ∷ []) ∙ sym (reverse-append block (spaced xs))

  -- how many items slots hold, where one more is there
  pub held_length : (slots : List (Option T)) (x : T) → length (held (slots ++ Some x ∷ [])) ≡ length (held slots) + 1
  held_length slots x = ap length (held_some slots x) ∙ length-append (held slots) (x ∷ [])

  pub back_more : (slots : List (Option T)) (items : List T) (x : T) → held slots ++ reverse (items ++ x ∷ []) ≡ held (slots ++ Some x ∷ []) ++ reverse items
  back_more slots items x = ap (λ l. held slots ++ l) (reverse-append items (x ∷ [])) ∙ sym (append_assoc (held slots) (x ∷ []) (reverse items)) ∙ ap (λ l. l ++ reverse items) (sym (held_some slots x))

  pub held_all : (xs : List T) → held (spaced xs) ≡ xs
  held_all [] = refl
  held_all (x ∷ xs) = ap (λ l. x ∷ l) (held_all xs)

  homes_length : (xs : List T) → length (map some (spaced xs)) ≡ apart * length xs
  homes_length [] = refl
  homes_length (x ∷ xs) = let l = homes_length xs in omega arith

  pub spaced_length : (xs : List T) → length (spaced xs) ≡ apart * length xs
  spaced_length [] = refl
  spaced_length (x ∷ xs) = let l = spaced_length xs in omega arith

  -- the item of a slot
  at_home : (xs : List T) (i : ℕ) → i < length xs → (x : T) × (get_elem? (map some (spaced xs)) (apart * i) ≡ some (some (Some x))) × (slice_get xs i ≡ Some x)
  at_home [] i h = absurd (omega arith)
  at_home (x ∷ xs) zero h = (x, refl, refl)
  at_home (x ∷ xs) (suc i) h =
      let r = at_home xs i (omega arith) in
      let block : List _ = map some (Some x ∷ replicate 15 None) in
      let next : apart * suc i ≡ length block + apart * i = omega arith in
      (r.0, ap (get_elem? (block ++ map some (spaced xs))) next ∙ past block (map some (spaced xs)) (apart * i) ∙ r.1, r.2)

module _ {W T : Type 0} (list : W → List ℕ) (good : W → T → ℕ → Type 0) (posted : W → T → List (ℕ × ℕ)) where
  pub begins : (about : About W) (m : ℕ) (items : List T) → length (list about.world) ≡ m → AreFresh good posted about.world items
      → IsBoard list good posted about (opening (replicate (cell_words m + 1) 0 ++ replicate (apart * length items) 1) (spaced items) (newcomer about about.seats))
  begins about m items len fresh =
      let l = homes_length items in
      let start : List ℕ = replicate (cell_words m + 1) 0 ++ replicate (apart * length items) 1 in
      record {
        size = starts_length (cell_words m + 1) (apart * length items) ∙ (let e = len in omega arith);
        cells = λ k h. inl (ap (flag k) (starts_cell (cell_words m + 1) (apart * length items) (length (list about.world) + full_word k + 1) (let e = len in omega arith)) ∙ flag_zero k);
        told = λ id v e. only id v e (λ y. IsTold list good posted about start y) ((λ k w known. absurd known), (λ k has. absurd has), (λ p n k known. absurd known));
        mine = λ id v e. only id v e (λ y. (k : ℕ) → 0 < times k y.mine → (w : ℕ) × Knows y.seen k w) (λ k more. absurd (omega arith));
        once = λ k. omega arith;
        slots = λ i h. inl (let here = at_home items i (omega arith) in let f = fresh i here.0 here.2 in (
          starts_turn (cell_words m + 1) (apart * length items) (apart * i) (cell_words (length (list about.world)) + apart * i + 1) (omega arith) (let e = len in omega arith),
          (here.0, here.1, f.0, λ k w known. absurd (subst (λ (ps : List (ℕ × ℕ)). Knows ps k w) f.1 known)),
        ));
        seats = omega arith;
        idle = λ id v e. only id v e (λ y. y.seats ≡ 0 → y.out ≡ []) (λ z. refl);
        knows = λ id v e. only id v e (λ y. 0 < y.seats → y.about ≡ Some about) (λ z. refl);
      }
    where
      only : (id : ℕ) (v : View W) → get_elem? (newcomer about about.seats ∷ []) id ≡ some v → (P : View W → Type 0) → P (newcomer about about.seats) → P v
      only zero v e P p = subst P (some-injective _ _ e) p
      only (suc id) v e P p = absurd (some-ne-none v (sym e))

-- the board at its end
from_at : (i : ℕ) (vs fs : List ℕ) (j k : ℕ) → k ≡ i + j → j < length vs → plain_cell (cells_from i vs fs) j ≡ word_as (flag k (slice_index fs (full_word k))) (slice_index vs j)
from_at i [] fs j k e a = absurd (omega arith)
from_at i (v ∷ vs) fs zero k e a = ap (λ m. word_as (flag m (slice_index fs (full_word m))) v) (let q : i ≡ k = omega arith in q)
from_at i (v ∷ vs) fs (suc j) k e a = from_at (suc i) vs fs j k (omega arith) (omega arith)

from_length : (i : ℕ) (vs fs : List ℕ) → length (cells_from i vs fs) ≡ length vs
from_length i [] fs = refl
from_length i (v ∷ vs) fs = ap suc (from_length (suc i) vs fs)

take_length : (c : ℕ) (ns : List ℕ) → c ≤ length ns → length (take c ns) ≡ c
take_length zero ns h = refl
take_length (suc c) [] h = absurd (omega arith)
take_length (suc c) (n ∷ ns) h = ap suc (take_length c ns (omega arith))

drop_at : (c : ℕ) (ns : List ℕ) (k j : ℕ) → j ≡ c + k → slice_index (drop c ns) k ≡ slice_index ns j
drop_at zero ns k j e = ap (slice_index ns) (let q : k ≡ j = omega arith in q)
drop_at (suc c) [] k j e = refl
drop_at (suc c) (n ∷ ns) k zero e = absurd (omega arith)
drop_at (suc c) (n ∷ ns) k (suc j) e = drop_at c ns k j (omega arith)

pub cells_length : (count : ℕ) (ws : List ℕ) → cell_words count < length ws → length (cells_of count ws) ≡ count
cells_length count [] h = absurd (omega arith)
cells_length count (n ∷ ns) h = from_length 0 (take count ns) (drop count ns) ∙ take_length count ns (omega arith)

pub cells_at : (count : ℕ) (ws : List ℕ) (k : ℕ) → k < count → cell_words count < length ws → plain_cell (cells_of count ws) k ≡ word_as (flag k (slice_index ws (count + full_word k + 1))) (slice_index ws (k + 1))
cells_at count [] k a h = absurd (omega arith)
cells_at count (n ∷ ns) k a h =
    let t = take_length count ns (omega arith) in
    let p : ℕ = full_word k in
    let full : slice_index (drop count ns) p ≡ slice_index (n ∷ ns) (count + p + 1) = drop_at count ns p (count + p) refl ∙ ap (slice_index (n ∷ ns)) (let q : suc (count + p) ≡ count + p + 1 = omega arith in q) in
    let value : slice_index (take count ns) k ≡ slice_index (n ∷ ns) (k + 1) = get_or-take count ns k 0 a ∙ ap (slice_index (n ∷ ns)) (let q : suc k ≡ k + 1 = omega arith in q) in
    from_at 0 (take count ns) (drop count ns) k k (omega arith) (omega arith) ∙ (λ i. word_as (flag k (full i)) (value i))

module _ {W T : Type 0} (list : W → List ℕ) (good : W → T → ℕ → Type 0) (posted : W → T → List (ℕ × ℕ)) (about : About W) where
  pub record Ends (count : ℕ) (ws : List ℕ) (v : View W) : Type 0 where
    pub room : cell_words count < length ws
    pub cells : HasCells (list about.world) (cells_of count ws)
    pub seen : (k w : ℕ) → Knows v.seen k w → plain_cell (cells_of count ws) k ≡ Some w
    pub once : (k : ℕ) → times k v.mine ≤ 1

  pub ends : (count : ℕ) (ws : List ℕ) (xs : List (Option T)) (id : ℕ) (v : View W) → count ≡ length (list about.world) → Final (Seen (IsBoard list good posted about) id v) ws xs → Ends count ws v
  ends count ws xs id v is f =
      let s = f.0 in
      let h = f.1.0 in
      let at = f.1.1 in
      let same : s.words ≡ ws = f.2 in
      let size : length ws ≡ cell_words (length (list about.world)) + length s.homes + 1 = ap length (sym same) ∙ h.size in
      let word : (k j : ℕ) → j ≡ k + 1 → cell s.words k ≡ slice_index ws j = λ k j e. ap (λ l. slice_index l (k + 1)) same ∙ ap (slice_index ws) (sym e) in
      let full : (k : ℕ) → flag k (cell s.words (length (list about.world) + full_word k)) ≡ flag k (slice_index ws (count + full_word k + 1)) = λ k. ap (flag k) (word (length (list about.world) + full_word k) (count + full_word k + 1) (ap (λ n. n + full_word k + 1) is)) in
      record {
        room = omega arith;
        cells = (
          cells_length count ws (omega arith) ∙ is,
          λ k in_.
              ⊎_elim (λ (a : flag k (cell s.words (length (list about.world) + full_word k)) ≡ 0). inl (cells_at count ws k (omega arith) (omega arith) ∙ ap (λ n. word_as n (slice_index ws (k + 1))) (sym (full k) ∙ a)))
              (λ (a : (flag k (cell s.words (length (list about.world) + full_word k)) ≡ 1) × (cell s.words k ≡ slice_index (list about.world) k)). inr (cells_at count ws k (omega arith) (omega arith) ∙ word_full _ _ (sym (full k) ∙ a.0) ∙ ap (λ n. Some n) (sym (word k (k + 1) refl) ∙ a.1))) (h.cells k in_),
        );
        seen = λ k w known. let r = (h.told id v at).0 k w known in let l = r.0 in cells_at count ws k (omega arith) (omega arith) ∙ word_full _ _ (sym (full k) ∙ r.1) ∙ ap (λ n. Some n) (sym (word k (k + 1) refl) ∙ r.2);
        once = λ k. let t = total_at (λ (u : View W). times k u.mine) s.views id v at in let o = h.once k in omega arith;
      }

pub read : (l : List ℕ) (i n : ℕ) → get_elem? l i ≡ some n → (i < length l) × (slice_index l i ≡ n)
read [] i n e = absurd (some-ne-none n (sym e))
read (x ∷ xs) zero n e = (omega arith, some-injective x n e)
read (x ∷ xs) (suc i) n e = let r = read xs i n e in let l = r.0 in (omega arith, r.1)
