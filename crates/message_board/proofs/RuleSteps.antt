-- Each step of a board keeps its rule.
use Rattle.std.proofs.Common.{◌≡◌, ◌≢◌, ◌⊎◌, ℕ, ◌+◌, ◌-◌, ◌*◌, ◌<◌, ◌≤◌, eqb, List, [], ◌∷◌, ◌++◌, length, get_or, set, Option, Some, None, sym, refl, ap, ◌∙◌, subst, inl, inr, ⊎_elim, arith, get_or-set_same}
use Rattle.std.specs.Prelude.{slice_index, bit_or}
use Rattle.std.proofs.lemmas.List.{get_or-set_other, set-get_or}
use Rattle.std.proofs.lemmas.Bool.{cases_eq}
use mathlib.Core.Option.{none, some, some-injective}
use lib.ListN.{get_elem?}
use prog.Atomic.{either}
use Rattle.atomic_table.specs.Table.{State, Me, Act, Valid, carried_after, homes_after, step, keeps, takes, gives, stepped, Allows, Splits, Joins}
use Rattle.atomic_table.proofs.Lists.{at_set, at_snoc, at_longer, set_here, set_else, exchanged}
use Rattle.message_board.specs.declared.steps.About.{About}
use Rattle.message_board.specs.declared.steps.View.{View}
use Rattle.message_board.specs.declared.cells.Posted.TheVariants.{Done, Occupied}
use Rattle.message_board.specs.Pairs.{Knows, Has, times, total_over}
use Rattle.message_board.specs.Words.{apart, cell_words, full_word, flag, flag_bit}
use Rattle.message_board.specs.Rule.{IsBoard, IsHome, IsOut, IsTold, Stand, cell, stores, unstores, finds, unfinds, posts, looks, sees, folds, spent, less_one, one_seat, takes_out, others, brings_home, stored_step, posted_step, found_step, taken_step, out_step, home_step}
use Rattle.message_board.proofs.FlagBits.{flag_set, flag_else, flag_bit_at, flag_cases}
use Rattle.message_board.proofs.Pairs.{knows_split, knows_left, knows_right, times_append, total_set, total_snoc, total_at, total_none, times_else, times_more, total_two, length_set, set_there}

pub some_same : {X : Type 0} (a b : X) → Some a ≡ Some b → a ≡ b
some_same {X} a b e = ap (λ o. or_else o) e
  where
    or_else : Option X → X
    or_else None = a
    or_else (Some x) = x

module _ {W T : Type 0} (list : W → List ℕ) (good : W → T → ℕ → Type 0) (posted : W → T → List (ℕ × ℕ)) (about : About W) where
  abbrev V : Type 0
  V = View W

  abbrev St : Type 0
  St = State (Option T) V

  abbrev M : Type 0
  M = Me (Option T) V

  abbrev R : St → Type 0
  R = IsBoard list good posted about

  abbrev own : ℕ → V → ℕ
  own k v = times k v.mine

  abbrev seats_in : V → ℕ
  seats_in v = v.seats

  abbrev words : List ℕ
  words = list about.world

  abbrev fl : ℕ → ℕ
  fl k = length words + full_word k

  abbrev fg : List ℕ → ℕ → ℕ
  fg ws k = flag k (cell ws (fl k))

  abbrev tn : ℕ → ℕ
  tn i = cell_words (length words) + apart * i

  abbrev Told : List ℕ → V → Type 0
  Told ws v = IsTold list good posted about ws v

  abbrev In : List ℕ → List (ℕ × ℕ) → Type 0
  In ws pairs = Stand list good posted about ws pairs

  abbrev HomeOrOut : St → ℕ → Type 0
  HomeOrOut s i = IsHome list good posted about s i ⊎ IsOut list good posted about s i

  -- no full cell changes, and no promised value
  abbrev Stay : List ℕ → List ℕ → Type 0
  Stay vs ws =
      (k : ℕ) → k < length words
      → (fg vs k ≡ 1 → (fg ws k ≡ 1) × (cell ws k ≡ cell vs k)) × (cell vs k ≡ slice_index words k → cell ws k ≡ slice_index words k)

  abbrev Filled : List ℕ → Type 0
  Filled ws = (k : ℕ) → k < length words → (fg ws k ≡ 0) ⊎ ((fg ws k ≡ 1) × (cell ws k ≡ slice_index words k))

  abbrev Owns : V → Type 0
  Owns w = (k : ℕ) → 0 < times k w.mine → (x : ℕ) × Knows w.seen k x

  stand_on : (vs ws : List ℕ) (pairs : List (ℕ × ℕ)) → Stay vs ws → In vs pairs → In ws pairs
  stand_on vs ws pairs stay h k w known = let r = h k w known in let t = (stay k r.0).0 r.1 in (r.0, t.0, t.1 ∙ r.2)

  told_on : (vs ws : List ℕ) → Stay vs ws → (u : V) → Told vs u → Told ws u
  told_on vs ws stay u h = (
    stand_on vs ws u.seen stay h.0,
    (λ k has. let r = h.1 k has in (r.0, (stay k r.0).1 r.1)),
    (λ p n k known is one inside. ((stay k inside).0 (h.2 p n k known is one inside)).0),
  )

  full_value : (s : St) → R s → (j : ℕ) → j < length words → fg s.words j ≡ 1 → cell s.words j ≡ slice_index words j
  full_value s h j l one = ⊎_elim (λ (z : fg s.words j ≡ 0). absurd (omega arith)) (λ (r : (fg s.words j ≡ 1) × (cell s.words j ≡ slice_index words j)). r.1) (h.cells j l)

  -- one view changes, no cell is emptied, and the slots are as told
  changed : (s : St) → R s → (id : ℕ) (v w : V) → get_elem? s.views id ≡ some v → (w.about ≡ v.about) × (w.seats ≡ v.seats) → 0 < v.seats
      → (ws : List ℕ) (hs : List _) → length ws ≡ length s.words → length hs ≡ length s.homes
      → Filled ws → Stay s.words ws → Told ws w → Owns w
      → ((k : ℕ) → total_over (own k) (set s.views id w) ≤ 1)
      → ((i : ℕ) → apart * i < length s.homes → HomeOrOut record { words = ws; homes = hs; views = set s.views id w } i)
      → R record { words = ws; homes = hs; views = set s.views id w }
  changed s h id v w at like part ws hs lw lh filled stay seen mine once slots =
      record {
        size = lw ∙ h.size ∙ ap (λ (n : ℕ). cell_words (length words) + n + 1) (sym lh);
        cells = filled;
        told = λ j u e. ⊎_elim (λ (t : (j ≡ id) × (w ≡ u)). subst (λ (y : V). Told ws y) t.1 seen) (λ (t : (j ≢ id) × (get_elem? s.views j ≡ some u)). told_on s.words ws stay u (h.told j u t.1)) (at_set s.views id j w u e);
        mine = λ j u e. ⊎_elim (λ (t : (j ≡ id) × (w ≡ u)). subst (λ (y : V). Owns y) t.1 mine) (λ (t : (j ≢ id) × (get_elem? s.views j ≡ some u)). h.mine j u t.1) (at_set s.views id j w u e);
        once = once;
        slots = λ i inside. slots i (let z = lh in omega arith);
        seats = (let t = total_set seats_in s.views id v w at in let p = like.1 in let q = h.seats in omega arith);
        idle = λ j u e none. ⊎_elim (λ (t : (j ≡ id) × (w ≡ u)). absurd (let p : w.seats ≡ 0 = ap seats_in t.1 ∙ none in let q = like.1 in omega arith)) (λ (t : (j ≢ id) × (get_elem? s.views j ≡ some u)). h.idle j u t.1 none) (at_set s.views id j w u e);
        knows = λ j u e some_part. ⊎_elim (λ (t : (j ≡ id) × (w ≡ u)). subst (λ (y : V). y.about ≡ Some about) t.1 (like.0 ∙ h.knows id v at part)) (λ (t : (j ≢ id) × (get_elem? s.views j ≡ some u)). h.knows j u t.1 some_part) (at_set s.views id j w u e);
      }

  -- a slot stays home or out where its turn word, its item and its holder's list stay
  slot_stays : (s : St) (id : ℕ) (v w : V) → get_elem? s.views id ≡ some v → (ws : List ℕ) (hs : List _) → Stay s.words ws → (i : ℕ)
      → cell ws (tn i) ≡ cell s.words (tn i) → get_elem? hs (apart * i) ≡ get_elem? s.homes (apart * i) → (Has v.out i → Has w.out i)
      → HomeOrOut s i → HomeOrOut record { words = ws; homes = hs; views = set s.views id w } i
  slot_stays s id v w at ws hs stay i word home keep (inl a) = inl (word ∙ a.0, (a.1.0, home ∙ a.1.1, a.1.2, stand_on s.words ws (posted about.world a.1.0) stay a.1.3))
  slot_stays s id v w at ws hs stay i word home keep (inr away) =
      let id' = away.1.0 in
      inr (
        word ∙ away.0,
        ⊎_elim (λ (e : id' ≡ id). let same : v ≡ away.1.1 = some-injective _ _ (sym at ∙ ap (get_elem? s.views) (sym e) ∙ away.1.2) in
            (id, w, set_there s.views id v w at, keep (subst (λ (y : V). Has y.out i) (sym same) away.1.3)))
            (λ (ne : id' ≢ id). (id', away.1.1, set_else s.views id id' w ne ∙ away.1.2, away.1.3)) (cases_eq id' id),
      )

  -- one view changes, and no word
  quiet : (s : St) → R s → (id i : ℕ) (v w : V) → get_elem? s.views id ≡ some v → (w.about ≡ v.about) × (w.seats ≡ v.seats) → 0 < v.seats
      → Told s.words w → Owns w → w.mine ≡ v.mine → w.out ≡ v.out
      → R record { words = set s.words i (get_or s.words i 0); homes = s.homes; views = set s.views id w }
  quiet s h id i v w at like part seen mine same out =
      subst (λ ws. R record { words = ws; homes = s.homes; views = set s.views id w }) (sym (set-get_or s.words i 0))
      (changed s h id v w at like part s.words s.homes refl refl h.cells unchanged seen mine
      (λ k. let t = total_set (own k) s.views id v w at in let o = h.once k in let e : times k w.mine ≡ times k v.mine = ap (times k) same in omega arith)
      (λ j l. slot_stays s id v w at s.words s.homes unchanged j refl refl (λ has. subst (λ o. Has o j) (sym out) has) (h.slots j l)))
    where
      unchanged : Stay s.words s.words
      unchanged k l = ((λ e. (e, refl)), (λ e. e))

  has_others : (l : List ℕ) (j : ℕ) → Has (others l) j → Has l j
  has_others [] j h = h
  has_others (x ∷ xs) j h = inr h

  same_once : (s : St) → R s → (id : ℕ) (v w : V) → get_elem? s.views id ≡ some v → w.mine ≡ v.mine → (k : ℕ) → total_over (own k) (set s.views id w) ≤ 1
  same_once s h id v w at same k = let t = total_set (own k) s.views id v w at in let o = h.once k in let e : times k w.mine ≡ times k v.mine = ap (times k) same in omega arith

  -- the words once the flag of cell k is set
  abbrev marked : St → ℕ → List ℕ
  marked s k = set s.words (fl k + 1) (bit_or (cell s.words (fl k)) (flag_bit k))

  -- all other words stay
  marked_cell : (s : St) (k j : ℕ) → j ≢ fl k → cell (marked s k) j ≡ cell s.words j
  marked_cell s k j ne = get_or-set_other s.words (fl k + 1) (j + 1) _ 0 (λ e. ne (omega arith))

  marked_word : (s : St) → R s → (k : ℕ) → k < length words → cell (marked s k) (fl k) ≡ bit_or (cell s.words (fl k)) (flag_bit k)
  marked_word s h k inside = get_or-set_same s.words (fl k + 1) _ 0 (let z = h.size in omega arith)

  marked_here : (s : St) → R s → (k : ℕ) → k < length words → fg (marked s k) k ≡ 1
  marked_here s h k inside = ap (flag k) (marked_word s h k inside) ∙ flag_set (cell s.words (fl k)) k

  -- and all other flags, of this full word and of the others
  marked_else : (s : St) → R s → (k : ℕ) → k < length words → (j : ℕ) → j ≢ k → fg (marked s k) j ≡ fg s.words j
  marked_else s h k inside j ne =
      ⊎_elim
      (λ (q : full_word j ≡ full_word k). ap (λ p. flag j (cell (marked s k) (length words + p))) q ∙ ap (flag j) (marked_word s h k inside) ∙ flag_else (cell s.words (fl k)) j k (λ e. ne (omega arith)) ∙ ap (λ p. flag j (cell s.words (length words + p))) (sym q))
      (λ (apart : full_word j ≢ full_word k). ap (flag j) (marked_cell s k (fl j) (λ e. apart (omega arith))))
      (cases_eq (full_word j) (full_word k))

  marked_value : (s : St) (k j : ℕ) → j < length words → cell (marked s k) j ≡ cell s.words j
  marked_value s k j l = marked_cell s k j (λ e. omega arith)

  marked_turn : (s : St) (k : ℕ) → k < length words → (j : ℕ) → cell (marked s k) (tn j) ≡ cell s.words (tn j)
  marked_turn s k inside j = marked_cell s k (tn j) (λ e. omega arith)

  marked_stay : (s : St) → R s → (k : ℕ) → k < length words → Stay s.words (marked s k)
  marked_stay s h k inside j l = (
    (λ e. (⊎_elim (λ (q : j ≡ k). ap (fg (marked s k)) q ∙ marked_here s h k inside) (λ ne. marked_else s h k inside j ne ∙ e) (cases_eq j k), marked_value s k j l)),
    (λ e. marked_value s k j l ∙ e),
  )

  marked_filled : (s : St) → R s → (k : ℕ) → k < length words → cell s.words k ≡ slice_index words k → Filled (marked s k)
  marked_filled s h k inside value j l =
      ⊎_elim
      (λ (q : j ≡ k). inr (ap (fg (marked s k)) q ∙ marked_here s h k inside, marked_value s k j l ∙ subst (λ m. cell s.words m ≡ slice_index words m) (sym q) value))
      (λ ne. let full = marked_else s h k inside j ne in ⊎_elim (λ a. inl (full ∙ a)) (λ (a : (fg s.words j ≡ 1) × (cell s.words j ≡ slice_index words j)). inr (full ∙ a.0, marked_value s k j l ∙ a.1)) (h.cells j l))
      (cases_eq j k)

  module _ (slots id : ℕ) (me : M) (k : ℕ) (part : 0 < me.0.seats) where
    -- the store of a value
    pub stores_keep : (w : ℕ) → k < length words → slice_index words k ≡ w → Allows R slots id me (k + 1) (λ _. w) (λ _. stored_step list good posted (step slots (k + 1) w 0 none) me w)
    stores_keep w inside is s h _ at _ =
        let v' = stores me.0 k in
        let ws = set s.words (k + 1) w in
        let here : cell ws k ≡ w = get_or-set_same s.words (k + 1) w 0 (let z = h.size in omega arith) in
        let there : (j : ℕ) → j ≢ k → cell ws j ≡ cell s.words j = λ j ne. get_or-set_other s.words (k + 1) (j + 1) w 0 (λ e. ne (omega arith)) in
        let full : (j : ℕ) → fg ws j ≡ fg s.words j = λ j. ap (flag j) (there (fl j) (λ e. omega arith)) in
        let value : (j : ℕ) → j ≡ k → cell ws j ≡ slice_index words j = λ j q. ap (cell ws) q ∙ here ∙ sym is ∙ ap (slice_index words) (sym q) in
        let stay : Stay s.words ws = λ j l. (
          (λ e. (full j ∙ e, ⊎_elim (λ (q : j ≡ k). value j q ∙ sym (full_value s h j l e)) (λ ne. there j ne) (cases_eq j k))),
          (λ e. ⊎_elim (λ (q : j ≡ k). value j q) (λ ne. there j ne ∙ e) (cases_eq j k)),
        ) in
        let t = told_on s.words ws stay me.0 (h.told id me.0 at) in (
          v',
          keeps,
          tt,
          changed s h id me.0 v' at (refl, refl) part ws s.homes (length_set s.words (k + 1) w) refl
              (λ j l. ⊎_elim (λ a. inl (full j ∙ a)) (λ (a : (fg s.words j ≡ 1) × (cell s.words j ≡ slice_index words j)). inr (full j ∙ a.0, (stay j l).1 a.1)) (h.cells j l))
              stay
              (t.0, (λ j has. ⊎_elim (λ (q : k ≡ j). (subst (λ (n : ℕ). n < length words) q inside, value j (sym q))) (λ old. t.1 j old) has), t.2)
              (h.mine id me.0 at)
              (same_once s h id me.0 v' at refl)
              (λ j l. slot_stays s id me.0 v' at ws s.homes stay j (there (tn j) (λ e. omega arith)) refl (λ has. has) (h.slots j l)),
          λ j e. (refl, ap (stores me.0) (let a : k ≡ j = omega arith in a)),
        )

    -- what is told once the flag is set
    posted_told : (w : ℕ) → k < length words → slice_index words k ≡ w → (s : St) (h : R s) → get_elem? s.views id ≡ some me.0 → cell s.words k ≡ slice_index words k → Told (marked s k) (unstores (posts me.0 k w Done))
    posted_told w inside is s h at value =
        let t = told_on s.words (marked s k) (marked_stay s h k inside) me.0 (h.told id me.0 at) in (
          (λ j x known. ⊎_elim (λ (q : (k ≡ j) × (w ≡ x)). (subst (λ (n : ℕ). n < length words) q.0 inside, ap (fg (marked s k)) (sym q.0) ∙ marked_here s h k inside, ap (cell (marked s k)) (sym q.0) ∙ marked_value s k k inside ∙ value ∙ is ∙ q.1)) (λ old. t.0 j x old) known),
          (λ j more. t.1 j (has_others me.0.stored j more)),
          t.2,
        )

    -- where the cell was empty no seat had posted to it
    posted_once : (w : ℕ) (s : St) → R s → get_elem? s.views id ≡ some me.0 → fg s.words k ≡ 0 → (j : ℕ) → total_over (own j) (set s.views id (unstores (posts me.0 k w Done))) ≤ 1
    posted_once w s h at empty j =
        let t = total_set (own j) s.views id me.0 (unstores (posts me.0 k w Done)) at in
        let o = h.once j in
        ⊎_elim
        (λ (q : k ≡ j). let z : total_over (own j) s.views ≡ 0 = ap (λ i. total_over (own i) s.views) (sym q) ∙ total_none (own k) s.views nobody in let y = total_at (own j) s.views id me.0 at in let one : times j (k ∷ me.0.mine) ≤ 1 + times j me.0.mine = times_more j k me.0.mine in omega arith)
        (λ (ne : k ≢ j). let same : times j (k ∷ me.0.mine) ≡ times j me.0.mine = times_else j k me.0.mine ne in omega arith)
        (cases_eq k j)
      where
        nobody : (j : ℕ) (u : V) → get_elem? s.views j ≡ some u → own k u ≡ 0
        nobody j u e = ⊎_elim (λ (z : own k u ≡ 0). z) (λ (n : own k u ≢ 0). absurd (let m = h.mine j u e k (omega arith) in let c = (h.told j u e).0 k m.0 m.1 in let d = c.1 in omega arith)) (cases_eq (own k u) 0)

    -- the bit-or of a full word
    posts_keep : (w : ℕ) → k < length words → slice_index words k ≡ w → Has me.0.stored k
        → Allows R slots id me (fl k + 1) (λ n. bit_or n (flag_bit k)) (posted_step list good posted (step slots (fl k + 1) (flag_bit k) 0 none) me)
    posts_keep w inside is has s h _ at _ =
        let mine : me.0.about ≡ Some about = h.knows id me.0 at part in
        let value = ((h.told id me.0 at).1 k has).1 in
        let told = posted_told w inside is s h at value in
        ⊎_elim
        (λ (empty : fg s.words k ≡ 0). let v' = unstores (posts me.0 k w Done) in (
          v',
          keeps,
          tt,
          changed s h id me.0 v' at (refl, refl) part (marked s k) s.homes (length_set s.words (fl k + 1) _) refl (marked_filled s h k inside value) (marked_stay s h k inside) told
              (λ j more. ⊎_elim (λ (q : k ≡ j). (w, inl (q, refl))) (λ (ne : k ≢ j). let old = h.mine id me.0 at j (let same : times j (k ∷ me.0.mine) ≡ times j me.0.mine = times_else j k me.0.mine ne in omega arith) in (old.0, inr old.1)) (cases_eq k j))
              (posted_once w s h at empty)
              (λ j l. slot_stays s id me.0 v' at (marked s k) s.homes (marked_stay s h k inside) j (marked_turn s k inside j) refl (λ has. has) (h.slots j l)),
          λ ab j x ea ek ef ex.
              let b = some_same ab about (sym ea ∙ mine) in
              let q : k ≡ j = same ab j b ek ef in
              (refl, inl (subst (λ m. flag m (cell s.words (fl k)) ≡ 0) q empty, (λ i. unstores (posts me.0 (q i) (word ab j x b q ex i) Done)))),
        ))
        (λ (full : fg s.words k ≡ 1). let v' = unstores (posts me.0 k w (Occupied w)) in (
          v',
          keeps,
          tt,
          changed s h id me.0 v' at (refl, refl) part (marked s k) s.homes (length_set s.words (fl k + 1) _) refl (marked_filled s h k inside value) (marked_stay s h k inside) told
              (λ j more. let old = h.mine id me.0 at j more in (old.0, inr old.1))
              (same_once s h id me.0 v' at refl)
              (λ j l. slot_stays s id me.0 v' at (marked s k) s.homes (marked_stay s h k inside) j (marked_turn s k inside j) refl (λ has. has) (h.slots j l)),
          λ ab j x ea ek ef ex.
              let b = some_same ab about (sym ea ∙ mine) in
              let q : k ≡ j = same ab j b ek ef in
              let wx = word ab j x b q ex in
              (refl, inr (subst (λ m. flag m (cell s.words (fl k)) ≡ 1) q full, (λ i. unstores (posts me.0 (q i) (wx i) (Occupied (wx i)))))),
        ))
        (flag_cases k (cell s.words (fl k)))
      where
        -- the full word and the bit are those of this cell alone
        same : (ab : About W) (j : ℕ) → ab ≡ about → fl k + 1 ≡ length (list ab.world) + full_word j + 1 → flag_bit k ≡ flag_bit j → k ≡ j
        same ab j b ek ef = let l : length (list ab.world) ≡ length words = ap (λ (y : About W). length (list y.world)) b in let m = flag_bit_at k j ef in omega arith

        word : (ab : About W) (j x : ℕ) → ab ≡ about → k ≡ j → slice_index (list ab.world) j ≡ x → w ≡ x
        word ab j x b q ex = sym is ∙ (λ i. slice_index (list (sym b i).world) (q i)) ∙ ex

    pub posts_keep_at : (p m : ℕ) → p ≡ fl k + 1 → m ≡ flag_bit k → (w : ℕ) → k < length words → slice_index words k ≡ w → Has me.0.stored k → Allows R slots id me p (λ n. bit_or n m) (posted_step list good posted (step slots p m 0 none) me)
    posts_keep_at p m e f w inside is has =
        subst (λ q. Allows R slots id me q (λ n. bit_or n m) (posted_step list good posted (step slots q m 0 none) me)) (sym e)
        (subst (λ b. Allows R slots id me (fl k + 1) (λ n. bit_or n b) (posted_step list good posted (step slots (fl k + 1) b 0 none) me)) (sym f) (posts_keep w inside is has))

    -- the load of a full word
    finds_keep : Allows R slots id me (fl k + 1) (λ n. n) (found_step list good posted (step slots (fl k + 1) 0 0 none) me)
    finds_keep s h _ at _ =
        let n : ℕ = cell s.words (fl k) in
        let mine : me.0.about ≡ Some about = h.knows id me.0 at part in
        let t = h.told id me.0 at in
        let v' = finds me.0 (full_word k) n in (
          v',
          keeps,
          tt,
          quiet s h id (fl k + 1) me.0 v' at (refl, refl) part (t.0, t.1, (λ p m j known q one l. ⊎_elim (λ (e : (full_word k ≡ p) × (n ≡ m)). there s j (q ∙ sym e.0) ∙ ap (flag j) e.1 ∙ one) (λ old. t.2 p m j old q one l) known)) (h.mine id me.0 at) refl refl,
          λ ab j ea ek. let q : full_word j ≡ full_word k = same ab j (some_same ab about (sym ea ∙ mine)) ek in
              (refl, ap (λ p. finds me.0 p n) (sym q), λ empty x known. let c = t.0 j x known in let d : flag j n ≡ 1 = sym (there s j q) ∙ c.1 in omega arith),
        )
      where
        same : (ab : About W) (j : ℕ) → ab ≡ about → fl k + 1 ≡ length (list ab.world) + full_word j + 1 → full_word j ≡ full_word k
        same ab j b ek = let l : length (list ab.world) ≡ length words = ap (λ (y : About W). length (list y.world)) b in omega arith

        -- a cell of the same full word
        there : (s : St) (j : ℕ) → full_word j ≡ full_word k → fg s.words j ≡ flag j (cell s.words (fl k))
        there s j q = ap (λ p. flag j (cell s.words (length words + p))) q

    pub finds_keep_at : (p : ℕ) → p ≡ fl k + 1 → Allows R slots id me p (λ n. n) (found_step list good posted (step slots p 0 0 none) me)
    finds_keep_at p e = subst (λ q. Allows R slots id me q (λ n. n) (found_step list good posted (step slots q 0 0 none) me)) (sym e) finds_keep

    -- a pair that is there is added to what was seen
    more_seen : (s : St) → R s → get_elem? s.views id ≡ some me.0 → (w : ℕ) → k < length words → fg s.words k ≡ 1 → cell s.words k ≡ w → In s.words ((k, w) ∷ me.0.seen)
    more_seen s h at w inside full value j x known = ⊎_elim (λ (q : (k ≡ j) × (w ≡ x)). (subst (λ (n : ℕ). n < length words) q.0 inside, ap (fg s.words) (sym q.0) ∙ full, ap (cell s.words) (sym q.0) ∙ value ∙ q.1)) (λ old. (h.told id me.0 at).0 j x old) known

    -- the load of a value
    pub takes_keep : (p n : ℕ) → Knows me.0.found p n → full_word k ≡ p → flag k n ≡ 1 → k < length words → Allows R slots id me (k + 1) (λ n. n) (taken_step list good posted (step slots (k + 1) 0 0 none) me)
    takes_keep p m known word one inside s h _ at _ =
        let n : ℕ = cell s.words k in
        let mine : me.0.about ≡ Some about = h.knows id me.0 at part in
        let t = h.told id me.0 at in
        let full = t.2 p m k known word one inside in
        let value = full_value s h k inside full in
        let v' = unfinds (sees me.0 k n) in (
          v',
          keeps,
          tt,
          quiet s h id (k + 1) me.0 v' at (refl, refl) part
              (more_seen s h at n inside full refl, t.1, (λ p m j none. absurd none))
              (λ j more. let old = h.mine id me.0 at j more in (old.0, inr old.1))
              refl
              refl,
          λ ab j ea ek. let a : k ≡ j = omega arith in let b : ab ≡ about = some_same ab about (sym ea ∙ mine) in (
            refl,
            (λ i. slice_index (list (b i).world) (sym a i)) ∙ sym value,
            (λ i. unfinds (sees me.0 (a i) n)),
            (λ x known. let c = t.0 j x known in sym c.2 ∙ ap (cell s.words) (sym a)),
          ),
        )

  module _ (slots id : ℕ) (me : M) (i : ℕ) (inside : apart * i < slots) (part : 0 < me.0.seats) where
    -- all that a turn word's change leaves as it is
    turned_cell : (ws : List ℕ) (n k : ℕ) → k ≢ tn i → cell (set ws (tn i + 1) n) k ≡ cell ws k
    turned_cell ws n k ne = get_or-set_other ws (tn i + 1) (k + 1) n 0 (λ q. ne (omega arith))

    turned_stay : (ws : List ℕ) (n : ℕ) → Stay ws (set ws (tn i + 1) n)
    turned_stay ws n k l = let a = turned_cell ws n k (λ q. omega arith) in ((λ e. (ap (flag k) (turned_cell ws n (fl k) (λ q. omega arith)) ∙ e, a)), (λ e. a ∙ e))

    turned_else : (ws : List ℕ) (n j : ℕ) → j ≢ i → cell (set ws (tn i + 1) n) (tn j) ≡ cell ws (tn j)
    turned_else ws n j ne = turned_cell ws n (tn j) (λ q. ne (omega arith))

    turned_filled : (ws : List ℕ) (n : ℕ) → Filled ws → Filled (set ws (tn i + 1) n)
    turned_filled ws n h k l =
        let a = turned_cell ws n k (λ q. omega arith) in
        let b = ap (flag k) (turned_cell ws n (fl k) (λ q. omega arith)) in
        ⊎_elim (λ z. inl (b ∙ z)) (λ (z : (fg ws k ≡ 1) × (cell ws k ≡ slice_index words k)). inr (b ∙ z.0, a ∙ z.1)) (h k l)

    turned_here : (s : St) → R s → apart * i < length s.homes → (n : ℕ) → cell (set s.words (tn i + 1) n) (tn i) ≡ n
    turned_here s h here n = get_or-set_same s.words (tn i + 1) n 0 (let z = h.size in omega arith)

    posts_same : (s : St) → R s → (w : V) → get_elem? s.views id ≡ some me.0 → w.mine ≡ me.0.mine → (k : ℕ) → total_over (own k) (set s.views id w) ≤ 1
    posts_same s h w at same k = let t = total_set (own k) s.views id me.0 w at in let o = h.once k in let e : times k w.mine ≡ times k me.0.mine = ap (times k) same in omega arith

    -- where the seat stands for all, it holds each slot that is out
    alone : (s : St) → R s → get_elem? s.views id ≡ some me.0 → IsOut list good posted about s i → me.0.seats ≡ about.seats → Has me.0.out i
    alone s h at away all =
        let id' = away.1.0 in
        ⊎_elim (λ (e : id' ≡ id). let same : me.0 ≡ away.1.1 = some-injective _ _ (sym at ∙ ap (get_elem? s.views) (sym e) ∙ away.1.2) in
        subst (λ (v : V). Has v.out i) (sym same) away.1.3)
        (λ (ne : id' ≢ id). let two = total_two seats_in s.views id id' me.0 away.1.1 (λ e. ne (sym e)) at away.1.2 in
        let sum = h.seats in
        let none_left : away.1.1.seats ≡ 0 = omega arith in
        absurd (subst (λ l. Has l i) (h.idle id' away.1.1 away.1.2 none_left) away.1.3))
        (cases_eq id' id)

    pub outs_keep : Allows R slots id me (tn i + 1) (λ n. either (eqb n 1) 0 n) (out_step list good posted (step slots (tn i + 1) 1 0 none) me)
    outs_keep s h len at _ =
        let n : ℕ = cell s.words (tn i) in
        let here : apart * i < length s.homes = omega arith in
        exchanged n 1 0 (λ m. (u : V) × (a : Act (Option T)) × Valid s.homes me.1 a × R (stepped s (tn i + 1) m id me.1 u a) × out_step list good posted (step slots (tn i + 1) 1 0 none) me n (u, carried_after me.1 a))
        (λ (one : n ≡ 1). hit s h here at one (h.slots i here))
        (λ (not : n ≢ 1). miss s h here at not (h.slots i here))
      where
        same_about : (s : St) → R s → get_elem? s.views id ≡ some me.0 → (ab : About W) → me.0.about ≡ Some ab → ab ≡ about
        same_about s h at ab e = some_same ab about (sym e ∙ h.knows id me.0 at part)

        hit : (s : St) (h : R s) → apart * i < length s.homes → get_elem? s.views id ≡ some me.0 → cell s.words (tn i) ≡ 1 → HomeOrOut s i
            → (u : V) × (a : Act (Option T)) × Valid s.homes me.1 a × R (stepped s (tn i + 1) 0 id me.1 u a) × out_step list good posted (step slots (tn i + 1) 1 0 none) me (cell s.words (tn i)) (u, carried_after me.1 a)
        hit s h here at one (inr away) = absurd (let z = away.0 in omega arith)
        hit s h here at one (inl home) =
            let x = home.1.0 in
            let w = takes_out me.0 i (posted about.world x) in
            let ws = set s.words (tn i + 1) 0 in
            let hs = set s.homes (apart * i) none in (
              w,
              takes (apart * i) (Some x),
              home.1.1,
              changed s h id me.0 w at (refl, refl) part ws hs (length_set s.words (tn i + 1) 0) (length_set s.homes (apart * i) none)
                  (turned_filled s.words 0 h.cells) (turned_stay s.words 0)
                  (let t = told_on s.words ws (turned_stay s.words 0) me.0 (h.told id me.0 at) in (stand_on s.words ws (posted about.world x ++ me.0.seen) (turned_stay s.words 0) (λ k y known. ⊎_elim (λ a. home.1.3 k y a) (λ a. (h.told id me.0 at).0 k y a) (knows_split (posted about.world x) me.0.seen k y known)), t.1, t.2))
                  (λ k more. let o = h.mine id me.0 at k more in (o.0, knows_right (posted about.world x) me.0.seen k o.0 o.1))
                  (posts_same s h w at refl)
                  (λ j less. ⊎_elim
                  (λ (e : j ≡ i). inr (ap (λ (m : ℕ). cell ws (tn m)) e ∙ turned_here s h here 0, (id, w, set_there s.views id me.0 w at, inl (sym e))))
                  (λ (ne : j ≢ i). slot_stays s id me.0 w at ws hs (turned_stay s.words 0) j (turned_else s.words 0 j ne) (set_else s.homes (apart * i) (apart * j) none (λ q. ne (omega arith))) (λ has. inr has) (h.slots j less))
                  (cases_eq j i)),
              λ ab j same e.
                  let b : ab ≡ about = same_about s h at ab same in
                  let q : i ≡ j = (let l : length (list ab.world) ≡ length words = ap (λ (a : About W). length (list a.world)) b in omega arith) in
                  inl (one, (x, subst (good ab.world x) q (subst (λ (a : About W). good a.world x i) (sym b) home.1.2), (λ k. takes_out me.0 (q k) (posted (sym b k).world x)), ap (λ (k : ℕ). (apart * k, Some x) ∷ me.1) q)),
            )

        miss : (s : St) (h : R s) → apart * i < length s.homes → get_elem? s.views id ≡ some me.0 → cell s.words (tn i) ≢ 1 → HomeOrOut s i
            → (u : V) × (a : Act (Option T)) × Valid s.homes me.1 a × R (stepped s (tn i + 1) (cell s.words (tn i)) id me.1 u a) × out_step list good posted (step slots (tn i + 1) 1 0 none) me (cell s.words (tn i)) (u, carried_after me.1 a)
        miss s h here at not (inl home) = absurd (not home.0)
        miss s h here at not (inr away) =
            let w = looks me.0 (length words + i) (cell s.words (tn i)) in (
              w,
              keeps,
              tt,
              quiet s h id (tn i + 1) me.0 w at (refl, refl) part (h.told id me.0 at) (h.mine id me.0 at) refl refl,
              λ ab j same e.
                  let b : ab ≡ about = same_about s h at ab same in
                  let q : i ≡ j = (let l : length (list ab.world) ≡ length words = ap (λ (a : About W). length (list a.world)) b in omega arith) in
                  inr (away.0, ap (λ z. looks me.0 z (cell s.words (tn i))) (let l : length (list ab.world) ≡ length words = ap (λ (a : About W). length (list a.world)) b in let z : length words + i ≡ length (list ab.world) + j = omega arith in z), refl, λ all. subst (λ k. Has me.0.out k) q (alone s h at away (all ∙ ap (λ (a : About W). a.seats) b))),
            )

    pub outs_keep_at : (p : ℕ) → p ≡ tn i + 1 → Allows R slots id me p (λ n. either (eqb n 1) 0 n) (out_step list good posted (step slots p 1 0 none) me)
    outs_keep_at p e = subst (λ q. Allows R slots id me q (λ n. either (eqb n 1) 0 n) (out_step list good posted (step slots q 1 0 none) me)) (sym e) outs_keep

    homes_keep : (x : T) (held : List (ℕ × Option T)) → me.1 ≡ (apart * i, Some x) ∷ held → me.0.out ≡ i ∷ others me.0.out → good about.world x i
        → ((k w : ℕ) → Knows (posted about.world x) k w → Knows me.0.seen k w)
        → Allows R slots id me (tn i + 1) (λ _. 1) (λ _. home_step list good posted (step slots (tn i + 1) 1 0 none) me 1)
    homes_keep x held holds out is_good covers s h len at _ =
        let here : apart * i < length s.homes = omega arith in
        let w = brings_home me.0 in
        let ws = set s.words (tn i + 1) 1 in
        let hs = set s.homes (apart * i) (some (Some x)) in
        let back : homes_after s.homes me.1 gives ≡ hs = ap (λ c. homes_after s.homes c gives) holds in (
          w,
          gives,
          tt,
          subst (λ l. R record { words = ws; homes = l; views = set s.views id w }) (sym back)
              (changed s h id me.0 w at (refl, refl) part ws hs (length_set s.words (tn i + 1) 1) (length_set s.homes (apart * i) (some (Some x)))
              (turned_filled s.words 1 h.cells) (turned_stay s.words 1)
              (told_on s.words ws (turned_stay s.words 1) me.0 (h.told id me.0 at))
              (h.mine id me.0 at)
              (posts_same s h w at refl)
              (λ j less. ⊎_elim
              (λ (e : j ≡ i). inl (ap (λ (m : ℕ). cell ws (tn m)) e ∙ turned_here s h here 1, (x, ap (λ (m : ℕ). get_elem? hs (apart * m)) e ∙ set_here s.homes (apart * i) (some (Some x)) here, subst (good about.world x) (sym e) is_good, stand_on s.words ws (posted about.world x) (turned_stay s.words 1) (λ k y known. (h.told id me.0 at).0 k y (covers k y known)))))
              (λ (ne : j ≢ i). slot_stays s id me.0 w at ws hs (turned_stay s.words 1) j (turned_else s.words 1 j ne) (set_else s.homes (apart * i) (apart * j) (some (Some x)) (λ q. ne (omega arith))) (λ has. ⊎_elim (λ (e : i ≡ j). absurd (ne (sym e))) (λ t. t) (subst (λ l. Has l j) out has)) (h.slots j less))
              (cases_eq j i))),
          (refl, refl),
        )

    pub homes_keep_at : (p : ℕ) → p ≡ tn i + 1 → (x : T) (held : List (ℕ × Option T)) → me.1 ≡ (apart * i, Some x) ∷ held → me.0.out ≡ i ∷ others me.0.out → good about.world x i
        → ((k w : ℕ) → Knows (posted about.world x) k w → Knows me.0.seen k w)
        → Allows R slots id me p (λ _. 1) (λ _. home_step list good posted (step slots p 1 0 none) me 1)
    homes_keep_at p e x held holds out is_good covers = subst (λ q. Allows R slots id me q (λ _. 1) (λ _. home_step list good posted (step slots q 1 0 none) me 1)) (sym e) (homes_keep x held holds out is_good covers)

  -- a seat makes another, which has seen nothing
  pub splits_keep : (id : ℕ) (v : V) → 1 < v.seats → Splits R id v (less_one v) (one_seat v)
  splits_keep id v more s h at =
      let left = less_one v in
      let right = one_seat v in
      let views = set s.views id left in
      let know : v.about ≡ Some about = h.knows id v at (omega arith) in
      record {
        size = h.size;
        cells = h.cells;
        told = λ j u e. ⊎_elim (λ was. ⊎_elim (λ (t : (j ≡ id) × (left ≡ u)). subst (λ (y : V). Told s.words y) t.1 (h.told id v at)) (λ (t : (j ≢ id) × (get_elem? s.views j ≡ some u)). h.told j u t.1) (at_set s.views id j left u was)) (λ (new : right ≡ u). subst (λ (y : V). Told s.words y) new ((λ k x known. absurd known), (λ k has. absurd has), (λ p n k known. absurd known))) (at_snoc views right u j e);
        mine = λ j u e. ⊎_elim (λ was. ⊎_elim (λ (t : (j ≡ id) × (left ≡ u)). subst (λ (y : V). Owns y) t.1 (h.mine id v at)) (λ (t : (j ≢ id) × (get_elem? s.views j ≡ some u)). h.mine j u t.1) (at_set s.views id j left u was)) (λ (new : right ≡ u). subst (λ (y : V). Owns y) new (λ k some_. absurd (omega arith))) (at_snoc views right u j e);
        once = λ k. let t = total_snoc (own k) views right in let r = total_set (own k) s.views id v left at in let o = h.once k in omega arith;
        slots = λ i l. ⊎_elim (λ a. inl a) (λ away. let id' = away.1.0 in inr (
          away.0,
          ⊎_elim (λ (e : id' ≡ id). let same : v ≡ away.1.1 = some-injective _ _ (sym at ∙ ap (get_elem? s.views) (sym e) ∙ away.1.2) in
              (id, left, at_longer views (right ∷ []) id left (set_there s.views id v left at), subst (λ (y : V). Has y.out i) (sym same) away.1.3))
              (λ (ne : id' ≢ id). (id', away.1.1, at_longer views (right ∷ []) id' away.1.1 (set_else s.views id id' left ne ∙ away.1.2), away.1.3)) (cases_eq id' id),
        )) (h.slots i l);
        seats = (let t = total_snoc seats_in views right in let r = total_set seats_in s.views id v left at in let p = h.seats in omega arith);
        idle = λ j u e none. ⊎_elim (λ was. ⊎_elim (λ (t : (j ≡ id) × (left ≡ u)). absurd (let p : v.seats - 1 ≡ 0 = ap seats_in t.1 ∙ none in omega arith)) (λ (t : (j ≢ id) × (get_elem? s.views j ≡ some u)). h.idle j u t.1 none) (at_set s.views id j left u was)) (λ (new : right ≡ u). ap (λ (y : V). y.out) (sym new)) (at_snoc views right u j e);
        knows = λ j u e some_part. ⊎_elim (λ was. ⊎_elim (λ (t : (j ≡ id) × (left ≡ u)). subst (λ (y : V). y.about ≡ Some about) t.1 know) (λ (t : (j ≢ id) × (get_elem? s.views j ≡ some u)). h.knows j u t.1 some_part) (at_set s.views id j left u was)) (λ (new : right ≡ u). subst (λ (y : V). y.about ≡ Some about) new know) (at_snoc views right u j e);
      }

  -- a seat takes in what another knows, which holds no slot
  pub joins_keep : (id : ℕ) (v : V) (other : ℕ) (u : V) → 0 < v.seats → u.out ≡ [] → Joins R id v other u (folds v u) spent
  joins_keep id v other u part free s h at apart there =
      let both = folds v u in
      let views = set s.views id both in
      let gone : V = spent in
      let theirs : get_elem? s.views other ≡ some u = ⊎_elim (λ (t : (other ≡ id) × (both ≡ u)). absurd (apart t.0)) (λ (t : (other ≢ id) × (get_elem? s.views other ≡ some u)). t.1) (at_set s.views id other both u there) in
      let know : v.about ≡ Some about = h.knows id v at part in
      let seen_in : In s.words both.seen = λ k x known. ⊎_elim (λ a. (h.told id v at).0 k x a) (λ b. (h.told other u theirs).0 k x b) (knows_split v.seen u.seen k x known) in
      let mine_in : Owns both = λ k more.
      ⊎_elim (λ (z : times k v.mine ≡ 0). let o = h.mine other u theirs k (let t = times_append k v.mine u.mine in omega arith) in (o.0, knows_right v.seen u.seen k o.0 o.1))
      (λ (ne : times k v.mine ≢ 0). let o = h.mine id v at k (omega arith) in (o.0, knows_left v.seen u.seen k o.0 o.1)) (cases_eq (times k v.mine) 0) in
      record {
        size = h.size;
        cells = h.cells;
        told = λ j y e. each s id v other u (λ y. Told s.words y) ((λ k x known. absurd known), (λ k has. absurd has), (λ p n k known. absurd known)) (seen_in, (h.told id v at).1, (h.told id v at).2) h.told j y e;
        mine = λ j y e. each s id v other u Owns (λ k some_. absurd (omega arith)) mine_in h.mine j y e;
        once = λ k. let a = total_set (own k) s.views id v both at in let b = total_set (own k) views other u gone there in let t = times_append k v.mine u.mine in let o = h.once k in omega arith;
        slots = λ i l. ⊎_elim (λ a. inl a) (λ away. let id' = away.1.0 in inr (
          away.0,
          ⊎_elim (λ (e : id' ≡ id). let same : v ≡ away.1.1 = some-injective _ _ (sym at ∙ ap (get_elem? s.views) (sym e) ∙ away.1.2) in
              (id, both, set_else views other id gone (λ q. apart (sym q)) ∙ set_there s.views id v both at, subst (λ (y : V). Has y.out i) (sym same) away.1.3))
              (λ (ne : id' ≢ id). ⊎_elim (λ (o : id' ≡ other). let same : u ≡ away.1.1 = some-injective _ _ (sym theirs ∙ ap (get_elem? s.views) (sym o) ∙ away.1.2) in absurd (subst (λ l. Has l i) (ap (λ (y : V). y.out) (sym same) ∙ free) away.1.3))
              (λ (no : id' ≢ other). (id', away.1.1, set_else views other id' gone no ∙ set_else s.views id id' both ne ∙ away.1.2, away.1.3)) (cases_eq id' other)) (cases_eq id' id),
        )) (h.slots i l);
        seats = (let a = total_set seats_in s.views id v both at in let b = total_set seats_in views other u gone there in let p = h.seats in omega arith);
        idle = λ j y e. each s id v other u (λ y. y.seats ≡ 0 → y.out ≡ []) (λ z. refl) (λ z. absurd (omega arith)) h.idle j y e;
        knows = λ j y e. each s id v other u (λ y. 0 < y.seats → y.about ≡ Some about) (λ z. absurd (omega arith)) (λ z. know) h.knows j y e;
      }
    where
      -- what holds of the two and of each other view, holds of each
      each : (s : St) (id : ℕ) (v : V) (other : ℕ) (u : V) (P : V → Type 0) → P spent → P (folds v u) → ((j : ℕ) (y : V) → get_elem? s.views j ≡ some y → P y)
          → (j : ℕ) (y : V) → get_elem? (set (set s.views id (folds v u)) other spent) j ≡ some y → P y
      each s id v other u P at_spent at_both at_rest j y e =
          ⊎_elim (λ (t : (j ≡ other) × (spent ≡ y)). subst P t.1 at_spent)
          (λ (t : (j ≢ other) × (get_elem? (set s.views id (folds v u)) j ≡ some y)). ⊎_elim (λ (r : (j ≡ id) × (folds v u ≡ y)). subst P r.1 at_both) (λ (r : (j ≢ id) × (get_elem? s.views j ≡ some y)). at_rest j y r.1) (at_set s.views id j (folds v u) y t.1))
          (at_set (set s.views id (folds v u)) other j spent y e)
