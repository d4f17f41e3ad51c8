-- What posts and takes change, and that all stays as it must be.
use Rattle.std.proofs.Common.{◌≡◌, ◌≢◌, ℕ, zero, suc, ◌+◌, ◌%◌, ◌<◌, ◌≤◌, ◌^◌, Bool, true, false, List, [], ◌∷◌, length, get_or, set, map, Option, Some, None, Result, Ok, Err, refl, sym, ap, ap₂, ◌∙◌, subst, arith, inl, inr, ⊎_elim}
use Rattle.std.specs.Prelude.{slice_index, slice_index_or, is_err, ◌==◌, OnOk}
use Rattle.std.proofs.lemmas.Bool.{cases_eq, cases_Bool, cond-true, cond-false, false≢true}
use Rattle.std.proofs.lemmas.Bool.Decides.{nat_tests}
use Rattle.std.proofs.Math.ListN.{length-set, length-map}
use mathlib.Core.Logic.{inl as left', inr as right'}
use Rattle.message_board.specs.Pairs.{Knows}
use Rattle.message_board.specs.Plain.{CellContents, plain_cell, plain_put}
use Rattle.message_board.proofs.CellPosts.{cell_set_same, put_is, put_length, put_keeps, put_new, put_full}
use Rattle.inbox_board.specs.declared.steps.InboxView.{InboxView}
use Rattle.inbox_board.specs.Rule.{notes, total_after}
use Rattle.inbox_board.specs.Seats.{Looks, mark_as}
use Rattle.plan_model.specs.Messages.{messages}
use Rattle.plan_model.specs.Numbers.{message}
use Rattle.outer_io.specs.Outlet.{OutletReading, Sends, Flushes}
use Rattle.outer_io.specs.Sink.{Writes}
use Rattle.outer_io.specs.declared.sink.Failed.{Failed}
use Rattle.node_talk.specs.PeerLinks.{place_among, no_outlet}
use Rattle.link_reader.proofs.ExpectedMessages.{between_parties}
use Rattle.node_run.specs.Mail.{Mail, BoxModel, no_box, box_of, IsRead, IsMail, SentTo, FlushedTo, failed_after, ComesFromPeer, MayTake, TakesWord, TakesFrom, Looked, LookedAtMark, NeverComes}
use Rattle.node_run.proofs.KnownWords.{cell_there}

-- ---- places

pub places_differ : (p q r : ℕ) → q ≢ p → r ≢ p → r ≢ q → place_among p r ≢ place_among p q
places_differ p q r nq nr ne = grind (arith, nat_tests)

pub place_within : (p q parties n : ℕ) → q < parties → q ≢ p → p < parties → n + 1 ≡ parties → place_among p q < n
place_within p q parties n lq nq lp is = grind (arith, nat_tests)

module _ {A R : Type 0} (f : A → R) where
  set_here : (xs : List A) (j : ℕ) (x : A) (d : R) → j < length xs → slice_index_or (map f (set xs j x)) j d ≡ f x
  set_here [] j x d l = absurd (omega arith)
  set_here (y ∷ xs) zero x d l = refl
  set_here (y ∷ xs) (suc j) x d l = set_here xs j x d (omega arith)

  set_there : (xs : List A) (j k : ℕ) (x : A) (d : R) → k ≢ j → slice_index_or (map f (set xs j x)) k d ≡ slice_index_or (map f xs) k d
  set_there [] j k x d ne = refl
  set_there (y ∷ xs) zero zero x d ne = absurd (ne refl)
  set_there (y ∷ xs) zero (suc k) x d ne = refl
  set_there (y ∷ xs) (suc j) zero x d ne = refl
  set_there (y ∷ xs) (suc j) (suc k) x d ne = set_there xs j k x d (λ e. ne (ap suc e))

  pub read_here : (xs : List A) (j : ℕ) (a : A) (d : R) → j < length xs → slice_index_or (map f xs) j d ≡ f (get_or xs j a)
  read_here [] j a d l = absurd (omega arith)
  read_here (y ∷ xs) zero a d l = refl
  read_here (y ∷ xs) (suc j) a d l = read_here xs j a d (omega arith)

  -- an element that shows the same
  pub set_same : (xs : List A) (j : ℕ) (x a : A) → f x ≡ f (get_or xs j a) → map f (set xs j x) ≡ map f xs
  set_same [] j x a e = refl
  set_same (y ∷ xs) zero x a e = ap (λ z. z ∷ map f xs) e
  set_same (y ∷ xs) (suc j) x a e = ap (λ z. f y ∷ z) (set_same xs j x a e)

box_here : (xs : List BoxModel) (j : ℕ) (x d : BoxModel) → j < length xs → slice_index_or (set xs j x) j d ≡ x
box_here [] j x d l = absurd (omega arith)
box_here (y ∷ xs) zero x d l = refl
box_here (y ∷ xs) (suc j) x d l = box_here xs j x d (omega arith)

box_there : (xs : List BoxModel) (j k : ℕ) (x d : BoxModel) → k ≢ j → slice_index_or (set xs j x) k d ≡ slice_index_or xs k d
box_there [] j k x d ne = refl
box_there (y ∷ xs) zero zero x d ne = absurd (ne refl)
box_there (y ∷ xs) zero (suc k) x d ne = refl
box_there (y ∷ xs) (suc j) zero x d ne = refl
box_there (y ∷ xs) (suc j) (suc k) x d ne = box_there xs j k x d (λ e. ne (ap suc e))

box_read : (xs : List BoxModel) (j : ℕ) (a d : BoxModel) → j < length xs → slice_index_or xs j d ≡ get_or xs j a
box_read [] j a d l = absurd (omega arith)
box_read (y ∷ xs) zero a d l = refl
box_read (y ∷ xs) (suc j) a d l = box_read xs j a d (omega arith)

-- ---- messages

pub peer_kept : (c : Mail) (d : Mail) (m : ℕ) → d ≡ record c { words = d.words; boxes = d.boxes } → ComesFromPeer c m → ComesFromPeer d m
peer_kept c d m rest from = subst (λ (z : Mail). ComesFromPeer z m) (sym rest) (record { there = from.there; receiver = from.receiver; sender = from.sender })

-- ---- a send

module _ (c : Mail) (mail : IsMail c) where
  pub with_outlets : (xs : List OutletReading) (o : Option ℕ) → length xs ≡ length c.outlets → IsMail (record c { outlets = xs; failed = o })
  with_outlets xs o same = record {
    sound = mail.sound;
    me = mail.me;
    outlets = ap (λ z. z + 1) same ∙ mail.outlets;
    boxes = mail.boxes;
    cells = mail.cells;
    bits = mail.bits;
    places = mail.places;
    placed = λ m from. mail.placed m (record { there = from.there; receiver = from.receiver; sender = from.sender });
    room = λ m from. mail.room m (record { there = from.there; receiver = from.receiver; sender = from.sender });
    read = λ m v from e.
        let r = mail.read m v (record { there = from.there; receiver = from.receiver; sender = from.sender }) e in
        record { there = r.there; found = r.found; known = r.known; reduced = r.reduced };
  }

  module _ {O : Type 0} (f : O → OutletReading) (outs : List O) (shows : c.outlets ≡ map f outs) (j : ℕ) (x : O) where
    pub same_count : length (map f (set outs j x)) ≡ length c.outlets
    same_count = length-map (set outs j x) f ∙ length-set outs j x ∙ sym (length-map outs f) ∙ sym (ap length shows)

    pub sent_to : (q : ℕ) → q < c.plan.parties → q ≢ c.me → j ≡ place_among c.me q → (old : O) → old ≡ get_or outs j old → (bytes : List ℕ) (r : Result (Unit {0}) Failed) → Sends bytes (f old) (f x) r
        → (o : Option ℕ) → o ≡ failed_after q r c.failed → SentTo q bytes c (record c { outlets = map f (set outs j x); failed = o })
    sent_to q lq nq at old is bytes r w o kept =
        let within : j < length outs = (let a = place_within c.me q c.plan.parties (length c.outlets) lq nq mail.me mail.outlets in let b : length c.outlets ≡ length outs = ap length shows ∙ length-map outs f in omega arith) in
        record {
          result = r;
          writes =
              subst (λ z. Writes bytes z.sink (slice_index_or (map f (set outs j x)) (place_among c.me q) no_outlet).sink r) (sym (ap₂ (λ xs k. slice_index_or xs k no_outlet) shows (sym at) ∙ read_here f outs j old no_outlet within ∙ ap f (sym is)))
              (subst (λ z. Writes bytes (f old).sink z.sink r) (sym (ap (λ k. slice_index_or (map f (set outs j x)) k no_outlet) (sym at) ∙ set_here f outs j x no_outlet within)) w.writes);
          others = λ p lp np ne. set_there f outs j (place_among c.me p) x no_outlet (λ e. places_differ c.me q p nq np ne (e ∙ at)) ∙ ap (λ xs. slice_index_or xs (place_among c.me p) no_outlet) (sym shows);
          rest = ap (λ z. record c { outlets = map f (set outs j x); failed = z }) kept;
        }

  module _ {O : Type 0} (f : O → OutletReading) (outs : List O) (shows : c.outlets ≡ map f outs) (j : ℕ) (x : O) where
    pub flushed_to : (q : ℕ) → q < c.plan.parties → q ≢ c.me → j ≡ place_among c.me q → (old : O) → old ≡ get_or outs j old → (r : Result (Unit {0}) Failed) → Flushes (f old) (f x) r
        → (o : Option ℕ) → o ≡ failed_after q r c.failed → FlushedTo q c (record c { outlets = map f (set outs j x); failed = o })
    unfolding sent_to
    flushed_to q lq nq at old is r w o kept =
        let within : j < length outs = (let a = place_within c.me q c.plan.parties (length c.outlets) lq nq mail.me mail.outlets in let b : length c.outlets ≡ length outs = ap length shows ∙ length-map outs f in omega arith) in
        record {
          sent = sent_to f outs shows j x q lq nq at old is [] r w.sends o kept;
          out = out_now r (f x) (slice_index_or (map f (set outs j x)) (place_among c.me q) no_outlet) (ap (λ k. slice_index_or (map f (set outs j x)) k no_outlet) (sym at) ∙ set_here f outs j x no_outlet within) w.out;
        }
      where
        out_now : (r : Result (Unit {0}) Failed) (a b : OutletReading) → b ≡ a → OnOk r (a.holds ≡ false) → OnOk r (b.holds ≡ false)
        out_now (Ok u) a b same none = ap (λ z. z.holds) same ∙ none
        out_now (Err e) a b same none = tt

pub kept_err : (q : ℕ) (r : Result (Unit {0}) Failed) (before : Option ℕ) → is_err r ≡ true → Some q ≡ failed_after q r before
kept_err q (Ok u) before e = absurd (false≢true e)
kept_err q (Err f) before e = refl

pub kept_ok : (q : ℕ) (r : Result (Unit {0}) Failed) (before : Option ℕ) → is_err r ≡ false → before ≡ failed_after q r before
kept_ok q (Ok u) before e = refl
kept_ok q (Err f) before e = absurd (false≢true (sym e))

-- ---- a look into an inbox

pub looks_grow : (v u : InboxView) (place : ℕ) (r : Option ℕ) → Looks v place r u → (p w : ℕ) → Knows v.seen p w → Knows u.seen p w
looks_grow v u place None h p w k = subst (λ (z : InboxView). Knows z.seen p w) (sym h.2) k
looks_grow v u place (Some x) h p w k = subst (λ (z : InboxView). Knows z.seen p w) (sym h.2) (inr k)

pub looks_found : (v u : InboxView) (place : ℕ) (w : ℕ) (r : Option ℕ) → r ≡ Some w → Looks v place r u → Knows u.seen place w
looks_found v u place w None e h = absurd (let f : None ≡ Some w = e in cc)
looks_found v u place w (Some x) e h = let same : x ≡ w = cc in subst (λ (z : InboxView). Knows z.seen place w) (sym h.2) (inl (refl, same))

pub notes_grow : (v u : InboxView) (mark : ℕ) → u ≡ notes v mark → (p w : ℕ) → Knows v.seen p w → Knows u.seen p w
notes_grow v u mark is p w k = subst (λ (z : InboxView). Knows z.seen p w) (sym is) k

module _ (c : Mail) (mail : IsMail c) (m : ℕ) (may : ComesFromPeer c m) (j : ℕ) (at : j ≡ place_among c.me (message c.plan m).sender) (b b' : BoxModel) (is : b ≡ get_or c.boxes j b) (same : b' ≡ record b { view = b'.view })
    (grows : (p w : ℕ) → Knows b.view.seen p w → Knows b'.view.seen p w) where
  within_boxes : j < length c.boxes
  within_boxes = let p = between_parties c.plan mail.sound m may.there in let a = place_within c.me (message c.plan m).sender c.plan.parties (length c.boxes) p.sender may.sender mail.me mail.boxes in omega arith

  abbrev now : Mail
  now = record c { boxes = set c.boxes j b' }

  pub sender_box : box_of (record c { boxes = set c.boxes j b' }) (message c.plan m).sender ≡ b'
  sender_box = ap (λ z. slice_index_or (set c.boxes j b') z no_box) (sym at) ∙ box_here c.boxes j b' no_box within_boxes

  -- each box has as many places as before, and knows at least as much
  box_grows : (q : ℕ) → ((box_of now q).places ≡ (box_of c q).places) × ((p w : ℕ) → Knows (box_of c q).view.seen p w → Knows (box_of now q).view.seen p w)
  box_grows q = elim (cases_eq (place_among c.me q) j) [
    | left' e ↦
        let new : box_of now q ≡ b' = ap (λ z. slice_index_or (set c.boxes j b') z no_box) e ∙ box_here c.boxes j b' no_box within_boxes in
        let old : box_of c q ≡ b = ap (λ z. slice_index_or c.boxes z no_box) e ∙ box_read c.boxes j b no_box within_boxes ∙ sym is in (
          ap (λ (z : BoxModel). z.places) new ∙ ap (λ (z : BoxModel). z.places) same ∙ sym (ap (λ (z : BoxModel). z.places) old),
          λ p w k. subst (λ (z : BoxModel). Knows z.view.seen p w) (sym new) (grows p w (subst (λ (z : BoxModel). Knows z.view.seen p w) old k)),
        )
    | right' ne ↦
        let alike : box_of now q ≡ box_of c q = box_there c.boxes j (place_among c.me q) b' no_box ne in
        (ap (λ (z : BoxModel). z.places) alike, λ p w k. subst (λ (z : BoxModel). Knows z.view.seen p w) (sym alike) k)
  ]

  pub same_ids : map (λ (z : BoxModel). z.id) (set c.boxes j b') ≡ map (λ (z : BoxModel). z.id) c.boxes
  same_ids = set_same (λ (z : BoxModel). z.id) c.boxes j b' b (ap (λ (z : BoxModel). z.id) same ∙ ap (λ (z : BoxModel). z.id) is)

  pub with_boxes : IsMail (record c { boxes = set c.boxes j b' })
  with_boxes = record {
    sound = mail.sound;
    me = mail.me;
    outlets = mail.outlets;
    boxes = ap (λ z. z + 1) (length-set c.boxes j b') ∙ mail.boxes;
    cells = mail.cells;
    bits = mail.bits;
    places = mail.places;
    placed = λ r from. mail.placed r (record { there = from.there; receiver = from.receiver; sender = from.sender });
    room = λ r from.
        let a = mail.room r (record { there = from.there; receiver = from.receiver; sender = from.sender }) in
        let e = (box_grows (message c.plan r).sender).0 in
        omega (arith, a, e);
    read = λ r v from e. let x = mail.read r v (record { there = from.there; receiver = from.receiver; sender = from.sender }) e in record { there = x.there; found = x.found; known = (box_grows (message c.plan r).sender).1 (slice_index c.places r) x.found x.known; reduced = x.reduced };
  }

  -- the sender's box before
  sender_was : box_of c (message c.plan m).sender ≡ b
  sender_was = ap (λ z. slice_index_or c.boxes z no_box) (sym at) ∙ box_read c.boxes j b no_box within_boxes ∙ sym is

  other_boxes : (q : ℕ) → q ≢ c.me → q ≢ (message c.plan m).sender → box_of now q ≡ box_of c q
  other_boxes q nq ne = box_there c.boxes j (place_among c.me q) b' no_box (λ e. places_differ c.me (message c.plan m).sender q may.sender nq ne (e ∙ at))

  pub looked : (place : ℕ) → place ≡ slice_index c.places m → (answer : Option ℕ) → Looks b.view place answer b'.view → Looked c m answer (record c { boxes = set c.boxes j b' })
  looked place there answer looks = record {
    rest = refl;
    ids = same_ids;
    looks = subst (λ (z : BoxModel). Looks z.view (slice_index c.places m) answer (box_of now (message c.plan m).sender).view) (sym sender_was)
        (subst (λ (z : BoxModel). Looks b.view (slice_index c.places m) answer z.view) (sym sender_box) (subst (λ k. Looks b.view k answer b'.view) there looks));
    others = other_boxes;
  }

  pub looked_at_mark : (answer : Option Bool) → b'.view ≡ notes b.view b'.view.noted → answer ≡ mark_as b'.view.noted → LookedAtMark c m answer (record c { boxes = set c.boxes j b' })
  looked_at_mark answer noted told = record {
    rest = refl;
    ids = same_ids;
    found = b'.view.noted;
    answers = told;
    noted = ap (λ (z : BoxModel). z.view) sender_box ∙ noted ∙ ap (λ (z : BoxModel). notes z.view b'.view.noted) (sym sender_was);
    others = other_boxes;
  }

-- a mark that tells a fault is that of one
pub fault_noted : (c d : Mail) (m : ℕ) → LookedAtMark c m (Some true) d → (box_of d (message c.plan m).sender).view.noted ≡ 2
fault_noted c d m h = ap (λ (v : InboxView). v.noted) h.noted ∙ fault_is h.found (sym h.answers)
  where
    some_same : (a b : Bool) → Some a ≡ Some b → a ≡ b
    some_same a b f = cc

    is_two : (x : ℕ) → (x == 2) ≡ true → x ≡ 2
    is_two x f = grind (arith, nat_tests)

    fault_is : (x : ℕ) → mark_as x ≡ Some true → x ≡ 2
    fault_is x e = elim (cases_Bool (x == 0)) [
      | left' zero' ↦ absurd (let f : None ≡ Some true = sym (cond-true (x == 0) None (Some (x == 2)) zero') ∙ e in cc)
      | right' some ↦ is_two x (some_same (x == 2) true (sym (cond-false (x == 0) None (Some (x == 2)) some) ∙ e))
    ]

-- a look after the mark of a fault that didn't find the word
total_of : (noted n : ℕ) (known : Option ℕ) → noted ≡ 2 → total_after noted n known ≡ Some n
total_of zero n known e = absurd (omega arith)
total_of (suc noted) n known e = refl

pub never_comes : (c d : Mail) (m : ℕ) → (message c.plan m).sender ≢ c.me → (box_of c (message c.plan m).sender).view.noted ≡ 2 → Looked c m None d → NeverComes d m
never_comes c d m other noted h =
    let before : InboxView = (box_of c (message c.plan m).sender).view in
    record {
      peer = subst (λ (z : Mail). (message z.plan m).sender ≢ z.me) (sym h.rest) other;
      ended = subst (λ (z : Mail). (box_of d (message z.plan m).sender).view.noted ≡ 2) (sym h.rest) (ap (λ (v : InboxView). v.noted) h.looks.2 ∙ noted);
      total = h.looks.0;
      found = subst (λ (z : Mail). (box_of d (message z.plan m).sender).view.total ≡ Some h.looks.0) (sym h.rest) (ap (λ (v : InboxView). v.total) h.looks.2 ∙ total_of before.noted h.looks.0 before.total noted);
      few = subst (λ (z : Mail). h.looks.0 ≤ slice_index z.places m) (sym h.rest) h.looks.1;
    }

-- ---- a word that is kept

-- a post to a full cell changes nothing
pub put_again : (cells : List (Option ℕ)) (m v : ℕ) → plain_cell cells m ≡ Some v → plain_put cells m v ≡ cells
put_again cells m v e = ⊎_elim
    (λ (a : (plain_cell cells m ≡ None) × (plain_put cells m v ≡ set cells m (Some v))). absurd (let f : None ≡ Some v = sym a.0 ∙ e in cc))
    (λ (b : (y : ℕ) × (plain_cell cells m ≡ Some y) × (plain_put cells m v ≡ cells)). b.2)
    (put_is cells m v (cell_there cells m v e))

-- the cell of a post is full
pub put_some : (cells : List (Option ℕ)) (m v : ℕ) → m < length cells → (w : ℕ) × (plain_cell (plain_put cells m v) m ≡ Some w)
put_some cells m v l = ⊎_elim
    (λ (a : (plain_cell cells m ≡ None) × (plain_put cells m v ≡ set cells m (Some v))). (v, ap (λ z. plain_cell z m) a.1 ∙ cell_set_same cells m v l))
    (λ (b : (y : ℕ) × (plain_cell cells m ≡ Some y) × (plain_put cells m v ≡ cells)). (b.0, ap (λ z. plain_cell z m) b.2 ∙ b.1))
    (put_is cells m v l)

-- a word that was found in the sender's inbox, as a number of the ring
pub is_read : (c : Mail) (m found v : ℕ) → ComesFromPeer c m → Knows (box_of c (message c.plan m).sender).view.seen (slice_index c.places m) found → v ≡ found % 2 ^ c.plan.bits → ComesFromPeer c m → IsRead c m v
is_read c m found v may known is from = record { there = may.there; found = found; known = known; reduced = is }

module _ (c : Mail) (mail : IsMail c) (m v : ℕ) (there : m < length (messages c.plan)) (read : ComesFromPeer c m → IsRead c m v) (now : CellContents) (put : now ≡ record c.words { cells = plain_put c.words.cells m v }) where
  lm : m < length c.words.cells
  lm = let b = mail.cells in omega (arith, there, b)

  pub cells_are : now.cells ≡ plain_put c.words.cells m v
  cells_are = ap (λ z. z.cells) put

  pub word_count : length now.cells ≡ length c.words.cells
  word_count = ap length cells_are ∙ put_length c.words.cells m v lm

  pub with_word : IsMail (record c { words = now })
  with_word = record {
    sound = mail.sound;
    me = mail.me;
    outlets = mail.outlets;
    boxes = mail.boxes;
    cells = word_count ∙ mail.cells;
    bits = ap (λ z. z.bits) put ∙ mail.bits;
    places = mail.places;
    placed = λ r from. mail.placed r (record { there = from.there; receiver = from.receiver; sender = from.sender });
    room = λ r from. mail.room r (record { there = from.there; receiver = from.receiver; sender = from.sender });
    read = λ r x from e. ⊎_elim
        (λ old. let y = mail.read r x (record { there = from.there; receiver = from.receiver; sender = from.sender }) old in record { there = y.there; found = y.found; known = y.known; reduced = y.reduced })
        (λ (new : (r ≡ m) × (x ≡ v)).
        let y = read (subst (ComesFromPeer c) new.0 (record { there = from.there; receiver = from.receiver; sender = from.sender })) in
        subst (λ z. IsRead (record c { words = now }) z x) (sym new.0) (record { there = y.there; found = y.found; known = y.known; reduced = new.1 ∙ y.reduced }))
        (put_new c.words.cells m v r x lm (ap (λ z. plain_cell z r) (sym cells_are) ∙ e));
  }

  pub word_kept : plain_cell c.words.cells m ≡ None → plain_cell now.cells m ≡ Some v
  word_kept empty = ap (λ z. plain_cell z m) cells_are ∙ put_full c.words.cells m v lm (λ x e. absurd (let f : None ≡ Some x = sym empty ∙ e in cc))

  pub words_stay : (r x : ℕ) → plain_cell c.words.cells r ≡ Some x → plain_cell now.cells r ≡ Some x
  words_stay r x e = ap (λ z. plain_cell z r) cells_are ∙ put_keeps c.words.cells m v r x lm e

-- ---- tables

any_default : (xs : List ℕ) (k d : ℕ) → k < length xs → slice_index_or xs k d ≡ slice_index xs k
any_default [] k d l = absurd (omega arith)
any_default (x ∷ xs) zero d l = refl
any_default (x ∷ xs) (suc k) d l = any_default xs k d (omega arith)

pub place_there : (c : Mail) → IsMail c → (m : ℕ) → ComesFromPeer c m → (x : ℕ) → x ≡ slice_index_or c.places m x → x ≡ slice_index c.places m
place_there c mail m may x is = is ∙ any_default c.places m x (let a = may.there in let b = mail.places in omega arith)

-- ---- takes

pub takes_known : (c : Mail) (m v : ℕ) → plain_cell c.words.cells m ≡ Some v → TakesWord c m (Some v) c
takes_known c m v e = record {
  rest = refl;
  answers = (e, sym (put_again c.words.cells m v e));
  from = subst (λ o. TakesFrom c m o (Some v) c) (sym e) (refl, refl);
  count = refl;
  ids = refl;
}

-- what a look found, over the words that were kept
look_over : (c d : Mail) (m : ℕ) (a : Option ℕ) → Looked c m a d → Looked c m a (record d { words = c.words })
look_over c d m a h = subst (Looked c m a) (ap (λ z. record d { words = z }) (ap (λ (z : Mail). z.words) h.rest)) h

pub takes_nothing : (c d : Mail) (m : ℕ) → plain_cell c.words.cells m ≡ None → Looked c m None d → TakesWord c m None d
takes_nothing c d m e h = record {
  rest = h.rest ∙ ap (λ z. record c { words = z; boxes = d.boxes }) (sym (ap (λ z. z.words) h.rest));
  answers = ap (λ z. z.words.cells) h.rest;
  from = subst (λ o. TakesFrom c m o None d) (sym e) (None, look_over c d m None h, refl);
  count = ap (λ z. length z.words.cells) h.rest;
  ids = h.ids;
}

pub takes_found : (c d : Mail) (m found v : ℕ) (kept : CellContents) → plain_cell c.words.cells m ≡ None → v ≡ found % 2 ^ c.plan.bits → Looked c m (Some found) d → length kept.cells ≡ length d.words.cells
    → plain_cell kept.cells m ≡ Some v → kept.cells ≡ plain_put d.words.cells m v → TakesWord c m (Some v) (record d { words = kept })
takes_found c d m found v kept e reduced h count is put = record {
  rest = ap (λ (z : Mail). record z { words = kept }) h.rest;
  answers = (is, put ∙ ap (λ (z : Mail). plain_put z.words.cells m v) h.rest);
  from = subst (λ o. TakesFrom c m o (Some v) (record d { words = kept })) (sym e) (Some found, look_over c d m (Some found) h, ap Some reduced);
  count = count ∙ ap (λ (z : Mail). length z.words.cells) h.rest;
  ids = h.ids;
}

-- what holds of what was before, under another name
pub before_as : (P : Mail → Mail → Type 0) (a b d : Mail) → a ≡ b → P a d → P b d
before_as P a b d e h = subst (λ (z : Mail). P z d) e h

pub no_word : (o : Option ℕ) → ((v : ℕ) → o ≡ Some v → ⊥) → o ≡ None
no_word None h = refl
no_word (Some v) h = absurd (h v refl)

pub looked_may : (c d : Mail) (m : ℕ) (a : Option ℕ) → Looked c m a d → ComesFromPeer c m → ComesFromPeer d m
looked_may c d m a h may = subst (λ (z : Mail). ComesFromPeer z m) (sym h.rest) (record { there = may.there; receiver = may.receiver; sender = may.sender })

-- what might be taken may still be, where no word is lost
pub still_may : (c d : Mail) (m : ℕ) (a : Option ℕ) → Looked c m a d → (r : ℕ) → MayTake c r → (now : CellContents) → ((x : ℕ) → plain_cell c.words.cells r ≡ Some x → plain_cell now.cells r ≡ Some x) → MayTake (record d { words = now }) r
still_may c d m a h r may now keeps =
    subst (λ (z : Mail). MayTake (record z { words = now }) r) (sym h.rest) (record { there = may.there; receiver = may.receiver; kept = λ own. let v = may.kept own in (v.0, keeps v.0 v.1) })

-- a message to the party whose word isn't kept is a peer's
pub missing_peer : (c : Mail) (m : ℕ) → MayTake c m → plain_cell c.words.cells m ≡ None → ComesFromPeer c m
missing_peer c m may empty = record {
  there = may.there;
  receiver = may.receiver;
  sender = λ own. let v = may.kept own in (let f : None ≡ Some v.0 = sym empty ∙ v.1 in cc);
}

pub looked_known : (c d : Mail) (m w : ℕ) → Looked c m (Some w) d → Knows (box_of d (message d.plan m).sender).view.seen (slice_index d.places m) w
looked_known c d m w h = subst (λ (z : Mail). Knows (box_of d (message z.plan m).sender).view.seen (slice_index z.places m) w) (sym h.rest) (looks_found (box_of c (message c.plan m).sender).view (box_of d (message c.plan m).sender).view (slice_index c.places m) w (Some w) refl h.looks)
