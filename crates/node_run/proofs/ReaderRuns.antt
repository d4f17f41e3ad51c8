-- How a run with its readers is put together.
use Rattle.std.proofs.Common.{◌≡◌, true, ◌⊎◌, ℕ, zero, suc, ◌+◌, ◌-◌, ◌<◌, List, [], ◌∷◌, ◌++◌, length, take, refl, sym, ap, ◌∙◌, subst, arith, map, Option, Some, None, inl as left', inr as right', ⊎_elim}
use Rattle.std.specs.Prelude.{◌==◌, slice_index_or, is_err, IsOk, IsTrue, Result, Ok, Err, remove}
use Rattle.std.proofs.lemmas.List.{length-take-le}
use Rattle.std.proofs.lemmas.Bool.{false≢true}
use Rattle.std.proofs.lemmas.Bool.Decides.{nat_tests}
use Rattle.std.proofs.Math.ListN.{length-map}
use mathlib.Core.Logic.{inl, inr}
use Rattle.std.specs.List.{list_all}
use Rattle.outer_io.proofs.NetRefusals.{both_true}
use Rattle.outer_io.specs.Outlet.{shut_outlet}
use Rattle.atomic_table.specs.Seated.{TableId}
use Rattle.inbox_board.specs.Rule.{newcomer, ends}
use Rattle.inbox_board.specs.Seats.{mark_of}
use Rattle.inbox_board.specs.Folds.{pushed, GotWhatWasPushed}
use Rattle.party_desk.specs.declared.desk.Desk.{Desk}
use Rattle.outer_io.specs.Count.{Rose}
use Rattle.outer_io.specs.Inlet.{InletReading, shut_inlet}
use Rattle.outer_io.specs.Jobs.{SpawnerReading, Starts}
use Rattle.node_talk.specs.declared.fault.NodeFault.{NodeFault}
use Rattle.node_talk.specs.Talks.{Node, IsPeer}
use Rattle.link_reader.specs.ReadWords.{ReadsWords, ReaderModel, HasRead, Works, WorksFrom}
use Rattle.link_reader.specs.Heard.{KeepsCalm}
use Rattle.link_reader.specs.NodeReaders.{incoming}
use Rattle.node_run.specs.Mail.{Mail, IsMail, BoxModel, NothingWaits, no_box}
use Rattle.node_run.specs.Progress.{Begin, IsOf, Going, InOrder, Halted, ids_of}
use Rattle.node_run.specs.Remains.{ReaderPartsModel, RemainsModel, party_at, IsFor, MayRun, PeerEnd, first_of, after_outcome, AllKeepCalm, ReadBy, EndsAtRefusal, SpawnerStays, EndsAs, Remained}
use Rattle.node_run.proofs.ClosedLinks.{calm_same, all_shut, inlets_closed, still_out}
use Rattle.link_reader.proofs.ShutInlets.{calm_shut, reads_shut}
use Rattle.link_reader.specs.Expected.{TalkModel}

-- ---- lists

module _ {A : Type 0} where
  pub first_of_rest : (xs : List A) (x : A) → 0 < length xs → x ≡ slice_index_or xs 0 x → xs ≡ x ∷ remove xs 0
  first_of_rest [] x l e = absurd (omega arith)
  first_of_rest (y ∷ xs) x l e = ap (λ z. z ∷ xs) (sym e)

  take_first : (n : ℕ) (xs : List A) → take n (take (suc n) xs) ≡ take n xs
  take_first zero xs = refl
  take_first (suc n) [] = refl
  take_first (suc n) (x ∷ xs) = ap (λ l. x ∷ l) (take_first n xs)

  in_first : (n k : ℕ) (xs : List A) (d : A) → k < n → slice_index_or (take n xs) k d ≡ slice_index_or xs k d
  in_first zero k xs d l = absurd (omega arith)
  in_first (suc n) k [] d l = refl
  in_first (suc n) zero (x ∷ xs) d l = refl
  in_first (suc n) (suc k) (x ∷ xs) d l = in_first n k xs d (omega arith)

  pub whole_first : (xs ys : List A) (k : ℕ) → length xs ≡ k → take k (xs ++ ys) ≡ xs
  whole_first [] ys zero e = refl
  whole_first [] ys (suc k) e = absurd (omega (arith, e))
  whole_first (x ∷ xs) ys zero e = absurd (omega (arith, e))
  whole_first (x ∷ xs) ys (suc k) e = ap (λ l. x ∷ l) (whole_first xs ys k (omega (arith, e)))

pub none_left : (n : ℕ) → (n == 0) ≡ true → n ≡ 0
none_left zero e = refl
none_left (suc n) e = grind (arith, nat_tests)

pub id_of : (xs : List BoxModel) (k : ℕ) → (slice_index_or xs k no_box).id ≡ slice_index_or (ids_of xs) k no_box.id
id_of [] zero = refl
id_of [] (suc k) = refl
id_of (x ∷ xs) zero = refl
id_of (x ∷ xs) (suc k) = id_of xs k

-- ---- before the sessions

-- the first reader is for the peer at this place, and the others may run after it
pub next_readers : (n : Node) (start : Begin) (place : ℕ) (readers : List ReaderPartsModel) (x : ReaderPartsModel) (desks : List Desk) (now : Mail)
    → 0 < length readers → x ≡ slice_index_or readers 0 x → MayRun n start place readers desks now
    → (place < length start.ids) × IsFor n start place x × MayRun n start (suc place) (remove readers 0) desks now
next_readers n start place [] x desks now l e h = absurd (omega arith)
next_readers n start place (y ∷ readers) x desks now l e h =
    let c = h.count in
    let at : place + 0 ≡ place = omega arith in
    let first : IsFor n start place y = subst (λ z. IsFor n start z y) at (h.parts 0 y refl) in
    let rest : MayRun n start (suc place) readers desks now = record {
      order = h.order;
      empty = h.empty;
      out = h.out;
      ids = h.ids;
      count = omega (arith, c);
      parts = λ k d is. (let on : place + suc k ≡ suc place + k = omega arith in subst (λ z. IsFor n start z d) on (h.parts (suc k) d is));
    } in
    (omega (arith, c), subst (IsFor n start place) (sym e) first, rest)

-- ---- what is steady

pub spawner_rests : (x : SpawnerReading) → SpawnerStays x x
spawner_rests x = record { refusals_grow = omega arith; steady = λ s. (s, refl) }

spawner_then : (x y z : SpawnerReading) → SpawnerStays x y → SpawnerStays y z → SpawnerStays x z
spawner_then x y z p q = record {
  refusals_grow = (let a = p.refusals_grow in let b = q.refusals_grow in omega (arith, a, b));
  steady = λ s. let a = p.steady s in let b = q.steady a.0 in (b.0, b.1 ∙ a.1);
}

-- ---- the end of the starts

-- no reader is left to be started, and the sessions ran to their end or stopped
pub all_ran : (n : Node) (start : Begin) (place : ℕ) (readers : List ReaderPartsModel) (desks desks' : List Desk) (was now : Mail)
    (before : List InletReading) (spawner : SpawnerReading) (r : RemainsModel)
    → MayRun n start place readers desks was → length readers ≡ 0 → length before ≡ 0
    → InOrder n (length n.world.plan.sessions) start desks' now ⊎ Halted n start now
    → IsMail now → (now.failed ≡ None → NothingWaits now)
    → r ≡ record { outlets = map shut_outlet now.outlets; words = now.words; boxes = take (length now.boxes - 0) now.boxes; desks = desks'; failed = now.failed; refused = None; fault = None }
    → Remained n start place before before spawner spawner r
all_ran n start place readers desks desks' was now [] spawner r h none short ran mail out e =
    let own : IsOf n start now = elim ran [ inl x ↦ x.going.own | inr x ↦ x.stopped.own ] in
    let many : length now.boxes ≡ length start.ids = sym (length-map now.boxes (λ (b : BoxModel). b.id)) ∙ ap (λ (z : List TableId). length z) own.ids in
    let c = h.count in
    let at : length now.boxes - 0 ≡ place = omega (arith, many, c, none) in
    subst (Remained n start place [] [] spawner spawner) (sym e)
    (record {
      now = now;
      mail = mail;
      own = own;
      outlets = refl;
      words = refl;
      failed = refl;
      out = λ quiet. subst IsTrue (sym (still_out now.outlets)) (out quiet);
      boxes = ap (λ k. take k now.boxes) at;
      count = refl;
      inlets = tt;
      closed = refl;
      spawner_stays = spawner_rests spawner;
      ends = (ran, refl, refl);
    })
all_ran n start place readers desks desks' was now (x ∷ before) spawner r h none short ran mail out e = absurd (omega (arith, short))

pub peer_at : (n : Node) (place : ℕ) → place + 1 < n.world.plan.parties → IsPeer n (party_at n.me place)
peer_at n place l = grind (arith, nat_tests)

-- the start of the reader at this place was refused, and nothing was done
pub was_refused : (n : Node) (start : Begin) (place : ℕ) (readers : List ReaderPartsModel) (desks : List Desk) (now : Mail)
    (before after : List InletReading) (spawner spawner' : SpawnerReading) (peer waiting : ℕ) (r : RemainsModel)
    → MayRun n start place readers desks now → 0 < length readers → waiting ≡ length readers → peer ≡ party_at n.me place → length after ≡ length before
    → AllKeepCalm before after → IsTrue (list_all (λ (i : InletReading). i.closed) after) → (party_at n.me place ≡ peer → EndsAtRefusal n peer place before after) → Rose spawner.refusals spawner'.refusals × SpawnerStays spawner spawner' → IsMail now
    → r ≡ record { outlets = map shut_outlet now.outlets; words = now.words; boxes = take (length now.boxes - waiting) now.boxes; desks = desks; failed = now.failed; refused = Some peer; fault = None }
    → Remained n start place before after spawner spawner' r
was_refused n start place readers desks now before after spawner spawner' peer waiting r h some left is count steady closed ended refused mail e =
    let going : Going n 0 start now = h.order.going in
    let many : length now.boxes ≡ length start.ids = sym (length-map now.boxes (λ (b : BoxModel). b.id)) ∙ ap (λ (z : List TableId). length z) going.own.ids in
    let c = h.count in
    let i = h.ids in
    let at : length now.boxes - waiting ≡ place = omega (arith, many, c, left) in
    let one : IsPeer n peer = subst (IsPeer n) (sym is) (peer_at n place (omega (arith, c, i, some))) in
    subst (Remained n start place before after spawner spawner') (sym e)
    (record {
      now = now;
      mail = mail;
      own = going.own;
      outlets = refl;
      words = refl;
      failed = refl;
      out = λ quiet. subst IsTrue (sym (still_out now.outlets)) h.out;
      boxes = ap (λ k. take k now.boxes) at;
      count = count;
      inlets = steady;
      closed = closed;
      spawner_stays = refused.1;
      ends = (one, going, h.empty, refused.0, ended (sym is));
    })

-- ---- starts

-- a job that was started ends as its work left it, and the start refused nothing
pub has_read : {S : Type 0} (may_end : S → ReaderModel → Type 0) (before after : SpawnerReading) (reader end : ReaderModel) (result : Result S ReaderModel) (s : S)
    → result ≡ Ok s → Starts Works may_end reader before after result → reader.outcome ≡ None → may_end s end
    → HasRead reader end × (after.refusals ≡ before.refusals) × SpawnerStays before after
has_read {S} may_end before after reader end result s is h new ended =
    let g : Starts Works may_end reader before after (Ok s) = subst (Starts Works may_end reader before after) is h in
    let worked : Works reader end = g.started end ended in
    (subst (λ o. WorksFrom o reader end) new worked, g.quiet, record { refusals_grow = g.refusals_grow; steady = λ s. (g.keeps_steady s, g.quiet) })

pub has_refused : {S : Type 0} (may_end : S → ReaderModel → Type 0) (before after : SpawnerReading) (reader back : ReaderModel) (result : Result S ReaderModel)
    → result ≡ Err back → Starts Works may_end reader before after result → reader.outcome ≡ None
    → (Rose before.refusals after.refusals × SpawnerStays before after) × KeepsCalm reader.inlet back.inlet × ((back.inlet ≡ reader.inlet) ⊎ ReadBy reader.talk reader.inlet back.inlet)
has_refused {S} may_end before after reader back result is h new =
    let g : Starts Works may_end reader before after (Err back) = subst (Starts Works may_end reader before after) is h in
    let did : KeepsCalm reader.inlet back.inlet × ((back.inlet ≡ reader.inlet) ⊎ ReadBy reader.talk reader.inlet back.inlet) = ⊎_elim
    (λ same. (subst (λ (z : ReaderModel). KeepsCalm reader.inlet z.inlet) (sym same) (calm_same reader.inlet), left' (ap (λ (z : ReaderModel). z.inlet) same)))
    (λ worked. (read_by reader back (subst (λ o. WorksFrom o reader back) new worked)))
    g.handed_back in
    ((g.refused, record { refusals_grow = g.refusals_grow; steady = λ s. absurd (not_ok back (g.by_itself s)) }), did.0, did.1)
  where
    read_by : (reader back : ReaderModel) → HasRead reader back → KeepsCalm reader.inlet back.inlet × ((back.inlet ≡ reader.inlet) ⊎ ReadBy reader.talk reader.inlet back.inlet)
    read_by reader back h = (h.steady, right' (h.words, h.outcome, h.reads))

    not_ok : (back : ReaderModel) → IsOk {T = S} {E = ReaderModel} (Err back) → ⊥
    not_ok back e = false≢true e

-- a job that was handed back did nothing, or all its work
abbrev pub HandedBack : TalkModel → InletReading → InletReading → Type 0
HandedBack talk before after = KeepsCalm before after × ((after ≡ before) ⊎ ReadBy talk before after)

-- what becomes of the inlets from the place of a refused start on, which are closed
abbrev pub RefusedInlets : Node → ℕ → ℕ → List InletReading → List InletReading → Type 0
RefusedInlets n place q befores afters =
    AllKeepCalm befores afters × IsTrue (list_all (λ (i : InletReading). i.closed) afters) × (party_at n.me place ≡ q → EndsAtRefusal n q place befores afters)

pub refused_inlets : (n : Node) (place q : ℕ) (b back : InletReading) (rest befores afters : List InletReading) → befores ≡ b ∷ rest → afters ≡ map shut_inlet (back ∷ rest) → HandedBack (incoming n (party_at n.me place)) b back
    → RefusedInlets n place q befores afters
refused_inlets n place q b back rest befores afters is_b is_a did =
    subst (λ z. RefusedInlets n place q z afters) (sym is_b) (subst (RefusedInlets n place q (b ∷ rest)) (sym is_a)
    ((calm_shut b back did.0, all_shut rest), inlets_closed (back ∷ rest), λ e. left' (e, itself e, refl)))
  where
    itself : party_at n.me place ≡ q → (shut_inlet back ≡ shut_inlet b) ⊎ ReadBy (incoming n q) b (shut_inlet back)
    itself e = ⊎_elim
        (λ same. left' (ap shut_inlet same))
        (λ read. right' (read.0, read.1, reads_shut (incoming n q) read.0 b back read.1 (subst (λ p. ReadsWords (incoming n p) read.0 b back read.1) e read.2)))
        did.1

-- ---- after the sessions

last_box : (n : Node) (start : Begin) (place : ℕ) (befores afters : List InletReading) (was is : SpawnerReading) (r : RemainsModel)
    → place < length start.ids → (h : Remained n start (suc place) befores afters was is r)
    → (length r.boxes ≡ suc place) × (slice_index_or r.boxes (length r.boxes - 1) no_box ≡ slice_index_or h.now.boxes place no_box)
last_box n start place befores afters was is r l h =
    let many : length h.now.boxes ≡ length start.ids = sym (length-map h.now.boxes (λ (b : BoxModel). b.id)) ∙ ap (λ (z : List TableId). length z) h.own.ids in
    let left : length r.boxes ≡ suc place = ap (λ (z : List BoxModel). length z) h.boxes ∙ length-take-le (suc place) h.now.boxes (omega (arith, many)) in
    let at : length r.boxes - 1 ≡ place = omega (arith, left) in
    (left, ap (λ k. slice_index_or r.boxes k no_box) at ∙ ap (λ (z : List BoxModel). slice_index_or z place no_box) h.boxes ∙ in_first (suc place) place h.now.boxes no_box (omega arith))

pub some_box : (n : Node) (start : Begin) (place : ℕ) (befores afters : List InletReading) (was is : SpawnerReading) (r : RemainsModel)
    → place < length start.ids → Remained n start (suc place) befores afters was is r → 0 < length r.boxes
some_box n start place befores afters was is r l h = let b = (last_box n start place befores afters was is r l h).0 in omega (arith, b)

-- a seat in the inbox at the place is one in the last that is left
pub in_last : (n : Node) (start : Begin) (place : ℕ) (befores afters : List InletReading) (was is : SpawnerReading) (r : RemainsModel) (id : TableId)
    → place < length start.ids → Remained n start (suc place) befores afters was is r → id ≡ slice_index_or start.ids place no_box.id
    → id ≡ (slice_index_or r.boxes (length r.boxes - 1) no_box).id
in_last n start place befores afters was is r id l h e =
    e ∙ ap (λ (z : List TableId). slice_index_or z place no_box.id) (sym h.own.ids) ∙ sym (id_of h.now.boxes place) ∙ ap (λ (b : BoxModel). b.id) (sym (last_box n start place befores afters was is r l h).1)

ends_more : (n : Node) (start : Begin) (place : ℕ) (befores afters : List InletReading) (b a : InletReading) (old was is : ℕ) (r : RemainsModel) (bs : List BoxModel) (now : Mail)
    (result : Result (Unit {0}) NodeFault) → PeerEnd n now place b a result → was ≡ old
    → (o : Option ℕ) → EndsAs n start (suc place) befores afters was is r now o
    → EndsAs n start place (b ∷ befores) (a ∷ afters) old is (record r { boxes = bs; fault = first_of result r.fault }) now o
ends_more n start place befores afters b a old was is r bs now result p q None e = (e.0, (result, p, (r.fault, e.1, refl)), e.2 ∙ q)
ends_more n start place befores afters b a old was is r bs now result p q (Some x) e = (e.0, e.1, e.2, subst (λ z. Rose z is) q e.3, right' ((p.words, result, p.reads), e.4))

-- the reader at this place ended before the later ones, and its seat was folded into its inbox
pub one_more : (n : Node) (start : Begin) (place : ℕ) (befores afters : List InletReading) (b a : InletReading) (old was is later : SpawnerReading) (r r' : RemainsModel)
    (outcome : Option (Result (Unit {0}) NodeFault)) (reader end : ReaderModel) (olds news : List InletReading)
    → olds ≡ b ∷ befores → news ≡ a ∷ afters
    → place < length start.ids → reader.talk ≡ incoming n (party_at n.me place) → reader.inlet ≡ b → HasRead reader end → a ≡ end.inlet → outcome ≡ end.outcome
    → was.refusals ≡ old.refusals → SpawnerStays old was → later ≡ is → Remained n start (suc place) befores afters was is r
    → ((words : List ℕ) (mark : ℕ) → end.seat.view ≡ ends (pushed (newcomer 1) words) mark → GotWhatWasPushed words mark (slice_index_or r.boxes (length r.boxes - 1) no_box).view)
    → r' ≡ record r { boxes = take (length r.boxes - 1) r.boxes; fault = after_outcome outcome r.fault }
    → Remained n start place olds news old later r'
one_more n start place befores afters b a old was is later r r' outcome reader end olds news is_b is_a l talk inlet read shows out q stays q' h got e =
    let o : outcome ≡ Some read.outcome = out ∙ ap (λ (z : ReaderModel). z.outcome) read.leaves in
    let view : end.seat.view ≡ ends (pushed (newcomer 1) read.words) (mark_of (is_err read.outcome)) = ap (λ (z : ReaderModel). z.seat.view) read.leaves in
    let last = last_box n start place befores afters was is r l h in
    let many = last.0 in
    let at : length r.boxes - 1 ≡ place = omega (arith, many) in
    let p : PeerEnd n h.now place b a read.outcome = record {
      words = read.words;
      reads = subst (λ z. ReadsWords z read.words b a read.outcome) talk
          (subst (λ z. ReadsWords reader.talk read.words z a read.outcome) inlet
          (subst (λ z. ReadsWords reader.talk read.words reader.inlet z read.outcome) (sym shows) read.reads));
      got = subst (λ (z : BoxModel). GotWhatWasPushed read.words (mark_of (is_err read.outcome)) z.view) last.1 (got read.words (mark_of (is_err read.outcome)) view);
    } in
    let left : r' ≡ record r { boxes = take (length r.boxes - 1) r.boxes; fault = first_of read.outcome r.fault } =
    e ∙ ap (λ (z : Option (Result (Unit {0}) NodeFault)). record r { boxes = take (length r.boxes - 1) r.boxes; fault = after_outcome z r.fault }) o in
    subst (λ z. Remained n start place z news old later r') (sym is_b)
    (subst (λ z. Remained n start place (b ∷ befores) z old later r') (sym is_a)
    (subst (λ z. Remained n start place (b ∷ befores) (a ∷ afters) old z r') (sym q')
    (subst (Remained n start place (b ∷ befores) (a ∷ afters) old is) (sym left)
    (record {
      now = h.now;
      mail = h.mail;
      own = h.own;
      outlets = h.outlets;
      words = h.words;
      failed = h.failed;
      out = h.out;
      boxes = ap (λ k. take k r.boxes) at ∙ ap (λ (z : List BoxModel). take place z) h.boxes ∙ take_first place h.now.boxes;
      count = ap suc h.count;
      inlets = (
        subst (λ z. KeepsCalm z a) inlet (subst (λ z. KeepsCalm reader.inlet z) (sym shows) read.steady),
        h.inlets,
      );
      closed = both_true _ _ (subst (λ (z : InletReading). IsTrue z.closed) (sym shows) read.closed) h.closed;
      spawner_stays = spawner_then old was is stays h.spawner_stays;
      ends = ends_more n start place befores afters b a old.refusals was.refusals is.refusals r (take (length r.boxes - 1) r.boxes) h.now read.outcome p q r.refused h.ends;
    }))))
