-- What one step of a desk does to a node.
use Rattle.std.proofs.Common.{◌≡◌, ◌≢◌, ◌⊎◌, ℕ, suc, ◌+◌, ◌<◌, nat_eq, List, [], ◌∷◌, ◌++◌, length, refl, sym, ap, ◌∙◌, subst, arith, inl as sum_inl, ⊎_elim, Option, Some, None, Result, Ok, Err}
use Rattle.std.proofs.lemmas.Bool.{cases_eq, cases_lt, cond-true, cond-false, eq-eqb, ne_eqb}
use Rattle.std.proofs.lemmas.List.{append-nil, take_all, get_or_past}
use Rattle.std.specs.Prelude.{slice_index_or, ◌^◌}
use mathlib.Core.Logic.{inl as left', inr as right'}
use Rattle.circuit_model.proofs.SetAt.{set_here, set_there}
use Rattle.plan_model.specs.Plans.{Plan}
use Rattle.plan_model.specs.declared.key.Key.{Key}
use Rattle.plan_model.specs.Messages.{messages}
use Rattle.plan_model.specs.Numbers.{message}
use Rattle.message_board.specs.Plain.{plain_cell, plain_put}
use Rattle.message_board.proofs.CellPosts.{put_length, put_keeps, put_new}
use Rattle.message_board.specs.declared.cells.Posted.{Posted}
use Rattle.message_board.specs.declared.cells.Posted.TheVariants.{Done}
use Rattle.message_board.specs.declared.cells.Cells.{Ghosts as Meaning}
use Rattle.program_model.specs.declared.instruction.Instruction.{Instruction}
use Rattle.program_model.specs.declared.instruction.Instruction.TheVariants.{Post, Take, End}
use Rattle.program_model.specs.Programs.{program, at}
use Rattle.program_model.specs.States.{Given, state}
use Rattle.party_desk.specs.declared.desk.Desk.{Desk}
use Rattle.party_desk.specs.declared.desk.Stepped.TheVariants.{Moved, NotYet, Ended}
use Rattle.party_desk.specs.Desks.{IsDesk, Waits, instruction_at}
use Rattle.party_desk.specs.Steps.{word_at, with_word, Allows, MayStep, Does, Steps}
use Rattle.program_laws.specs.Meets.{local_given, Goes}
use Rattle.program_laws.proofs.OpenedOutputs.{goes}
use Rattle.program_laws.proofs.Ranks.{end_is_last}
use Rattle.program_laws.proofs.PartLaws.{part_words}
use Rattle.desk_laws.specs.Words.{NextIs}
use Rattle.desk_laws.proofs.WordSteps.{next_is}
use Rattle.party_desk.proofs.AllowedSteps.{goes_by}
use Rattle.outer_io.specs.Count.{Rose}
use Rattle.outer_io.specs.Sink.{Writes, added, AddedPrefix}
use Rattle.outer_io.specs.declared.sink.Failed.{Failed}
use Rattle.outer_io.proofs.WrittenPieces.{added-append, prefix_second}
use Rattle.frame_code.specs.declared.framing.Framing.{Framing}
use Rattle.frame_code.specs.Frames.{frame}
use Rattle.node_talk.specs.Talks.{Node, framing, acts, IsPeer, own_word, said, frames, post_to}
use Rattle.node_talk.specs.PeerLinks.{place_among, no_outlet, out_to}
use Rattle.node_talk.proofs.Frames.{said_step}
use Rattle.node_talk.proofs.ExpectedPlaces.{between_parties}
use Rattle.node_talk.proofs.ActPlaces.{at_act, within_acts, posted_before_take, taken_there}
use Rattle.node_run.specs.Mail.{Mail, SentTo, Posts, ComesFromPeer, MayPost, MayTake, TakesWord, TakesFrom, NeverComes, with_post, failed_after, outlet_to}
use Rattle.node_run.specs.Progress.{Begin, Agrees, HasTaken, HasPosted, KeepsOwn, IsOf, Going, KeepsRoom, OutletStays, Stopped, StopsBy, Halted, InSession, before_session, ids_of, said_bytes}
use Rattle.node_run.specs.Turns.{Awaits}
use Rattle.node_run.proofs.KnownWords.{known, agrees_known, later_taken, later_posted}
use Rattle.node_run.proofs.CellChanges.{put_some}
use Rattle.node_run.proofs.OutletSteps.{bytes_more, bytes_within, room_then, room_at, Sent, Unsent, sent_ok, sent_err, going_stays, other_stays, failed_stays}

pub whole_prefix : (a : List ℕ) (told told' : Option (List ℕ)) → told' ≡ added told a → AddedPrefix told a told'
whole_prefix a told told' is = (length a, is ∙ ap (added told) (sym (take_all (length a) a (omega arith))))

-- all that is said by the first instructions is a first part of it
pub stopped_at : (n : Node) (k : ℕ) (start : Begin) (c : Mail) → Going n k start c → Stopped n k start c
stopped_at n k start c g = record {
  own = g.own;
  within = g.within;
  taken = g.taken;
  posted = g.posted;
  own_words = g.own_words;
  sent = λ got ag q peer. whole_prefix _ _ _ (g.sent got ag q peer);
}

-- the meaning of cells is that of a node's
pub record AreNodeCells (cells : Meaning Mail) : Type 0 where
  pub may_post : (c : Mail) (m w : ℕ) → MayPost c m w → cells.may_post c m w
  pub may_take : (c : Mail) (m : ℕ) → MayTake c m → cells.may_take c m
  pub put : (c : Mail) (m w : ℕ) (p : Posted) (d : Mail) → cells.put c m w p d → (p ≡ Done) × Posts c m w d
  pub took : (c : Mail) (m : ℕ) (a : Option ℕ) (d : Mail) → cells.took c m a d → TakesWord c m a d
  pub got : (c : Mail) (m w : ℕ) → cells.got c m w → plain_cell c.words.cells m ≡ Some w

abbrev pub node_cells : Meaning Mail
node_cells = record {
  may_post = MayPost;
  may_take = MayTake;
  got = λ c m w. plain_cell c.words.cells m ≡ Some w;
  put = λ c m w p d. (p ≡ Done) × Posts c m w d;
  took = TakesWord;
  below = λ c k. c.plan.bits ≡ k;
}

pub are_node_cells : AreNodeCells node_cells
are_node_cells = record { may_post = λ c m w h. h; may_take = λ c m h. h; put = λ c m w p d h. h; took = λ c m a d h. h; got = λ c m w h. h }

module _ (r : Framing) (plan : Plan) (m i : ℕ) (word : Key → ℕ) where
  post_here : (q : ℕ) → (message plan m).receiver ≡ q → frames r word (post_to plan q (Post m i)) ≡ frame r (message plan m) (word (message plan m))
  post_here q e = ap (frames r word) (cond-true (nat_eq (message plan m).receiver q) (message plan m ∷ []) [] (eq-eqb _ q e)) ∙ append-nil (frame r (message plan m) (word (message plan m)))

  post_there : (q : ℕ) → (message plan m).receiver ≢ q → frames r word (post_to plan q (Post m i)) ≡ []
  post_there q ne = ap (frames r word) (cond-false (nat_eq (message plan m).receiver q) (message plan m ∷ []) [] (ne_eqb _ q ne))

-- a look into an inbox leaves a desk where it was
module _ (n : Node) (s : ℕ) (start : Begin) (d : Desk) (c : Mail) (h : InSession n s start d c) where
  pub rested : (c' : Mail) → c' ≡ record c { words = c'.words; boxes = c'.boxes } → c'.words.cells ≡ c.words.cells → ids_of c'.boxes ≡ ids_of c.boxes → InSession n s start d c'
  rested c' rest same ids =
      let outlet_same : (q : ℕ) → outlet_to c' q ≡ outlet_to c q = λ q. ap (λ (z : Mail). outlet_to z q) rest in
      let before' : (got : Key → ℕ) → Agrees n c'.words.cells got → Agrees n c.words.cells got = λ got ag m v to e. ag m v to (ap (λ z. plain_cell z m) same ∙ e) in
      record {
        session = h.session;
        desk = λ got ag. h.desk got (before' got ag);
        going = record {
          own = record {
            part = h.going.own.part;
            digest = h.going.own.digest;
            plan = ap (λ (z : Mail). z.plan) rest ∙ h.going.own.plan;
            me = ap (λ (z : Mail). z.me) rest ∙ h.going.own.me;
            form = ap (λ (z : Mail). z.form) rest ∙ h.going.own.form;
            ids = ids ∙ h.going.own.ids;
            cells = ap length same ∙ h.going.own.cells;
          };
          within = h.going.within;
          taken = subst (HasTaken n (before_session n s + d.position)) (sym same) h.going.taken;
          posted = subst (HasPosted n (before_session n s + d.position)) (sym same) h.going.posted;
          own_words = subst (KeepsOwn n) (sym same) h.going.own_words;
          sent = λ got ag q peer. ap (λ z. z.told) (outlet_same q) ∙ h.going.sent got (before' got ag) q peer;
          calm = λ q peer. ap (λ z. z.faults) (outlet_same q) ∙ h.going.calm q peer;
          room = λ q peer. subst (KeepsRoom (said_bytes n q (before_session n s + d.position)) (out_to n start.links q)) (sym (outlet_same q)) (h.going.room q peer);
          quiet = ap (λ (z : Mail). z.failed) rest ∙ h.going.quiet;
        };
      }

  module _ (c' : Mail) (rest : c' ≡ record c { boxes = c'.boxes }) (ids : ids_of c'.boxes ≡ ids_of c.boxes) where
    pub waits_for : InSession n s start d c'
    waits_for = rested c' (rest ∙ ap (λ z. record c { words = z; boxes = c'.boxes }) (sym (ap (λ (z : Mail). z.words) rest))) (ap (λ (z : Mail). z.words.cells) rest) ids

-- where a word is not to come, it stops
pub stops_here : (n : Node) (s : ℕ) (start : Begin) (d : Desk) (c : Mail) → InSession n s start d c → (m : ℕ) → Awaits n s d m → (c' : Mail) → c' ≡ record c { boxes = c'.boxes } → ids_of c'.boxes ≡ ids_of c.boxes
    → NeverComes c' m → Halted n start c'
stops_here n s start d c h m next c' rest ids never =
    let i = waits_for n s start d c h c' rest ids in
    record {
      k = before_session n s + d.position;
      stopped = stopped_at n (before_session n s + d.position) start c' i.going;
      why = subst (StopsBy n (before_session n s + d.position) start c') (sym i.going.quiet) (i.going, (m, next.0, next.1, never));
      outlets = λ q peer. going_stays n (before_session n s + d.position) start c' i.going q peer;
    }

module _ (cells : Meaning Mail) (are : AreNodeCells cells) (n : Node) (s : ℕ) (start : Begin) (d : Desk) (c : Mail) (h : InSession n s start d c) where
  abbrev plan : Plan
  plan = n.world.plan

  abbrev k : ℕ
  k = before_session n s + d.position

  abbrev l : (Key → ℕ) → Given
  l got = local_given n.world got s n.me

  -- the next instruction
  abbrev e : Instruction
  e = at (program n.world.plan n.me s) d.position

  inside : (e ≡ End → ⊥) → d.position < length (program n.world.plan n.me s)
  inside ne = elim (cases_lt d.position (length (program n.world.plan n.me s))) [
    | left' l ↦ l
    | right' past ↦ absurd (ne (get_or_past (program n.world.plan n.me s) d.position End past))
  ]

  -- what it takes of itself it posted before
  kept_before : (m j : ℕ) → e ≡ Take m j → (message n.world.plan m).sender ≡ n.me → (v : ℕ) × (plain_cell c.words.cells m ≡ Some v)
  kept_before m j is from =
      let more = inside (λ f. (let g : Take m j ≡ End = sym is ∙ f in cc)) in
      let lk : k < length (acts n) = (let a = within_acts n s (suc d.position) h.session (omega (arith, more)) in omega (arith, a)) in
      let b = posted_before_take n h.going.own.part k m j lk (at_act n s d.position h.session more ∙ is) from in
      h.going.posted b.place m b.share b.before b.is

  allows_at : (got : Key → ℕ) (i : Instruction) → e ≡ i → NextIs (l got) d.position i → Allows cells c (l got) d.position i
  allows_at got (Post m j) is x = are.may_post c m (word_at (l got) d.position m j) (record {
    there = subst (λ z. m < length (messages z)) (sym h.going.own.plan) x.0;
    sender = ap (λ z. (message z m).sender) h.going.own.plan ∙ x.1 ∙ sym h.going.own.me;
    small = subst (λ z. word_at (l got) d.position m j < 2 ^ z.bits) (sym h.going.own.plan) x.2;
  })
  allows_at got (Take m j) is x = are.may_take c m (record {
    there = subst (λ z. m < length (messages z)) (sym h.going.own.plan) x.0;
    receiver = ap (λ z. (message z m).receiver) h.going.own.plan ∙ x.1 ∙ sym h.going.own.me;
    kept = λ from. kept_before m j is (sym (ap (λ z. (message z m).sender) h.going.own.plan) ∙ from ∙ h.going.own.me);
  })
  allows_at got _ is x = tt

  pub may_step : (got : Key → ℕ) → Agrees n c.words.cells got → MayStep cells n.world.plan c (local_given n.world got s n.me) d
  may_step got ag = record { same = refl; desk = h.desk got ag; allows = allows_at got (instruction_at (l got) d) refl (next_is (l got) d (h.desk got ag)) }

  pub some_given : (given : Given) × MayStep cells n.world.plan c given d
  some_given = (l (known n c.words.cells), may_step (known n c.words.cells) (agrees_known n c.words.cells h.going.own.cells))

  -- ---- the instruction among all

  module _ (more : d.position < length (program n.world.plan n.me s)) where
    lk : k < length (acts n)
    lk = let a = within_acts n s (suc d.position) h.session (omega arith) in omega arith

    act_is : at (acts n) k ≡ e
    act_is = at_act n s d.position h.session more

    said_more : (q : ℕ) (word : Key → ℕ) (bytes : List ℕ) → frames (framing n) word (post_to plan q e) ≡ bytes → said n q word (suc k) ≡ said n q word k ++ bytes
    said_more q word bytes is = said_step n q word k lk ∙ ap (λ z. said n q word k ++ frames (framing n) word (post_to plan q z)) act_is ∙ ap (λ z. said n q word k ++ z) is

    said_same : (q : ℕ) (word : Key → ℕ) → frames (framing n) word (post_to plan q e) ≡ [] → said n q word (suc k) ≡ said n q word k
    said_same q word none = said_more q word [] none ∙ append-nil (said n q word k)

    -- ---- nothing was said

    module _ (c' : Mail) (own : IsOf n start c') (outlets : c'.outlets ≡ c.outlets) (failed : c'.failed ≡ c.failed) (me : c'.me ≡ c.me)
        (keeps : (m v : ℕ) → plain_cell c.words.cells m ≡ Some v → plain_cell c'.words.cells m ≡ Some v)
        (own_words : KeepsOwn n c'.words.cells) (posted : HasPosted n (suc (before_session n s + d.position)) c'.words.cells)
        (no_post : (q : ℕ) → IsPeer n q → (word : Key → ℕ) → frames (framing n) word (post_to plan q e) ≡ []) (took : (m i : ℕ) → e ≡ Take m i → (v : ℕ) × (plain_cell c'.words.cells m ≡ Some v)) where
      outlet_same : (q : ℕ) → outlet_to c' q ≡ outlet_to c q
      outlet_same q = ap (λ z. (slice_index_or z (place_among c'.me q) no_outlet).sink) outlets ∙ ap (λ z. (slice_index_or c.outlets (place_among z q) no_outlet).sink) me

      no_bytes : (q : ℕ) → IsPeer n q → said_bytes n q k ≡ said_bytes n q (suc k)
      no_bytes q peer = let a = bytes_more n q k (λ (key : Key). 0) [] lk (ap (λ z. frames (framing n) (λ (key : Key). 0) (post_to plan q z)) act_is ∙ no_post q peer (λ (key : Key). 0)) in omega (arith, a)

      pub goes_on : Going n (suc k) start c'
      goes_on = record {
        own = own;
        within = (let a = lk in omega arith);
        taken = later_taken n k c'.words.cells (λ j m i l f. let v = h.going.taken j m i l f in (v.0, keeps m v.0 v.1)) (λ m i f. took m i (sym act_is ∙ f));
        posted = posted;
        own_words = own_words;
        sent = λ got agrees q peer.
            ap (λ z. z.told) (outlet_same q) ∙ h.going.sent got (λ m v to f. agrees m v to (keeps m v f)) q peer ∙ ap (added (out_to n start.links q).told) (sym (said_same q (own_word n got) (no_post q peer (own_word n got))));
        calm = λ q peer. ap (λ z. z.faults) (outlet_same q) ∙ h.going.calm q peer;
        room = λ q peer. subst (KeepsRoom (said_bytes n q (suc k)) (out_to n start.links q)) (sym (outlet_same q)) (room_at (said_bytes n q k) (said_bytes n q (suc k)) _ _ (no_bytes q peer) (h.going.room q peer));
        quiet = failed ∙ h.going.quiet;
      }

    -- ---- a post

    module _ (m i : ℕ) (is : e ≡ Post m i) (there : m < length (messages n.world.plan)) (sender : (message n.world.plan m).sender ≡ n.me) (c' : Mail)
        (cells_are : (got : Key → ℕ) → Agrees n c.words.cells got → c'.words.cells ≡ plain_put c.words.cells m (own_word n got (message n.world.plan m))) where
      abbrev to_q : ℕ
      to_q = (message plan m).receiver

      old_agrees : Agrees n c.words.cells (known n c.words.cells)
      old_agrees = agrees_known n c.words.cells h.going.own.cells

      not_take : (m' i' : ℕ) → e ≡ Take m' i' → ⊥
      not_take m' i' f = (let g : Post m i ≡ Take m' i' = sym is ∙ f in cc)

      lm : m < length c.words.cells
      lm = let a = h.going.own.cells in omega (arith, there, a)

      kept_still : (r v : ℕ) → plain_cell c.words.cells r ≡ Some v → plain_cell c'.words.cells r ≡ Some v
      kept_still r v f = ap (λ z. plain_cell z r) (cells_are (known n c.words.cells) old_agrees) ∙ put_keeps c.words.cells m (own_word n (known n c.words.cells) (message plan m)) r v lm f

      agrees_before : (got : Key → ℕ) → Agrees n c'.words.cells got → Agrees n c.words.cells got
      agrees_before got agrees m' v to f = agrees m' v to (kept_still m' v f)

      -- a word that is kept now was kept before, or is that of the message
      new_word : (got : Key → ℕ) → Agrees n c.words.cells got → (r v : ℕ) → plain_cell c'.words.cells r ≡ Some v → (plain_cell c.words.cells r ≡ Some v) ⊎ ((r ≡ m) × (v ≡ own_word n got (message plan m)))
      new_word got ag r v f = put_new c.words.cells m (own_word n got (message plan m)) r v lm (ap (λ z. plain_cell z r) (sym (cells_are got ag)) ∙ f)

      count' : length c'.words.cells ≡ length (messages n.world.plan)
      count' = ap length (cells_are (known n c.words.cells) old_agrees) ∙ put_length c.words.cells m (own_word n (known n c.words.cells) (message plan m)) lm ∙ h.going.own.cells

      taken' : HasTaken n k c'.words.cells
      taken' j m' i' l f = let v = h.going.taken j m' i' l f in (v.0, kept_still m' v.0 v.1)

      here : (v : ℕ) × (plain_cell c'.words.cells m ≡ Some v)
      here =
          let p = put_some c.words.cells m (own_word n (known n c.words.cells) (message plan m)) lm in
          (p.0, ap (λ z. plain_cell z m) (cells_are (known n c.words.cells) old_agrees) ∙ p.1)

      posted' : HasPosted n (suc k) c'.words.cells
      posted' = later_posted n k c'.words.cells (λ j m' i' l f. let v = h.going.posted j m' i' l f in (v.0, kept_still m' v.0 v.1))
          (λ m' i' f. let same : Post m i ≡ Post m' i' = sym is ∙ sym act_is ∙ f in let one : m ≡ m' = cc in (here.0, ap (plain_cell c'.words.cells) (sym one) ∙ here.1))

      own_words' : KeepsOwn n c'.words.cells
      own_words' = record {
        sender = λ r v f ne. ⊎_elim (λ before. h.going.own_words.sender r v before ne)
            (λ (new : (r ≡ m) × (v ≡ own_word n (known n c.words.cells) (message plan m))). ap (λ z. (message plan z).sender) new.0 ∙ sender)
            (new_word (known n c.words.cells) old_agrees r v f);
        word = λ r v f from got agrees. ⊎_elim (λ before. h.going.own_words.word r v before from got (agrees_before got agrees))
            (λ (new : (r ≡ m) × (v ≡ own_word n got (message plan m))). new.1 ∙ ap (λ z. own_word n got (message plan z)) (sym new.0))
            (new_word got (agrees_before got agrees) r v f);
      }

      -- ---- where the message stays with the party

      module _ (to : (message n.world.plan m).receiver ≡ n.me) (same : (word : ℕ) × (c' ≡ with_post c m word)) where
        pub posted_here : Going n (suc k) start c'
        posted_here = goes_on c' (record {
          part = h.going.own.part;
          digest = h.going.own.digest;
          plan = ap (λ (z : Mail). z.plan) same.1 ∙ h.going.own.plan;
          me = ap (λ (z : Mail). z.me) same.1 ∙ h.going.own.me;
          form = ap (λ (z : Mail). z.form) same.1 ∙ h.going.own.form;
          ids = ap (λ (z : Mail). ids_of z.boxes) same.1 ∙ h.going.own.ids;
          cells = count';
        }) (ap (λ (z : Mail). z.outlets) same.1) (ap (λ (z : Mail). z.failed) same.1) (ap (λ (z : Mail). z.me) same.1) kept_still own_words' posted'
            (λ q peer word. ap (λ z. frames (framing n) word (post_to plan q z)) is ∙ post_there (framing n) plan m i word q (λ e'. peer.1 (sym e' ∙ to)))
            (λ m' i' f. absurd (not_take m' i' f))

      -- ---- where it goes to a peer

      module _ (other : (message n.world.plan m).receiver ≢ n.me)
          (sents : (got : Key → ℕ) → Agrees n c.words.cells got → SentTo (message n.world.plan m).receiver (frame (framing n) (message n.world.plan m) (own_word n got (message n.world.plan m))) (with_post c m (own_word n got (message n.world.plan m))) c') where
        abbrev bytes : (Key → ℕ) → List ℕ
        bytes got = frame (framing n) (message plan m) (own_word n got (message plan m))

        some_sent : SentTo to_q (bytes (known n c.words.cells)) (with_post c m (own_word n (known n c.words.cells) (message plan m))) c'
        some_sent = sents (known n c.words.cells) (agrees_known n c.words.cells h.going.own.cells)

        to_peer : IsPeer n to_q
        to_peer = let b = between_parties n h.going.own.part m there in (b.receiver, other)

        said_here : (got : Key → ℕ) → said n to_q (own_word n got) (suc k) ≡ said n to_q (own_word n got) k ++ bytes got
        said_here got = said_more to_q (own_word n got) (bytes got) (ap (λ z. frames (framing n) (own_word n got) (post_to plan to_q z)) is ∙ post_here (framing n) plan m i (own_word n got) to_q refl)

        said_there : (got : Key → ℕ) (q : ℕ) → to_q ≢ q → said n q (own_word n got) (suc k) ≡ said n q (own_word n got) k
        said_there got q ne = said_same q (own_word n got) (ap (λ z. frames (framing n) (own_word n got) (post_to plan q z)) is ∙ post_there (framing n) plan m i (own_word n got) q ne)

        outlet_there : (q : ℕ) → IsPeer n q → to_q ≢ q → outlet_to c' q ≡ outlet_to c q
        outlet_there q peer ne = ap (λ z. z.sink) (some_sent.others q (subst (λ z. q < z.parties) (sym h.going.own.plan) peer.0) (λ f. peer.1 (f ∙ h.going.own.me)) (λ f. ne (sym f)))

        own' : IsOf n start c'
        own' = record {
          part = h.going.own.part;
          digest = h.going.own.digest;
          plan = ap (λ (z : Mail). z.plan) some_sent.rest ∙ h.going.own.plan;
          me = ap (λ (z : Mail). z.me) some_sent.rest ∙ h.going.own.me;
          form = ap (λ (z : Mail). z.form) some_sent.rest ∙ h.going.own.form;
          ids = ap (λ (z : Mail). ids_of z.boxes) some_sent.rest ∙ h.going.own.ids;
          cells = count';
        }

        -- all of a frame, or a first part of it
        abbrev All : List ℕ → Type 0
        All xs = ((outlet_to c' to_q).told ≡ added (outlet_to c to_q).told xs) × Sent xs (outlet_to c to_q) (outlet_to c' to_q)

        abbrev Part : List ℕ → Type 0
        Part xs = AddedPrefix (outlet_to c to_q).told xs (outlet_to c' to_q).told × Rose (outlet_to c to_q).faults (outlet_to c' to_q).faults × (c'.failed ≡ Some to_q) × Unsent xs (outlet_to c to_q) (outlet_to c' to_q)

        -- how many bytes a frame adds
        bytes_here : (got : Key → ℕ) → said_bytes n to_q (suc k) ≡ said_bytes n to_q k + length (bytes got)
        bytes_here got = bytes_more n to_q k (own_word n got) (bytes got) lk (ap (λ z. frames (framing n) (own_word n got) (post_to plan to_q z)) (act_is ∙ is) ∙ post_here (framing n) plan m i (own_word n got) to_q refl)

        bytes_there : (q : ℕ) → to_q ≢ q → said_bytes n q k ≡ said_bytes n q (suc k)
        bytes_there q ne = let a = bytes_more n q k (λ (key : Key). 0) [] lk (ap (λ z. frames (framing n) (λ (key : Key). 0) (post_to plan q z)) (act_is ∙ is) ∙ post_there (framing n) plan m i (λ (key : Key). 0) q ne) in omega (arith, a)

        by_result : (xs : List ℕ) (r : Result (Unit {0}) Failed) → Writes xs (outlet_to c to_q) (outlet_to c' to_q) r → c'.failed ≡ failed_after to_q r c.failed → (c'.failed ≡ None → All xs) × (c'.failed ≢ None → Part xs)
        by_result xs (Ok u) w kept = (λ quiet. (w.ok, sent_ok xs _ _ u w), λ some. absurd (some (kept ∙ h.going.quiet)))
        by_result xs (Err f) w kept = (λ quiet. absurd (let g : Some to_q ≡ None = sym kept ∙ quiet in cc), λ some. (w.err, w.failed, kept, sent_err xs _ _ f w))

        written : (got : Key → ℕ) → Agrees n c.words.cells got → (c'.failed ≡ None → All (bytes got)) × (c'.failed ≢ None → Part (bytes got))
        written got ag = let x = sents got ag in by_result (bytes got) x.result x.writes (ap (λ z. z.failed) x.rest)

        some_written : (c'.failed ≡ None → All (bytes (known n c.words.cells))) × (c'.failed ≢ None → Part (bytes (known n c.words.cells)))
        some_written = written (known n c.words.cells) (agrees_known n c.words.cells h.going.own.cells)

        abbrev old_words : Key → ℕ
        old_words = known n c.words.cells

        there_room : (q : ℕ) → IsPeer n q → to_q ≢ q → KeepsRoom (said_bytes n q (suc k)) (out_to n start.links q) (outlet_to c' q)
        there_room q peer ne = room_at (said_bytes n q k) (said_bytes n q (suc k)) _ _ (bytes_there q ne) (subst (KeepsRoom (said_bytes n q k) (out_to n start.links q)) (sym (outlet_there q peer ne)) (h.going.room q peer))

        posted_ok : c'.failed ≡ None → Going n (suc k) start c'
        posted_ok quiet = record {
          own = own';
          within = (let a = lk in omega arith);
          taken = later_taken n k c'.words.cells taken' (λ m' i' f. absurd (not_take m' i' (sym act_is ∙ f)));
          posted = posted';
          own_words = own_words';
          sent = λ got agrees q peer.
              let before' = agrees_before got agrees in
              elim (cases_eq to_q q) [
                | left' eq ↦ subst (λ z. (outlet_to c' z).told ≡ added (out_to n start.links z).told (said n z (own_word n got) (suc k))) eq
                    (((written got before').0 quiet).0 ∙ ap (λ z. added z (bytes got)) (h.going.sent got before' to_q to_peer) ∙ added-append (out_to n start.links to_q).told (said n to_q (own_word n got) k) (bytes got) ∙ ap (added (out_to n start.links to_q).told) (sym (said_here got)))
                | right' ne ↦ ap (λ z. z.told) (outlet_there q peer ne) ∙ h.going.sent got before' q peer ∙ ap (added (out_to n start.links q).told) (sym (said_there got q ne))
              ];
          calm = λ q peer. elim (cases_eq to_q q) [
            | left' eq ↦ subst (λ z. (outlet_to c' z).faults ≡ (out_to n start.links z).faults) eq ((some_written.0 quiet).1.faults ∙ h.going.calm to_q to_peer)
            | right' ne ↦ ap (λ z. z.faults) (outlet_there q peer ne) ∙ h.going.calm q peer
          ];
          room = λ q peer. elim (cases_eq to_q q) [
            | left' eq ↦ subst (λ z. KeepsRoom (said_bytes n z (suc k)) (out_to n start.links z) (outlet_to c' z)) eq
                (room_at _ (said_bytes n to_q (suc k)) _ _ (sym (bytes_here old_words)) (room_then (said_bytes n to_q k) (length (bytes old_words)) _ _ _ (h.going.room to_q to_peer) (some_written.0 quiet).1.room))
            | right' ne ↦ there_room q peer ne
          ];
          quiet = quiet;
        }

        posted_err : c'.failed ≢ None → Halted n start c'
        posted_err some = record {
          k = suc k;
          stopped = record {
            own = own';
            within = (let a = lk in omega arith);
            taken = later_taken n k c'.words.cells taken' (λ m' i' f. absurd (not_take m' i' (sym act_is ∙ f)));
            posted = posted';
            own_words = own_words';
            sent = λ got agrees q peer.
                let before' = agrees_before got agrees in
                elim (cases_eq to_q q) [
                  | left' eq ↦ subst (λ z. AddedPrefix (out_to n start.links z).told (said n z (own_word n got) (suc k)) (outlet_to c' z).told) eq
                      (subst (λ z. AddedPrefix (out_to n start.links to_q).told z (outlet_to c' to_q).told) (sym (said_here got)) (prefix_second (said n to_q (own_word n got) k) (bytes got) _ _ _ (h.going.sent got before' to_q to_peer) ((written got before').1 some).0))
                  | right' ne ↦ whole_prefix (said n q (own_word n got) (suc k)) _ _ (ap (λ z. z.told) (outlet_there q peer ne) ∙ h.going.sent got before' q peer ∙ ap (added (out_to n start.links q).told) (sym (said_there got q ne)))
                ];
          };
          why = subst (StopsBy n (suc k) start c') (sym (some_written.1 some).2) (
            to_peer,
            subst (λ z. Rose z (outlet_to c' to_q).faults) (h.going.calm to_q to_peer) (some_written.1 some).1,
            λ got agrees.
                let before' = agrees_before got agrees in
                sum_inl (record {
                  itself = sum_inl (k, m, i, refl, act_is ∙ is, refl, subst (λ z. AddedPrefix z (bytes got) (outlet_to c' to_q).told) (h.going.sent got before' to_q to_peer) ((written got before').1 some).0);
                  others = λ q peer ne.
                      let apart : to_q ≢ q = (λ f. ne (sym f)) in
                      ap (λ z. z.told) (outlet_there q peer apart) ∙ h.going.sent got before' q peer ∙ ap (added (out_to n start.links q).told) (sym (said_there got q apart));
                }),
          );
          outlets = λ q peer. elim (cases_eq to_q q) [
            | left' eq ↦ subst (λ z. OutletStays n z c'.failed (out_to n start.links z) (outlet_to c' z)) eq
                (failed_stays n to_q c'.failed (said_bytes n to_q k) (bytes old_words) _ _ _ (some_written.1 some).2 (h.going.calm to_q to_peer) (h.going.room to_q to_peer)
                (let a = bytes_within n to_q (suc k) (let b = lk in omega arith) in let e = bytes_here old_words in omega (arith, a, e)) (some_written.1 some).3)
            | right' ne ↦ other_stays n q to_q c'.failed (said_bytes n q (suc k)) _ _ (some_written.1 some).2 ne (ap (λ z. z.faults) (outlet_there q peer ne) ∙ h.going.calm q peer) (there_room q peer ne)
          ];
        }

        pub posted : (c'.failed ≡ None → Going n (suc k) start c') × (c'.failed ≢ None → Halted n start c')
        posted = (posted_ok, posted_err)

  -- ---- a step that moved

  module _ (d' : Desk) (c' : Mail) (steps : (given : Given) → MayStep cells n.world.plan c given d → Steps cells given d c d' c' (instruction_at given d) Moved)
      (keeps : (m v : ℕ) → plain_cell c.words.cells m ≡ Some v → plain_cell c'.words.cells m ≡ Some v) where
    step : (got : Key → ℕ) → Agrees n c'.words.cells got → Steps cells (l got) d c d' c' e Moved
    step got ag = steps (l got) (may_step got (λ m v to f. ag m v to (keeps m v f)))

    abbrev Next : Type 0
    Next = (c'.failed ≡ None → InSession n s start d' c') × (c'.failed ≢ None → Halted n start c')

    -- some words agree with those that are known before, and those of a step before that
    abbrev old : Key → ℕ
    old = known n c.words.cells

    first : Steps cells (l (known n c.words.cells)) d c d' c' e Moved
    first = steps (l (known n c.words.cells)) (may_step (known n c.words.cells) (agrees_known n c.words.cells h.going.own.cells))

    goes_at : (got : Key → ℕ) (i : Instruction) → e ≡ i → (i ≡ End → ⊥) → Goes n.world got s n.me i (state (l got) d.position)
    goes_at got i is ne = goes n.world h.going.own.part.sound got s n.me h.session h.going.own.part.party (part_words n.world n.me h.going.own.part s) d.position i is ne

    next_place : before_session n s + d'.position ≡ suc k
    next_place = let a = first.0 in omega arith

    in_session : Going n (suc k) start c' → ((got : Key → ℕ) → Agrees n c'.words.cells got → IsDesk (l got) d') → InSession n s start d' c'
    in_session g desk = record { session = h.session; desk = desk; going = subst (λ z. Going n z start c') (sym next_place) g }

    -- an instruction without a message
    stays : (i : Instruction) → e ≡ i → (i ≡ End → ⊥) → ((q : ℕ) (word : Key → ℕ) → frames (framing n) word (post_to plan q i) ≡ []) → ((m j : ℕ) → i ≡ Post m j → ⊥) → ((m j : ℕ) → i ≡ Take m j → ⊥) → c' ≡ c → ((got : Key → ℕ) → Agrees n c'.words.cells got → IsDesk (l got) d') → Next
    stays i is ne no_post not_post no_take same desk =
        let more = inside (λ f. ne (sym is ∙ f)) in
        let g = goes_on more c' (subst (IsOf n start) (sym same) h.going.own) (ap (λ z. z.outlets) same) (ap (λ z. z.failed) same) (ap (λ z. z.me) same) keeps (subst (λ (z : Mail). KeepsOwn n z.words.cells) (sym same) h.going.own_words)
        (later_posted n k c'.words.cells (λ j m i' less f. let v = h.going.posted j m i' less f in (v.0, keeps m v.0 v.1)) (λ m j f. absurd (not_post m j (sym is ∙ sym (act_is more) ∙ f))))
        (λ q peer word. ap (λ z. frames (framing n) word (post_to plan q z)) is ∙ no_post q word) (λ m j f. absurd (no_take m j (sym is ∙ f))) in
        (λ quiet. in_session g desk, λ some. absurd (some (ap (λ z. z.failed) same ∙ h.going.quiet)))

    taken : (m j : ℕ) → e ≡ Take m j → (m < length (messages n.world.plan)) × ((message n.world.plan m).receiver ≡ n.me)
    taken m j is = taken_there n.world n.me h.going.own.part s h.session d.position m j is

    -- a take leaves the party's own words as they are: one that it takes of itself was there
    own_after : (m j x : ℕ) → e ≡ Take m j → c'.words.cells ≡ plain_put c.words.cells m x → m < length c.words.cells → KeepsOwn n c'.words.cells
    own_after m j x is put lm = record {
      sender = λ r v f ne. ⊎_elim (λ before. h.going.own_words.sender r v before ne)
          (λ (new : (r ≡ m) × (v ≡ x)). absurd (ne (ap (λ z. (message plan z).receiver) new.0 ∙ (taken m j is).1)))
          (put_new c.words.cells m x r v lm (ap (λ z. plain_cell z r) (sym put) ∙ f));
      word = λ r v f from got ag.
          let before' : Agrees n c.words.cells got = (λ m' v' to g. ag m' v' to (keeps m' v' g)) in
          ⊎_elim (λ before. h.going.own_words.word r v before from got before')
          (λ (new : (r ≡ m) × (v ≡ x)).
          let mine : (message plan m).sender ≡ n.me = ap (λ z. (message plan z).sender) (sym new.0) ∙ from in
          let b = kept_before m j is mine in
          let both : Some v ≡ Some b.0 = sym f ∙ ap (plain_cell c'.words.cells) new.0 ∙ keeps m b.0 b.1 in
          let one : v ≡ b.0 = cc in
          one ∙ h.going.own_words.word m b.0 b.1 mine got before' ∙ ap (λ z. own_word n got (message plan z)) (sym new.0))
          (put_new c.words.cells m x r v lm (ap (λ z. plain_cell z r) (sym put) ∙ f));
    }

    takes : (m j : ℕ) → e ≡ Take m j → Next
    takes m j is =
        let x = subst (Does cells (l old) d c d' c') is first.1 in
        let t = are.took c m (Some x.0) c' x.1 in
        let known_now : plain_cell c'.words.cells m ≡ Some x.0 = are.got c' m x.0 x.2 in
        let more = inside (λ f. (let g : Take m j ≡ End = sym is ∙ f in cc)) in
        let own : IsOf n start c' = record {
          part = h.going.own.part;
          digest = h.going.own.digest;
          plan = ap (λ z. z.plan) t.rest ∙ h.going.own.plan;
          me = ap (λ z. z.me) t.rest ∙ h.going.own.me;
          form = ap (λ z. z.form) t.rest ∙ h.going.own.form;
          ids = t.ids ∙ h.going.own.ids;
          cells = t.count ∙ h.going.own.cells;
        } in
        let lm : m < length c.words.cells = (let a = (taken m j is).0 in let b = h.going.own.cells in omega (arith, a, b)) in
        let g = goes_on more c' own (ap (λ z. z.outlets) t.rest) (ap (λ z. z.failed) t.rest) (ap (λ z. z.me) t.rest) keeps
        (own_after m j x.0 is t.answers.1 lm)
        (later_posted n k c'.words.cells (λ j' m' i' less f. let v = h.going.posted j' m' i' less f in (v.0, keeps m' v.0 v.1)) (λ m' j' f. absurd (let other : Take m j ≡ Post m' j' = sym is ∙ sym (act_is more) ∙ f in cc)))
        (λ q peer word. ap (λ z. frames (framing n) word (post_to plan q z)) is)
        (λ m' j' f. let same : Take m j ≡ Take m' j' = sym is ∙ f in let one : m ≡ m' = cc in (x.0, ap (plain_cell c'.words.cells) (sym one) ∙ known_now)) in
        (λ quiet. in_session g (λ got ag. hears got ag), λ some. absurd (some (ap (λ z. z.failed) t.rest ∙ h.going.quiet)))
      where
        hears : (got : Key → ℕ) → Agrees n c'.words.cells got → IsDesk (l got) d'
        hears got ag =
            let y = subst (Does cells (l got) d c d' c') is (step got ag).1 in
            let w : got (message plan m) ≡ y.0 = ag m y.0 (taken m j is).1 (are.got c' m y.0 y.2) in
            goes_by (with_word (l got) m y.0) (λ r. got (message plan r)) d' y.3 (λ r m' i' less f. elim (cases_eq m' m) [
              | left' same ↦ set_here (λ r. got (message plan r)) m m' y.0 same ∙ sym (ap (λ z. got (message plan z)) same ∙ w)
              | right' ne ↦ set_there (λ r. got (message plan r)) m m' y.0 ne
            ])

    posts : (m j : ℕ) → e ≡ Post m j → Next
    posts m j is =
        let more = inside (λ f. (let g : Post m j ≡ End = sym is ∙ f in cc)) in
        let right = goes_at old (Post m j) is (λ f. cc) in
        let desk : (got : Key → ℕ) → Agrees n c'.words.cells got → IsDesk (l got) d' = (λ got ag. (subst (Does cells (l got) d c d' c') is (step got ag).1).1) in
        elim (cases_eq (message plan m).receiver n.me) [
          | left' to ↦
              let g = posted_here more m j is right.0.number right.1.0 c' (λ got ag. kept got ag to) to (own_word n old (message plan m), stayed old (agrees_known n c.words.cells h.going.own.cells) to) in
              (λ quiet. in_session g desk, λ some. absurd (some (g.quiet)))
          | right' other ↦
              let after' = posted more m j is right.0.number right.1.0 c' (λ got ag. ap (λ (z : Mail). z.words.cells) (sent got ag other).rest) other (λ got ag. sent got ag other) in
              (λ quiet. in_session (after'.0 quiet) desk, after'.1)
        ]
      where
        put_of : (got : Key → ℕ) → Agrees n c.words.cells got → Posts c m (own_word n got (message plan m)) c'
        put_of got ag =
            let x = subst (Does cells (l got) d c d' c') is (steps (l got) (may_step got ag)).1 in
            let own : word_at (l got) d.position m j ≡ own_word n got (message plan m) = (goes_at got (Post m j) is (λ f. cc)).1.1 in
            subst (λ z. Posts c m z c') own (are.put c m (word_at (l got) d.position m j) x.0.0 c' x.0.1).1

        stayed : (got : Key → ℕ) → Agrees n c.words.cells got → (message plan m).receiver ≡ n.me → c' ≡ with_post c m (own_word n got (message plan m))
        stayed got ag to = (put_of got ag).stays (ap (λ z. (message z m).receiver) h.going.own.plan ∙ to ∙ sym h.going.own.me)

        kept : (got : Key → ℕ) → Agrees n c.words.cells got → (message plan m).receiver ≡ n.me → c'.words.cells ≡ plain_put c.words.cells m (own_word n got (message plan m))
        kept got ag to = ap (λ (z : Mail). z.words.cells) (stayed got ag to)

        sent : (got : Key → ℕ) → Agrees n c.words.cells got → (message plan m).receiver ≢ n.me → SentTo (message plan m).receiver (frame (framing n) (message plan m) (own_word n got (message plan m))) (with_post c m (own_word n got (message plan m))) c'
        sent got ag other =
            let receiver : (message c.plan m).receiver ≡ (message plan m).receiver = ap (λ z. (message z m).receiver) h.going.own.plan in
            subst (λ f. SentTo (message plan m).receiver (frame (record { form = f; bits = plan.bits }) (message plan m) (own_word n got (message plan m))) (with_post c m (own_word n got (message plan m))) c') h.going.own.form
            (subst (λ z. SentTo (message z m).receiver (frame (record { form = c.form; bits = z.bits }) (message z m) (own_word n got (message plan m))) (with_post c m (own_word n got (message plan m))) c') h.going.own.plan
            ((put_of got ag).goes (λ f. other (sym receiver ∙ f ∙ h.going.own.me))))

    moved_at : (i : Instruction) → e ≡ i → Next
    moved_at (Post m j) is = posts m j is
    moved_at (Take m j) is = takes m j is
    moved_at End is = absurd (subst (Does cells (l old) d c d' c') is first.1)
    moved_at i is = stays i is (λ f. cc) (λ q word. refl) (λ m j f. cc) (λ m j f. cc) (subst (Does cells (l old) d c d' c') is first.1).0 (λ got ag. (subst (Does cells (l got) d c d' c') is (step got ag).1).1)

    pub moved : (c'.failed ≡ None → InSession n s start d' c') × (c'.failed ≢ None → Halted n start c')
    moved = moved_at e refl

  -- ---- a step that did nothing

  module _ (d' : Desk) (c' : Mail) (m : ℕ) (steps : (given : Given) → MayStep cells n.world.plan c given d → Steps cells given d c d' c' (instruction_at given d) (NotYet m)) where
    -- a word that is kept is given
    not_here : (m' : ℕ) → (v : ℕ) × (plain_cell c.words.cells m' ≡ Some v) → TakesFrom c m' (plain_cell c.words.cells m') None c' → ⊥
    not_here m' v from = let x = subst (λ o. TakesFrom c m' o None c') v.1 from in (let f : None ≡ Some v.0 = x.0 in cc)

    waited_at : (i : Instruction) → e ≡ i → Waits cells d c d' c' m i → InSession n s start d' c' × ComesFromPeer c' m × Awaits n s d' m
    waited_at (Take m' j) is x =
        let t = are.took c m' None c' x.2 in
        let r = rested n s start d c h c' t.rest t.answers t.ids in
        let there = taken_there n.world n.me h.going.own.part s h.session d.position m' j is in (
          subst (λ z. InSession n s start z c') (sym x.1) r,
          subst (ComesFromPeer c') (sym x.0) (record {
            there = subst (λ z. m' < length (messages z)) (sym r.going.own.plan) there.0;
            receiver = ap (λ z. (message z m').receiver) r.going.own.plan ∙ there.1 ∙ sym r.going.own.me;
            sender = λ from. not_here m' (kept_before m' j is (sym (ap (λ z. (message z m').sender) r.going.own.plan) ∙ from ∙ r.going.own.me)) t.from;
          }),
          subst (Awaits n s d') (sym x.0) (subst (λ z. Awaits n s z m') (sym x.1) (j, act_is (inside (λ f. (let g : Take m' j ≡ End = sym is ∙ f in cc))) ∙ is)),
        )
    waited_at _ is x = absurd x

    pub waited : InSession n s start d' c' × ComesFromPeer c' m × Awaits n s d' m
    waited = waited_at e refl (steps (l (known n c.words.cells)) (may_step (known n c.words.cells) (agrees_known n c.words.cells h.going.own.cells)))

  module _ (d' : Desk) (c' : Mail) (steps : (given : Given) → MayStep cells n.world.plan c given d → Steps cells given d c d' c' (instruction_at given d) Ended) where
    pub at_end : InSession n s start d' c' × (d'.position ≡ length (program n.world.plan n.me s))
    at_end =
        let x = steps (l (known n c.words.cells)) (may_step (known n c.words.cells) (agrees_known n c.words.cells h.going.own.cells)) in
        let desk = h.desk (known n c.words.cells) (agrees_known n c.words.cells h.going.own.cells) in
        let still : d.position ≡ length (program n.world.plan n.me s) = elim (cases_lt d.position (length (program n.world.plan n.me s))) [
          | left' less ↦ absurd (end_is_last n.world.plan h.going.own.part.sound s h.session n.me d.position less x.0)
          | right' past ↦ (let within = desk.position in omega arith)
        ] in
        (subst (λ z. InSession n s start d' z) (sym x.2) (subst (λ z. InSession n s start z c) (sym x.1) h), ap (λ (z : Desk). z.position) x.1 ∙ still)
