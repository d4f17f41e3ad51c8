-- Whatever runs broke off, what a party says and got is the world's.
use Rattle.std.proofs.Common.{◌≡◌, ◌≢◌, ℕ, zero, suc, ◌+◌, ◌*◌, ◌<◌, ◌≤◌, ◌^◌, List, [], ◌++◌, take, drop, length, refl, sym, ap, ◌∙◌, subst, arith, append_assoc, length-append, ⊎_elim}
use Rattle.std.specs.Prelude.{slice_index_or, Some}
use Rattle.std.specs.List.{AllByRecursion}
use Rattle.std.proofs.lemmas.Bool.{cases_eq, cases_lt}
use Rattle.std.proofs.lemmas.List.{take-append-drop, length-take-le, get_or_past}
use Rattle.std.proofs.Math.ListN.{get_or-append}
use mathlib.Core.Logic.{inl as left', inr as right'}
use Rattle.plan_model.specs.Plans.{Plan, IsPlan}
use Rattle.plan_model.specs.declared.key.Key.{Key}
use Rattle.plan_model.specs.Messages.{messages}
use Rattle.plan_model.specs.Numbers.{message, no_key, number}
use Rattle.plan_model.proofs.DistinctMessages.{every_place, number_of_message}
use Rattle.share_world.specs.Worlds.{World, word}
use Rattle.share_world.specs.Locals.{local_word}
use Rattle.share_world.proofs.SmallWords.{small_word, is_plan}
use Rattle.program_model.specs.declared.instruction.Instruction.TheVariants.{Post, Take, End}
use Rattle.program_model.specs.Programs.{program, at}
use Rattle.program_laws.specs.Parts.{IsPart}
use Rattle.program_laws.proofs.OncePosted.{once}
use Rattle.program_laws.proofs.PartLaws.{part_of}
use Rattle.program_laws.proofs.RightWords.{IsBefore}
use Rattle.program_laws.specs.Once.{take_slot}
use Rattle.program_laws.proofs.Ranks.{batches_post_first}
use Rattle.network_laws.proofs.EarlierTakes.{posts_world}
use Rattle.outer_io.specs.Sink.{added, AddedPrefix}
use Rattle.frame_code.specs.declared.framing.Framing.{Framing}
use Rattle.frame_code.specs.Frames.{hello, frame, frame_bytes}
use Rattle.frame_code.proofs.ReadFrames.{some_bytes, word_in, word_back, length-hello}
use Rattle.node_talk.specs.Talks.{Node, acts, Stays, messages_between, frames, stream, talk, said, posts_to, post_to, place_of, IsRun}
use Rattle.node_talk.specs.PeerLinks.{out_to}
use Rattle.node_talk.proofs.PassedLists.{take_place}
use Rattle.node_talk.proofs.MessageOrder.{posts_are_all, gather_prefix}
use Rattle.node_talk.proofs.Frames.{stream_length, strip}
use Rattle.node_talk.proofs.ExpectedPlaces.{placed, expected_there, between_parties}
use Rattle.node_talk.proofs.ActPlaces.{act_there, before_session, at_act, within_acts, posted_there, posted_before_take, taken_there}
use Rattle.node_talk.proofs.RightRuns.{got_world, is_of_world, kept_as_sent}
use Rattle.node_talk.proofs.KeptViews.{own_view}
use Rattle.network_laws.specs.Networks.{Network, node, RanThrough, IsNetwork, SaysWorld, IsRight}
use Rattle.network_laws.proofs.RunsAsShort.{CutShort, cut_short, run_of_all, run_broke, part_of_more, part_of_talk}
use Rattle.network_laws.proofs.FirstParts.{less_by, below_by, frames_begin, cut_after, cut_frames, short_take, long_take, posted_before}

module _ (net : Network) (h : IsNetwork net) where
  abbrev w : World
  w = net.world

  abbrev plan : Plan
  plan = net.world.plan

  -- how messages are framed
  abbrev fr : Framing
  fr = record { form = net.form; bits = net.world.plan.bits }

  -- the messages from p to q
  abbrev keys : ℕ → ℕ → List Key
  keys p q = messages_between net.world.plan p q

  abbrev key_at : ℕ → ℕ → ℕ → Key
  key_at p q j = slice_index_or (messages_between net.world.plan p q) j no_key

  valid : IsPlan net.world.plan
  valid = is_plan net.world h.whole

  part : (p : ℕ) → p < plan.parties → IsPart net.world p
  part p lp = part_of w h.whole p lp

  any_run : (p : ℕ) → p < plan.parties → (got : Key → ℕ) × CutShort (node net p) got (net.before p) (net.after p)
  any_run p lp = ⊎_elim (λ (r : RanThrough net p). (r.got, run_broke (node net p) (part p lp) r.got (net.before p) (net.after p) r.talked (net.results p) r.done))
      (λ b. (b.got, cut_short (node net p) b.got (net.before p) (net.after p) b.fault b.broke)) (h.runs p lp)

  got_of : (p : ℕ) → (got : Key → ℕ) × (p < plan.parties → CutShort (node net p) got (net.before p) (net.after p))
  got_of p = elim (cases_lt p plan.parties) [
    | left' lp ↦ let r = any_run p lp in (r.0, λ l. r.1)
    | right' past ↦ (λ key. 0, λ l. absurd (omega arith))
  ]

  abbrev got : ℕ → Key → ℕ
  got p = (got_of p).0

  abbrev own : ℕ → Key → ℕ
  own p = local_word net.world ((got_of p).0) p

  broke : (p : ℕ) (lp : p < plan.parties) → CutShort (node net p) (got p) (net.before p) (net.after p)
  broke p lp = (got_of p).1 lp

  -- what was said by the first instructions is a first part of the talk
  told : (p q : ℕ) (lp : p < plan.parties) → q < plan.parties → p ≢ q → AddedPrefix (out_to (node net p) (net.before p) q).told (talk (node net p) q (own p)) (out_to (node net p) (net.after p) q).told
  told p q lp lq ne = part_of_talk (node net p) q (own p) (broke p lp).k _ _ ((broke p lp).told q (lq, λ e. ne (sym e)))

  -- what p's outlet to q took
  abbrev taken : (p q : ℕ) (lp : p < plan.parties) (lq : q < plan.parties) (ne : p ≢ q) → List ℕ
  taken p q lp lq ne = (h.pipes p q lp lq ne).held ++ (h.pipes p q lp lq ne).lost

  -- it is a first part of what it was to take
  first_part : (p q : ℕ) (lp : p < plan.parties) (lq : q < plan.parties) (ne : p ≢ q) (text : List ℕ) → AddedPrefix (out_to (node net p) (net.before p) q).told text (out_to (node net p) (net.after p) q).told
      → (x : ℕ) × (taken p q lp lq ne ≡ take x text)
  first_part p q lp lq ne text a =
      let pipe = h.pipes p q lp lq ne in
      let same : Some (pipe.earlier ++ (pipe.held ++ pipe.lost)) ≡ Some (pipe.earlier ++ take a.0 text) = sym pipe.after ∙ a.1 ∙ ap (λ z. added z (take a.0 text)) pipe.before in
      (a.0, strip pipe.earlier (pipe.held ++ pipe.lost) (take a.0 text) (some_same _ _ same))
    where
      some_same : (xs ys : List ℕ) → Some xs ≡ Some ys → xs ≡ ys
      some_same xs ys e = cc

  -- the frames that q holds of p are those of p's own words
  same_as_own : (p q : ℕ) (lp : p < plan.parties) (lq : q < plan.parties) (ne : p ≢ q) (f : ℕ) (word' : Key → ℕ) → IsRun (node net q) p (h.pipes p q lp lq ne).held f word' → AllByRecursion (λ key. frame fr key (word' key) ≡ frame fr key (own p key)) (take f (keys p q))
  same_as_own p q lp lq ne f word' run =
      let pipe = h.pipes p q lp lq ne in
      let start : List ℕ = hello p q net.digest in
      let text : List ℕ = talk (node net p) q (own p) in
      let t = first_part p q lp lq ne text (told p q lp lq ne) in
      let front : List ℕ = frames fr word' (take f (keys p q)) in
      let whole : start ++ (front ++ (run.begins.0 ++ (pipe.lost ++ drop t.0 text))) ≡ start ++ frames fr (own p) (keys p q) =
      sym (
      ap (λ z. (z ++ pipe.lost) ++ drop t.0 text) run.begins.1
      ∙ append_assoc ((start ++ front) ++ run.begins.0) pipe.lost (drop t.0 text)
      ∙ append_assoc (start ++ front) run.begins.0 (pipe.lost ++ drop t.0 text)
      ∙ append_assoc start front (run.begins.0 ++ (pipe.lost ++ drop t.0 text)))
      ∙ ap (λ z. z ++ drop t.0 text) t.1 ∙ take-append-drop t.0 text in
      frames_begin fr word' (own p) (keys p q) f (run.begins.0 ++ (pipe.lost ++ drop t.0 text)) run.count (strip start _ _ whole)

  -- ---- the world's words, session by session and then slot by slot

  -- words of slot k of session s are the world's wherever they are held
  abbrev HeldRight : ℕ → ℕ → Type 0
  HeldRight s k =
      (p q : ℕ) (lp : p < plan.parties) (lq : q < plan.parties) (ne : p ≢ q) (f : ℕ) (word' : Key → ℕ) → IsRun (node net q) p (h.pipes p q lp lq ne).held f word' → (j : ℕ) → j < f
      → (key_at p q j).session ≡ s → (key_at p q j).slot ≡ k → word' (key_at p q j) ≡ word w (key_at p q j)

  -- so are those that a party kept for itself, where it posted them
  abbrev KeptRight : ℕ → ℕ → Type 0
  KeptRight s k =
      (p : ℕ) (lp : p < plan.parties) (m : ℕ) → m < length (messages plan) → Stays (node net p) (message plan m) → (message plan m).session ≡ s → (message plan m).slot ≡ k
      → (j i : ℕ) → j < (broke p lp).k → at (acts (node net p)) j ≡ Post m i → got p (message plan m) ≡ word w (message plan m)

  abbrev RightAt : ℕ → ℕ → Type 0
  RightAt s k = HeldRight s k × KeptRight s k

  -- and in all slots before slot k of session t
  abbrev RightBefore : ℕ → ℕ → Type 0
  RightBefore t n = (s k : ℕ) → IsBefore t n s k → RightAt s k

  -- message m is none of those that p posted before its post
  not_yet : (p q : ℕ) (lp : p < plan.parties) (m u : ℕ) (lm : m < length (messages plan)) → u ≤ (once plan m valid lm).posted.position → u ≤ length (program plan p (message plan m).session)
      → AllByRecursion (λ key. key ≡ message plan m → ⊥) (posts_to (node net p) q (before_session (node net p) (message plan m).session + u))
  not_yet p q lp m u lm late lu =
      let o = once plan m valid lm in
      posted_before (node net p) q (message plan m).session u (λ key. key ≡ message plan m → ⊥) o.session_there lu (λ t v m' i' lt before e same.
      let g = posted_there w p (part p lp) t lt v m' i' e in
      let one : m' ≡ m = sym (number_of_message plan m' g.0) ∙ ap (number plan) same ∙ number_of_message plan m lm in
      let a = o.posted.alone p t v i' (subst (λ z. at (program plan p t) v ≡ Post z i') one e) in
      ⊎_elim (λ b. omega (arith, b, a.1)) (λ b. omega (arith, b.1, a.2, late)) before)

  -- what was said before a position is shorter than a frame that is posted there or later
  too_late : (p q : ℕ) (lp : p < plan.parties) (lq : q < plan.parties) (ne : p ≢ q) (j m u : ℕ) (lm : m < length (messages plan)) → j < length (keys p q) → message plan m ≡ key_at p q j
      → 38 + frame_bytes fr * j < length (taken p q lp lq ne) → u ≤ (once plan m valid lm).posted.position → u ≤ length (program plan p (message plan m).session)
      → before_session (node net p) (message plan m).session + u < length (acts (node net p))
      → AddedPrefix (out_to (node net p) (net.before p) q).told (said (node net p) q (own p) (before_session (node net p) (message plan m).session + u)) (out_to (node net p) (net.after p) q).told → ⊥
  too_late p q lp lq ne j m u lm lj is long late lu lk cut =
      let n : Node = node net p in
      let k : ℕ = before_session n (message plan m).session + u in
      let posts : List Key = posts_to n q k in
      let text : List ℕ = said n q (own p) k in
      let t = first_part p q lp lq ne text cut in
      let most : length (taken p q lp lq ne) ≤ length text = subst (λ z. length z ≤ length text) (sym t.1) (short_take t.0 text) in
      let count : length text ≡ 38 + frame_bytes fr * length posts = stream_length fr net.digest p q (own p) posts h.digest in
      let inside' : j < length posts = less_by (frame_bytes fr) j (length posts) (omega arith) in
      let r = gather_prefix (post_to plan q) (acts n) k (length (acts n)) (omega arith) in
      let split : keys p q ≡ posts ++ r.0 = sym (posts_are_all n q) ∙ r.1 in
      let place : slice_index_or posts j no_key ≡ key_at p q j = sym (ap (λ z. slice_index_or z j no_key) split ∙ get_or-append posts r.0 no_key j inside') in
      every_place (λ key. key ≡ message plan m → ⊥) posts j no_key (not_yet p q lp m u lm late lu) inside' (place ∙ sym is)

  -- what p took before it posted message m is the world's, if that is so in the slots before m's
  module _ (p : ℕ) (lp : p < plan.parties) (m i position : ℕ) (ls : (message net.world.plan m).session < length net.world.plan.sessions) (stands : at (program net.world.plan p (message net.world.plan m).session) position ≡ Post m i)
      (before : RightBefore (message net.world.plan m).session (message net.world.plan m).slot) where
    abbrev n : Node
    n = node net p

    abbrev t : ℕ
    t = (message net.world.plan m).session

    within : (r m' i' : ℕ) → at (program plan p t) r ≡ Take m' i' → r < length (program plan p t)
    within r m' i' is = elim (cases_lt r (length (program plan p t))) [
      | left' l ↦ l
      | right' past ↦ absurd (let f : End ≡ Take m' i' = sym (get_or_past (program plan p t) r End past) ∙ is in cc)
    ]

    at_place : (r m' i' : ℕ) → at (program plan p t) r ≡ Take m' i' → (before_session n t + r < length (acts n)) × (at (acts n) (before_session n t + r) ≡ Take m' i')
    at_place r m' i' is =
        let l = within r m' i' is in
        ((let a = within_acts n t (suc r) ls (omega (arith, l)) in omega (arith, a)), at_act n t r ls l ∙ is)

    early : (r m' i' : ℕ) → r < position → at (program plan p t) r ≡ Take m' i' → IsBefore t (message plan m).slot (message plan m').session (message plan m').slot
    early r m' i' less is =
        let first = batches_post_first plan h.whole.sound t p ls in
        let comes = first.takes r m' i' (within r m' i' is) is in
        elim comes.order [
          | left' here ↦
              let session : t ≡ (message plan m').session = sym comes.session ∙ ap (λ (z : ℕ × ℕ). z.0) here in
              let slot : take_slot plan m' ≡ (message plan m').slot = ap (λ (z : ℕ × ℕ). z.1) here in
              right' (
                sym session,
                elim (cases_lt (message plan m').slot (message plan m).slot) [
                  | left' l ↦ l
                  | right' past ↦ absurd (let a = first.order position r m i m' i' stands is (omega (arith, slot, past)) in omega (arith, a, less))
                ],
              )
          | right' later ↦ left' (omega (arith, later, comes.session))
        ]

    took_right : (r m' i' : ℕ) → r < position → at (program plan p t) r ≡ Take m' i' → before_session n t + r < (broke p lp).k → got p (message plan m') ≡ word w (message plan m')
    took_right r m' i' less is in_time =
        let there = taken_there w p (part p lp) t ls r m' i' is in
        let here = at_place r m' i' is in
        let right = before (message plan m').session (message plan m').slot (early r m' i' less is) in
        let x = broke p lp in
        let r' : ℕ = (message plan m').sender in
        elim (cases_eq r' p) [
          | left' from ↦
              let b = posted_before_take n (part p lp) (before_session n t + r) m' i' here.0 here.1 from in
              right.1 p lp m' there.0 (from, there.1) refl refl b.place b.share (let a = b.before in omega (arith, a, in_time)) b.is
          | right' apart ↦
              let b = between_parties n (part p lp) m' there.0 in
              let pipe = h.pipes r' p b.sender lp apart in
              let place = placed n m' there.0 there.1 in
              let came : place_of n m' < x.came r' = elim (x.takes (before_session n t + r) m' i' in_time here.1) [ left' from ↦ absurd (apart from) | right' l ↦ l ] in
              let run = x.hears r' (b.sender, apart) pipe.held pipe.inlet (omega (arith, came)) in
              subst (λ z. got p z ≡ word w z) place.1 (right.0 r' p b.sender lp apart (x.came r') (got p) run (place_of n m') came (ap (λ z. z.session) place.1) (ap (λ z. z.slot) place.1))
        ]

  -- the message at a place is p's own word, if so much was taken
  own_right : (p q : ℕ) (lp : p < plan.parties) (lq : q < plan.parties) (ne : p ≢ q) (j : ℕ) → RightBefore (key_at p q j).session (key_at p q j).slot → j < length (keys p q)
      → 38 + frame_bytes fr * j < length (taken p q lp lq ne) → own p (key_at p q j) ≡ word w (key_at p q j)
  own_right p q lp lq ne j before lj long =
      let is : message plan m ≡ key_at p q j = (expected_there (node net q) p j lj).same in
      subst (λ z. own p z ≡ word w z) is (posts_world w h.whole session' p (once plan m valid lm).session_there lp (got p) m (message plan m).share position stands got_before)
    where
      m : ℕ
      m = (expected_there (node net q) p j lj).number

      lm : m < length (messages plan)
      lm = (expected_there (node net q) p j lj).there

      session' : ℕ
      session' = (message plan m).session

      position : ℕ
      position = (once plan m valid lm).posted.position

      stands : at (program plan p session') position ≡ Post m (message plan m).share
      stands = ap (λ z. at (program plan z session') position) (sym (expected_there (node net q) p j lj).sender) ∙ (once plan m valid lm).posted.stands

      before' : RightBefore (message plan m).session (message plan m).slot
      before' = subst (λ (z : Key). RightBefore z.session z.slot) (sym (expected_there (node net q) p j lj).same) before

      -- what p took before the post is the world's, or what is posted after its take wasn't said
      got_before : (r m' i : ℕ) → r < position → at (program plan p session') r ≡ Take m' i → got p (message plan m') ≡ word w (message plan m')
      got_before r m' i less takes' =
          let n : Node = node net p in
          let ls = (once plan m valid lm).session_there in
          let x = broke p lp in
          let k : ℕ = before_session n session' + r in
          let there = at_place p lp m (message plan m).share position ls stands before' r m' i takes' in
          let l = within p lp m (message plan m).share position ls stands before' r m' i takes' in
          elim (cases_lt k x.k) [
            | left' in_time ↦ took_right p lp m (message plan m).share position ls stands before' r m' i less takes' in_time
            | right' stopped ↦ absurd (
                too_late p q lp lq ne j m r lm lj (expected_there (node net q) p j lj).same long (omega (arith, less)) (omega (arith, l)) there.0
                (part_of_more n q (own p) x.k k (omega (arith, stopped)) _ _ (x.told q (lq, λ e. ne (sym e))))
                )
          ]

  -- so many bytes are held where a run of f frames is
  long_enough : (p q : ℕ) (lp : p < plan.parties) (lq : q < plan.parties) (ne : p ≢ q) (f : ℕ) (word' : Key → ℕ) → IsRun (node net q) p (h.pipes p q lp lq ne).held f word' → 38 + frame_bytes fr * f ≤ length (taken p q lp lq ne)
  long_enough p q lp lq ne f word' run =
      let pipe = h.pipes p q lp lq ne in
      let first : List Key = take f (keys p q) in
      let few : frame_bytes fr * length first ≡ frame_bytes fr * f = ap (λ z. frame_bytes fr * z) (length-take-le f (keys p q) run.count) in
      let all : length pipe.held ≡ 38 + frame_bytes fr * length first + length run.begins.0 =
      ap length run.begins.1 ∙ length-append (stream fr net.digest p q word' first) run.begins.0 ∙ ap (λ z. z + length run.begins.0) (stream_length fr net.digest p q word' first h.digest) in
      let sum = length-append pipe.held pipe.lost in
      omega arith

  held_right : (s k : ℕ) → RightBefore s k → HeldRight s k
  held_right s k before p q lp lq ne f word' run j lf session slot =
      let key : Key = key_at p q j in
      let lj : j < length (keys p q) = (let c = run.count in omega arith) in
      let before' : RightBefore key.session key.slot = subst (λ z. RightBefore z key.slot) (sym session) (subst (RightBefore s) (sym slot) before) in
      let o = own_right p q lp lq ne j before' lj (let l = long_enough p q lp lq ne f word' run in let more = below_by (frame_bytes fr) j f lf in let some = some_bytes fr in omega (arith, l, more, some)) in
      let few : length (take f (keys p q)) ≡ f = length-take-le f (keys p q) run.count in
      let place : slice_index_or (take f (keys p q)) j no_key ≡ key = take_place (keys p q) f j no_key lf in
      let same : frame fr key (word' key) ≡ frame fr key (own p key) = subst (λ z. frame fr z (word' z) ≡ frame fr z (own p z)) place (every_place (λ z. frame fr z (word' z) ≡ frame fr z (own p z)) (take f (keys p q)) j no_key (same_as_own p q lp lq ne f word' run) (omega arith)) in
      let small : word' key < 2 ^ plan.bits = subst (λ z. word' z < 2 ^ plan.bits) place (every_place (λ z. word' z < 2 ^ plan.bits) (take f (keys p q)) j no_key run.small (omega arith)) in
      sym (word_back fr key (word' key) [] h.whole.sound.bits small) ∙ ap (λ z. word_in fr (z ++ [])) same
      ∙ word_back fr key (own p key) [] h.whole.sound.bits (subst (λ z. z < 2 ^ plan.bits) (sym o) (small_word w h.whole key)) ∙ o

  kept_right : (s k : ℕ) → RightBefore s k → KeptRight s k
  kept_right s k before p lp m lm stays session slot j i less is =
      let n : Node = node net p in
      let o = once plan m valid lm in
      let l : j < length (acts n) = elim (cases_lt j (length (acts n))) [
        | left' l ↦ l
        | right' past ↦ absurd (let f : End ≡ Post m i = sym (get_or_past (acts n) j End past) ∙ is in cc)
      ] in
      let a = act_there n j l in
      let here : at (program plan p a.session) a.position ≡ Post m i = sym a.same ∙ is in
      let alone = o.posted.alone p a.session a.position i here in
      let stands : at (program plan p (message plan m).session) a.position ≡ Post m i = subst (λ z. at (program plan p z) a.position ≡ Post m i) alone.1 here in
      let before' : RightBefore (message plan m).session (message plan m).slot = subst (λ z. RightBefore z (message plan m).slot) (sym session) (subst (RightBefore s) (sym slot) before) in
      let there : j ≡ before_session n (message plan m).session + a.position = a.place ∙ ap (λ z. before_session n z + a.position) alone.1 in
      (broke p lp).keeps j m i less is stays.1
      ∙ posts_world w h.whole (message plan m).session p o.session_there lp (got p) m i a.position stands
      (λ r m' i' before'' takes'. took_right p lp m i a.position o.session_there stands before' r m' i' before'' takes' (omega (arith, there, before'', less)))

  right_here : (s k : ℕ) → RightBefore s k → RightAt s k
  right_here s k before = (held_right s k before, kept_right s k before)

  by_slots : (t : ℕ) → RightBefore t 0 → (k : ℕ) → RightBefore t k
  by_slots t earlier zero s j is = earlier s j is
  by_slots t earlier (suc k) s j is = elim is [
    | left' less ↦ earlier s j (left' less)
    | right' here ↦ elim (cases_eq j k) [
      | left' same ↦ subst (λ z. RightAt z j) (sym here.0) (subst (RightAt t) (sym same) (right_here t k (by_slots t earlier k)))
      | right' ne ↦ by_slots t earlier k s j (right' (here.0, (let a = here.1 in omega (arith, a, ne))))
    ]
  ]

  by_sessions : (t : ℕ) → RightBefore t 0
  by_sessions zero s j is = elim is [ left' less ↦ absurd (omega (arith, less)) | right' here ↦ absurd (let a = here.1 in omega (arith, a)) ]
  by_sessions (suc t) s j is = elim is [
    | left' less ↦ elim (cases_eq s t) [
      | left' same ↦ by_slots t (by_sessions t) (suc j) s j (right' (same, omega arith))
      | right' ne ↦ by_sessions t s j (left' (omega (arith, less, ne)))
    ]
    | right' here ↦ absurd (let a = here.1 in omega (arith, a))
  ]

  right_before : (t k : ℕ) → RightBefore t k
  right_before t k = by_slots t (by_sessions t) k

  -- ---- what an outlet took begins what its party says in the world

  own_said : (p q : ℕ) (lp : p < plan.parties) (lq : q < plan.parties) (ne : p ≢ q) (j : ℕ) → j < length (keys p q) → 38 + frame_bytes fr * j < length (taken p q lp lq ne) → own p (key_at p q j) ≡ word w (key_at p q j)
  own_said p q lp lq ne j lj long = own_right p q lp lq ne j (right_before (key_at p q j).session (key_at p q j).slot) lj long

  pub says_world : SaysWorld net
  says_world p q lp lq ne =
      let pipe = h.pipes p q lp lq ne in
      let start : List ℕ = hello p q net.digest in
      let text : List ℕ = talk (node net p) q (own p) in
      let t = first_part p q lp lq ne text (told p q lp lq ne) in
      let count : length text ≡ 38 + frame_bytes fr * length (keys p q) = stream_length fr net.digest p q (own p) (keys p q) h.digest in
      let same : take t.0 text ≡ take t.0 (talk (node net p) q (word w)) =
      cut_after start (frames fr (own p) (keys p q)) (frames fr (word w) (keys p q)) t.0 (λ n is.
      cut_frames fr (own p) (word w) (keys p q) n (λ j lj less. own_said p q lp lq ne j lj (long_take (taken p q lp lq ne) text t.0 (38 + frame_bytes fr * j) t.1 (let l = length-hello p q net.digest h.digest in omega (arith, l, is, less)) (let more = below_by (frame_bytes fr) j (length (keys p q)) lj in let some = some_bytes fr in omega (arith, count, more, some))))) in (
        t.0,
        pipe.after ∙ ap (λ z. Some (pipe.earlier ++ z)) (t.1 ∙ same) ∙ sym (ap (λ z. added z (take t.0 (talk (node net p) q (word w)))) pipe.before),
      )

  -- ---- a party that ran to its end

  module _ (p : ℕ) (lp : p < net.world.plan.parties) (run : RanThrough net p) where
    pub heard_right : (q : ℕ) → q < plan.parties → q ≢ p → (j : ℕ) → j < length (keys q p) → run.got (key_at q p j) ≡ word w (key_at q p j)
    heard_right q lq ne j lj =
        let pipe = h.pipes q p lq lp ne in
        let all = run_of_all (node net p) (part p lp) run.got (net.before p) (net.after p) run.talked q (lq, ne) pipe.held pipe.inlet (length (keys q p)) (omega arith) in
        (right_here (key_at q p j).session (key_at q p j).slot (right_before (key_at q p j).session (key_at q p j).slot)).0 q p lq lp ne (length (keys q p)) run.got all j lj refl refl

    got_right : (m : ℕ) → m < length (messages plan) → (message plan m).receiver ≡ p → run.got (message plan m) ≡ word w (message plan m)
    got_right = got_world (node net p) h.whole lp run.got (λ m lm to apart.
        let b = between_parties (node net p) (part p lp) m lm in
        let place = placed (node net p) m lm to in
        subst (λ z. run.got z ≡ word w z) place.1 (heard_right (message plan m).sender b.sender apart (place_of (node net p) m) place.0))
        (kept_as_sent (node net p) run.got (net.results p) run.done)

    pub is_right : IsRight net p
    is_right = record {
      words = λ m lm to. run.done.words m lm to ∙ ap Some (got_right m lm to);
      own_view = own_view (node net p) h.whole lp run.got got_right (net.results p) run.done;
      of_world = is_of_world (node net p) h.whole lp run.got got_right (net.results p) (net.before p) (net.after p) run.done run.talked;
    }
