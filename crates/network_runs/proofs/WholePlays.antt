-- Every whole world is played.
use Rattle.std.proofs.Common.{◌≡◌, ◌≢◌, ℕ, zero, suc, ◌+◌, ◌-◌, ◌<◌, ◌^◌, nat_eq, eq-eqb, ne_eqb, Bool, true, ◌||◌, if◌then◌else◌, List, [], ◌∷◌, length, Option, None, Some, Ok, inl, inr, refl, sym, ap, ◌∙◌, subst, arith}
use Rattle.std.specs.Prelude.{not, slice_index_or}
use Rattle.std.specs.List.{list_all}
use Rattle.std.proofs.lemmas.Bool.{and_from, cases_Bool, cases_lt, cond-false, cond-true, or_left, or_right}
use Rattle.std.proofs.lemmas.List.Folds.{list_all-append}
use Rattle.std.proofs.lemmas.Bool.Decides.{nat_tests}
use Rattle.std.proofs.lemmas.List.{append-nil, get_or_past}
use Rattle.list_laws.specs.Lists.{listed}
use Rattle.list_laws.proofs.JoinedLists.{length-listed, listed_at}
use Rattle.session_slots.specs.Sessions.{output_wire, readers}
use Rattle.plan_model.specs.Plans.{reads, session}
use Rattle.plan_model.specs.Messages.{messages}
use Rattle.plan_model.specs.Numbers.{message, no_key}
use Rattle.share_world.specs.Worlds.{World, plain, word}
use Rattle.share_world.specs.Laws.{IsWhole}
use Rattle.share_world.proofs.SentWords.{opened_are_plain}
use Rattle.share_world.proofs.SmallWords.{is_world, small_word}
use Rattle.frame_code.specs.declared.framing.FrameForm.{FrameForm}
use Rattle.outer_io.specs.Inlet.{InletReading, ahead, shut_inlet}
use Rattle.outer_io.specs.Outlet.{OutletReading, shut_outlet}
use Rattle.outer_io.specs.Links.{LinksReading}
use Rattle.outer_io.specs.Sink.{SinkReading, added}
use Rattle.link_reader.specs.Heard.{KeepsCalm}
use Rattle.node_talk.specs.Talks.{IsPeer, Node, messages_between, own_word, talk}
use Rattle.node_talk.specs.PeerLinks.{in_from, no_inlet, no_outlet, out_to, place_among}
use Rattle.node_talk.specs.Runs.{IsDone, TalkedThrough, output_of, word_kept}
use Rattle.node_talk.proofs.PassedLists.{every_from_places}
use Rattle.node_talk.proofs.RightRuns.{is_of_world, own_right, talk_right}
use Rattle.node_run.specs.NodeRuns as node_runs
use Rattle.node_run.specs.NodeRuns.{KeepsOutlet}
use Rattle.node_run.specs.Remains.{party_at}
use Rattle.network_runs.specs.Played.{WorldsArePlayed, idle, inlet_with, links_by, outlet_with, words_between, world_results}

-- ---- the links of a party

all_listed : {A : Type 0} (test : A → Bool) (n : ℕ) (f : ℕ → A) → ((k : ℕ) → test (f k) ≡ true) → list_all test (listed n f) ≡ true
all_listed test zero f h = refl
all_listed test (suc n) f h =
    list_all-append test (listed n f) (f n ∷ [])
    ∙ and_from (list_all test (listed n f)) _ (all_listed test n f h) (and_from (test (f n)) true (h n) refl)

place_below : (p q parties n : ℕ) → q < parties → q ≢ p → p < parties → n + 1 ≡ parties → place_among p q < n
place_below p q parties n lq ne lp is = grind (arith, nat_tests)

place_within : (parties p q : ℕ) → p < parties → q < parties → q ≢ p → place_among p q < parties - 1
place_within parties p q lp lq ne = place_below p q parties (parties - 1) lq ne lp (omega (arith, lp))

party_there : (p q : ℕ) → q ≢ p → party_at p (place_among p q) ≡ q
party_there p q ne = grind (arith, nat_tests)

module _ (w : World) (digest : List ℕ) (form : FrameForm) (p : ℕ) (lp : p < w.plan.parties) (inlet : ℕ → InletReading) (outlet : ℕ → OutletReading) (q : ℕ) (lq : q < w.plan.parties) (ne : q ≢ p) where
  abbrev n : Node
  n = record { world = w; me = p; digest = digest; form = form }

  inlet_is : in_from n (links_by w p inlet outlet) q ≡ inlet q
  inlet_is = listed_at (w.plan.parties - 1) (λ k. inlet (party_at p k)) (place_among p q) no_inlet (place_within w.plan.parties p q lp lq ne) ∙ ap inlet (party_there p q ne)

  outlet_is : out_to n (links_by w p inlet outlet) q ≡ (outlet q).sink
  outlet_is =
      ap (λ (o : OutletReading). o.sink) (listed_at (w.plan.parties - 1) (λ k. outlet (party_at p k)) (place_among p q) no_outlet (place_within w.plan.parties p q lp lq ne) ∙ ap outlet (party_there p q ne))

-- ---- a party's results

module _ (w : World) (whole : IsWhole w) (digest : List ℕ) (form : FrameForm) (p : ℕ) (lp : p < w.plan.parties) where
  abbrev me : Node
  me = record { world = w; me = p; digest = digest; form = form }

  abbrev kept : ℕ → Option ℕ
  kept m = if nat_eq (message w.plan m).sender p || nat_eq (message w.plan m).receiver p then Some (word w (message w.plan m)) else None

  word_at : (m : ℕ) → m < length (messages w.plan) → word_kept (world_results w p) m ≡ kept m
  word_at m lm = listed_at (length (messages w.plan)) kept m None lm

  got_word : (m : ℕ) → m < length (messages w.plan) → (message w.plan m).receiver ≡ p → word_kept (world_results w p) m ≡ Some (word w (message w.plan m))
  got_word m lm to = word_at m lm ∙ cond-true _ (Some (word w (message w.plan m))) None (or_right (nat_eq (message w.plan m).sender p) (nat_eq (message w.plan m).receiver p) (eq-eqb _ p to))

  sent_word : (m : ℕ) → m < length (messages w.plan) → (message w.plan m).sender ≡ p → word_kept (world_results w p) m ≡ Some (word w (message w.plan m))
  sent_word m lm from = word_at m lm ∙ cond-true _ (Some (word w (message w.plan m))) None (or_left (nat_eq (message w.plan m).sender p) (nat_eq (message w.plan m).receiver p) (eq-eqb _ p from))

  none_else : (m : ℕ) → (message w.plan m).receiver ≢ p → (message w.plan m).sender ≢ p → word_kept (world_results w p) m ≡ None
  none_else m to from = elim (cases_lt m (length (messages w.plan))) [
    | inl lm ↦
        word_at m lm
        ∙ cond-false _ (Some (word w (message w.plan m))) None
        (ap (λ b. b || nat_eq (message w.plan m).receiver p) (ne_eqb _ p from) ∙ ne_eqb _ p to)
    | inr past ↦ get_or_past (world_results w p).words m None (omega (arith, past, length-listed (length (messages w.plan)) kept))
  ]

  abbrev opened : ℕ → ℕ → Option ℕ
  opened s o = if reads w.plan p s o then Some (plain w s (output_wire (session w.plan s) o)) else None

  abbrev row : ℕ → List (Option ℕ)
  row s = listed (length (readers (session w.plan s))) (opened s)

  row_at : (s : ℕ) → s < length w.plan.sessions → slice_index_or (world_results w p).outputs s [] ≡ row s
  row_at s ls = listed_at (length w.plan.sessions) row s [] ls

  output_at : (s o : ℕ) → s < length w.plan.sessions → o < length (readers (session w.plan s)) → output_of (world_results w p) s o ≡ opened s o
  output_at s o ls lo = ap (λ xs. slice_index_or xs o None) (row_at s ls) ∙ listed_at (length (readers (session w.plan s))) (opened s) o None lo

  no_other : (s o v : ℕ) → s < length w.plan.sessions → output_of (world_results w p) s o ≡ Some v → reads w.plan p s o ≡ true
  no_other s o v ls is = elim (cases_lt o (length (readers (session w.plan s)))) [
    | inl lo ↦ elim (cases_Bool (reads w.plan p s o)) [
      | inl read ↦ read
      | inr not ↦ (let e : None ≡ Some v = sym (output_at s o ls lo ∙ cond-false (reads w.plan p s o) _ None not) ∙ is in cc)
    ]
    | inr past ↦
        (let e : None ≡ Some v = sym (ap (λ xs. slice_index_or xs o None) (row_at s ls) ∙ get_or_past (row s) o None (omega (arith, past, length-listed (length (readers (session w.plan s))) (opened s)))) ∙ is in cc)
  ]

  right : (m : ℕ) → m < length (messages w.plan) → (message w.plan m).receiver ≡ p → word w (message w.plan m) ≡ word w (message w.plan m)
  right m lm to = refl

  done : IsDone me (word w) (world_results w p)
  done = record {
    message_count = length-listed (length (messages w.plan)) kept;
    session_count = length-listed (length w.plan.sessions) row;
    words = got_word;
    sent = λ m lm from. sent_word m lm from ∙ ap Some (sym (own_right me whole lp (word w) right m lm from));
    outputs = λ s o ls lo read. output_at s o ls lo ∙ cond-true (reads w.plan p s o) _ None read ∙ ap Some (sym (opened_are_plain w (is_world w whole) p s o lo));
    no_word = none_else;
    no_output = no_other;
  }

  -- ---- its links

  abbrev inlets_before : ℕ → InletReading
  inlets_before q = inlet_with (words_between w digest form q p)

  abbrev outlets_before : ℕ → OutletReading
  outlets_before q = outlet_with [] (words_between w digest form p q)

  abbrev inlets_after : ℕ → InletReading
  inlets_after q = shut_inlet (inlet_with [])

  abbrev outlets_after : ℕ → OutletReading
  outlets_after q = shut_outlet (outlet_with (words_between w digest form p q) [])

  abbrev start : LinksReading
  start = links_by w p inlets_before outlets_before

  abbrev end : LinksReading
  end = links_by w p inlets_after outlets_after

  module _ (q : ℕ) (peer : IsPeer me q) where
    in_start : in_from me start q ≡ inlets_before q
    in_start = inlet_is w digest form p lp inlets_before outlets_before q peer.0 peer.1

    in_end : in_from me end q ≡ inlets_after q
    in_end = inlet_is w digest form p lp inlets_after outlets_after q peer.0 peer.1

    out_start : out_to me start q ≡ (outlets_before q).sink
    out_start = outlet_is w digest form p lp inlets_before outlets_before q peer.0 peer.1

    out_end : out_to me end q ≡ (outlets_after q).sink
    out_end = outlet_is w digest form p lp inlets_after outlets_after q peer.0 peer.1

    same_faults : (out_to me end q).faults ≡ (out_to me start q).faults
    same_faults = ap (λ (o : SinkReading). o.faults) out_end ∙ sym (ap (λ (o : SinkReading). o.faults) out_start)

    same_reads : (in_from me end q).faults ≡ (in_from me start q).faults
    same_reads = ap (λ (i : InletReading). i.faults) in_end ∙ sym (ap (λ (i : InletReading). i.faults) in_start)

    inlet_stays : KeepsCalm (in_from me start q) (in_from me end q)
    inlet_stays =
        subst (λ (i : InletReading). KeepsCalm i (in_from me end q)) (sym in_start)
        (subst (λ (i : InletReading). KeepsCalm (inlets_before q) i) (sym in_end) (record { faults_grow = omega arith; steady = λ s. refl }))

    outlet_stays : KeepsOutlet me q (out_to me start q) (out_to me end q)
    outlet_stays =
        subst (λ (o : SinkReading). KeepsOutlet me q o (out_to me end q)) (sym out_start)
        (subst (λ (o : SinkReading). KeepsOutlet me q (outlets_before q).sink o) (sym out_end) (record { faults_grow = omega arith; room = λ s l. refl }))

  talked : TalkedThrough me (word w) start end
  talked = record {
    told = λ q peer.
        ap (λ (o : SinkReading). o.told) (out_end q peer)
        ∙ ap Some (sym (talk_right me whole lp (word w) right q))
        ∙ sym (ap (λ (o : SinkReading). added o.told (talk me q (own_word me (word w)))) (out_start q peer));
    heard = λ q peer.
        ap (λ (i : InletReading). i.told) (in_start q peer)
        ∙ ap Some (sym (append-nil (words_between w digest form q p)))
        ∙ sym (ap (λ (i : InletReading). ahead (words_between w digest form q p) i.told) (in_end q peer));
    small = λ q peer. every_from_places (λ key. word w key < 2 ^ w.plan.bits) (messages_between w.plan q p) no_key (λ j lj. small_word w whole (slice_index_or (messages_between w.plan q p) j no_key));
  }

  runs : node_runs.Runs me start end idle idle (Ok (world_results w p))
  runs = record {
    peers = record {
      inlets = length-listed (w.plan.parties - 1) (λ k. inlets_after (party_at p k));
      outlets = length-listed (w.plan.parties - 1) (λ k. outlets_after (party_at p k));
    };
    closed = and_from (list_all (λ (i : InletReading). i.closed) end.inlets) _ (all_listed (λ (i : InletReading). i.closed) (w.plan.parties - 1) (λ k. inlets_after (party_at p k)) (λ k. refl))
        (all_listed (λ (o : OutletReading). o.closed) (w.plan.parties - 1) (λ k. outlets_after (party_at p k)) (λ k. refl));
    gone = λ none. all_listed (λ (o : OutletReading). not o.holds) (w.plan.parties - 1) (λ k. outlets_after (party_at p k)) (λ k. refl);
    done = (word w, done, talked);
    broke = tt;
    cause = tt;
    least = tt;
    sends = λ q peer ne. absurd (ne (same_faults q peer));
    reads = λ q peer ne. absurd (ne (same_reads q peer));
    starts = λ ne. absurd (ne refl);
    unsaid = tt;
    completes = λ hears none quiet. refl;
    joins = λ of hears. is_of_world me whole lp (word w) right (world_results w p) start end done talked;
    steady = record {
      inlets = inlet_stays;
      outlets = outlet_stays;
      spawner_stays = record { refusals_grow = omega arith; steady = λ s. (s, refl) };
    };
  }

pub worlds_are_played : WorldsArePlayed
worlds_are_played w digest form whole long = record {
  whole = whole;
  digest = long;
  runs = λ p lp. runs w whole digest form p lp;
  pipes = λ p q lp lq ne. record {
    earlier = [];
    held = words_between w digest form p q;
    lost = [];
    before = ap (λ (o : SinkReading). o.told) (out_start w whole digest form p lp q (lq, λ e. ne (sym e)));
    after = ap (λ (o : SinkReading). o.told) (out_end w whole digest form p lp q (lq, λ e. ne (sym e))) ∙ ap Some (sym (append-nil (words_between w digest form p q)));
    inlet = ap (λ (i : InletReading). i.told) (in_start w whole digest form q lq p (lp, ne));
  };
}
