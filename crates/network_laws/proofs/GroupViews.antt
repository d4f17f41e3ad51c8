-- What goes over the wires of a group's members is its view.
use Rattle.std.proofs.Common.{◌≡◌, ◌≢◌, ℕ, ◌<◌, Bool, true, ◌||◌, nat_eq, List, [], ◌∷◌, ◌++◌, map, take, drop, Option, Some, refl, sym, ap, ◌∙◌, subst, append_assoc}
use Rattle.std.specs.Prelude.{filter}
use Rattle.std.specs.List.{flat_map}
use Rattle.std.proofs.lemmas.List.{take-append-drop}
use Rattle.std.proofs.lemmas.Bool.{cases_Bool, cond-true, cond-false, and_parts, eqb-true, or_left, or_right}
use mathlib.Core.Logic.{inl, inr}
use Rattle.party_set.specs.Parties.{has_party}
use Rattle.plan_model.specs.declared.key.Key.{Key}
use Rattle.plan_model.specs.Messages.{messages}
use Rattle.plan_model.specs.Numbers.{no_key}
use Rattle.share_world.specs.Worlds.{word, view}
use Rattle.outer_io.specs.Inlet.{ahead}
use Rattle.outer_io.specs.Sink.{added, AddedPrefix}
use Rattle.frame_code.specs.declared.framing.Framing.{Framing}
use Rattle.frame_code.specs.Frames.{hello, frame}
use Rattle.node_talk.specs.Talks.{goes, frames, messages_between, talk, Begins}
use Rattle.node_talk.specs.PeerLinks.{in_from, out_to}
use Rattle.node_talk.proofs.PassedLists.{every_from_places}
use Rattle.node_talk.proofs.Frames.{frames_eq, strip}
use Rattle.network_laws.specs.Networks.{Network, plan_of, node, IsNetwork, AllRanThrough}
use Rattle.network_laws.specs.Views.{IsSeen, SeesNoMore, on_wire, framing_of}
use Rattle.network_laws.proofs.CutTalks.{heard_right, is_right, says_world}

module _ (r : Framing) (p q : ℕ) (word : Key → ℕ) (group : ℕ) where
  abbrev pub touches : Key → Bool
  touches key = has_party group key.sender || has_party group key.receiver

  abbrev pub seen : List Key → List (Key × ℕ)
  seen keys = map (λ key. (key, word key)) (filter touches keys)

  pub view_frames : ((key : Key) → goes p q key ≡ true → touches key ≡ true) → (keys : List Key) → flat_map (λ (s : Key × ℕ). frame r s.0 s.1) (filter (λ (s : Key × ℕ). goes p q s.0) (seen keys)) ≡ frames r word (filter (goes p q) keys)
  view_frames h [] = refl
  view_frames h (key ∷ keys) = elim (cases_Bool (goes p q key)) [
    | inl g ↦
        ap (λ z. flat_map (λ (s : Key × ℕ). frame r s.0 s.1) (filter (λ (s : Key × ℕ). goes p q s.0) (map (λ key. (key, word key)) z))) (cond-true (touches key) (key ∷ filter touches keys) (filter touches keys) (h key g))
        ∙ ap (flat_map (λ (s : Key × ℕ). frame r s.0 s.1)) (cond-true (goes p q key) ((key, word key) ∷ filter (λ (s : Key × ℕ). goes p q s.0) (seen keys)) (filter (λ (s : Key × ℕ). goes p q s.0) (seen keys)) g)
        ∙ ap (λ z. frame r key (word key) ++ z) (view_frames h keys)
        ∙ sym (ap (frames r word) (cond-true (goes p q key) (key ∷ filter (goes p q) keys) (filter (goes p q) keys) g))
    | inr g ↦ elim (cases_Bool (touches key)) [
      | inl t ↦
          ap (λ z. flat_map (λ (s : Key × ℕ). frame r s.0 s.1) (filter (λ (s : Key × ℕ). goes p q s.0) (map (λ key. (key, word key)) z))) (cond-true (touches key) (key ∷ filter touches keys) (filter touches keys) t)
          ∙ ap (flat_map (λ (s : Key × ℕ). frame r s.0 s.1)) (cond-false (goes p q key) ((key, word key) ∷ filter (λ (s : Key × ℕ). goes p q s.0) (seen keys)) (filter (λ (s : Key × ℕ). goes p q s.0) (seen keys)) g)
          ∙ view_frames h keys
          ∙ sym (ap (frames r word) (cond-false (goes p q key) (key ∷ filter (goes p q) keys) (filter (goes p q) keys) g))
      | inr t ↦
          ap (λ z. flat_map (λ (s : Key × ℕ). frame r s.0 s.1) (filter (λ (s : Key × ℕ). goes p q s.0) (map (λ key. (key, word key)) z))) (cond-false (touches key) (key ∷ filter touches keys) (filter touches keys) t)
          ∙ view_frames h keys
          ∙ sym (ap (frames r word) (cond-false (goes p q key) (key ∷ filter (goes p q) keys) (filter (goes p q) keys) g))
    ]
  ]

  -- what a member sends, and what one gets, is in its group's view
  pub sent_by : has_party group p ≡ true → (key : Key) → goes p q key ≡ true → touches key ≡ true
  sent_by member key g =
      or_left (has_party group key.sender) (has_party group key.receiver)
      (subst (λ z. has_party group z ≡ true) (sym (eqb-true _ _ (and_parts (nat_eq key.sender p) (nat_eq key.receiver q) g).0)) member)

  pub got_by : has_party group q ≡ true → (key : Key) → goes p q key ≡ true → touches key ≡ true
  got_by member key g =
      or_right (has_party group key.sender) (has_party group key.receiver)
      (subst (λ z. has_party group z ≡ true) (sym (eqb-true _ _ (and_parts (nat_eq key.sender p) (nat_eq key.receiver q) g).1)) member)

-- ---- whatever broke

-- what was held is a first part of the text of which a first part was taken
front_of : (earlier held lost text : List ℕ) (told told' : Option (List ℕ)) → told ≡ Some earlier → told' ≡ Some (earlier ++ (held ++ lost)) → AddedPrefix told text told' → Begins text held
front_of earlier held lost text told told' before after (n, taken) =
    let same : Some (earlier ++ (held ++ lost)) ≡ Some (earlier ++ take n text) = sym after ∙ taken ∙ ap (λ z. added z (take n text)) before in
    let one : held ++ lost ≡ take n text = strip earlier (held ++ lost) (take n text) (some_same _ _ same) in
    (lost ++ drop n text, sym (take-append-drop n text) ∙ ap (λ z. z ++ drop n text) (sym one) ∙ append_assoc held lost (drop n text))
  where
    some_same : (xs ys : List ℕ) → Some xs ≡ Some ys → xs ≡ ys
    some_same xs ys e = cc

module _ (net : Network) (h : IsNetwork net) (group : ℕ) where
  -- what a party says over a wire of a member is what the view puts there
  pub wire_is : (p q : ℕ) → ((key : Key) → goes p q key ≡ true → touches (framing_of net) p q (word net.world) group key ≡ true)
      → talk (node net p) q (word net.world) ≡ on_wire (framing_of net) net.digest p q (view net.world group)
  wire_is p q within = ap (λ z. hello p q net.digest ++ z) (sym (view_frames (framing_of net) p q (word net.world) group within (messages net.world.plan)))

  pub sees_no_more : SeesNoMore net group
  sees_no_more = record {
    said = λ p q lp lq ne member.
        subst (λ text. AddedPrefix (out_to (node net p) (net.before p) q).told text (out_to (node net p) (net.after p) q).told)
        (wire_is p q (sent_by (framing_of net) p q (word net.world) group member)) (says_world net h p q lp lq ne);
    held = λ p q lp lq ne member.
        let pipe = h.pipes p q lp lq ne in (
          pipe.held,
          pipe.inlet,
          subst (λ text. Begins text pipe.held) (wire_is p q (got_by (framing_of net) p q (word net.world) group member))
              (front_of pipe.earlier pipe.held pipe.lost (talk (node net p) q (word net.world)) _ _ pipe.before pipe.after (says_world net h p q lp lq ne)),
        );
  }

-- ---- where all ran to their end

module _ (net : Network) (h : IsNetwork net) (all : AllRanThrough net) (group : ℕ) where
  heard_frames : (p q : ℕ) → p < (plan_of net).parties → (lq : q < (plan_of net).parties) → p ≢ q → frames (framing_of net) (all q lq).got (messages_between net.world.plan p q) ≡ frames (framing_of net) (word net.world) (messages_between net.world.plan p q)
  heard_frames p q lp lq ne =
      frames_eq (framing_of net) (all q lq).got (word net.world) (messages_between net.world.plan p q)
      (every_from_places (λ key. (all q lq).got key ≡ word net.world key) (messages_between net.world.plan p q) no_key (λ j lj. heard_right net h q lq (all q lq) p lp ne j lj))

  pub is_seen : IsSeen net group
  is_seen = record {
    said = λ p q lp lq ne member.
        (is_right net h p lp (all p lp)).of_world.told q (lq, λ e. ne (sym e))
        ∙ ap (λ z. added (out_to (node net p) (net.before p) q).told (hello p q net.digest ++ z))
        (sym (view_frames (framing_of net) p q (word net.world) group (sent_by (framing_of net) p q (word net.world) group member) (messages net.world.plan)));
    heard = λ p q lp lq ne member.
        (all q lq).talked.heard p (lp, ne)
        ∙ ap (λ z. ahead (hello p q net.digest ++ z) (in_from (node net q) (net.after q) p).told)
        (heard_frames p q lp lq ne ∙ sym (view_frames (framing_of net) p q (word net.world) group (got_by (framing_of net) p q (word net.world) group member) (messages net.world.plan)));
  }
