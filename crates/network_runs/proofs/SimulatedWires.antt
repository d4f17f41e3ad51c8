-- What the wires of a group's members carry is simulated.
use Rattle.std.proofs.Common.{◌≡◌, ◌≢◌, ℕ, suc, ◌+◌, ◌<◌, nat_eq, Bool, true, false, not, ◌||◌, cond, List, [], ◌∷◌, ◌++◌, Option, Some, inl, inr, refl, sym, ap, ◌∙◌, subst, arith}
use Rattle.std.specs.Prelude.{count_by, fold}
use Rattle.std.specs.List.{Contains}
use Rattle.std.proofs.lemmas.Bool.{and_parts, cases_Bool, cond-false, not-true, or_cases}
use Rattle.std.proofs.lemmas.Bool.Decides.{eqb_tells}
use Rattle.list_laws.specs.Lists.{only_if}
use Rattle.list_laws.proofs.JoinedLists.{joined_eq}
use Rattle.party_set.specs.Parties.{has_party}
use Rattle.plan_model.specs.declared.key.Key.{Key}
use Rattle.plan_model.specs.Plans.{Plan}
use Rattle.share_world.specs.Worlds.{World, view, word}
use Rattle.tape_map.specs.TapeMaps.{with_tapes}
use Rattle.view_counts.specs.Counts.{choices}
use Rattle.view_counts.specs.Laws.{IsChoice}
use Rattle.view_counts.proofs.SimulatedViews.{is_simulated}
use Rattle.view_counts.proofs.TapeChoices.{choices_are_tapes}
use Rattle.outer_io.specs.Sink.{added}
use Rattle.node_talk.specs.PeerLinks.{out_to}
use Rattle.node_talk.specs.Talks.{goes}
use Rattle.node_talk.proofs.Frames.{strip}
use Rattle.network_laws.specs.Networks.{AllRanThrough, IsNetwork, Network, node, plan_of}
use Rattle.frame_code.specs.declared.framing.Framing.{Framing}
use Rattle.network_laws.specs.Views.{on_wire, framing_of}
use Rattle.network_laws.proofs.CutTalks.{is_right}
use Rattle.network_laws.proofs.GroupViews.{got_by, sent_by, touches, wire_is}
use Rattle.network_runs.specs.Wires.{Carries, CarriesTheView, WiresAreSimulated, by_wires, is_wire, wires_of}

-- ---- a wire of a member

apart : (group p q : ℕ) → is_wire group p q ≡ true → p ≢ q
apart group p q is e =
    let parts = and_parts (not (nat_eq p q)) (has_party group p || has_party group q) is in
    let other : nat_eq p q ≡ false = not-true (nat_eq p q) parts.0 in
    elim (eqb_tells p q) [
      | inl same ↦ (let bad : true ≡ false = sym same.0 ∙ other in cc)
      | inr differ ↦ differ.1 e
    ]

-- what goes over it is in the view
in_view : (r : Framing) (group p q : ℕ) (w : World) → is_wire group p q ≡ true → (key : Key) → goes p q key ≡ true → touches r p q (word w) group key ≡ true
in_view r group p q w is key g =
    elim (or_cases (has_party group p) (has_party group q) (and_parts (not (nat_eq p q)) (has_party group p || has_party group q) is).1) [
      | inl sender ↦ sent_by r p q (word w) group sender key g
      | inr receiver ↦ got_by r p q (word w) group receiver key g
    ]

pub carries_the_view : (net : Network) → IsNetwork net → AllRanThrough net → (group : ℕ) → CarriesTheView net group
carries_the_view net h all group = record {
  took = λ p q lp lq is.
      (is_right net h p lp (all p lp)).of_world.told q (lq, λ e. apart group p q is (sym e))
      ∙ ap (added (out_to (node net p) (net.before p) q).told) (wire_is net h group p q (in_view (framing_of net) group p q net.world is));
}

-- ---- what was carried is one text

some_same : (xs ys : List ℕ) → Some xs ≡ Some ys → xs ≡ ys
some_same xs ys e = cc

one_text : (earlier a b : List ℕ) (told told' : Option (List ℕ)) → told ≡ Some earlier → told' ≡ added told a → told' ≡ added told b → a ≡ b
one_text earlier a b told told' before first second =
    strip earlier a b (some_same (earlier ++ a) (earlier ++ b) (sym (ap (λ t. added t a) before) ∙ sym first ∙ second ∙ ap (λ t. added t b) before))

-- a text of a member's wire is the view's
text_is : (net : Network) → IsNetwork net → AllRanThrough net → (group : ℕ) (text : ℕ → ℕ → List ℕ) → Carries net group text
    → (p q : ℕ) → p < (plan_of net).parties → q < (plan_of net).parties → is_wire group p q ≡ true → text p q ≡ on_wire (framing_of net) net.digest p q (view net.world group)
text_is net h all group text carries p q lp lq is =
    let pipe = h.pipes p q lp lq (apart group p q is) in
    one_text pipe.earlier (text p q) (on_wire (framing_of net) net.digest p q (view net.world group)) _ _ pipe.before (carries.took p q lp lq is) ((carries_the_view net h all group).took p q lp lq is)

-- texts that are the same on each wire
same_wires : (plan : Plan) (group : ℕ) (first second : ℕ → ℕ → List ℕ) → ((p q : ℕ) → p < plan.parties → q < plan.parties → is_wire group p q ≡ true → first p q ≡ second p q)
    → by_wires plan group first ≡ by_wires plan group second
same_wires plan group first second same =
    joined_eq plan.parties _ _ (λ p lp. joined_eq plan.parties _ _ (λ q lq. elim (cases_Bool (is_wire group p q)) [
      | inl is ↦ ap (λ text. only_if (is_wire group p q) (text ∷ [])) (same p q lp lq is)
      | inr isnt ↦ cond-false (is_wire group p q) (first p q ∷ []) [] isnt ∙ sym (cond-false (is_wire group p q) (second p q ∷ []) [] isnt)
    ]))

-- ---- counts

-- tests that answer the same at each item pass as often
count_from : {A : Type 0} (f g : A → Bool) (a : ℕ) (xs : List A) → ((x : A) → Contains xs x → f x ≡ g x)
    → fold (λ n x. n + cond (f x) 1 0) a xs ≡ fold (λ n x. n + cond (g x) 1 0) a xs
count_from f g a [] same = refl
count_from f g a (x ∷ xs) same =
    ap (λ b. fold (λ n y. n + cond (f y) 1 0) (a + cond b 1 0) xs) (same x (0, omega arith, refl))
    ∙ count_from f g (a + cond (g x) 1 0) xs (λ y has. same y (suc has.0, omega (arith, has.1), has.2))

count_same : {A : Type 0} (f g : A → Bool) (xs : List A) → ((x : A) → Contains xs x → f x ≡ g x) → count_by f xs ≡ count_by g xs
count_same f g xs same = count_from f g 0 xs same

pub simulated_wires : WiresAreSimulated
simulated_wires w form digest group nets texts whole tolerated are test =
    count_same (λ tapes. test (by_wires w.plan group (texts tapes))) (λ tapes. test (wires_of w.plan form digest group (view (with_tapes w tapes) group))) (choices w.plan group w.tapes) (λ tapes has.
    let choice : IsChoice w group tapes = choices_are_tapes w group whole tapes has in
    let net : Network = nets tapes in
    let of : net.world ≡ with_tapes w tapes = are.worlds tapes choice in
    let plan : net.world.plan ≡ w.plan = ap (λ (u : World). u.plan) of in
    ap test (same_wires w.plan group (texts tapes) (λ p q. on_wire (record { form = form; bits = w.plan.bits }) digest p q (view (with_tapes w tapes) group)) (λ p q lp lq is.
    text_is net (are.networks tapes choice) (are.ended tapes choice) group (texts tapes) (are.carried tapes choice) p q (subst (λ (plan : Plan). p < plan.parties) (sym plan) lp) (subst (λ (plan : Plan). q < plan.parties) (sym plan) lq) is
    ∙ ap (λ f. on_wire (record { form = f; bits = net.world.plan.bits }) net.digest p q (view net.world group)) (are.forms tapes choice)
    ∙ ap (λ d. on_wire (record { form = form; bits = net.world.plan.bits }) d p q (view net.world group)) (are.digests tapes choice)
    ∙ ap (λ (u : World). on_wire (record { form = form; bits = u.plan.bits }) digest p q (view u group)) of)))
    ∙ sym (is_simulated w group whole tolerated (λ seen. test (wires_of w.plan form digest group seen)))
