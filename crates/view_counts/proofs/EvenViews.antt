-- The change of tapes is one-to-one within the choices, so it keeps each count.
use Rattle.std.proofs.Common.{◌≡◌, ℕ, List, [], nat_eq, refl, sym, ap, ap₂, ◌∙◌}
use Rattle.std.specs.Prelude.{Bool, true, count_by}
use Rattle.std.specs.Bool.{Decides}
use Rattle.std.proofs.lemmas.Bool.{and_parts, and_from, eq-eqb, eqb-true}
use Rattle.std.proofs.lemmas.Slice.Eq.{slice_eq-Decides}
use Rattle.list_laws.proofs.JoinedLists.{listed_at}
use Rattle.session_slots.specs.Sessions.{output_wire}
use Rattle.plan_model.specs.declared.key.Key.{Key}
use Rattle.plan_model.specs.Numbers.{same_key}
use Rattle.plan_model.specs.Plans.{session}
use Rattle.plan_model.proofs.DistinctMessages.{same_key-true}
use Rattle.share_world.specs.Worlds.{World, view}
use Rattle.tape_map.specs.TapeMaps.{with_inputs, with_tapes, tape_map, changed_tapes}
use Rattle.tape_map.specs.Laws.{CanHide}
use Rattle.tape_map.proofs.SameValues.{plain_stays}
use Rattle.tape_map.proofs.ChangedTapes.{CanMove, can_move, are_tapes, with_tapes_can}
use Rattle.tape_map.proofs.WayBack.{members_stay, one_to_one}
use Rattle.tape_map.proofs.SeenWords.{same_view}
use Rattle.view_counts.specs.Counts.{choices, same_seen, is_view}
use Rattle.view_counts.specs.Laws.{IsChoice, IsPrivate, ViewsAreEven, TestIsEqual}
use Rattle.view_counts.proofs.DistinctLists.{count_moves}
use Rattle.view_counts.proofs.TapeChoices.{choices_are_tapes, tapes_are_choices, distinct_choices}

module _ (w : World) (other : List (List (List ℕ))) (group : ℕ) (h : CanMove w other group) where
  -- the tapes that hide the other inputs
  abbrev changed : List (List ℕ) → List (List ℕ)
  changed tapes = changed_tapes (with_tapes w tapes) other group

  can : (tapes : List (List ℕ)) → IsChoice w group tapes → CanMove (with_tapes w tapes) other group
  can tapes choice = with_tapes_can w other group tapes h choice.are

  changed_choice : (tapes : List (List ℕ)) → IsChoice w group tapes → IsChoice w group (changed tapes)
  changed_choice tapes choice =
      let whole = (can tapes choice).whole in
      record {
        are = are_tapes (with_tapes w tapes) other group whole;
        members = λ p lp member.
            listed_at w.plan.parties (tape_map (with_tapes w tapes) other group) p [] lp
            ∙ members_stay (with_tapes w tapes) other group whole p lp member
            ∙ choice.members p lp member;
      }

  -- where the changed tapes show what the first ones do, each test passes for as many choices
  pub counts_stay : (seen shown : List (List ℕ) → List (Key × ℕ))
      → ((tapes : List (List ℕ)) → IsChoice w group tapes → shown (changed tapes) ≡ seen tapes) → (test : List (Key × ℕ) → Bool)
      → count_by (λ tapes. test (shown tapes)) (choices w.plan group w.tapes) ≡ count_by (λ tapes. test (seen tapes)) (choices w.plan group w.tapes)
  counts_stay seen shown same test =
      let each = choices_are_tapes w group h.whole in
      count_moves changed (λ tapes. test (seen tapes)) (λ tapes. test (shown tapes)) (choices w.plan group w.tapes)
      (distinct_choices w group)
      (λ tapes member. tapes_are_choices w group (changed tapes) (changed_choice tapes (each tapes member)))
      (λ a b la lb e. one_to_one (with_tapes w b) other group (can b (each b lb)) a (each a la).are e)
      (λ tapes member. ap test (same tapes (each tapes member)))

-- ---- other inputs

pub is_private : (w : World) (other : List (List (List ℕ))) (group : ℕ) → CanHide w other group → IsPrivate w other group
is_private w other group h =
    counts_stay w other group (can_move w other group h)
    (λ tapes. view (with_tapes w tapes) group) (λ tapes. view (with_tapes (with_inputs w other) tapes) group)
    (λ tapes choice. same_view (with_tapes w tapes) other group (record {
      whole = record { sound = h.whole.sound; inputs = h.whole.inputs; tapes = choice.are };
      others = h.others;
      tolerated = h.tolerated;
      agree = record {
        inputs = h.agree.inputs;
        outputs = λ s o r lo lr member reads.
            let wire = output_wire (session w.plan s) o in
            plain_stays (with_inputs w other) tapes s wire ∙ h.agree.outputs s o r lo lr member reads ∙ sym (plain_stays w tapes s wire);
      };
    }))

pub views_are_even : (w : World) (other : List (List (List ℕ))) (group : ℕ) → CanHide w other group → ViewsAreEven w other group
views_are_even w other group h v = is_private w other group h (is_view v)

-- ---- the test for one view

same_key_refl : (k : Key) → same_key k k ≡ true
same_key_refl k =
    let same = λ (x : ℕ). eq-eqb x x refl in
    and_from (nat_eq k.session k.session) _ (same k.session)
    (and_from (nat_eq k.slot k.slot) _ (same k.slot)
    (and_from (nat_eq k.share k.share) _ (same k.share)
    (and_from (nat_eq k.sender k.sender) (nat_eq k.receiver k.receiver) (same k.sender) (same k.receiver))))

same_seen_decides : (x y : Key × ℕ) → Decides (same_seen x y) (x ≡ y)
same_seen_decides x y = (
  (λ same.
      let both = and_parts (same_key x.0 y.0) (nat_eq x.1 y.1) same in
      ap₂ (λ (k : Key) (a : ℕ). (k, a)) (same_key-true x.0 y.0 both.0) (eqb-true x.1 y.1 both.1)),
  (λ e. ap (same_seen x) (sym e) ∙ and_from (same_key x.0 x.0) (nat_eq x.1 x.1) (same_key_refl x.0) (eq-eqb x.1 x.1 refl)),
)

pub test_is_equal : TestIsEqual
test_is_equal v x = slice_eq-Decides same_seen_decides v x (is_view v x) refl
