-- The changed tapes as lists, and what the second world keeps.
use Rattle.std.proofs.Common.{◌≡◌, ℕ, ◌+◌, ◌^◌, ◌<◌, true, false, not, ◌||◌, List, [], length, sym, ap, ◌∙◌, subst, arith}
use Rattle.std.specs.Prelude.{slice_index, slice_index_or}
use Rattle.std.proofs.lemmas.Bool.{cases_lt, cases_Bool, cond-true, cond-false, not_from_true, both_ways}
use Rattle.std.proofs.lemmas.Nat.{pow_pos}
use Rattle.std.proofs.lemmas.List.{get_or_past}
use Rattle.std.proofs.lemmas.List.Sums.{passes_at_first, fails_before_first}
use mathlib.Core.Logic.{inl, inr}
use Rattle.list_laws.proofs.Totals.{total_eq}
use Rattle.list_laws.proofs.JoinedLists.{length-joined, length-listed, listed_at, laid_at, laid_every, every_at}
use Rattle.party_set.specs.Parties.{has_party, within}
use Rattle.party_set.proofs.EveryNumber.{every_at as below_at, every_not, implies_at, implies_not}
use Rattle.maximal_groups.specs.Families.{LiesWithin}
use Rattle.plan_model.specs.InputWords.{AreInputs}
use Rattle.plan_model.specs.Tallies.{tape_length}
use Rattle.session_slots.specs.Sessions.{Slot, output_wire, owners, source}
use Rattle.session_slots.specs.SoundSessions.{Inside}
use Rattle.session_slots.proofs.SessionSlots.{slots_are_numbered}
use Rattle.plan_model.specs.Plans.{Plan, structure, is_holder, session, slot, slots, slot_number, words_in, words, place}
use Rattle.plan_model.proofs.Slots.{at_its_number}
use Rattle.share_world.specs.Worlds.{World, input_of, tape_word}
use Rattle.share_world.specs.Laws.{IsWhole, AreTapes}
use Rattle.share_world.proofs.SmallWords.{small_words}
use Rattle.tape_map.specs.TapeMaps.{member_gives, hidden, hidden_word, growth, with_inputs, with_tapes, tape_of, raised, moved_words, tape_map, changed_tapes, second_world}
use Rattle.tape_map.specs.Laws.{IsFirstLacked, CanHide, CanGoBack, WordsMove, InputsChange, SecondIsWhole, AgreesBack}
use Rattle.tape_map.proofs.RaisedDeals.{raised_small}
use Rattle.tape_map.proofs.SameValues.{plain_stays}

-- other inputs that can take the place of the first, where the outputs may change: all that the laws need but for what
-- the group sees opened
pub record CanMove (w : World) (other : List (List (List ℕ))) (group : ℕ) : Type 0 where
  pub whole : IsWhole w
  pub others : AreInputs w.plan other
  pub tolerated : LiesWithin (structure w.plan) group
  pub inputs : (s v : ℕ) → v < length (owners (session w.plan s))
      → member_gives group (source (session w.plan s) v) ≡ true
      → input_of (with_inputs w other) s v ≡ input_of w s v

pub can_move : (w : World) (other : List (List (List ℕ))) (group : ℕ) → CanHide w other group → CanMove w other group
can_move w other group h =
    record { whole = h.whole; others = h.others; tolerated = h.tolerated; inputs = h.agree.inputs }

-- ---- the hidden summand

pub hidden_within : (plan : Plan) (group : ℕ) → LiesWithin (structure plan) group → hidden plan group < length plan.groups
hidden_within plan group h =
    let test = within plan.parties group in
    let l = h.1 in
    elim (cases_lt (hidden plan group) (length plan.groups)) [
      | inl l' ↦ l'
      | inr past ↦ absurd (both_ways (test (slice_index plan.groups h.0)) (fails_before_first test plan.groups h.0 0 (omega arith)) h.2)
    ]

pub not_held : (plan : Plan) (group p : ℕ) → hidden plan group < length plan.groups → p < plan.parties → has_party group p ≡ true
    → is_holder plan p (hidden plan group) ≡ false
not_held plan group p l lp member =
    let mask = slice_index plan.groups (hidden plan group) in
    let inside : within plan.parties group mask ≡ true = passes_at_first (within plan.parties group) plan.groups 0 l in
    not_from_true (has_party mask p)
    (implies_at (has_party group p) (has_party mask p)
    (below_at plan.parties (λ p. not (has_party group p) || has_party mask p) inside p lp) member)

pub hidden_is_first : (plan : Plan) (group : ℕ) → LiesWithin (structure plan) group → IsFirstLacked plan group (hidden plan group)
hidden_is_first plan group h = record {
  there = hidden_within plan group h;
  lacked = λ p lp member. not_held plan group p (hidden_within plan group h) lp member;
  first = λ i l.
      let mask = slice_index plan.groups i in
      let without : within plan.parties group mask ≡ false = fails_before_first (within plan.parties group) plan.groups i 0 l in
      let found = every_not plan.parties (λ p. not (has_party group p) || has_party mask p) without in
      let both = implies_not (has_party group found.0) (has_party mask found.0) found.2 in
      (found.0, found.1, both.0, ap not both.1);
}

-- ---- the tapes

-- how many words party p draws in slot k of session s
abbrev pub len : Plan → ℕ → ℕ → ℕ → ℕ
len plan p s k = words_in plan s p (slot plan s k)

pub words_move : (w : World) (other : List (List (List ℕ))) (group : ℕ) → WordsMove w other group
words_move w other group s k p i ls lk lp li =
    ap (λ n. slice_index (tape_of (second_world w other group) p) (place w.plan p s n + i)) (at_its_number w.plan s k lk)
    ∙ ap (λ z. slice_index z (place w.plan p s k + i)) (listed_at w.plan.parties (tape_map w other group) p [] lp)
    ∙ laid_at (length w.plan.sessions) (slots w.plan) (len w.plan p) (λ s k i. moved_words w other group s (slot w.plan s k) p i) s k i ls lk li

-- the same of a slot by its kind
pub word_moves : (w : World) (other : List (List (List ℕ))) (group s : ℕ) (z : Slot) (p i : ℕ) → s < length w.plan.sessions
    → Inside (session w.plan s) z → p < w.plan.parties → i < words_in w.plan s p z
    → tape_word (second_world w other group) s z p i ≡ moved_words w other group s z p i
word_moves w other group s z p i ls inside lp =
    let there = (slots_are_numbered (session w.plan s)).there z inside in
    subst (λ z. i < words_in w.plan s p z → tape_word (second_world w other group) s z p i ≡ moved_words w other group s z p i) there.1
    (words_move w other group s (slot_number w.plan s z) p i ls there.0 lp)

length-tape : (w : World) (other : List (List (List ℕ))) (group p : ℕ) → length (tape_map w other group p) ≡ tape_length w.plan p
length-tape w other group p =
    length-joined (length w.plan.sessions) _
    ∙ total_eq (length w.plan.sessions) _ (words w.plan p) (λ s ls.
    length-joined (slots w.plan s) _
    ∙ total_eq (slots w.plan s) _ (len w.plan p s) (λ k lk. length-listed (len w.plan p s k) (moved_words w other group s (slot w.plan s k) p)))

moved_small : (w : World) (other : List (List (List ℕ))) (group s k p i : ℕ) → IsWhole w → moved_words w other group s (slot w.plan s k) p i < 2 ^ w.plan.bits
moved_small w other group s k p i whole =
    let q = 2 ^ w.plan.bits in
    let z = slot w.plan s k in
    let old = tape_word w s z p in
    let place = hidden_word w.plan group p z in
    let d = growth w other group s p z in
    let new = raised q place d old in
    let small : old i < q = small_words w whole s p z i in
    elim (cases_Bool (has_party group p)) [
      | inl yes' ↦ subst (λ (f : ℕ → ℕ). f i < q) (sym (cond-true (has_party group p) old new yes')) small
      | inr no' ↦ subst (λ (f : ℕ → ℕ). f i < q) (sym (cond-false (has_party group p) old new no'))
          (raised_small q place d old i (pow_pos w.plan.bits) small)
    ]

-- the changed tapes are tapes of the plan
pub are_tapes : (w : World) (other : List (List (List ℕ))) (group : ℕ) → IsWhole w → AreTapes w.plan (changed_tapes w other group)
are_tapes w other group whole = record {
  parties = length-listed w.plan.parties (tape_map w other group);
  lengths = λ p lp. ap length (listed_at w.plan.parties (tape_map w other group) p [] lp) ∙ length-tape w other group p;
  below = below;
}
  where
    q : ℕ
    q = 2 ^ w.plan.bits

    below : (p i : ℕ) → slice_index (slice_index_or (changed_tapes w other group) p []) i < 2 ^ w.plan.bits
    below p i = elim (cases_lt p w.plan.parties) [
      | inl l ↦ subst (λ z. slice_index z i < q) (sym (listed_at w.plan.parties (tape_map w other group) p [] l))
          (every_at (λ z. z < q) (tape_map w other group p) i (pow_pos w.plan.bits)
          (laid_every (λ z. z < q) (length w.plan.sessions) (slots w.plan) (len w.plan p) (λ s k i. moved_words w other group s (slot w.plan s k) p i)
          (λ s k i. moved_small w other group s k p i whole)))
      | inr past ↦ subst (λ z. slice_index z i < q)
          (sym (get_or_past (changed_tapes w other group) p [] (omega (arith, length-listed w.plan.parties (tape_map w other group), past))))
          (pow_pos w.plan.bits)
    ]

-- ---- what the second world keeps

pub inputs_change : (w : World) (other : List (List (List ℕ))) → IsWhole w → InputsChange w other
inputs_change w other whole others = record { sound = whole.sound; inputs = others; tapes = whole.tapes }

pub second_whole : (w : World) (other : List (List (List ℕ))) (group : ℕ) → IsWhole w → SecondIsWhole w other group
second_whole w other group whole others =
    record { sound = whole.sound; inputs = others; tapes = are_tapes w other group whole }

pub agrees_back : (w : World) (other : List (List (List ℕ))) (group : ℕ) → AgreesBack w other group
agrees_back w other group tapes h = record {
  inputs = λ s v lv member. sym (h.inputs s v lv member);
  outputs = λ s o r lo lr member reads.
      let wire = output_wire (session w.plan s) o in
      plain_stays w tapes s wire ∙ sym (h.outputs s o r lo lr member reads) ∙ sym (plain_stays (with_inputs w other) tapes s wire);
}

pub can_go_back : (w : World) (other : List (List (List ℕ))) (group : ℕ) → CanHide w other group → CanGoBack w other group
can_go_back w other group h = record {
  whole = second_whole w other group h.whole h.others;
  others = h.whole.inputs;
  tolerated = h.tolerated;
  agree = agrees_back w other group (changed_tapes w other group) h.agree;
}

-- with other tapes, and there and back
pub with_tapes_can : (w : World) (other : List (List (List ℕ))) (group : ℕ) (tapes : List (List ℕ)) → CanMove w other group
    → AreTapes w.plan tapes → CanMove (with_tapes w tapes) other group
with_tapes_can w other group tapes h are = record {
  whole = record { sound = h.whole.sound; inputs = h.whole.inputs; tapes = are };
  others = h.others;
  tolerated = h.tolerated;
  inputs = h.inputs;
}

pub can_move_back : (w : World) (other : List (List (List ℕ))) (group : ℕ) (tapes : List (List ℕ)) → CanMove w other group
    → AreTapes w.plan tapes → CanMove (with_tapes (with_inputs w other) tapes) w.inputs group
can_move_back w other group tapes h are = record {
  whole = record { sound = h.whole.sound; inputs = h.others; tapes = are };
  others = h.whole.inputs;
  tolerated = h.tolerated;
  inputs = λ s v lv member. sym (h.inputs s v lv member);
}
