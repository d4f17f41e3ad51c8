-- The choices are all tapes of the plan that leave the members' own, each once.
use Rattle.std.proofs.Common.{◌≡◌, ℕ, zero, suc, ◌*◌, ◌^◌, ◌<◌, true, if◌then◌else◌, List, [], ◌∷◌, length, refl, sym, ap, ap₂, ◌∙◌, subst, arith}
use Rattle.std.specs.Prelude.{slice_index, slice_index_or, replicate}
use Rattle.std.specs.List.{AllByRecursion, AllZip, Contains}
use Rattle.std.proofs.lemmas.Bool.{cases_lt, cases_Bool, cond-true, cond-false, both_ways}
use Rattle.std.proofs.lemmas.Nat.{pow_pos}
use Rattle.std.proofs.Math.Nat.{pow-zero, pow-suc}
use Rattle.std.proofs.lemmas.List.{get_or_past}
use mathlib.Core.Logic.{inl, inr}
use Rattle.list_laws.specs.Lists.{listed}
use Rattle.list_laws.proofs.JoinedLists.{length-listed, listed_at, every_listed}
use Rattle.party_set.specs.Parties.{has_party}
use Rattle.plan_model.specs.Plans.{Plan}
use Rattle.plan_model.specs.Tallies.{tape_length}
use Rattle.share_world.specs.Worlds.{World}
use Rattle.share_world.specs.Laws.{IsWhole}
use Rattle.tape_map.specs.TapeMaps.{tape_of}
use Rattle.view_counts.specs.Counts.{all_words, tapes_for, choices}
use Rattle.view_counts.specs.Laws.{ChoicesAreTapes, TapesAreChoices, ChoicesDiffer, ChoicesAreMany}
use Rattle.view_counts.proofs.DistinctLists.{Distinct, contains_here, contains_none, contains_cases, distinct_one, distinct_append, pairs_differ}
use Rattle.view_counts.proofs.PickedLists.{zip_length, zip_at, zip_from, contains_picks, picks_contain, distinct_picks, picks_long, powers_long}

-- ---- the numbers below n, and lists of them

abbrev numbers : ℕ → List ℕ
numbers n = listed n (λ i. i)

number_found : (n x : ℕ) → x < n → Contains (numbers n) x
number_found n x l = (x, omega (arith, l, length-listed n (λ i. i)), listed_at n (λ i. i) x x l)

number_below : (n x : ℕ) → Contains (numbers n) x → x < n
number_below n x h =
    let l : h.0 < n = omega (arith, h.1, length-listed n (λ i. i)) in
    subst (λ z. z < n) (sym (listed_at n (λ i. i) h.0 x l) ∙ h.2) l

distinct_numbers : (n : ℕ) → Distinct (numbers n)
distinct_numbers zero = tt
distinct_numbers (suc n) = distinct_append (numbers n) (n ∷ []) (distinct_numbers n) (distinct_one n) (λ z left right.
    let below : z < n = number_below n z left in
    elim (contains_cases n [] z right) [
      | inl e ↦ omega arith
      | inr none ↦ contains_none z none
    ])

abbrev parts : ℕ → ℕ → List (List ℕ)
parts q n = replicate n (numbers q)

words_zip : (q n : ℕ) (t : List ℕ) → length t ≡ n → ((i : ℕ) → slice_index t i < q) → AllZip Contains (parts q n) t
words_zip q zero [] l h = tt
words_zip q zero (x ∷ xs) l h = absurd (omega arith)
words_zip q (suc n) [] l h = absurd (omega arith)
words_zip q (suc n) (x ∷ xs) l h = (number_found q x (h 0), words_zip q n xs (omega arith) (λ i. h (suc i)))

zip_words : (q n : ℕ) (t : List ℕ) → 0 < q → AllZip Contains (parts q n) t → (length t ≡ n) × ((i : ℕ) → slice_index t i < q)
zip_words q zero [] positive h = (refl, λ i. positive)
zip_words q zero (x ∷ xs) positive h = absurd h
zip_words q (suc n) [] positive h = absurd h
zip_words q (suc n) (x ∷ xs) positive h = let rest = zip_words q n xs positive h.1 in (ap suc rest.0, each x xs (number_below q x h.0) rest.1)
  where
    each : (x : ℕ) (xs : List ℕ) → x < q → ((i : ℕ) → slice_index xs i < q) → (i : ℕ) → slice_index (x ∷ xs) i < q
    each x xs l h zero = l
    each x xs l h (suc i) = h i

distinct_words : (q n : ℕ) → Distinct (all_words q n)
distinct_words q n = distinct_picks (parts q n) (every n)
  where
    every : (n : ℕ) → AllByRecursion Distinct (parts q n)
    every zero = tt
    every (suc n) = (distinct_numbers q, every n)

-- ---- the tapes of one party

record IsTape (w : World) (group p : ℕ) (t : List ℕ) : Type 0 where
  long : length t ≡ tape_length w.plan p
  small : (i : ℕ) → slice_index t i < 2 ^ w.plan.bits
  member : has_party group p ≡ true → t ≡ tape_of w p

module _ (w : World) (group p : ℕ) where
  abbrev own : List (List ℕ)
  own = tape_of w p ∷ []

  abbrev all : List (List ℕ)
  all = all_words (2 ^ w.plan.bits) (tape_length w.plan p)

  abbrev mine : List (List ℕ)
  mine = tapes_for w.plan group w.tapes p

  abbrev pieces : List (List ℕ)
  pieces = parts (2 ^ w.plan.bits) (tape_length w.plan p)

  tape_within : (t : List ℕ) → IsWhole w → p < w.plan.parties → Contains mine t → IsTape w group p t
  tape_within t whole lp h = elim (cases_Bool (has_party group p)) [
    | inl yes' ↦
        let here : Contains own t = subst (λ (z : List (List ℕ)). Contains z t) (cond-true (has_party group p) own all yes') h in
        elim (contains_cases (tape_of w p) [] t here) [
          | inl e ↦ subst (IsTape w group p) e (record { long = whole.tapes.lengths p lp; small = whole.tapes.below p; member = λ yes'. refl })
          | inr none ↦ absurd (contains_none t none)
        ]
    | inr no' ↦
        let here : Contains all t = subst (λ (z : List (List ℕ)). Contains z t) (cond-false (has_party group p) own all no') h in
        let rest = zip_words (2 ^ w.plan.bits) (tape_length w.plan p) t (pow_pos w.plan.bits) (picks_contain pieces t here) in
        record { long = rest.0; small = rest.1; member = λ yes'. absurd (both_ways (has_party group p) no' yes') }
  ]

  tape_found : (t : List ℕ) → IsTape w group p t → Contains mine t
  tape_found t h = elim (cases_Bool (has_party group p)) [
    | inl yes' ↦ subst (λ (z : List (List ℕ)). Contains z t) (sym (cond-true (has_party group p) own all yes'))
        (subst (λ z. Contains (z ∷ []) t) (h.member yes') (contains_here t []))
    | inr no' ↦ subst (λ (z : List (List ℕ)). Contains z t) (sym (cond-false (has_party group p) own all no'))
        (contains_picks pieces t (words_zip (2 ^ w.plan.bits) (tape_length w.plan p) t h.long h.small))
  ]

  distinct_tapes : Distinct mine
  distinct_tapes = elim (cases_Bool (has_party group p)) [
    | inl yes' ↦ subst (λ (z : List (List ℕ)). Distinct z) (sym (cond-true (has_party group p) own all yes')) (distinct_one (tape_of w p))
    | inr no' ↦ subst (λ (z : List (List ℕ)). Distinct z) (sym (cond-false (has_party group p) own all no'))
        (distinct_words (2 ^ w.plan.bits) (tape_length w.plan p))
  ]

-- ---- all choices

module _ (w : World) (group : ℕ) where
  abbrev n : ℕ
  n = w.plan.parties

  abbrev lists : List (List (List ℕ))
  lists = listed w.plan.parties (tapes_for w.plan group w.tapes)

  lists_long : length lists ≡ n
  lists_long = length-listed n (tapes_for w.plan group w.tapes)

  list_at : (p : ℕ) → p < n → slice_index_or lists p [] ≡ tapes_for w.plan group w.tapes p
  list_at p lp = listed_at n (tapes_for w.plan group w.tapes) p [] lp

  pub choices_are_tapes : IsWhole w → ChoicesAreTapes w group
  choices_are_tapes whole tapes h = record {
    are = record { parties = long; lengths = λ p lp. (each p lp).long; below = below };
    members = λ p lp. (each p lp).member;
  }
    where
      zip : AllZip Contains lists tapes
      zip = picks_contain lists tapes h

      long : length tapes ≡ n
      long = zip_length Contains lists tapes zip ∙ lists_long

      each : (p : ℕ) → p < n → IsTape w group p (slice_index_or tapes p [])
      each p lp =
          tape_within w group p (slice_index_or tapes p []) whole lp
          (subst (λ (z : List (List ℕ)). Contains z (slice_index_or tapes p [])) (list_at p lp)
          (zip_at Contains lists tapes p [] [] (omega (arith, lp, lists_long)) zip))

      below : (p i : ℕ) → slice_index (slice_index_or tapes p []) i < 2 ^ w.plan.bits
      below p i = elim (cases_lt p n) [
        | inl lp ↦ (each p lp).small i
        | inr past ↦ subst (λ z. slice_index z i < 2 ^ w.plan.bits) (sym (get_or_past tapes p [] (omega (arith, long, past)))) (pow_pos w.plan.bits)
      ]

  pub tapes_are_choices : TapesAreChoices w group
  tapes_are_choices tapes h =
      contains_picks lists tapes (zip_from Contains lists tapes [] [] (h.are.parties ∙ sym lists_long) (λ p l.
      let lp : p < n = omega (arith, l, lists_long) in
      let t = slice_index_or tapes p [] in
      subst (λ (z : List (List ℕ)). Contains z t) (sym (list_at p lp))
      (tape_found w group p t (record { long = h.are.lengths p lp; small = h.are.below p; member = h.members p lp }))))

  pub distinct_choices : Distinct (choices w.plan group w.tapes)
  distinct_choices = distinct_picks lists (every_listed Distinct n (tapes_for w.plan group w.tapes) (distinct_tapes w group))

  pub choices_differ : ChoicesDiffer w group
  choices_differ = pairs_differ (choices w.plan group w.tapes) distinct_choices

-- ---- how many there are

words_long : (q n : ℕ) → length (all_words q n) ≡ q ^ n
words_long q zero = sym (pow-zero q)
words_long q (suc n) =
    picks_long (numbers q) (parts q n)
    ∙ ap₂ (λ a b. a * b) (length-listed q (λ i. i)) (words_long q n)
    ∙ omega (arith, pow-suc q n)

pub choices_are_many : (plan : Plan) (group : ℕ) (own : List (List ℕ)) → ChoicesAreMany plan group own
choices_are_many plan group own = powers_long (2 ^ plan.bits) free (tapes_for plan group own) each plan.parties
  where
    free : ℕ → ℕ
    free p = if has_party group p then 0 else tape_length plan p

    own_long : (p : ℕ) → length (slice_index_or own p [] ∷ []) ≡ (2 ^ plan.bits) ^ 0
    own_long p = sym (pow-zero (2 ^ plan.bits))

    each : (p : ℕ) → length (tapes_for plan group own p) ≡ (2 ^ plan.bits) ^ free p
    each p = elim (cases_Bool (has_party group p)) [
      | inl yes' ↦ ap (λ (z : List (List ℕ)). length z) (cond-true (has_party group p) (slice_index_or own p [] ∷ []) _ yes')
          ∙ own_long p
          ∙ sym (ap (λ e. (2 ^ plan.bits) ^ e) (cond-true (has_party group p) 0 (tape_length plan p) yes'))
      | inr no' ↦ ap (λ (z : List (List ℕ)). length z) (cond-false (has_party group p) (slice_index_or own p [] ∷ []) _ no')
          ∙ words_long (2 ^ plan.bits) (tape_length plan p)
          ∙ sym (ap (λ e. (2 ^ plan.bits) ^ e) (cond-false (has_party group p) 0 (tape_length plan p) no'))
    ]
