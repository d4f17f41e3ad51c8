-- What a search by rank finds among the transfers of a slot whose ranks rise.
use Rattle.std.proofs.Common.{◌≡◌, ℕ, ◌<◌, ◌≤◌, false, List, map, length, Ok, Err, sym, ap, ◌∙◌, subst, arith}
use Rattle.std.specs.Prelude.{slice_index_or}
use Rattle.std.specs.List.Sorted.{IsBinarySearchResult, IsNonDecreasingBy}
use Rattle.std.specs.Ordering.{nat_cmp, ordering_index}
use Rattle.std.proofs.lemmas.Cmp.{ranked}
use Rattle.std.proofs.lemmas.List.{length-map, get_or-map}
use Rattle.std.proofs.lemmas.List.Sorted.{IsNonDecreasingBy-from_default}
use Rattle.std.proofs.lemmas.Bool.{cases_eq, cases_lt, both_ways}
use Rattle.std.proofs.lemmas.Bool.Decides.{nat_tests}
use mathlib.Core.Logic.{inl, inr}
use Rattle.plan_model.specs.declared.key.Key.{Key}
use Rattle.plan_model.specs.declared.pattern.Transfer.{Transfer}
use Rattle.plan_model.specs.Numbers.{no_key, same_key, IsRising}
use Rattle.plan_model.specs.Patterns.{named}
use Rattle.plan_model.proofs.DistinctMessages.{same_key_self}

pub unequal : (a b : Key) → false ≡ same_key a b → a ≡ b → ⊥
unequal a b h e = both_ways (same_key a b) (sym h) (ap (same_key a) (sym e) ∙ same_key_self a)

abbrev pub no_transfer : Transfer
no_transfer = record { share = 0; sender = 0; receiver = 0 }

-- the message at a place is the one of the transfer there
pub named_at : (s k : ℕ) (transfers : List Transfer) (i : ℕ) → i < length transfers → slice_index_or (map (named s k) transfers) i no_key ≡ named s k (slice_index_or transfers i no_transfer)
named_at s k transfers i within = get_or-map (named s k) transfers i no_transfer no_key within

module _ (s k : ℕ) (transfers : List Transfer) (f : Key → ℕ) (rising : IsRising f (map (named s k) transfers)) (key : Key) where
  abbrev keys : List Key
  keys = map (named s k) transfers

  abbrev at_place : ℕ → Key
  at_place i = named s k (slice_index_or transfers i no_transfer)

  rise : (i j : ℕ) → i < j → j < length transfers → f (at_place i) < f (at_place j)
  rise i j less within =
      let long = length-map transfers (named s k) in
      let rises = rising i j less (omega arith) in
      omega (arith, ap f (named_at s k transfers i (omega arith)), ap f (named_at s k transfers j within))

  comparisons_rise : IsNonDecreasingBy (λ held. ordering_index (nat_cmp (f (named s k held)) (f key))) transfers
  comparisons_rise = IsNonDecreasingBy-from_default (λ held. ordering_index (nat_cmp (f (named s k held)) (f key))) transfers no_transfer (λ i j le in_range.
      let rises : f (at_place i) ≤ f (at_place j) = elim (cases_eq i j) [
        | inl e ↦ subst (λ z. f (at_place i) ≤ f (at_place z)) e (omega arith)
        | inr ne ↦ (let less = rise i j (omega arith) in_range in omega arith)
      ] in
      grind (arith, nat_tests))

  -- another key at the only place of that rank
  pub absent_beside : (at : ℕ) → at < length transfers → IsBinarySearchResult (λ held. nat_cmp (f (named s k held)) (f key)) transfers (Ok at) → (slice_index_or keys at no_key ≡ key → ⊥)
      → (i : ℕ) → i < length transfers → slice_index_or keys i no_key ≡ key → ⊥
  absent_beside at l found other i b e =
      let here : f (at_place at) ≡ f key = ranked _ (f key) _ (sym (found no_transfer)) in
      let there : f (at_place i) ≡ f key = ap f (sym (named_at s k transfers i b) ∙ e) in
      elim (cases_eq i at) [
        | inl same ↦ other (ap (λ z. slice_index_or keys z no_key) (sym same) ∙ e)
        | inr ne ↦ elim (cases_lt i at) [
          | inl less ↦ (let rises = rise i at less l in omega arith)
          | inr more ↦ (let rises = rise at i (omega arith) b in omega arith)
        ]
      ]

  pub absent_in_gap : (at : ℕ) → IsBinarySearchResult (λ held. nat_cmp (f (named s k held)) (f key)) transfers (Err at) → (i : ℕ) → i < length transfers → slice_index_or keys i no_key ≡ key → ⊥
  absent_in_gap at parted i b e =
      let there : f (at_place i) ≡ f key = ap f (sym (named_at s k transfers i b) ∙ e) in
      elim (cases_lt i at) [
        | inl less ↦ (let below : f (at_place i) < f key = ranked _ (f key) _ (sym ((parted comparisons_rise).0 i no_transfer (omega arith) less)) in omega arith)
        | inr more ↦ (let above : f key < f (at_place i) = ranked _ (f key) _ (sym ((parted comparisons_rise).1 i no_transfer more b)) in omega arith)
      ]
