-- The least party that passes, and who holds what.
use Rattle.std.proofs.Common.{◌≡◌, ℕ, ◌+◌, ◌<◌, inl, inr, Bool, true, false, not, List, [], ◌∷◌, ◌++◌, ◌||◌, length, get_or, refl, sym, ◌∙◌, ap, arith, zero-add, subst, Option, Some, None}
use Rattle.std.specs.Prelude.{slice_index, IsSome, MatchOption}
use Rattle.std.specs.List.{position_or_len, range_with_len}
use Rattle.std.proofs.lemmas.List.FromFn.{length-range_with_len, get_or-range_with_len}
use Rattle.std.proofs.lemmas.List.Sums.{position_or_len_is, passes_at_first, fails_before_first}
use Rattle.std.proofs.lemmas.Bool.{cases_lt, or_parts, not_from_false, not-true}
use Rattle.std.proofs.lemmas.List.{get_or_append_left, get_or_push, get_or_default}
use Rattle.party_set.specs.Parties.{Structure, IsQ2, IsLeastOutside, Members, has_party, is_all}
use Rattle.party_set.proofs.EveryNumber.{every_not, every_at}
use Rattle.share_layout.specs.Layouts.{holds, least_party, least_holder, IsLeastParty, EachIsHeld, IsLayout}

at : (n p : ℕ) → p < n → slice_index (range_with_len 0 n) p ≡ p
at n p l = get_or-range_with_len 0 n p 0 l ∙ zero-add p

-- the least party is the one that passes while each before it fails
pub least_party_is : (s : Structure) (test : ℕ → Bool) (p : ℕ) → IsLeastParty s test p → least_party s test ≡ p
least_party_is s test p is =
    position_or_len_is test (range_with_len 0 s.parties) p 0 (omega (arith, is.party, length-range_with_len 0 s.parties))
    (λ q lq. ap test (at s.parties q (omega (arith, is.party))) ∙ is.least q lq)
    (λ _. ap test (at s.parties p is.party) ∙ is.passes)

-- where a party passes, the least one is the least that does
pub least_party_of : (s : Structure) (test : ℕ → Bool) (p : ℕ) → p < s.parties → test p ≡ true → IsLeastParty s test (least_party s test)
least_party_of s test p lp e =
    let range : List ℕ = range_with_len 0 s.parties in
    let count : length range ≡ s.parties = length-range_with_len 0 s.parties in
    let first : ℕ = position_or_len test range in
    elim (cases_lt first s.parties) [
      | inl below ↦ record {
        party = below;
        passes = ap test (sym (at s.parties first below)) ∙ passes_at_first test range 0 (omega arith);
        least = λ q lq. ap test (sym (at s.parties q (omega arith))) ∙ fails_before_first test range q 0 lq;
      }
      | inr past ↦ (let fails : test p ≡ false = ap test (sym (at s.parties p lp)) ∙ fails_before_first test range p 0 (omega arith) in cc)
    ]

pub held : (s : Structure) → IsQ2 s → EachIsHeld s
held s q2 i l =
    let found : (p : ℕ) × (p < s.parties) × ((has_party (slice_index s.groups i) p || has_party (slice_index s.groups i) p) ≡ false) =
    every_not s.parties (λ p. has_party (slice_index s.groups i) p || has_party (slice_index s.groups i) p) (q2.no_cover i i l l) in
    least_party_of s (λ p. holds s p i) found.0 found.1 (not_from_false _ (or_parts _ _ found.2).0)

-- a group that is left out by someone: its least party outside is there
pub some_outside : (s : Structure) (i : ℕ) (g : Members) (r : Option ℕ) → IsQ2 s → i < length s.groups → g ≡ record { parties = s.parties; mask = slice_index s.groups i }
    → MatchOption r (is_all g.parties g.mask ≡ true) (IsLeastOutside g.parties g.mask) → IsSome r
some_outside s i g (Some p) q2 l group found = refl
some_outside s i g None q2 l group found =
    let every : is_all s.parties (slice_index s.groups i) ≡ true = subst (λ (m : Members). is_all m.parties m.mask ≡ true) group found in
    let someone : IsLeastParty s (λ p. holds s p i) (least_holder s i) = held s q2 i l in
    let inside : has_party (slice_index s.groups i) (least_holder s i) ≡ true = every_at s.parties (has_party (slice_index s.groups i)) every (least_holder s i) someone.party in
    let outside : has_party (slice_index s.groups i) (least_holder s i) ≡ false = not-true _ someone.passes in
    absurd cc

pub least_outside_is : (s : Structure) (i p : ℕ) → IsLeastOutside s.parties (slice_index s.groups i) p → least_holder s i ≡ p
least_outside_is s i p is = least_party_is s (λ q. holds s q i) p (record { party = is.party; passes = not_from_false _ is.outside; least = λ q l. ap not (is.least q l) })

-- a table that grows by the entry of its next place
pub table_more : (f : ℕ → ℕ) (xs : List ℕ) (i y : ℕ) → length xs ≡ i → ((k : ℕ) → k < i → slice_index xs k ≡ f k) → y ≡ f i
    → (k : ℕ) → k < i + 1 → slice_index (xs ++ y ∷ []) k ≡ f k
table_more f xs i y count before here k l =
    elim (cases_lt k i) [
      | inl below ↦ get_or_append_left xs (y ∷ []) 0 k (omega arith) ∙ before k below
      | inr past ↦ (let same : i ≡ k = omega arith in get_or_push xs y 0 k (count ∙ same) ∙ here ∙ ap f same)
    ]

pub outside_is : (s : Structure) (i p : ℕ) (g : Members) (r : Option ℕ) → g ≡ record { parties = s.parties; mask = slice_index s.groups i }
    → MatchOption r (is_all g.parties g.mask ≡ true) (IsLeastOutside g.parties g.mask) → r ≡ Some p → p ≡ least_holder s i
outside_is s i p g r group found some =
    let is : IsLeastOutside g.parties g.mask p = rw some at found in
    sym (least_outside_is s i p (subst (λ (m : Members). IsLeastOutside m.parties m.mask p) group is))

-- an entry of the table of a layout
pub entry_is : (s : Structure) (least : List ℕ) (i p : ℕ) → IsLayout s least → i < length s.groups → p ≡ get_or least i p → p ≡ least_holder s i
entry_is s least i p is l e = e ∙ get_or_default least i p 0 (omega (arith, is.count)) ∙ is.holders i l

pub entry_holds : (s : Structure) (least : List ℕ) (i p : ℕ) → IsLayout s least → i < length s.groups → p ≡ get_or least i p → IsLeastParty s (λ q. holds s q i) p
entry_holds s least i p is l e = subst (IsLeastParty s (λ q. holds s q i)) (sym (entry_is s least i p is l e)) (held s is.q2 i l)
