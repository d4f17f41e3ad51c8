-- The name of a member of a group, with what stands before it.
use Rattle.std.proofs.Common.{◌≡◌, ℕ, ◌^◌, ◌%◌, ◌++◌, nat_eq, true, false, List, [], sym, ap, ◌∙◌, append_assoc, append-nil}
use Rattle.std.specs.Prelude.{not, Some, Result, Ok, Err, OnOk, slice_get, slice_index_or, codes}
use Rattle.std.proofs.lemmas.Bool.{cond-true, cond-false}
use Rattle.std.proofs.lemmas.Option.{get_or_from_slice_get}
use Rattle.list_laws.specs.Lists.{only_if}
use Rattle.party_set.specs.Parties.{has_party}
use Rattle.text_parts.specs.Parts.{member_text}

abbrev plus_before : ℕ → ℕ → List ℕ
plus_before mask p = only_if (not (nat_eq (mask % 2 ^ p) 0)) (codes "+")

-- a member's text
pub member_is : (names : List (List ℕ)) (mask p q : ℕ) (old text name : List ℕ) → has_party mask p ≡ true → q ≡ 2 ^ p → slice_get names p ≡ Some name
    → text ≡ (old ++ only_if (not (nat_eq (mask % q) 0)) (codes "+")) ++ name → text ≡ old ++ member_text names mask p
member_is names mask p q old text name has power there is =
    is
    ∙ ap (λ n. (old ++ only_if (not (nat_eq (mask % n) 0)) (codes "+")) ++ name) power
    ∙ append_assoc old (plus_before mask p) name
    ∙ ap (λ n. old ++ (plus_before mask p ++ n)) (sym (get_or_from_slice_get names p name [] there))
    ∙ ap (λ t. old ++ t) (sym (cond-true (has_party mask p) (plus_before mask p ++ slice_index_or names p []) [] has))

-- nothing is written for another party
pub other_is : (names : List (List ℕ)) (mask p : ℕ) (old : List ℕ) → has_party mask p ≡ false → old ≡ old ++ member_text names mask p
other_is names mask p old has =
    sym (append-nil old) ∙ ap (λ t. old ++ t) (sym (cond-false (has_party mask p) (only_if (not (nat_eq (mask % 2 ^ p) 0)) (codes "+") ++ slice_index_or names p []) [] has))

pub on_ok : {E : Type 0} (r : Result (Unit {0}) E) (P Q : Type 0) → (P → Q) → OnOk r P → OnOk r Q
on_ok (Ok u) P Q f p = f p
on_ok (Err e) P Q f p = tt
