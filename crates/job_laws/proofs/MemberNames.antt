-- The names of a group's members: none is bad, and their mask is the group's.
use Rattle.std.proofs.Common.{◌≡◌, ℕ, zero, suc, ◌+◌, ◌^◌, ◌<◌, ◌≤◌, ◌≢◌, max, nat_eq, inl, inr, Bool, true, false, cond, ◌||◌, List, [], ◌∷◌, ◌++◌, length, map, Option, None, Some, refl, sym, ap, ap₂, subst, ◌∙◌, arith, append-nil, append_assoc, nat_lt}
use Rattle.std.specs.Prelude.{fold, bit_or}
use Rattle.std.specs.List.{list_any, AllByRecursion, position_or_len}
use Rattle.std.specs.Option.{is_none, unwrap_or, option_or, option_map}
use Rattle.std.specs.Str.{bytes_eq}
use Rattle.std.specs.Int.{bit_at}
use Rattle.std.proofs.lemmas.Bool.{cases_order, eqb-true, false≢true, ltb-false, false_from_ne_true}
use Rattle.std.proofs.lemmas.Bool.Decides.{eqb_tells}
use Rattle.std.proofs.lemmas.List.Sums.{fold-append, fails_before_first}
use Rattle.std.proofs.lemmas.List.Folds.{list_any-append}
use Rattle.std.proofs.lemmas.List.Quantifiers.{position-Some}
use Rattle.std.proofs.lemmas.Slice.Eq.{bytes_eq-Decides}
use Rattle.std.proofs.lemmas.Nat.{pow_pos, or_lt}
use Rattle.std.proofs.lemmas.Nat.Bits.{bit_at-zero, bit_at_or, bit_at-pow_same, bit_at-pow_other, bit_at-lt, same_from_bits_below}
use Rattle.std.proofs.Math.Pow.{pow-lt}
use Rattle.list_laws.specs.Lists.{joined, only_if}
use Rattle.party_set.specs.Parties.{has_party}
use Rattle.party_names.specs.Names.{name_at, party_named, AreNames}
use Rattle.job_file.specs.Forms.{party_of, mask_of}
use Rattle.job_file.specs.Faults.{is_no_party, bad_name, bad_in_lists}
use Rattle.job_laws.specs.Documents.{member_names}

max_zero : (a : ℕ) → max a 0 ≡ a
max_zero a = grind arith

no_bit : (b : ℕ) → b < 2 → nat_eq b 1 ≡ false → b ≡ 0
no_bit b l e = grind (arith, eqb_tells b 1)

no_place : (b : Bool) (n : ℕ) → cond b (Some n) None ≡ None → b ≡ false
no_place true n e = cc
no_place false n e = refl

module _ (names : List (List ℕ)) (are : AreNames names) where
  -- ---- a party's name

  same_place : (k p : ℕ) → k < length names → p < length names → bytes_eq (name_at names k) (name_at names p) ≡ true → k ≡ p
  same_place k p lk lp e =
      let same : name_at names k ≡ name_at names p = (bytes_eq-Decides (name_at names k) (name_at names p)).0 e in
      elim (cases_order k p) [
        | inl is ↦ is
        | inr (inl less) ↦ absurd (are.different k p less lp same)
        | inr (inr more) ↦ absurd (are.different p k more lk (sym same))
      ]

  abbrev is_it : ℕ → List ℕ → Bool
  is_it p other = bytes_eq other (name_at names p)

  found : (p : ℕ) → p < length names → (o : Option ℕ) → party_named names (name_at names p) ≡ o → party_named names (name_at names p) ≡ Some p
  found p l (Some q) e = let f = position-Some (is_it p) names q [] e in e ∙ ap Some (same_place q p f.0 l f.1)
  found p l None e =
      let past : length names ≤ position_or_len (is_it p) names = ltb-false (position_or_len (is_it p) names) (length names) (no_place (nat_lt (position_or_len (is_it p) names) (length names)) (position_or_len (is_it p) names) e) in
      let no : is_it p (name_at names p) ≡ false = fails_before_first (is_it p) names p [] (omega (arith, l, past)) in
      absurd (false≢true (sym no ∙ (bytes_eq-Decides (name_at names p) (name_at names p)).1 refl))

  pub named : (p : ℕ) → p < length names → party_named names (name_at names p) ≡ Some p
  named p l = found p l (party_named names (name_at names p)) refl

  pub party_back : (p : ℕ) → p < length names → party_of names (name_at names p) ≡ p
  party_back p l = ap (λ o. unwrap_or o 0) (named p l)

  pub is_party : (p : ℕ) → p < length names → is_no_party names (name_at names p) ≡ false
  is_party p l = ap is_none (named p l)

  -- ---- the names of members

  module _ (m : ℕ) where
    abbrev below : ℕ → List (List ℕ)
    below k = joined k (λ p. only_if (has_party m p) (name_at names p ∷ []))

    abbrev with_party : ℕ → List ℕ → ℕ
    with_party mask name = bit_or mask (2 ^ party_of names name)

    -- the mask of the members below k
    abbrev mask_below : ℕ → ℕ
    mask_below k = fold with_party 0 (below k)

    abbrev mask_then : ℕ → Bool → ℕ
    mask_then k b = fold with_party (mask_below k) (only_if b (name_at names k ∷ []))

    goes_on : (k : ℕ) → mask_below (suc k) ≡ mask_then k (has_party m k)
    goes_on k = fold-append with_party 0 (below k) (only_if (has_party m k) (name_at names k ∷ []))

    added : (k i : ℕ) → k < length names → bit_at (mask_then k true) i ≡ max (bit_at (mask_below k) i) (bit_at (2 ^ k) i)
    added k i l = bit_at_or (mask_below k) (2 ^ party_of names (name_at names k)) i ∙ ap (λ p. max (bit_at (mask_below k) i) (bit_at (2 ^ p) i)) (party_back k l)

    at_others : (k i : ℕ) (b : Bool) → k < length names → i ≢ k → bit_at (mask_then k b) i ≡ bit_at (mask_below k) i
    at_others k i true l apart = added k i l ∙ ap (max (bit_at (mask_below k) i)) (bit_at-pow_other k i apart) ∙ max_zero (bit_at (mask_below k) i)
    at_others k i false l apart = refl

    at_itself : (k : ℕ) (b : Bool) → has_party m k ≡ b → k < length names → bit_at (mask_below k) k ≡ 0 → bit_at (mask_then k b) k ≡ bit_at m k
    at_itself k true is l none = added k k l ∙ ap₂ max none (bit_at-pow_same k) ∙ sym (eqb-true (bit_at m k) 1 is)
    at_itself k false is l none = none ∙ sym (no_bit (bit_at m k) (bit_at-lt m k) is)

    outside : (k i : ℕ) → k ≤ length names → k ≤ i → bit_at (mask_below k) i ≡ 0
    outside zero i l o = bit_at-zero i
    outside (suc k) i l o = ap (λ mask. bit_at mask i) (goes_on k) ∙ at_others k i (has_party m k) (omega arith) (λ e. omega arith) ∙ outside k i (omega arith) (omega arith)

    inside : (k i : ℕ) → k ≤ length names → i < k → bit_at (mask_below k) i ≡ bit_at m i
    inside zero i l less = absurd (omega arith)
    inside (suc k) i l less = elim (cases_order i k) [
      | inl same ↦
          ap (bit_at (mask_below (suc k))) same ∙ ap (λ mask. bit_at mask k) (goes_on k) ∙ at_itself k (has_party m k) refl (omega arith) (outside k k (omega arith) (omega arith))
          ∙ ap (bit_at m) (sym same)
      | inr (inl below) ↦ ap (λ mask. bit_at mask i) (goes_on k) ∙ at_others k i (has_party m k) (omega arith) (λ e. omega (arith, e, below)) ∙ inside k i (omega arith) below
      | inr (inr above) ↦ absurd (omega arith)
    ]

    step_small : (k : ℕ) (b : Bool) → k < length names → mask_below k < 2 ^ length names → mask_then k b < 2 ^ length names
    step_small k true l small =
        or_lt (length names) (mask_below k) (2 ^ party_of names (name_at names k)) small (subst (λ p. 2 ^ p < 2 ^ length names) (sym (party_back k l)) (pow-lt {i = k} {j = length names} l))
    step_small k false l small = small

    is_small : (k : ℕ) → k ≤ length names → mask_below k < 2 ^ length names
    is_small zero l = pow_pos (length names)
    is_small (suc k) l = subst (λ mask. mask < 2 ^ length names) (sym (goes_on k)) (step_small k (has_party m k) (omega arith) (is_small k (omega arith)))

    pub mask_back : m < 2 ^ length names → mask_of names (member_names names m) ≡ m
    unfolding mask_of
    mask_back small = same_from_bits_below (length names) (mask_below (length names)) m (is_small (length names) (omega arith)) small (λ i l. inside (length names) i (omega arith) l)

    -- ---- none of them is bad

    is_other : (k p : ℕ) → k < p → p < length names → is_it p (name_at names k) ≡ false
    is_other k p less l = false_from_ne_true (is_it p (name_at names k)) (λ e. let same = same_place k p (omega arith) l e in omega arith)

    one_apart : (k p : ℕ) (b : Bool) → k < p → p < length names → list_any (is_it p) (only_if b (name_at names k ∷ [])) ≡ false
    one_apart k p true less l = ap (λ b. b || false) (is_other k p less l)
    one_apart k p false less l = refl

    apart : (k p : ℕ) → k ≤ p → p < length names → list_any (is_it p) (below k) ≡ false
    apart zero p o l = refl
    apart (suc k) p o l =
        list_any-append (is_it p) (below k) (only_if (has_party m k) (name_at names k ∷ []))
        ∙ ap₂ (λ a b. a || b) (apart k p (omega arith) l) (one_apart k p (has_party m k) (omega arith) l)

    passed : (a b : Bool) (n : ℕ) (rest : Option ℕ) → cond (a || b) (Some n) rest ≡ None → (a ≡ false) × (b ≡ false) × (rest ≡ None)
    passed true b n rest e = cc
    passed false true n rest e = cc
    passed false false n rest e = (refl, refl, e)

    passes : (a b : Bool) (n : ℕ) (rest : Option ℕ) → a ≡ false → b ≡ false → rest ≡ None → cond (a || b) (Some n) rest ≡ None
    passes false false n rest e f g = g
    passes true b n rest e f g = cc
    passes false true n rest e f g = cc

    one_last : (before xs : List (List ℕ)) (text : List ℕ) → bad_name names before xs ≡ None → is_no_party names text ≡ false → list_any (λ other. bytes_eq other text) (before ++ xs) ≡ false
        → bad_name names before (xs ++ text ∷ []) ≡ None
    unfolding bad_name
    one_last before [] text e party fresh =
        passes (is_no_party names text) (list_any (λ other. bytes_eq other text) before) (length before) None party (ap (list_any (λ other. bytes_eq other text)) (sym (append-nil before)) ∙ fresh) refl
    one_last before (x ∷ xs) text e party fresh =
        let p = passed (is_no_party names x) (list_any (λ other. bytes_eq other x) before) (length before) (bad_name names (before ++ x ∷ []) xs) e in
        passes (is_no_party names x) (list_any (λ other. bytes_eq other x) before) (length before) (bad_name names (before ++ x ∷ []) (xs ++ text ∷ [])) p.0 p.1
        (one_last (before ++ x ∷ []) xs text p.2 party (ap (list_any (λ other. bytes_eq other text)) (append_assoc before (x ∷ []) xs) ∙ fresh))

    good_step : (k : ℕ) (b : Bool) → k < length names → bad_name names [] (below k) ≡ None → bad_name names [] (below k ++ only_if b (name_at names k ∷ [])) ≡ None
    good_step k true l e = one_last [] (below k) (name_at names k) e (is_party k l) (apart k k (omega arith) l)
    good_step k false l e = ap (bad_name names []) (append-nil (below k)) ∙ e

    good_below : (k : ℕ) → k ≤ length names → bad_name names [] (below k) ≡ None
    unfolding bad_name
    good_below zero l = refl
    good_below (suc k) l = good_step k (has_party m k) (omega arith) (good_below k (omega arith))

    pub good_names : bad_name names [] (member_names names m) ≡ None
    good_names = good_below (length names) (omega arith)

  -- ---- lists of groups

  none_first : {A B : Type 0} (f : A → B) (o : Option A) (rest : Option B) → o ≡ None → rest ≡ None → option_or (option_map f o) rest ≡ None
  none_first f None rest e h = h
  none_first f (Some a) rest e h = cc

  pub good_lists : (value : ℕ) (masks : List ℕ) → bad_in_lists names value (map (member_names names) masks) ≡ None
  unfolding bad_in_lists
  good_lists value [] = refl
  good_lists value (m ∷ masks) = none_first (λ at. (value, at)) (bad_name names [] (member_names names m)) (bad_in_lists names (value + 1) (map (member_names names) masks)) (good_names m) (good_lists (value + 1) masks)

  pub masks_back : (masks : List ℕ) → AllByRecursion (λ mask. mask < 2 ^ length names) masks → map (mask_of names) (map (member_names names) masks) ≡ masks
  masks_back [] h = refl
  masks_back (m ∷ masks) h = ap₂ (λ a b. a ∷ b) (mask_back m h.0) (masks_back masks h.1)
