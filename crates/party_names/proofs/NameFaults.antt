-- Faults of names, and what a list of names without one tells.
use Rattle.std.proofs.Common.{◌≡◌, ℕ, zero, suc, ◌+◌, ◌<◌, ◌≤◌, inl, inr, Bool, true, false, not, ◌&&◌, ◌||◌, cond, nat_eq, nat_lt, if◌then◌else◌, Option, Some, None, List, [], ◌∷◌, ◌++◌, length, take, get_or, get_or-take, length-take, refl, sym, ◌∙◌, ap, arith}
use Rattle.std.specs.Prelude.{slice_get, slice_index, codes}
use Rattle.std.specs.List.{list_all, list_any}
use Rattle.std.specs.Cmp.Lexicographic.{nat_list_eq_equiv}
use Rattle.std.specs.Str.{bytes_eq}
use Rattle.std.specs.Char.{is_ascii_alphabetic}
use Rattle.std.proofs.lemmas.Bool.{cases_eq, cases_lt, eq-eqb, lt-ltb, le-leb, le-ltb, ne_eqb, false_from_ne_true}
use Rattle.std.proofs.lemmas.List.{get_or_default}
use Rattle.std.proofs.lemmas.List.Quantifiers.{position-Some}
use Rattle.std.proofs.lemmas.List.Folds.{list_any_at, list_any_none}
use Rattle.std.proofs.lemmas.Option.{slice_get-get_or}
use Rattle.std.proofs.lemmas.Slice.Eq.{bytes_eq-Decides}
use Rattle.indexmap.specs.IndexSet.{insert_key}
use Rattle.party_names.specs.declared.names.NamesFault.{NamesFault}
use Rattle.party_names.specs.declared.names.TheConstants.{LONGEST_NAME}
use Rattle.party_names.specs.declared.names.NamesFault.TheVariants.{BadName, TwiceNamed, PartyCount}
use Rattle.party_names.specs.Names.{is_name, is_name_byte, name_at, name_fault, first_of, first_name_fault, names_fault, party_named, AreNames}

all_true : (a b c d e r : Bool) → a ≡ true → b ≡ true → c ≡ true → d ≡ true → r ≡ e → r ≡ (a && (b && (c && (d && e))))
all_true true true true true e r p q s t h = h
all_true true true true false e r p q s t h = cc
all_true true true false d e r p q s t h = cc
all_true true false c d e r p q s t h = cc
all_true false b c d e r p q s t h = cc

pub name_is : (name : List ℕ) (r : Bool) → 0 < length name → length name ≤ LONGEST_NAME → is_ascii_alphabetic (slice_index name 0) ≡ true → list_all is_name_byte name ≡ true
    → r ≡ not (bytes_eq name (codes "of")) → r ≡ is_name name
name_is name r some few letter bytes e = all_true _ _ _ _ _ r (lt-ltb 0 (length name) some) (le-leb (length name) LONGEST_NAME few) letter bytes e

-- ---- the first fault

pub first_more : (names : List (List ℕ)) (n : ℕ) → first_name_fault names (n + 1) ≡ first_of (first_name_fault names n) (name_fault (take n names) (name_at names n) n)
first_more names n = let more : n + 1 ≡ suc n = omega arith in ap (first_name_fault names) more

first_kept : (names : List (List ℕ)) (n m : ℕ) (fault : NamesFault) → n ≤ m → first_name_fault names n ≡ Some fault → first_name_fault names m ≡ Some fault
first_kept names n zero fault l e = let same : n ≡ zero = omega arith in ap (first_name_fault names) (sym same) ∙ e
first_kept names n (suc m) fault l e =
    elim (cases_eq n (suc m)) [
      | inl same ↦ ap (first_name_fault names) (sym same) ∙ e
      | inr other ↦ ap (λ f. first_of f (name_fault (take m names) (name_at names m) m)) (first_kept names n m fault (omega arith) e)
    ]

counted : (names : List (List ℕ)) → 0 < length names → length names ≤ 12 → names_fault names ≡ first_name_fault names (length names)
counted names some few =
    ap (λ b. cond (b || nat_lt 12 (length names)) (Some (PartyCount (length names))) (first_name_fault names (length names))) (ne_eqb (length names) 0 (omega arith))
    ∙ ap (λ b. cond b (Some (PartyCount (length names))) (first_name_fault names (length names))) (le-ltb 12 (length names) few)

pub fault_is : (names : List (List ℕ)) (at : ℕ) (fault : NamesFault) → at < length names → length names ≤ 12 → first_name_fault names at ≡ None
    → name_fault (take at names) (name_at names at) at ≡ Some fault → names_fault names ≡ Some fault
fault_is names at fault l few before here =
    counted names (omega arith) few
    ∙ first_kept names (at + 1) (length names) fault (omega arith)
    (first_more names at ∙ ap (λ f. first_of f (name_fault (take at names) (name_at names at) at)) before ∙ here)

pub no_fault_is : (names : List (List ℕ)) → 0 < length names → length names ≤ 12 → first_name_fault names (length names) ≡ None → names_fault names ≡ None
no_fault_is names some few e = counted names some few ∙ e

first_none : (f g : Option NamesFault) → first_of f g ≡ None → (f ≡ None) × (g ≡ None)
first_none (Some fault) g e = cc
first_none None g e = (refl, e)

none_before : (names : List (List ℕ)) (n k : ℕ) → k < n → first_name_fault names n ≡ None → name_fault (take k names) (name_at names k) k ≡ None
none_before names zero k l e = absurd (omega arith)
none_before names (suc n) k l e =
    let both = first_none (first_name_fault names n) (name_fault (take n names) (name_at names n) n) e in
    elim (cases_eq k n) [
      | inl same ↦ rw same both.1
      | inr other ↦ none_before names n k (omega arith) both.0
    ]

-- no fault of one name
pub passes : (name_ok among : Bool) (k : ℕ) → cond (not name_ok) (Some (BadName k)) (cond among (Some (TwiceNamed k)) None) ≡ None → (name_ok ≡ true) × (among ≡ false)
passes true true k e = cc
passes true false k e = (refl, refl)
passes false among k e = cc

pub sound : (names : List (List ℕ)) → 0 < length names → length names ≤ 12 → first_name_fault names (length names) ≡ None → AreNames names
sound names some few e = record {
  some = some;
  few = few;
  names = λ i l. (passes (is_name (name_at names i)) (list_any (λ other. bytes_eq other (name_at names i)) (take i names)) i (none_before names (length names) i l e)).0;
  different = λ i j lij lj same.
      let apart : list_any (λ other. bytes_eq other (name_at names j)) (take j names) ≡ false =
      (passes (is_name (name_at names j)) (list_any (λ other. bytes_eq other (name_at names j)) (take j names)) j (none_before names (length names) j lj e)).1 in
      let equal : bytes_eq (get_or (take j names) i []) (name_at names j) ≡ true =
      (bytes_eq-Decides (get_or (take j names) i []) (name_at names j)).1 (get_or-take j names i [] lij ∙ same) in
      let among : list_any (λ other. bytes_eq other (name_at names j)) (take j names) ≡ true =
      list_any_at (λ other. bytes_eq other (name_at names j)) (take j names) i [] (omega (arith, length-take j names)) equal in
      absurd cc;
}

-- a name that does not stand among others goes last
pub inserted_last : (names : List (List ℕ)) (name : List ℕ) → list_any (λ other. bytes_eq other name) names ≡ false → insert_key bytes_eq names name ≡ names ++ name ∷ []
inserted_last names name absent = ap (λ among. if among then names else names ++ name ∷ []) (ap (λ test. list_any test names) (λ i other. nat_list_eq_equiv.symm name other i) ∙ absent)

-- ---- a list of names has no fault exactly where it is one

pub no_fault_tells : (names : List (List ℕ)) → names_fault names ≡ None → AreNames names
no_fault_tells names e =
    elim (cases_eq (length names) 0) [
      | inl none ↦ (let fault : names_fault names ≡ Some (PartyCount (length names)) =
          ap (λ b. cond (b || nat_lt 12 (length names)) (Some (PartyCount (length names))) (first_name_fault names (length names))) (eq-eqb (length names) 0 none) in absurd cc)
      | inr some ↦ elim (cases_lt 12 (length names)) [
        | inl many ↦ (let fault : names_fault names ≡ Some (PartyCount (length names)) =
            ap (λ b. cond (b || nat_lt 12 (length names)) (Some (PartyCount (length names))) (first_name_fault names (length names))) (ne_eqb (length names) 0 some)
            ∙ ap (λ b. cond b (Some (PartyCount (length names))) (first_name_fault names (length names))) (lt-ltb 12 (length names) many) in absurd cc)
        | inr few ↦ sound names (omega arith) few (sym (counted names (omega arith) few) ∙ e)
      ]
    ]

none_from : (names : List (List ℕ)) → AreNames names → (n : ℕ) → n ≤ length names → first_name_fault names n ≡ None
none_from names is zero l = refl
none_from names is (suc n) l =
    let apart : list_any (λ other. bytes_eq other (name_at names n)) (take n names) ≡ false =
    list_any_none (λ other. bytes_eq other (name_at names n)) (take n names)
    (λ k d lk. false_from_ne_true (bytes_eq (get_or (take n names) k d) (name_at names n)) (λ equal.
    let lower : k < n = omega (arith, length-take n names) in
    is.different k n lower l
    (get_or_default names k [] d (omega arith) ∙ sym (get_or-take n names k d lower) ∙ (bytes_eq-Decides (get_or (take n names) k d) (name_at names n)).0 equal))) in
    ap (λ f. first_of f (name_fault (take n names) (name_at names n) n)) (none_from names is n (omega arith))
    ∙ ap (λ b. cond (not b) (Some (BadName n)) (cond (list_any (λ other. bytes_eq other (name_at names n)) (take n names)) (Some (TwiceNamed n)) None)) (is.names n l)
    ∙ ap (λ b. cond b (Some (TwiceNamed n)) None) apart

pub no_fault_from : (names : List (List ℕ)) → AreNames names → names_fault names ≡ None
no_fault_from names is = counted names is.some is.few ∙ none_from names is (length names) (omega arith)

-- ---- the number of a name

pub number_at : (names : List (List ℕ)) (name : List ℕ) (p : ℕ) → Some p ≡ party_named names name → slice_get names p ≡ Some name
number_at names name p e =
    let found : (p < length names) × (bytes_eq (name_at names p) name ≡ true) × ((k : ℕ) → k < p → bytes_eq (name_at names k) name ≡ false) =
    position-Some (λ other. bytes_eq other name) names p [] (sym e) in
    slice_get-get_or names p [] found.0 ∙ ap Some ((bytes_eq-Decides (name_at names p) name).0 found.1)

pub not_empty : (n : ℕ) → false ≡ nat_eq n 0 → 0 < n
not_empty zero e = cc
not_empty (suc n) e = omega arith
