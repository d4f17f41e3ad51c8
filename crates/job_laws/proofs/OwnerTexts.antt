-- The texts of owners: each is read back as its owner.
use Rattle.std.proofs.Common.{◌≡◌, inl, inr, ℕ, ◌+◌, ◌^◌, ◌<◌, ◌≤◌, ◌==◌, nat_lt, nat_le, Bool, true, false, cond, not, List, [], ◌∷◌, ◌++◌, length, map, drop, None, Some, refl, sym, ap, ap₂, ◌∙◌, append_assoc, arith}
use Rattle.std.specs.Prelude.{decimal, slice_index}
use Rattle.std.specs.Char.{is_ascii_digit, is_ascii_alphabetic}
use Rattle.std.specs.List.{list_all, AllByRecursion, position_or_len, before_first, after_first}
use Rattle.std.specs.Option.{is_none, unwrap_or, option_map, option_or, option_zip}
use Rattle.std.specs.Str.Parse.{digits_value}
use Rattle.std.proofs.lemmas.Bool.{and_parts, and_from, and_right, lt-ltb}
use Rattle.std.proofs.lemmas.Bool.Decides.{eqb_tells}
use Rattle.std.proofs.lemmas.Fmt.{digits_decimal, digits_value-decimal}
use Rattle.std.proofs.lemmas.List.{take_at, drop_at, length-append}
use Rattle.list_laws.specs.Checks.{◌answers◌}
use Rattle.text_tokens.specs.Numbers.{is_decimal}
use Rattle.text_tokens.proofs.Values.{digits, all_digits}
use Rattle.text_tokens.proofs.Decimals.{decimal_is}
use Rattle.party_names.specs.declared.names.TheConstants.{LONGEST_NAME}
use Rattle.party_names.specs.Names.{is_name, name_at, party_named, AreNames}
use Rattle.job_file.specs.declared.fault.JobFault.{JobFault}
use Rattle.job_file.specs.declared.fault.JobFault.TheVariants.{BadCarry, BadOwner}
use Rattle.job_file.specs.declared.owner.JobOwner.{JobOwner}
use Rattle.job_file.specs.declared.owner.JobOwner.TheVariants.{Party, Carried}
use Rattle.job_file.specs.Owners.{is_carry, is_point, number_below, carry_in, owner_in, IsOwner}
use Rattle.job_file.specs.Forms.{AdversaryForm, by_formula, by_list, owner_of}
use Rattle.job_file.specs.Faults.{owners_fault}
use Rattle.job_laws.specs.Documents.{owner_text, HasOwner}
use Rattle.job_laws.proofs.MemberNames.{named}

-- the file that tells this structure is of version 2
abbrev pub two_of : AdversaryForm → Bool
two_of (by_formula text) = false
two_of (by_list masks) = true

-- ---- a number

number_back : (bound n : ℕ) → n < bound → n < 2 ^ 64 → number_below bound (decimal n) ≡ Some n
number_back bound n below small =
    let value : digits_value 10 (decimal n) ≡ n = digits_value-decimal digits n small in
    let fits : nat_lt (digits_value 10 (decimal n)) bound ≡ true = ap (λ v. nat_lt v bound) value ∙ lt-ltb n bound below in
    ap (λ b. cond b (Some (digits_value 10 (decimal n))) None) (and_from (is_decimal (decimal n)) _ (decimal_is n small) fits) ∙ ap Some value

-- ---- two numbers with a point between them

no_point : (c : ℕ) → is_ascii_digit c ≡ true → is_point c ≡ false
no_point c e = elim (eqb_tells c 46) [
  | inl same ↦ absurd (let no : is_ascii_digit 46 ≡ true = ap is_ascii_digit (sym same.1) ∙ e in cc)
  | inr other ↦ other.0
]

point_at : (ds rest : List ℕ) → list_all is_ascii_digit ds ≡ true → position_or_len is_point (ds ++ 46 ∷ rest) ≡ length ds
point_at [] rest e = refl
point_at (d ∷ ds) rest e =
    let both = and_parts (is_ascii_digit d) (list_all is_ascii_digit ds) e in
    ap (λ b. cond (not b) (1 + position_or_len is_point (ds ++ 46 ∷ rest)) 0) (no_point d both.0) ∙ ap (λ n. 1 + n) (point_at ds rest both.1) ∙ omega arith

before_point : (ds rest : List ℕ) → list_all is_ascii_digit ds ≡ true → before_first is_point (ds ++ 46 ∷ rest) ≡ ds
before_point ds rest e = take_at ds (46 ∷ rest) (position_or_len is_point (ds ++ 46 ∷ rest)) (sym (point_at ds rest e))

after_point : (ds rest : List ℕ) → list_all is_ascii_digit ds ≡ true → after_first is_point (ds ++ 46 ∷ rest) ≡ rest
after_point ds rest e =
    let long : length (ds ++ 46 ∷ []) ≡ position_or_len is_point (ds ++ 46 ∷ rest) + 1 = length-append ds (46 ∷ []) ∙ omega (arith, point_at ds rest e) in
    ap (drop (position_or_len is_point (ds ++ 46 ∷ rest) + 1)) (sym (append_assoc ds (46 ∷ []) rest)) ∙ drop_at (ds ++ 46 ∷ []) rest (position_or_len is_point (ds ++ 46 ∷ rest) + 1) long

carry_back : (number session value : ℕ) → session < number → value < 1024 → session < 2 ^ 64 → value < 2 ^ 64 → carry_in number (decimal session ++ 46 ∷ decimal value) ≡ Some (Carried session value)
unfolding carry_in
carry_back number session value earlier few s v =
    let plain : list_all is_ascii_digit (decimal session) ≡ true = all_digits (decimal session) ∙ digits_decimal digits session s in
    ap₂ (λ a b. option_map (λ carry. Carried carry.0 carry.1) (option_zip a b))
    (ap (number_below number) (before_point (decimal session) (decimal value) plain) ∙ number_back number session earlier s)
    (ap (number_below 1024) (after_point (decimal session) (decimal value) plain) ∙ number_back 1024 value few v)

-- ---- an owner

not_at : (c : ℕ) → is_ascii_alphabetic c ≡ true → (c == 64) ≡ false
not_at c e = elim (eqb_tells c 64) [
  | inl same ↦ absurd (let no : is_ascii_alphabetic 64 ≡ true = ap is_ascii_alphabetic (sym same.1) ∙ e in cc)
  | inr other ↦ other.0
]

-- a name begins with a letter
letter_first : (name : List ℕ) → is_name name ≡ true → (slice_index name 0 == 64) ≡ false
letter_first name e =
    let some = and_parts (nat_lt 0 (length name)) _ e in
    let few = and_parts (nat_le (length name) LONGEST_NAME) _ some.1 in
    not_at (slice_index name 0) (and_parts (is_ascii_alphabetic (slice_index name 0)) _ few.1).0

module _ (names : List (List ℕ)) (are : AreNames names) (number : ℕ) (early : number ≤ 16) where
  party_told : (two : Bool) (p : ℕ) → p < length names → owner_in two names number (name_at names p) ≡ Some (Party p)
  unfolding owner_in
  party_told two p l =
      ap (λ b. cond b (carry_in number (drop 1 (name_at names p))) (option_map (λ party. Party party) (party_named names (name_at names p))))
      (and_right two (slice_index (name_at names p) 0 == 64) (letter_first (name_at names p) (are.names p l)))
      ∙ ap (option_map (λ party. Party party)) (named names are p l)

  owner_back : (adversary : AdversaryForm) (owner : JobOwner) → IsOwner (length names) number owner → HasOwner adversary owner → owner_in (two_of adversary) names number (owner_text names owner) ≡ Some owner
  unfolding owner_in
  owner_back adversary (Party p) is has = party_told (two_of adversary) p is
  owner_back (by_formula text) (Carried session value) is has = absurd has
  owner_back (by_list masks) (Carried session value) is has = carry_back number session value is.0 is.1 (let l = is.0 in omega (arith, l, early)) (let l = is.1 in omega (arith, l))

  pub owners_back : (adversary : AdversaryForm) (owners : List JobOwner) → AllByRecursion (IsOwner (length names) number) owners → AllByRecursion (HasOwner adversary) owners
      → map (owner_of (two_of adversary) names number) (map (owner_text names) owners) ≡ owners
  owners_back adversary [] is has = refl
  owners_back adversary (owner ∷ owners) is has = ap₂ (λ o rest. unwrap_or o (Party 0) ∷ rest) (owner_back adversary owner is.0 has.0) (owners_back adversary owners is.1 has.1)

  pub owners_pass : (adversary : AdversaryForm) (at : ℕ) (owners : List JobOwner) → AllByRecursion (IsOwner (length names) number) owners → AllByRecursion (HasOwner adversary) owners
      → owners_fault (two_of adversary) names number at (map (owner_text names) owners) ≡ None
  unfolding owners_fault
  owners_pass adversary at [] is has = refl
  owners_pass adversary at (owner ∷ owners) is has =
      let two : Bool = two_of adversary in
      let fault : JobFault = cond (is_carry two (owner_text names owner)) (BadCarry number at) (BadOwner number at) in
      ap₂ (λ o rest. option_or (is_none o answers fault) (option_or rest None)) (owner_back adversary owner is.0 has.0) (owners_pass adversary (at + 1) owners is.1 has.1)
