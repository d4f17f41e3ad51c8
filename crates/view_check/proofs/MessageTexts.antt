-- The line of a message and its word, as it is read.
use Rattle.std.proofs.Common.{◌≡◌, ℕ, ◌^◌, ◌<◌, ◌==◌, inl, inr, nat_eq, nat_lt, Bool, true, false, not, ◌&&◌, ◌||◌, List, [], ◌∷◌, ◌++◌, length, take, get_or, None, refl, sym, ap, ap₂, ◌∙◌, arith, append_assoc}
use Rattle.std.specs.Prelude.{codes, decimal, slice_index, slice_index_or}
use Rattle.std.specs.List.{list_all, join_with_byte}
use Rattle.std.specs.Char.{is_ascii_digit}
use Rattle.std.specs.Str.{bytes_eq, all_ascii_digits}
use Rattle.std.specs.Str.Parse.{digits_value}
use Rattle.std.proofs.lemmas.Bool.{eq-eqb, eqb-true, lt-ltb, ltb-true, and_parts, and_from}
use Rattle.std.proofs.lemmas.Bool.Decides.{eqb_tells, nat_tests}
use Rattle.std.proofs.lemmas.Fmt.{digits_decimal, digits_value-decimal, decimal-digits_value}
use Rattle.std.proofs.lemmas.List.Folds.{list_all-append}
use Rattle.std.proofs.lemmas.List.Splits.{join_with_byte-slice_split}
use Rattle.std.proofs.lemmas.Slice.Eq.{bytes_eq-Decides}
use Rattle.list_laws.specs.Checks.{◌answers◌, first_fault}
use Rattle.text_tokens.specs.Tokens.{not_empty}
use Rattle.text_tokens.specs.Numbers.{is_digits, is_decimal}
use Rattle.text_tokens.proofs.Values.{digits, all_digits, some_not_empty}
use Rattle.text_tokens.proofs.Decimals.{decimal_is}
use Rattle.party_names.specs.Names.{is_name_byte, name_at, AreNames}
use Rattle.plan_model.specs.declared.key.Key.{Key}
use Rattle.view_check.specs.declared.fault.CheckFault.{CheckFault}
use Rattle.view_check.specs.declared.fault.CheckFault.TheVariants.{BadLine, WrongKey, WrongWord}
use Rattle.view_check.specs.Lines.{parts_at}
use Rattle.view_check.specs.WrittenLines.{parts_of, is_word, are_well_formed, is_well_formed, word_in}
use Rattle.view_check.specs.MessageLines.{texts_eq, key_texts, is_key, line_fault}
use Rattle.view_check.specs.Laws.{IsTold}
use Rattle.view_text.specs.ViewText.{key_place, key_parties, message_line}
use Rattle.view_check.proofs.GroupNames.{parts-append, all_bytes}
use Rattle.view_check.proofs.LineBytes.{one_part, weaker, is_inner}

-- the line of a message without its LF
abbrev pub message_text : List (List ℕ) → Key → ℕ → List ℕ
message_text names key word = key_place key ++ (key_parties names key ++ (codes " " ++ decimal word))

-- and its parts
abbrev pub message_parts : List (List ℕ) → Key → ℕ → List (List ℕ)
message_parts names key word = key_texts names key ++ decimal word ∷ []

pub line_of_text : (names : List (List ℕ)) (key : Key) (word : ℕ) (rest : List ℕ) → message_line names key word ++ rest ≡ message_text names key word ++ 10 ∷ rest
line_of_text names key word rest = simp append_assoc

-- ---- the bytes

digit_is_inner : (c : ℕ) → is_ascii_digit c ≡ true → is_inner c ≡ true
digit_is_inner c e = grind (arith, nat_tests)

pub name_is_inner : (c : ℕ) → is_name_byte c ≡ true → is_inner c ≡ true
name_is_inner c e = elim (eqb_tells c 10) [
  | inl same ↦ absurd (let no : is_name_byte 10 ≡ true = ap is_name_byte (sym same.1) ∙ e in cc)
  | inr other ↦ elim (eqb_tells c 13) [
    | inl same ↦ absurd (let no : is_name_byte 13 ≡ true = ap is_name_byte (sym same.1) ∙ e in cc)
    | inr more ↦ ap₂ (λ a b. not a && not b) other.0 more.0
  ]
]

decimal_digits : (n : ℕ) → n < 2 ^ 64 → list_all is_ascii_digit (decimal n) ≡ true
decimal_digits n l = all_digits (decimal n) ∙ digits_decimal digits n l

decimal_part : (n : ℕ) → n < 2 ^ 64 → parts_at 32 (decimal n) ≡ decimal n ∷ []
decimal_part n l = one_part is_ascii_digit 32 (decimal n) refl (decimal_digits n l)

name_part : (names : List (List ℕ)) → AreNames names → (p : ℕ) → p < length names → parts_at 32 (name_at names p) ≡ name_at names p ∷ []
name_part names are p l = one_part is_name_byte 32 (name_at names p) refl (all_bytes (name_at names p) (are.names p l))

module _ (names : List (List ℕ)) (are : AreNames names) (key : Key) (word : ℕ) (told : IsTold names (key, word)) where
  flat : message_text names key word ≡ decimal key.session ++ 32 ∷ (decimal key.slot ++ 32 ∷ (decimal key.share ++ 32 ∷ (name_at names key.sender ++ 32 ∷ (name_at names key.receiver ++ 32 ∷ decimal word))))
  flat = simp append_assoc

  pub parts_of_message : parts_of (message_text names key word) ≡ message_parts names key word
  parts_of_message =
      ap (parts_at 32) flat
      ∙ parts-append 32 (decimal key.session) (decimal key.slot ++ 32 ∷ (decimal key.share ++ 32 ∷ (name_at names key.sender ++ 32 ∷ (name_at names key.receiver ++ 32 ∷ decimal word))))
      ∙ ap₂ (λ a b. a ++ b) (decimal_part key.session told.session) (
      parts-append 32 (decimal key.slot) (decimal key.share ++ 32 ∷ (name_at names key.sender ++ 32 ∷ (name_at names key.receiver ++ 32 ∷ decimal word)))
      ∙ ap₂ (λ a b. a ++ b) (decimal_part key.slot told.slot) (
      parts-append 32 (decimal key.share) (name_at names key.sender ++ 32 ∷ (name_at names key.receiver ++ 32 ∷ decimal word))
      ∙ ap₂ (λ a b. a ++ b) (decimal_part key.share told.share) (
      parts-append 32 (name_at names key.sender) (name_at names key.receiver ++ 32 ∷ decimal word)
      ∙ ap₂ (λ a b. a ++ b) (name_part names are key.sender told.sender) (
      parts-append 32 (name_at names key.receiver) (decimal word)
      ∙ ap₂ (λ a b. a ++ b) (name_part names are key.receiver told.receiver) (decimal_part word told.word)))))

  -- ---- no byte ends the line

  pub message_is_inner : list_all is_inner (message_text names key word) ≡ true
  message_is_inner =
      ap (list_all is_inner) flat
      ∙ both (decimal key.session) (decimal key.slot ++ 32 ∷ (decimal key.share ++ 32 ∷ (name_at names key.sender ++ 32 ∷ (name_at names key.receiver ++ 32 ∷ decimal word)))) (number key.session told.session) (
      both (decimal key.slot) (decimal key.share ++ 32 ∷ (name_at names key.sender ++ 32 ∷ (name_at names key.receiver ++ 32 ∷ decimal word))) (number key.slot told.slot) (
      both (decimal key.share) (name_at names key.sender ++ 32 ∷ (name_at names key.receiver ++ 32 ∷ decimal word)) (number key.share told.share) (
      both (name_at names key.sender) (name_at names key.receiver ++ 32 ∷ decimal word) (name key.sender told.sender) (
      both (name_at names key.receiver) (decimal word) (name key.receiver told.receiver) (number word told.word)))))
    where
      both : (xs ys : List ℕ) → list_all is_inner xs ≡ true → list_all is_inner ys ≡ true → list_all is_inner (xs ++ 32 ∷ ys) ≡ true
      both xs ys hx hy = list_all-append is_inner xs (32 ∷ ys) ∙ ap₂ (λ a b. a && b) hx hy

      number : (n : ℕ) → n < 2 ^ 64 → list_all is_inner (decimal n) ≡ true
      number n l = weaker is_ascii_digit is_inner (decimal n) digit_is_inner (decimal_digits n l)

      name : (p : ℕ) → p < length names → list_all is_inner (name_at names p) ≡ true
      name p l = weaker is_name_byte is_inner (name_at names p) name_is_inner (all_bytes (name_at names p) (are.names p l))

-- ---- numbers without leading zeros

not_empty_some : {A : Type 0} (xs : List A) → not_empty xs ≡ true → 0 < length xs
not_empty_some [] e = absurd (cc)
not_empty_some (x ∷ xs) e = omega arith

pub word_is : (n : ℕ) → n < 2 ^ 64 → is_word (decimal n) ≡ true
word_is n l = and_from (is_decimal (decimal n)) _ (decimal_is n l) (lt-ltb (digits_value 10 (decimal n)) (2 ^ 64) (omega (arith, digits_value-decimal digits n l)))

leading : (text : List ℕ) (b : Bool) → 0 < length text → nat_lt (length text) 2 ≡ b → get_or text 0 0 ≡ 48 → (b || not (slice_index text 0 == 48)) ≡ true → length text ≡ 1
leading text true some e zero h = let less = ltb-true (length text) 2 e in omega arith
leading text false some e zero h = absurd (let same = eq-eqb (get_or text 0 0) 48 zero in let bad : false ≡ true = ap not (sym same) ∙ h in cc)

-- a word is written in one way
pub word_back : (text : List ℕ) → is_word text ≡ true → decimal (digits_value 10 text) ≡ text
word_back text e =
    let word = and_parts (is_decimal text) (nat_lt (digits_value 10 text) (2 ^ 64)) e in
    let plain = and_parts (is_digits text) (nat_lt (length text) 2 || not (slice_index text 0 == 48)) word.0 in
    let all = and_parts (not_empty text) (all_ascii_digits text) plain.0 in
    let some = not_empty_some text all.0 in
    decimal-digits_value digits text all.1 some (λ zero. leading text (nat_lt (length text) 2) some refl zero plain.1) (ltb-true (digits_value 10 text) (2 ^ 64) word.1)

-- ---- the checks of a line

no_checks : (w k v : Bool) (f g h : CheckFault) → first_fault ((not w answers f) ∷ (not k answers g) ∷ (not v answers h) ∷ []) ≡ None → (w ≡ true) × (k ≡ true) × (v ≡ true)
no_checks true true true f g h e = (refl, refl, refl)
no_checks true true false f g h e = absurd (cc)
no_checks true false v f g h e = absurd (cc)
no_checks false k v f g h e = absurd (cc)

module _ (names : List (List ℕ)) (key : Key) (word : ℕ) where
  -- parts that pass the three checks are those of the message
  from_parts : (ps : List (List ℕ)) → are_well_formed ps ≡ true → texts_eq (take 5 ps) (key_texts names key) ≡ true → nat_eq (digits_value 10 (slice_index_or ps 5 [])) word ≡ true → ps ≡ message_parts names key word
  from_parts (a ∷ b ∷ c ∷ d ∷ e ∷ f ∷ []) formed keyed worded =
      let one = and_parts (bytes_eq a (decimal key.session)) _ keyed in
      let two = and_parts (bytes_eq b (decimal key.slot)) _ one.1 in
      let three = and_parts (bytes_eq c (decimal key.share)) _ two.1 in
      let four = and_parts (bytes_eq d (name_at names key.sender)) _ three.1 in
      let five = and_parts (bytes_eq e (name_at names key.receiver)) _ four.1 in
      let s : a ≡ decimal key.session = (bytes_eq-Decides a (decimal key.session)).0 one.0 in
      let k : b ≡ decimal key.slot = (bytes_eq-Decides b (decimal key.slot)).0 two.0 in
      let i : c ≡ decimal key.share = (bytes_eq-Decides c (decimal key.share)).0 three.0 in
      let p : d ≡ name_at names key.sender = (bytes_eq-Decides d (name_at names key.sender)).0 four.0 in
      let q : e ≡ name_at names key.receiver = (bytes_eq-Decides e (name_at names key.receiver)).0 five.0 in
      let f1 = and_parts (is_decimal a) _ formed in
      let f2 = and_parts (is_decimal b) _ f1.1 in
      let f3 = and_parts (is_decimal c) _ f2.1 in
      let f4 = and_parts (not_empty d) _ f3.1 in
      let f5 = and_parts (not_empty e) _ f4.1 in
      let w : f ≡ decimal word = sym (word_back f f5.1) ∙ ap decimal (eqb-true (digits_value 10 f) word worded) in
      cc
  from_parts _ formed keyed worded = absurd (cc)

  line_checks : (line : List ℕ) (n : ℕ) → line_fault names n line key word ≡ None → (is_well_formed line ≡ true) × (is_key names line key ≡ true) × (nat_eq (word_in line) word ≡ true)
  unfolding line_fault
  line_checks line n e = no_checks (is_well_formed line) (is_key names line key) (nat_eq (word_in line) word) (BadLine n) (WrongKey n) (WrongWord n word (word_in line)) e

  module _ (are : AreNames names) (told : IsTold names (key, word)) (line : List ℕ) (n : ℕ) where
    -- a line that has no fault is the message's
    pub no_fault_is : line_fault names n line key word ≡ None → line ≡ message_text names key word
    unfolding is_well_formed
    no_fault_is e =
        let checked = line_checks line n e in
        let parts : parts_of line ≡ parts_of (message_text names key word) =
        from_parts (parts_of line) checked.0 checked.1 checked.2 ∙ sym (parts_of_message names are key word told) in
        sym (join_with_byte-slice_split 32 line) ∙ ap (join_with_byte 32) parts ∙ join_with_byte-slice_split 32 (message_text names key word)

    formed : are_well_formed (message_parts names key word) ≡ true
    formed =
        and_from (is_decimal (decimal key.session)) _ (decimal_is key.session told.session)
        (and_from (is_decimal (decimal key.slot)) _ (decimal_is key.slot told.slot)
        (and_from (is_decimal (decimal key.share)) _ (decimal_is key.share told.share)
        (and_from (not_empty (name_at names key.sender)) _ (some_name key.sender told.sender)
        (and_from (not_empty (name_at names key.receiver)) _ (some_name key.receiver told.receiver) (word_is word told.word)))))
      where
        some_name : (p : ℕ) → p < length names → not_empty (name_at names p) ≡ true
        some_name p l =
            let some = (and_parts (nat_lt 0 (length (name_at names p))) _ (are.names p l)).0 in
            some_not_empty (name_at names p) (ltb-true 0 (length (name_at names p)) some)

    same_texts : (ts : List (List ℕ)) → texts_eq ts ts ≡ true
    same_texts [] = refl
    same_texts (t ∷ ts) = and_from (bytes_eq t t) (texts_eq ts ts) ((bytes_eq-Decides t t).1 refl) (same_texts ts)

    -- and the message's line has none
    pub is_no_fault : line ≡ message_text names key word → line_fault names n line key word ≡ None
    unfolding line_fault is_well_formed
    is_no_fault e =
        let parts : parts_of line ≡ message_parts names key word = ap (parts_at 32) e ∙ parts_of_message names are key word told in
        let one : is_well_formed line ≡ true = ap are_well_formed parts ∙ formed in
        let two : is_key names line key ≡ true = ap (λ ps. texts_eq (take 5 ps) (key_texts names key)) parts ∙ same_texts (key_texts names key) in
        let value : word_in line ≡ word = ap (λ ps. digits_value 10 (slice_index_or ps 5 [])) parts ∙ digits_value-decimal digits word told.word in
        let three : nat_eq (word_in line) word ≡ true = eq-eqb (word_in line) word value in
        ap (λ w. first_fault ((not w answers BadLine n) ∷ (not (is_key names line key) answers WrongKey n) ∷ (not (nat_eq (word_in line) word) answers WrongWord n word (word_in line)) ∷ [])) one
        ∙ ap (λ k. first_fault ((not k answers WrongKey n) ∷ (not (nat_eq (word_in line) word) answers WrongWord n word (word_in line)) ∷ [])) two
        ∙ ap (λ v. first_fault ((not v answers WrongWord n word (word_in line)) ∷ [])) three
