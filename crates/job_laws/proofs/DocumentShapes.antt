-- What the values of a document are read back as, and their kinds, depth and order.
use Rattle.std.proofs.Common.{◌≡◌, ℕ, suc, ◌+◌, ◌≤◌, max, Bool, true, false, cond, not, ◌&&◌, List, [], ◌∷◌, length, map, None, Some, refl, ap, ap₂, ◌∙◌, arith}
use Rattle.std.specs.Prelude.{position}
use Rattle.std.specs.List.{list_all, AllByRecursion, position_or_len}
use Rattle.std.proofs.lemmas.Bool.{le-ltb}
use Rattle.toml.specs.Data.{Data, string, array, table, Items, Members, depth, items_depth, has_valid_dates, items_have_valid_dates, is_sorted, items_are_sorted}
use Rattle.toml_fields.specs.Fields.{data_in, items_of, text_of, texts_of, fields_of, is_text, is_table, is_list_of}
use Rattle.job_file.specs.Forms.{SessionForm}
use Rattle.job_laws.specs.Documents.{items_from, texts_data, member_names, groups_data, session_fields_of, sessions_data}

-- ---- read back

data_back : (ds : List Data) → data_in (items_from ds) ≡ ds
data_back [] = refl
data_back (d ∷ ds) = ap (λ rest. d ∷ rest) (data_back ds)

pub items_back : (ds : List Data) → items_of (array (items_from ds)) ≡ ds
unfolding items_of
items_back ds = data_back ds

pub map_same : {A B : Type 0} (f : B → A) (g : A → B) → ((a : A) → f (g a) ≡ a) → (xs : List A) → map f (map g xs) ≡ xs
map_same f g e [] = refl
map_same f g e (x ∷ xs) = ap₂ (λ a b. a ∷ b) (e x) (map_same f g e xs)

pub map_twice : {A B C : Type 0} (f : B → C) (g : A → B) (h : A → C) → ((a : A) → f (g a) ≡ h a) → (xs : List A) → map f (map g xs) ≡ map h xs
map_twice f g h e [] = refl
map_twice f g h e (x ∷ xs) = ap₂ (λ a b. a ∷ b) (e x) (map_twice f g h e xs)

pub text_back : (text : List ℕ) → text_of (string text) ≡ text
unfolding text_of
text_back text = refl

pub texts_listed : (texts : List (List ℕ)) → map text_of (items_of (texts_data texts)) ≡ texts
texts_listed texts = ap (map text_of) (items_back (map (λ text. string text) texts)) ∙ map_same text_of (λ text. string text) text_back texts

pub texts_back : (texts : List (List ℕ)) → texts_of (texts_data texts) ≡ texts
unfolding texts_of
texts_back texts = texts_listed texts

pub groups_back : (names : List (List ℕ)) (masks : List ℕ) → map texts_of (items_of (groups_data names masks)) ≡ map (member_names names) masks
groups_back names masks =
    ap (map texts_of) (items_back (map (λ mask. texts_data (member_names names mask)) masks))
    ∙ map_twice texts_of (λ mask. texts_data (member_names names mask)) (member_names names) (λ mask. texts_back (member_names names mask)) masks

fields_back : (ms : Members) → fields_of (table ms) ≡ ms
unfolding fields_of
fields_back ms = refl

pub sessions_back : (names : List (List ℕ)) (sessions : List SessionForm) → map fields_of (items_of (sessions_data names sessions)) ≡ map (session_fields_of names) sessions
sessions_back names sessions =
    ap (map fields_of) (items_back (map (λ s. table (session_fields_of names s)) sessions))
    ∙ map_twice fields_of (λ s. table (session_fields_of names s)) (session_fields_of names) (λ s. fields_back (session_fields_of names s)) sessions

pub length_same : {A B : Type 0} (f : A → B) (xs : List A) → length (map f xs) ≡ length xs
length_same f [] = refl
length_same f (x ∷ xs) = ap suc (length_same f xs)

-- ---- kinds

all_pass : {A B : Type 0} (test : B → Bool) (g : A → B) → ((a : A) → test (g a) ≡ true) → (xs : List A) → list_all test (map g xs) ≡ true
all_pass test g e [] = refl
all_pass test g e (x ∷ xs) = ap₂ (λ a b. a && b) (e x) (all_pass test g e xs)

listed_kind : {A : Type 0} (test : Data → Bool) (g : A → Data) → ((a : A) → test (g a) ≡ true) → (xs : List A) → is_list_of test (array (items_from (map g xs))) ≡ true
unfolding is_list_of
listed_kind test g e xs = ap (list_all test) (items_back (map g xs)) ∙ all_pass test g e xs

pub are_texts : (texts : List (List ℕ)) → is_list_of is_text (texts_data texts) ≡ true
are_texts texts = listed_kind is_text (λ text. string text) (λ text. refl) texts

pub are_groups : (names : List (List ℕ)) (masks : List ℕ) → is_list_of (is_list_of is_text) (groups_data names masks) ≡ true
are_groups names masks = listed_kind (is_list_of is_text) (λ mask. texts_data (member_names names mask)) (λ mask. are_texts (member_names names mask)) masks

pub are_sessions : (names : List (List ℕ)) (sessions : List SessionForm) → is_list_of is_table (sessions_data names sessions) ≡ true
are_sessions names sessions = listed_kind is_table (λ s. table (session_fields_of names s)) (λ s. refl) sessions

-- ---- depth, dates and order

-- a value that nests at most so deep, has no date, and whose tables ascend
pub record IsPlain (n : ℕ) (d : Data) : Type 0 where
  pub deep : depth d ≤ n
  pub dates : has_valid_dates d ≡ true
  pub sorted : is_sorted d ≡ true

pub record ArePlain (n : ℕ) (ds : Items) : Type 0 where
  pub deep : items_depth ds ≤ n
  pub dates : items_have_valid_dates ds ≡ true
  pub sorted : items_are_sorted ds ≡ true

pub max_below : (a b n : ℕ) → a ≤ n → b ≤ n → max a b ≤ n
max_below a b n la lb = grind arith

items_plain : {A : Type 0} (n : ℕ) (g : A → Data) → ((a : A) → IsPlain n (g a)) → (xs : List A) → ArePlain n (items_from (map g xs))
items_plain n g p [] = record { deep = omega arith; dates = refl; sorted = refl }
items_plain n g p (x ∷ xs) =
    let rest = items_plain n g p xs in
    record {
      deep = max_below (depth (g x)) (items_depth (items_from (map g xs))) n (p x).deep rest.deep;
      dates = ap₂ (λ a b. a && b) (p x).dates rest.dates;
      sorted = ap₂ (λ a b. a && b) (p x).sorted rest.sorted;
    }

pub list_plain : {A : Type 0} (n : ℕ) (g : A → Data) → ((a : A) → IsPlain n (g a)) → (xs : List A) → IsPlain (suc n) (array (items_from (map g xs)))
list_plain n g p xs = let all = items_plain n g p xs in record { deep = (let deep = all.deep in omega arith); dates = all.dates; sorted = all.sorted }

pub string_plain : (text : List ℕ) → IsPlain 0 (string text)
string_plain text = record { deep = omega arith; dates = refl; sorted = refl }

pub texts_plain : (texts : List (List ℕ)) → IsPlain 1 (texts_data texts)
texts_plain texts = list_plain 0 (λ text. string text) string_plain texts

pub groups_plain : (names : List (List ℕ)) (masks : List ℕ) → IsPlain 2 (groups_data names masks)
groups_plain names masks = list_plain 1 (λ mask. texts_data (member_names names mask)) (λ mask. texts_plain (member_names names mask)) masks

-- ---- the first that fails a test

none_fails : (test : List ℕ → Bool) (xs : List (List ℕ)) → AllByRecursion (λ x. test x ≡ false) xs → position_or_len test xs ≡ length xs
none_fails test [] h = refl
none_fails test (x ∷ xs) h = ap (λ b. cond (not b) (1 + position_or_len test xs) 0) h.0 ∙ ap (λ n. 1 + n) (none_fails test xs h.1) ∙ omega arith

pub nowhere : (test : List ℕ → Bool) (xs : List (List ℕ)) → AllByRecursion (λ x. test x ≡ false) xs → position test xs ≡ None
nowhere test xs h =
    let all = none_fails test xs h in
    ap (λ b. cond b (Some (position_or_len test xs)) None) (le-ltb (position_or_len test xs) (length xs) (omega arith))
