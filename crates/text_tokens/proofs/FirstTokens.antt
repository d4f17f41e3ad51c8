-- Cutting the first token off a text.
use Rattle.std.proofs.Common.{◌≡◌, ℕ, suc, ◌+◌, ◌-◌, ◌≤◌, ◌<◌, Bool, true, false, not, nat_lt, nat_eq, cond, List, [], ◌∷◌, length, take, drop, get_or, Option, Some, None, refl, sym, ◌∙◌, ap, ap₂, subst, arith, drop-cons, length-drop, inl, inr, filter, tests, Bor}
use Rattle.std.specs.Prelude.{unwrap_or, ⊤}
use Rattle.std.specs.List.{slice_split, position_or_len}
use Rattle.std.specs.Str.{IsUtf8, IsCharBoundary}
use Rattle.std.proofs.lemmas.Bool.{lt-ltb, le-ltb, cases_lt, cases_eq, cases_Bool, eqb-true, not-true, not-false}
use Rattle.std.proofs.lemmas.Bool.Decides.{nat_tests}
use Rattle.std.proofs.lemmas.List.{drop_all, get_or-drop, length-take-le, take_all}
use Rattle.std.proofs.lemmas.List.Sums.{prefix_len-le-length, passes_at_first, fails_before_first}
use Rattle.std.proofs.lemmas.List.Splits.{slice_split-cons_yes, slice_split_none, slice_split_first}
use Rattle.std.proofs.lemmas.Str.{IsCharBoundary-before_ascii, IsCharBoundary-after_ascii, IsCharBoundary-end, IsCharBoundary-start}
use Rattle.std.specs.Iterator.{MakesProgress, item_count}
use Rattle.text_tokens.specs.Tokens.{is_blank, not_empty, tokens_of}

pub first_within : (p : ℕ → Bool) (xs : List ℕ) → position_or_len p xs ≤ length xs
first_within p xs = prefix_len-le-length (λ x. not (p x)) xs

-- where a search begins at the length if it finds none
pub first_or_len : (p : ℕ → Bool) (xs : List ℕ) (r : Option ℕ) → r ≡ cond (nat_lt (position_or_len p xs) (length xs)) (Some (position_or_len p xs)) None
    → unwrap_or r (length xs) ≡ position_or_len p xs
first_or_len p xs r e = elim (cases_lt (position_or_len p xs) (length xs)) [
  | inl l ↦ ap (λ o. unwrap_or o (length xs)) (e ∙ ap (λ b. cond b (Some (position_or_len p xs)) None) (lt-ltb _ _ l))
  | inr past ↦ ap (λ o. unwrap_or o (length xs)) (e ∙ ap (λ b. cond b (Some (position_or_len p xs)) None) (le-ltb _ _ past)) ∙ (let w = first_within p xs in omega (arith, w, past))
]

blank_is_ascii : (c : ℕ) → is_blank c ≡ true → c < 128
blank_is_ascii c e = grind (arith, nat_tests, tests)

abbrev pub is_run : ℕ → Bool
is_run c = not (is_blank c)

-- a blank before a text changes no token
pub tokens-blank : (c : ℕ) (text : List ℕ) → is_blank c ≡ true → tokens_of (c ∷ text) ≡ tokens_of text
unfolding tokens_of
tokens-blank c text e = ap (filter not_empty) (slice_split-cons_yes is_blank c text e)

pub tokens_of-none : (text : List ℕ) → length text ≡ 0 → tokens_of text ≡ []
unfolding tokens_of
tokens_of-none [] e = refl
tokens_of-none (c ∷ text) e = absurd (omega arith)

first_run : (c : ℕ) (text : List ℕ) (b : Bool) → is_blank c ≡ b → position_or_len is_run (c ∷ text) ≡ cond b (1 + position_or_len is_run text) 0
first_run c text b e = ap (λ a. cond (not (not a)) (1 + position_or_len is_run text) 0) e ∙ twice b
  where
    twice : (b : Bool) → cond (not (not b)) (1 + position_or_len is_run text) 0 ≡ cond b (1 + position_or_len is_run text) 0
    twice true = refl
    twice false = refl

-- blanks at the front change no token
pub tokens-skip : (text : List ℕ) → tokens_of (drop (position_or_len is_run text) text) ≡ tokens_of text
tokens-skip [] = refl
tokens-skip (c ∷ text) = elim (cases_Bool (is_blank c)) [
  | inl blank ↦
      let at : position_or_len is_run (c ∷ text) ≡ suc (position_or_len is_run text) = first_run c text true blank ∙ omega arith in
      ap (λ n. tokens_of (drop n (c ∷ text))) at ∙ tokens-skip text ∙ sym (tokens-blank c text blank)
  | inr run ↦ ap (λ n. tokens_of (drop n (c ∷ text))) (first_run c text false run)
]

-- the number of blanks at the front is a character boundary
pub boundary_after_blanks : (text : List ℕ) → IsUtf8 text → IsCharBoundary text (position_or_len is_run text)
boundary_after_blanks text u = elim (cases_eq (position_or_len is_run text) 0) [
  | inl e ↦ subst (IsCharBoundary text) (sym e) (IsCharBoundary-start text u)
  | inr ne ↦
      let before : position_or_len is_run text - 1 < position_or_len is_run text = omega arith in
      let last : position_or_len is_run text - 1 < length text = omega (arith, first_within is_run text) in
      let blank : is_blank (get_or text (position_or_len is_run text - 1) 0) ≡ true = not-false (is_blank (get_or text (position_or_len is_run text - 1) 0)) (fails_before_first is_run text (position_or_len is_run text - 1) 0 before) in
      let at : position_or_len is_run text - 1 + 1 ≡ position_or_len is_run text = omega arith in
      subst (IsCharBoundary text) at (IsCharBoundary-after_ascii text (position_or_len is_run text - 1) u last (blank_is_ascii (get_or text (position_or_len is_run text - 1) 0) blank))
]

pub boundary_before_blank : (text : List ℕ) → IsCharBoundary text (position_or_len is_blank text)
boundary_before_blank text = elim (cases_lt (position_or_len is_blank text) (length text)) [
  | inl l ↦ IsCharBoundary-before_ascii text (position_or_len is_blank text) l (blank_is_ascii (get_or text (position_or_len is_blank text) 0) (passes_at_first is_blank text 0 l))
  | inr past ↦ subst (IsCharBoundary text) (let w = first_within is_blank text in let e : length text ≡ position_or_len is_blank text = omega (arith, w, past) in e) (IsCharBoundary-end text)
]

-- what follows the blanks at the front begins with none
pub run_begins : (text : List ℕ) → 0 < length (drop (position_or_len is_run text) text) → is_blank (get_or (drop (position_or_len is_run text) text) 0 0) ≡ false
run_begins text l =
    let m : position_or_len is_run text < length text = omega (arith, length-drop (position_or_len is_run text) text) in
    let zero_more : position_or_len is_run text + 0 ≡ position_or_len is_run text = omega arith in
    ap is_blank (get_or-drop (position_or_len is_run text) text 0 0 ∙ ap (λ k. get_or text k 0) zero_more) ∙ not-true (is_blank (get_or text (position_or_len is_run text) 0)) (passes_at_first is_run text 0 m)

pub keep_first : (t : List ℕ) (ts : List (List ℕ)) → 0 < length t → filter not_empty (t ∷ ts) ≡ t ∷ filter not_empty ts
keep_first [] ts l = absurd (omega arith)
keep_first (c ∷ t) ts l = refl

some_run : (text : List ℕ) → 0 < length text → is_blank (get_or text 0 0) ≡ false → 0 < position_or_len is_blank text
some_run [] l e = absurd (omega arith)
some_run (c ∷ text) l e = let first : position_or_len is_blank (c ∷ text) ≡ 1 + position_or_len is_blank text = ap (λ b. cond (not b) (1 + position_or_len is_blank text) 0) e in omega (arith, first)

-- the bytes before the first blank are the first token
pub tokens-first : (text : List ℕ) → 0 < length text → is_blank (get_or text 0 0) ≡ false → tokens_of text ≡ take (position_or_len is_blank text) text ∷ tokens_of (drop (position_or_len is_blank text) text)
unfolding tokens_of
tokens-first text l e =
    let n = position_or_len is_blank text in
    let some : 0 < n = some_run text l e in
    let long : length (take n text) ≡ n = length-take-le n text (first_within is_blank text) in
    elim (cases_lt n (length text)) [
      | inl more ↦
          ap (filter not_empty) (slice_split_first is_blank text 0 more)
          ∙ keep_first (take n text) (slice_split is_blank (drop (n + 1) text)) (omega arith)
          ∙ ap (λ ts. take n text ∷ ts) (ap (λ k. tokens_of (drop k text)) (let k : n + 1 ≡ suc n = omega arith in k) ∙ sym (tokens-blank (get_or text n 0) (drop (suc n) text) (passes_at_first is_blank text 0 more)) ∙ ap tokens_of (sym (drop-cons text n 0 more)))
      | inr past ↦
          ap (filter not_empty) (slice_split_none is_blank text (λ k d b. fails_before_first is_blank text k d (omega arith)))
          ∙ keep_first text [] l
          ∙ ap₂ (λ t rest. t ∷ tokens_of rest) (sym (take_all n text past)) (sym (drop_all n text past))
    ]

-- a text without the blanks at its front begins with the first token
pub tokens-cut : (rest text : List ℕ) (blanks run : ℕ) → text ≡ drop blanks rest → blanks ≡ position_or_len is_run rest → nat_eq (length text) 0 ≡ false → run ≡ position_or_len is_blank text
    → tokens_of rest ≡ take run text ∷ tokens_of (drop run text)
tokens-cut rest text blanks run cut b e r =
    let at : text ≡ drop (position_or_len is_run rest) rest = cut ∙ ap (λ n. drop n rest) b in
    let some : 0 < length text = grind (arith, nat_tests) in
    let begins : is_blank (get_or text 0 0) ≡ false = ap (λ t. is_blank (get_or t 0 0)) at ∙ run_begins rest (subst (λ t. 0 < length t) at some) in
    sym (tokens-skip rest) ∙ ap tokens_of (sym at) ∙ tokens-first text some begins ∙ ap (λ n. take n text ∷ tokens_of (drop n text)) (sym r)

pub tokens-end : (rest text : List ℕ) (blanks : ℕ) → text ≡ drop blanks rest → blanks ≡ position_or_len is_run rest → nat_eq (length text) 0 ≡ true → tokens_of rest ≡ []
tokens-end rest text blanks cut b e = sym (tokens-skip rest) ∙ ap tokens_of (sym (cut ∙ ap (λ n. drop n rest) b)) ∙ tokens_of-none text (eqb-true _ _ e)

-- a step from a list to its rest
pub tokens_go : (s t : List (List ℕ)) (x : Bor (List ℕ)) → s ≡ x.now ∷ t → MakesProgress {A = Bor (List ℕ)} (λ (ts : List (List ℕ)). ⊤) (item_count (λ ts. ts)) s (Some x) t
tokens_go s t x e = record {
  on = λ f. (tt, tt, omega (arith, ap length e));
  keeps = tt;
  rests = λ f. tt;
}
