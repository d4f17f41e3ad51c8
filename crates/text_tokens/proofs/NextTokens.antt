-- Cutting a text into tokens.
use Rattle.std.proofs.Common.{◌≡◌, ℕ, suc, ◌+◌, ◌<◌, Bool, true, false, ◌||◌, cond, nat_eq, List, [], ◌∷◌, length, drop, refl, sym, ◌∙◌, ap, arith, length-drop}
use Rattle.std.specs.List.{prefix_len}
use Rattle.std.specs.Int.{is_in_range}
use Rattle.std.specs.Char.{is_ascii_alphabetic, is_ascii_digit}
use Rattle.std.proofs.lemmas.List.{drop-drop, drop_all}
use Rattle.std.proofs.lemmas.List.Sums.{prefix_len_stops, prefix_len-drop_no}
use Rattle.text_tokens.specs.RunTokens.{Language, Placed, is_word_byte, run_begun, token_at, first_length, tokens_from}

module _ {T : Type 0} (language : Language T) where
  -- after a run, as after a blank
  pub no_run : (r : ℕ → Bool) (c : ℕ) (cs : List ℕ) (at : ℕ) → r c ≡ false → tokens_from language at r (c ∷ cs) ≡ tokens_from language at language.is_blank (c ∷ cs)
  no_run r c cs at e =
      ap (λ b. cond b (tokens_from language (at + 1) r cs) (cond (language.is_blank c) (tokens_from language (at + 1) language.is_blank cs) (record { at = at; token = token_at language at (c ∷ cs) } ∷ tokens_from language (at + 1) (run_begun language c) cs))) e
      ∙ twice (language.is_blank c) (tokens_from language (at + 1) language.is_blank cs) (record { at = at; token = token_at language at (c ∷ cs) } ∷ tokens_from language (at + 1) (run_begun language c) cs)
    where
      twice : (b : Bool) (x y : List (Placed T)) → cond b x y ≡ cond b x (cond b x y)
      twice true x y = refl
      twice false x y = refl

  -- where a run ends after k bytes
  abbrev pub IsOver : ℕ → (ℕ → Bool) → List ℕ → ℕ → Type 0
  IsOver at r xs k = tokens_from language at r xs ≡ tokens_from language (at + k) language.is_blank (drop k xs)

  run_over_at : (r : ℕ → Bool) (c : ℕ) (cs : List ℕ) (at : ℕ) (b : Bool) → r c ≡ b → ((k : ℕ) → IsOver k r cs (prefix_len r cs)) → IsOver at r (c ∷ cs) (cond b (1 + prefix_len r cs) 0)
  run_over_at r c cs at true e h =
      let k : ℕ = prefix_len r cs in
      let more : 1 + k ≡ suc k = omega arith in
      ap (λ b. cond b (tokens_from language (at + 1) r cs) (cond (language.is_blank c) (tokens_from language (at + 1) language.is_blank cs) (record { at = at; token = token_at language at (c ∷ cs) } ∷ tokens_from language (at + 1) (run_begun language c) cs))) e
      ∙ h (at + 1)
      ∙ ap (λ m. tokens_from language m language.is_blank (drop k cs)) (let place : at + 1 + k ≡ at + (1 + k) = omega arith in place)
      ∙ ap (λ m. tokens_from language (at + (1 + k)) language.is_blank (drop m (c ∷ cs))) (sym more)
  run_over_at r c cs at false e h = no_run r c cs at e ∙ ap (λ m. tokens_from language m language.is_blank (c ∷ cs)) (let place : at ≡ at + 0 = omega arith in place)

  -- a run is read over
  pub run_over : (r : ℕ → Bool) (xs : List ℕ) (at : ℕ) → IsOver at r xs (prefix_len r xs)
  run_over r [] at = refl
  run_over r (c ∷ cs) at = run_over_at r c cs at (r c) refl (run_over r cs)

  letter_in_word : (c : ℕ) → is_ascii_alphabetic c ≡ true → is_word_byte c ≡ true
  letter_in_word c e = go (is_in_range 48 57 c) (is_in_range 65 90 c) (is_in_range 97 122 c) (nat_eq c 95) e
    where
      go : (d upper lower line : Bool) → (upper || lower) ≡ true → (((d || upper) || lower) || line) ≡ true
      go true upper lower line e = refl
      go false true lower line e = refl
      go false false true line e = refl
      go false false false line e = cc

  -- one more byte of a run
  shifted : (r : ℕ → Bool) (c : ℕ) (cs : List ℕ) (at : ℕ) → r c ≡ true → tokens_from language (at + 1) r cs ≡ tokens_from language (at + prefix_len r (c ∷ cs)) language.is_blank (drop (prefix_len r (c ∷ cs)) (c ∷ cs))
  shifted r c cs at e =
      let k : ℕ = prefix_len r cs in
      let more : 1 + k ≡ suc k = omega arith in
      run_over r cs (at + 1)
      ∙ ap (λ m. tokens_from language m language.is_blank (drop k cs)) (let place : at + 1 + k ≡ at + (1 + k) = omega arith in place)
      ∙ ap (λ m. tokens_from language (at + (1 + k)) language.is_blank (drop m (c ∷ cs))) (sym more)
      ∙ ap (λ b. tokens_from language (at + cond b (1 + k) 0) language.is_blank (drop (cond b (1 + k) 0) (c ∷ cs))) (sym e)

  -- what follows the first token
  abbrev long : Bool → Bool → Bool → List ℕ → ℕ
  long l d s xs = cond l (prefix_len is_word_byte xs) (cond d (prefix_len is_ascii_digit xs) (cond s (prefix_len language.is_sign xs) 1))

  after_first : (c : ℕ) (cs : List ℕ) (at : ℕ) (l d s : Bool) → is_ascii_alphabetic c ≡ l → is_ascii_digit c ≡ d → language.is_sign c ≡ s
      → tokens_from language (at + 1) (cond l is_word_byte (cond d is_ascii_digit (cond s language.is_sign language.is_blank))) cs
      ≡ tokens_from language (at + long l d s (c ∷ cs)) language.is_blank (drop (long l d s (c ∷ cs)) (c ∷ cs))
  after_first c cs at true d s e f g = shifted is_word_byte c cs at (letter_in_word c e)
  after_first c cs at false true s e f g = shifted is_ascii_digit c cs at f
  after_first c cs at false false true e f g = shifted language.is_sign c cs at g
  after_first c cs at false false false e f g = refl

  no_front : (b : Bool) (k : ℕ) → cond b (1 + k) 0 ≡ 0 → b ≡ false
  no_front true k e = absurd (omega (arith, e))
  no_front false k e = refl

  -- the first token of a text that begins with no blank
  first_is : (xs : List ℕ) (at : ℕ) → 0 < length xs → prefix_len language.is_blank xs ≡ 0
      → tokens_from language at language.is_blank xs ≡ record { at = at; token = token_at language at xs } ∷ tokens_from language (at + first_length language xs) language.is_blank (drop (first_length language xs) xs)
  first_is [] at l e = absurd (omega arith)
  first_is (c ∷ cs) at l e =
      let clear : language.is_blank c ≡ false = no_front (language.is_blank c) (prefix_len language.is_blank cs) e in
      ap (λ b. cond b (tokens_from language (at + 1) language.is_blank cs) (cond b (tokens_from language (at + 1) language.is_blank cs) (record { at = at; token = token_at language at (c ∷ cs) } ∷ tokens_from language (at + 1) (run_begun language c) cs))) clear
      ∙ ap (λ ts. record { at = at; token = token_at language at (c ∷ cs) } ∷ ts) (after_first c cs at (is_ascii_alphabetic c) (is_ascii_digit c) (language.is_sign c) refl refl refl)

  -- the blanks before the next token
  blanks_over : (text : List ℕ) (from k : ℕ) → k ≡ prefix_len language.is_blank (drop from text) → tokens_from language from language.is_blank (drop from text) ≡ tokens_from language (from + k) language.is_blank (drop (from + k) text)
  blanks_over text from k e =
      run_over language.is_blank (drop from text) from ∙ ap (λ m. tokens_from language (from + m) language.is_blank (drop m (drop from text))) (sym e) ∙ ap (tokens_from language (from + k) language.is_blank) (drop-drop k from text)

  pub none_left : (text : List ℕ) (from k : ℕ) → k ≡ prefix_len language.is_blank (drop from text) → from + k ≡ length text → tokens_from language from language.is_blank (drop from text) ≡ []
  none_left text from k e all = blanks_over text from k e ∙ ap (tokens_from language (from + k) language.is_blank) (drop_all (from + k) text (omega arith))

  pub next_is : (text : List ℕ) (from k : ℕ) → k ≡ prefix_len language.is_blank (drop from text) → from + k < length text
      → tokens_from language from language.is_blank (drop from text)
      ≡ record { at = from + k; token = token_at language (from + k) (drop (from + k) text) } ∷ tokens_from language (from + k + first_length language (drop (from + k) text)) language.is_blank (drop (from + k + first_length language (drop (from + k) text)) text)
  next_is text from k e l =
      let rest : List ℕ = drop (from + k) text in
      let stops : prefix_len language.is_blank rest ≡ 0 =
      ap (prefix_len language.is_blank) (sym (drop-drop k from text) ∙ ap (λ m. drop m (drop from text)) e)
      ∙ prefix_len-drop_no language.is_blank (drop from text) (prefix_len language.is_blank (drop from text)) 0 (omega (arith, length-drop from text, e))
      (prefix_len_stops language.is_blank (drop from text) 0 (omega (arith, length-drop from text, e))) in
      blanks_over text from k e
      ∙ first_is rest (from + k) (omega (arith, length-drop (from + k) text)) stops
      ∙ ap (λ ts. record { at = from + k; token = token_at language (from + k) rest } ∷ tokens_from language (from + k + first_length language rest) language.is_blank ts) (drop-drop (first_length language rest) (from + k) text)
