-- A place moves along a text.
use Rattle.std.proofs.Common.{subst, ◌≡◌, ℕ, zero, suc, ◌+◌, ◌-◌, ◌≤◌, ◌<◌, Bool, true, false, not, ◌&&◌, cond, List, [], ◌∷◌, ◌++◌, length, take, drop, get_or, refl, sym, ◌∙◌, ap, ap₂, arith, append-nil, append_assoc, length-append, length-drop, eq-eqb, inl, inr, filter, tests}
use Rattle.std.specs.Prelude.{slice_index_or}
use Rattle.std.specs.List.{slice_split, position_or_len, before_first, after_first, list_all}
use Rattle.std.proofs.lemmas.Bool.{cases_lt, cases_Bool, eqb-true, and_parts, not-true, not-false}
use Rattle.std.proofs.lemmas.Bool.Decides.{nat_tests}
use Rattle.std.proofs.lemmas.List.{drop_all, take_all, get_or-drop, take-append-drop, length-take-le, drop-drop, drop_more}
use Rattle.std.proofs.lemmas.List.Folds.{list_all-append, list_all_more}
use Rattle.std.proofs.lemmas.List.Splits.{slice_split_none, slice_split_at}
use Rattle.text_tokens.specs.Tokens.{is_blank, not_empty, tokens_of}
use Rattle.text_tokens.proofs.FirstTokens.{first_within, tokens-blank, tokens_of-none, keep_first}
use Rattle.gate_lines.specs.Rows.{Row, is_line_end, rows_from}
use Rattle.gate_lines.specs.Places.{Place, place_in, rows_at, next_token, past_token, is_inner_blank, StandsAt, Passes}
use Rattle.gate_lines.proofs.TextLines.{rows-none, rows-last, rows-cut}

abbrev pub in_token : ℕ → Bool
in_token c = not (is_blank c)

blank_goes_on : (c : ℕ) → is_inner_blank c ≡ true → (is_blank c ≡ true) × (is_line_end c ≡ false)
blank_goes_on c e = let k = and_parts (is_blank c) (not (is_line_end c)) e in (k.0, not-true (is_line_end c) k.1)

token_goes_on : (c : ℕ) → in_token c ≡ true → is_line_end c ≡ false
token_goes_on c e = grind (arith, nat_tests, tests)

-- ---- the first line of a text, byte by byte

line_goes_on : (c : ℕ) (text : List ℕ) → is_line_end c ≡ false → position_or_len is_line_end (c ∷ text) ≡ suc (position_or_len is_line_end text)
line_goes_on c text e = ap (λ b. cond (not b) (1 + position_or_len is_line_end text) 0) e ∙ omega arith

line_ends : (c : ℕ) (text : List ℕ) → is_line_end c ≡ true → position_or_len is_line_end (c ∷ text) ≡ 0
line_ends c text e = ap (λ b. cond (not b) (1 + position_or_len is_line_end text) 0) e

before-cons : (c : ℕ) (text : List ℕ) → is_line_end c ≡ false → before_first is_line_end (c ∷ text) ≡ c ∷ before_first is_line_end text
before-cons c text e = ap (λ k. take k (c ∷ text)) (line_goes_on c text e)

after-cons : (c : ℕ) (text : List ℕ) → is_line_end c ≡ false → after_first is_line_end (c ∷ text) ≡ after_first is_line_end text
after-cons c text e =
    let k : position_or_len is_line_end (c ∷ text) + 1 ≡ suc (position_or_len is_line_end text + 1) = omega (arith, line_goes_on c text e) in
    ap (λ n. drop n (c ∷ text)) k

before-end : (c : ℕ) (text : List ℕ) → is_line_end c ≡ true → before_first is_line_end (c ∷ text) ≡ []
before-end c text e = ap (λ k. take k (c ∷ text)) (line_ends c text e)

after-end : (c : ℕ) (text : List ℕ) → is_line_end c ≡ true → after_first is_line_end (c ∷ text) ≡ text
after-end c text e = let k : position_or_len is_line_end (c ∷ text) + 1 ≡ suc 0 = omega (arith, line_ends c text e) in ap (λ n. drop n (c ∷ text)) k

-- ---- blanks, and the end of a line

pub place-nil : (n : ℕ) (text : List ℕ) → length text ≡ 0 → place_in n text ≡ record { number = n; tokens = []; rows = [] }
unfolding place_in
place-nil n [] e = ap₂ (λ ts rs. record { number = n; tokens = ts; rows = rs }) (tokens_of-none [] refl) (rows-none (n + 1) [] refl)
place-nil n (c ∷ text) e = absurd (omega arith)

pub place-end : (n c : ℕ) (text : List ℕ) → is_line_end c ≡ true → place_in n (c ∷ text) ≡ record { number = n; tokens = []; rows = rows_from (n + 1) text }
unfolding place_in
place-end n c text e = ap₂ (λ l m. record { number = n; tokens = tokens_of l; rows = rows_from (n + 1) m }) (before-end c text e) (after-end c text e) ∙ ap (λ ts. record { number = n; tokens = ts; rows = rows_from (n + 1) text }) (tokens_of-none [] refl)

pub place-blank : (n c : ℕ) (text : List ℕ) → is_inner_blank c ≡ true → place_in n (c ∷ text) ≡ place_in n text
unfolding place_in
place-blank n c text e =
    let on = blank_goes_on c e in
    ap₂ (λ l m. record { number = n; tokens = tokens_of l; rows = rows_from (n + 1) m }) (before-cons c text on.1) (after-cons c text on.1)
    ∙ ap (λ ts. record { number = n; tokens = ts; rows = rows_from (n + 1) (after_first is_line_end text) }) (tokens-blank c (before_first is_line_end text) on.0)

-- ---- the rows of a text are those from its place on

chosen : (ts : List (List ℕ)) (r : Row) (rows : List Row) → cond (not_empty ts) (r ∷ []) [] ++ rows ≡ cond (not_empty ts) (r ∷ rows) rows
chosen [] r rows = refl
chosen (t ∷ ts) r rows = refl

pub place-rows : (n : ℕ) (text : List ℕ) → rows_from n text ≡ rows_at (place_in n text)
unfolding place_in
place-rows n text = elim (cases_lt (position_or_len is_line_end text) (length text)) [
  | inl l ↦ rows-cut n text (before_first is_line_end text) (after_first is_line_end text) l refl refl ∙ chosen (tokens_of (before_first is_line_end text)) _ (rows_from (n + 1) (after_first is_line_end text))
  | inr past ↦
      let all : position_or_len is_line_end text ≡ length text = omega (arith, first_within is_line_end text, past) in
      rows-last n text all
      ∙ chosen (tokens_of text) (record { number = n; tokens = tokens_of text }) (rows_from (n + 1) [])
      ∙ ap₂ (λ l m. rows_at (record { number = n; tokens = tokens_of l; rows = rows_from (n + 1) m })) (sym (take_all (position_or_len is_line_end text) text past))
      (sym (drop_all (position_or_len is_line_end text + 1) text (omega (arith, past))))
]

-- ---- a token

before-append : (ds text : List ℕ) → list_all in_token ds ≡ true → before_first is_line_end (ds ++ text) ≡ ds ++ before_first is_line_end text
before-append [] text e = refl
before-append (c ∷ ds) text e =
    let k = and_parts (in_token c) (list_all in_token ds) e in
    before-cons c (ds ++ text) (token_goes_on c k.0) ∙ ap (λ l. c ∷ l) (before-append ds text k.1)

after-append : (ds text : List ℕ) → list_all in_token ds ≡ true → after_first is_line_end (ds ++ text) ≡ after_first is_line_end text
after-append [] text e = refl
after-append (c ∷ ds) text e =
    let k = and_parts (in_token c) (list_all in_token ds) e in
    after-cons c (ds ++ text) (token_goes_on c k.0) ∙ after-append ds text k.1

no_blank : (ds : List ℕ) → list_all in_token ds ≡ true → (k : ℕ) (d : ℕ) → k < length ds → is_blank (get_or ds k d) ≡ false
no_blank [] e k d l = absurd (omega arith)
no_blank (c ∷ ds) e zero d l = not-true (is_blank c) (and_parts (in_token c) (list_all in_token ds) e).0
no_blank (c ∷ ds) e (suc k) d l = no_blank ds (and_parts (in_token c) (list_all in_token ds) e).1 k d (omega arith)

-- a token alone
alone : (ds : List ℕ) → 0 < length ds → list_all in_token ds ≡ true → tokens_of (ds ++ []) ≡ ds ∷ tokens_of []
unfolding tokens_of
alone ds l e = ap tokens_of (append-nil ds) ∙ ap (filter not_empty) (slice_split_none is_blank ds (no_blank ds e)) ∙ keep_first ds [] l

before_blank : (c : ℕ) (ds line : List ℕ) → 0 < length ds → list_all in_token ds ≡ true → is_blank c ≡ true → tokens_of (ds ++ (c ∷ line)) ≡ ds ∷ tokens_of (c ∷ line)
unfolding tokens_of
before_blank c ds line l e b = ap (filter not_empty) (slice_split_at is_blank ds c line (no_blank ds e) b) ∙ keep_first ds (slice_split is_blank line) l ∙ ap (λ ts. ds ∷ ts) (sym (tokens-blank c line b))

token_then : (ds text : List ℕ) → 0 < length ds → list_all in_token ds ≡ true → (0 < length text → is_blank (get_or text 0 0) ≡ true) → tokens_of (ds ++ before_first is_line_end text) ≡ ds ∷ tokens_of (before_first is_line_end text)
token_then ds [] l e ends = alone ds l e
token_then ds (c ∷ text) l e ends = elim (cases_Bool (is_line_end c)) [
  | inl stop ↦ ap (λ line. tokens_of (ds ++ line)) (before-end c text stop) ∙ alone ds l e ∙ ap (λ line. ds ∷ tokens_of line) (sym (before-end c text stop))
  | inr on ↦
      ap (λ line. tokens_of (ds ++ line)) (before-cons c text on)
      ∙ before_blank c ds (before_first is_line_end text) l e (ends (omega arith))
      ∙ ap (λ line. ds ∷ tokens_of line) (sym (before-cons c text on))
]

pub place-token : (n : ℕ) (ds text : List ℕ) → 0 < length ds → list_all in_token ds ≡ true → (0 < length text → is_blank (get_or text 0 0) ≡ true)
    → place_in n (ds ++ text) ≡ record (place_in n text) { tokens = ds ∷ (place_in n text).tokens }
unfolding place_in
place-token n ds text l e ends =
    ap₂ (λ line rest. record { number = n; tokens = tokens_of line; rows = rows_from (n + 1) rest }) (before-append ds text e) (after-append ds text e)
    ∙ ap (λ ts. record { number = n; tokens = ts; rows = rows_from (n + 1) (after_first is_line_end text) }) (token_then ds text l e ends)

-- a token that begins with these bytes
pub record Begins (n : ℕ) (ds text : List ℕ) : Type 0 where
  pub more : List ℕ
  pub rest : List ℕ
  pub is : place_in n (ds ++ text) ≡ record (place_in n rest) { tokens = (ds ++ more) ∷ (place_in n rest).tokens }

begins_whole : (n : ℕ) (ds text : List ℕ) → 0 < length ds → list_all in_token ds ≡ true → (0 < length text → is_blank (get_or text 0 0) ≡ true) → Begins n ds text
begins_whole n ds text l e ends = record {
  more = [];
  rest = text;
  is = place-token n ds text l e ends ∙ ap (λ t. record (place_in n text) { tokens = t ∷ (place_in n text).tokens }) (sym (append-nil ds));
}

pub begins : (n : ℕ) (ds text : List ℕ) → 0 < length ds → list_all in_token ds ≡ true → Begins n ds text
begins n ds [] l e = begins_whole n ds [] l e (λ k. absurd (omega arith))
begins n ds (c ∷ text) l e = elim (cases_Bool (is_blank c)) [
  | inl stop ↦ begins_whole n ds (c ∷ text) l e (λ k. stop)
  | inr on ↦
      let all : list_all in_token (ds ++ (c ∷ [])) ≡ true = list_all-append in_token ds (c ∷ []) ∙ ap₂ (λ a b. a && (not b && true)) e on in
      let more : Begins n (ds ++ (c ∷ [])) text = begins n (ds ++ (c ∷ [])) text (omega (arith, length-append ds (c ∷ []))) all in
      record {
        more = c ∷ more.more;
        rest = more.rest;
        is = ap (place_in n) (sym (append_assoc ds (c ∷ []) text)) ∙ more.is ∙ ap (λ t. record (place_in n more.rest) { tokens = t ∷ (place_in n more.rest).tokens }) (append_assoc ds (c ∷ []) more.more);
      }
]

-- ---- places by their index

pub blank_step : (n at : ℕ) (bs : List ℕ) → at < length bs → is_inner_blank (get_or bs at 0) ≡ true → place_in n (drop (at + 1) bs) ≡ place_in n (drop at bs)
blank_step n at bs l e = sym (ap (place_in n) (drop_more bs at 0 l) ∙ place-blank n (get_or bs at 0) (drop (at + 1) bs) e)

pub end_step : (n at : ℕ) (bs : List ℕ) → at < length bs → get_or bs at 0 ≡ 10 → place_in n (drop at bs) ≡ record { number = n; tokens = []; rows = rows_from (n + 1) (drop (at + 1) bs) }
end_step n at bs l e = ap (place_in n) (drop_more bs at 0 l) ∙ place-end n (get_or bs at 0) (drop (at + 1) bs) (eq-eqb (get_or bs at 0) 10 e)

-- from the end of a line to the first token of a later one
pub line_step : (n at to : ℕ) (bs : List ℕ) → at < length bs → get_or bs at 0 ≡ 10 → ((m : ℕ) → place_in m (drop to bs) ≡ place_in m (drop (at + 1) bs)) → rows_at (place_in (n + 1) (drop to bs)) ≡ rows_at (place_in n (drop at bs))
line_step n at to bs l e same = ap rows_at (same (n + 1)) ∙ sym (place-rows (n + 1) (drop (at + 1) bs)) ∙ sym (ap rows_at (end_step n at bs l e))

-- where neither a blank nor a token stands, the line ends
stops_here : (c : ℕ) → is_inner_blank c ≡ false → is_blank c ≡ true → is_line_end c ≡ true
stops_here c e blank = not-false (is_line_end c) (ap (λ b. b && not (is_line_end c)) (sym blank) ∙ e)

pub line_over : (n at : ℕ) (bs : List ℕ) → at ≤ length bs → (at < length bs → is_inner_blank (get_or bs at 0) ≡ false) → (at < length bs → is_blank (get_or bs at 0) ≡ true) → (place_in n (drop at bs)).tokens ≡ []
line_over n at bs within run stops = elim (cases_lt at (length bs)) [
  | inl l ↦ ap (λ (p : Place). p.tokens) (ap (place_in n) (drop_more bs at 0 l) ∙ place-end n (get_or bs at 0) (drop (at + 1) bs) (stops_here (get_or bs at 0) (run l) (stops l)))
  | inr past ↦ ap (λ (p : Place). p.tokens) (place-nil n (drop at bs) (omega (arith, length-drop at bs)))
]

-- where something else stands, there is a token
pub token_here : (n at : ℕ) (bs : List ℕ) → at < length bs → is_blank (get_or bs at 0) ≡ false → (place_in n (drop at bs)).tokens ≡ [] → ⊥
token_here n at bs l e none =
    let c : ℕ = get_or bs at 0 in
    let b : Begins n (get_or bs at 0 ∷ []) (drop (at + 1) bs) = begins n (get_or bs at 0 ∷ []) (drop (at + 1) bs) (omega arith) (ap (λ x. not x && true) e) in
    let some : (get_or bs at 0 ∷ b.more) ∷ (place_in n b.rest).tokens ≡ [] = sym (ap (λ (p : Place). p.tokens) (ap (place_in n) (drop_more bs at 0 l) ∙ b.is)) ∙ none in
    cc some

pub take_whole : (p : ℕ → Bool) (bs : List ℕ) (start at : ℕ) → start ≤ at → at < length bs → list_all p (take (at - start) (drop start bs)) ≡ true → p (get_or bs at 0) ≡ true → list_all p (take (at + 1 - start) (drop start bs)) ≡ true
take_whole p bs start at le l all here =
    let k : at + 1 - start ≡ at - start + 1 = omega arith in
    let within : at - start < length (drop start bs) = omega (arith, length-drop start bs) in
    let j : start + (at - start) ≡ at = omega arith in
    let at_is : get_or (drop start bs) (at - start) 0 ≡ get_or bs at 0 = get_or-drop start bs (at - start) 0 ∙ ap (λ i. get_or bs i 0) j in
    ap (λ i. list_all p (take i (drop start bs))) k ∙ list_all_more p (drop start bs) (at - start) 0 within ∙ ap₂ (λ a b. a && b) all (ap p at_is ∙ here)

-- the bytes between two places
pub between : (bs : List ℕ) (start end : ℕ) → start ≤ end → drop start bs ≡ take (end - start) (drop start bs) ++ drop end bs
between bs start end le =
    let k : start + (end - start) ≡ end = omega arith in
    sym (take-append-drop (end - start) (drop start bs)) ∙ ap (λ rest. take (end - start) (drop start bs) ++ rest) (drop-drop (end - start) start bs ∙ ap (λ i. drop i bs) k)

pub token_between : (n start end : ℕ) (bs : List ℕ) → start < end → end ≤ length bs → list_all in_token (take (end - start) (drop start bs)) ≡ true → (end < length bs → is_blank (get_or bs end 0) ≡ true)
    → place_in n (drop start bs) ≡ record (place_in n (drop end bs)) { tokens = take (end - start) (drop start bs) ∷ (place_in n (drop end bs)).tokens }
token_between n start end bs l within all stops =
    let token : List ℕ = take (end - start) (drop start bs) in
    let zero_more : end + 0 ≡ end = omega arith in
    let long : length (take (end - start) (drop start bs)) ≡ end - start = length-take-le (end - start) (drop start bs) (omega (arith, length-drop start bs)) in
    ap (place_in n) (between bs start end (omega arith))
    ∙ place-token n (take (end - start) (drop start bs)) (drop end bs) (omega (arith, long)) all
    (λ k. ap is_blank (get_or-drop end bs 0 0 ∙ ap (λ i. get_or bs i 0) zero_more) ∙ stops (omega (arith, k, length-drop end bs)))

pub not_ended : (c : ℕ) → is_inner_blank c ≡ false → (c ≡ 10 → ⊥) → is_blank c ≡ false
not_ended c run ne = elim (cases_Bool (is_blank c)) [
  | inl blank ↦ absurd (ne (eqb-true c 10 (stops_here c run blank)))
  | inr e ↦ e
]

pub same_token : (n : ℕ) (text : List ℕ) → next_token (place_in 0 text) ≡ next_token (place_in n text)
unfolding place_in
same_token n text = refl

-- what follows the token at a place
pub token_passes : (start end next : ℕ) (bs : List ℕ) → StandsAt bs start → (next_token (place_in 0 (drop start bs)) ≡ [] → ⊥) → start ≤ end → end ≤ length bs → list_all in_token (take (end - start) (drop start bs)) ≡ true
    → (end < length bs → is_blank (get_or bs end 0) ≡ true) → ((n : ℕ) → place_in n (drop next bs) ≡ place_in n (drop end bs)) → end ≤ next → StandsAt bs next → Passes bs start next
token_passes start end next bs here some le within all stops same after stands = elim (cases_lt start end) [
  | inl l ↦ record {
    after = omega (arith, le, after);
    stands = stands;
    token = λ n. same n ∙ sym (ap past_token (token_between n start end bs l within all stops));
  }
  | inr past ↦
      let e : end ≡ start = omega (arith, le, past) in
      let none : (place_in 0 (drop start bs)).tokens ≡ [] = line_over 0 start bs here.0 here.1 (subst (λ i. i < length bs → is_blank (get_or bs i 0) ≡ true) e stops) in
      absurd (some (ap (λ ts. slice_index_or ts 0 []) none))
]
