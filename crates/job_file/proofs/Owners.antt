-- The owners that texts tell.
use Rattle.std.proofs.Common.{◌≡◌, ◌≢◌, ℕ, ◌<◌, ◌^◌, ◌&&◌, ◌||◌, ◌==◌, inl, inr, Bool, true, false, not, nat_lt, cond, List, [], ◌∷◌, Option, None, Some, IfSome, length, Bor, refl, sym, ap, ◌∙◌, arith}
use Rattle.std.specs.Prelude.{slice_index, drop, MatchOption}
use Rattle.std.specs.List.{before_first, after_first}
use Rattle.std.specs.Option.{option_map, option_zip}
use Rattle.std.specs.Str.{bytes_eq}
use Rattle.std.specs.Str.Parse.{digits_value}
use Rattle.std.proofs.lemmas.Bool.{ltb-true, ltb-false, le-ltb, and_parts}
use Rattle.std.proofs.lemmas.Bool.Decides.{eqb_tells}
use Rattle.std.proofs.lemmas.List.Quantifiers.{position-Some}
use Rattle.text_tokens.specs.Numbers.{is_digits, is_decimal, number_written}
use Rattle.party_names.specs.Names.{party_named}
use Rattle.job_file.specs.declared.owner.JobOwner.{JobOwner}
use Rattle.job_file.specs.declared.owner.JobOwner.TheVariants.{Party, Carried}
use Rattle.job_file.specs.Owners.{is_carry, is_point, number_below, carry_in, owner_in, IsOwner}

-- ---- an `@` at the front

no_at : (text : List ℕ) → ((rest : List ℕ) → text ≢ 64 ∷ rest) → (slice_index text 0 == 64) ≡ false
no_at [] other = refl
no_at (c ∷ text) other = elim (eqb_tells c 64) [
  | inl same ↦ absurd (other text (ap (λ x. x ∷ text) same.1))
  | inr apart ↦ apart.0
]

pub carry_told : (two : Bool) (text : List ℕ) (r : Option (Bor (List ℕ))) → two ≡ true → MatchOption r ((rest : List ℕ) → text ≢ 64 ∷ rest) (λ x. text ≡ 64 ∷ x.now)
    → MatchOption r (is_carry two text ≡ false) (λ rest. (is_carry two text ≡ true) × (rest.now ≡ drop 1 text))
carry_told true text None is h = no_at text h
carry_told true text (Some x) is h = (ap (λ t. slice_index t 0 == 64) h, sym (ap (drop 1) h))
carry_told false text r is h = cc

-- ---- the number that a text writes, if it is below the bound

module _ (bound : ℕ) (text : List ℕ) (few : bound < 2 ^ 32) (plain : is_decimal text ≡ true) where
  abbrev value : ℕ
  value = digits_value 10 text

  is_digit_text : is_digits text ≡ true
  is_digit_text = (and_parts (is_digits text) (nat_lt (length text) 2 || not (slice_index text 0 == 48)) plain).0

  below_is : number_below bound text ≡ cond (nat_lt value bound) (Some value) None
  below_is = ap (λ b. cond (b && nat_lt value bound) (Some value) None) plain

  by_value : (b : Bool) (o : Option ℕ) → nat_lt value (2 ^ 64) ≡ b → o ≡ cond b (Some value) None
      → MatchOption o (number_below bound text ≡ None) (λ n. number_below bound text ≡ cond (nat_lt n bound) (Some n) None)
  by_value true None e is = cc
  by_value true (Some n) e is = let same : value ≡ n = cc in below_is ∙ ap (λ v. cond (nat_lt v bound) (Some v) None) same
  by_value false None e is = let large = ltb-false value (2 ^ 64) e in below_is ∙ ap (λ b. cond b (Some value) None) (le-ltb value bound (omega (arith, large, few)))
  by_value false (Some n) e is = cc

  pub number_told : (o : Option ℕ) → o ≡ number_written text → MatchOption o (number_below bound text ≡ None) (λ n. number_below bound text ≡ cond (nat_lt n bound) (Some n) None)
  unfolding number_written
  number_told o is = by_value (nat_lt value (2 ^ 64)) o refl (is ∙ ap (λ b. cond (b && nat_lt value (2 ^ 64)) (Some value) None) is_digit_text)

-- ---- an owner is within its bounds

below_bound : (bound : ℕ) (text : List ℕ) (b : Bool) → (is_decimal text && nat_lt (digits_value 10 text) bound) ≡ b → IfSome (cond b (Some (digits_value 10 text)) None) (λ n. n < bound)
below_bound bound text true e = ltb-true (digits_value 10 text) bound (and_parts (is_decimal text) (nat_lt (digits_value 10 text) bound) e).1
below_bound bound text false e = tt

number_within : (bound : ℕ) (text : List ℕ) → IfSome (number_below bound text) (λ n. n < bound)
number_within bound text = below_bound bound text (is_decimal text && nat_lt (digits_value 10 text) bound) refl

both_within : (parties session : ℕ) (s v : Option ℕ) → IfSome s (λ n. n < session) → IfSome v (λ n. n < 1024)
    → IfSome (option_map (λ carry. Carried carry.0 carry.1) (option_zip s v)) (IsOwner parties session)
both_within parties session None v hs hv = tt
both_within parties session (Some s) None hs hv = tt
both_within parties session (Some s) (Some v) hs hv = (hs, hv)

pub carry_within : (parties session : ℕ) (text : List ℕ) → IfSome (carry_in session text) (IsOwner parties session)
unfolding carry_in
carry_within parties session text =
    both_within parties session (number_below session (before_first is_point text)) (number_below 1024 (after_first is_point text))
    (number_within session (before_first is_point text)) (number_within 1024 (after_first is_point text))

pub named_below : (names : List (List ℕ)) (text : List ℕ) (p : ℕ) → party_named names text ≡ Some p → p < length names
named_below names text p is = (position-Some (λ other. bytes_eq other text) names p [] is).0

party_within : (names : List (List ℕ)) (session : ℕ) (text : List ℕ) (o : Option ℕ) → party_named names text ≡ o → IfSome (option_map (λ party. Party party) o) (IsOwner (length names) session)
party_within names session text None e = tt
party_within names session text (Some p) e = named_below names text p e

either_within : (parties session : ℕ) (b : Bool) (carried named : Option JobOwner) → IfSome carried (IsOwner parties session) → IfSome named (IsOwner parties session) → IfSome (cond b carried named) (IsOwner parties session)
either_within parties session true carried named hc hn = hc
either_within parties session false carried named hc hn = hn

pub owner_within : (two : Bool) (names : List (List ℕ)) (session : ℕ) (text : List ℕ) → IfSome (owner_in two names session text) (IsOwner (length names) session)
unfolding owner_in
owner_within two names session text =
    either_within (length names) session (is_carry two text) (carry_in session (drop 1 text)) (option_map (λ party. Party party) (party_named names text))
    (carry_within (length names) session (drop 1 text)) (party_within names session text (party_named names text) refl)
