-- The checks of a text of words.
use Rattle.std.proofs.Common.{◌≡◌, ℕ, ◌^◌, ◌<◌, ◌≤◌, not, nat_lt, List, [], ◌∷◌, length, Option, Some, None, Result, Ok, Err, sym, ◌∙◌, ap, arith, inl, inr}
use Rattle.std.specs.Prelude.{◌⊎◌, All, slice_index}
use Rattle.std.specs.Result.{is_err, result_unwrap_or}
use Rattle.std.proofs.lemmas.Bool.{lt-ltb, le-ltb}
use Rattle.std.proofs.lemmas.List.Sums.{position_or_len_is}
use Rattle.hex.specs.Hex.{decode_sized}
use Rattle.hex.specs.declared.error.FromHexError.{FromHexError}
use Rattle.plain_text.specs.Words.{numbers_or_fault}
use Rattle.plain_text.specs.declared.fault.WordsFault.{WordsFault}
use Rattle.plain_text.specs.declared.fault.WordsFault.TheVariants.{NotNumber, TooLarge, Memory}
use Rattle.list_laws.specs.Checks.{◌answers◌, first_fault}
use Rattle.party_file.specs.Table.{bad_words, bad_place, bad_cause, numbers_in, first_outside, out_of_ring, seed_checks, seed_in}
use Rattle.party_file.specs.declared.fault.WordCause.TheVariants as cause
use Rattle.party_file.specs.declared.fault.PartyFault.TheVariants.{BadWords, WordOutOfRing, BadSeed}
use Rattle.party_file.specs.declared.fault.PartyFault.{PartyFault}

abbrev row : Option ℕ → Result (List ℕ) WordsFault → Option PartyFault
row session r = is_err r answers BadWords session (bad_place r) (bad_cause r)

pub bad_words-ok : (session : Option ℕ) (text words : List ℕ) → numbers_or_fault text ≡ Ok words → (first_fault (bad_words session text ∷ []) ≡ None) × (words ≡ numbers_in text)
unfolding bad_words numbers_in
bad_words-ok session text words e = (ap (λ r. first_fault (row session r ∷ [])) e, sym (ap (λ r. result_unwrap_or r []) e))

pub bad_words-no_number : (session : Option ℕ) (text : List ℕ) (at : ℕ) (fault : WordsFault) → fault ≡ NotNumber at → (fault ≡ Memory) ⊎ (numbers_or_fault text ≡ Err fault)
    → first_fault (bad_words session text ∷ []) ≡ Some (BadWords session at cause.NotNumber)
unfolding bad_words
bad_words-no_number session text at fault is (inl e) = cc
bad_words-no_number session text at fault is (inr e) = ap (λ r. first_fault (row session r ∷ [])) (e ∙ ap Err is)

pub bad_words-too_large : (session : Option ℕ) (text : List ℕ) (at : ℕ) (fault : WordsFault) → fault ≡ TooLarge at → (fault ≡ Memory) ⊎ (numbers_or_fault text ≡ Err fault)
    → first_fault (bad_words session text ∷ []) ≡ Some (BadWords session at cause.TooLarge)
unfolding bad_words
bad_words-too_large session text at fault is (inl e) = cc
bad_words-too_large session text at fault is (inr e) = ap (λ r. first_fault (row session r ∷ [])) (e ∙ ap Err is)

pub outside-none : (q : ℕ) (words : List ℕ) → All (λ word. word < q) words → first_outside q words ≡ length words
unfolding first_outside
outside-none q words all =
    position_or_len_is (λ word. not (nat_lt word q)) words (length words) 0 (omega arith) (λ k l. ap not (lt-ltb _ _ (all k 0 l))) (λ l. absurd (omega arith))

pub outside-at : (q : ℕ) (words : List ℕ) (at : ℕ) → at < length words → q ≤ slice_index words at → ((k : ℕ) → k < at → slice_index words k < q) → first_outside q words ≡ at
unfolding first_outside
outside-at q words at l past below =
    position_or_len_is (λ word. not (nat_lt word q)) words at 0 (omega arith) (λ k m. ap not (lt-ltb _ _ (below k m))) (λ m. ap not (le-ltb _ _ past))

pub out_of_ring-none : (bits : ℕ) (session : Option ℕ) (words : List ℕ) → All (λ word. word < 2 ^ bits) words → first_fault (out_of_ring bits session words ∷ []) ≡ None
unfolding out_of_ring
out_of_ring-none bits session words all =
    ap (λ n. first_fault ((nat_lt n (length words) answers WordOutOfRing session n) ∷ [])) (outside-none (2 ^ bits) words all)
    ∙ ap (λ b. first_fault ((b answers WordOutOfRing session (length words)) ∷ [])) (le-ltb (length words) (length words) (omega arith))

pub out_of_ring-at : (bits : ℕ) (session : Option ℕ) (words : List ℕ) (at : ℕ) → at < length words → 2 ^ bits ≤ slice_index words at → ((k : ℕ) → k < at → slice_index words k < 2 ^ bits)
    → first_fault (out_of_ring bits session words ∷ []) ≡ Some (WordOutOfRing session at)
unfolding out_of_ring
out_of_ring-at bits session words at l past below =
    ap (λ n. first_fault ((nat_lt n (length words) answers WordOutOfRing session n) ∷ [])) (outside-at (2 ^ bits) words at l past below)
    ∙ ap (λ b. first_fault ((b answers WordOutOfRing session at) ∷ [])) (lt-ltb at (length words) l)

pub seed-ok : (text seed : List ℕ) → Ok seed ≡ decode_sized text 32 → (first_fault (seed_checks text) ≡ None) × (seed ≡ seed_in text)
unfolding seed_checks seed_in
seed-ok text seed e = (ap (λ r. first_fault ((is_err r answers BadSeed) ∷ [])) (sym e), ap (λ r. result_unwrap_or r []) e)

pub seed-err : (text : List ℕ) (error : FromHexError) → Err error ≡ decode_sized text 32 → first_fault (seed_checks text) ≡ Some BadSeed
unfolding seed_checks
seed-err text error e = ap (λ r. first_fault ((is_err r answers BadSeed) ∷ [])) (sym e)
