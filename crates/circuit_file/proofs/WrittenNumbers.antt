-- Tokens that write numbers.
use Rattle.std.proofs.Common.{◌≡◌, ℕ, suc, true, ◌&&◌, List, [], ◌∷◌, length, Some, refl, ◌∙◌, ap, ap₂}
use Rattle.std.specs.Option.{is_some, unwrap_or}
use Rattle.text_tokens.specs.Numbers.{number_written}
use Rattle.std.proofs.lemmas.Bool.{and_parts}
use Rattle.circuit_file.specs.Tokens.{is_number, number_in, all_numbers, numbers_in}
use Rattle.circuit_file.specs.Grammar.{Write}
use Rattle.circuit_file.proofs.PassedChecks.{some_is}

pub write_all : (ts : List (List ℕ)) → all_numbers ts ≡ true → Write ts (numbers_in ts)
write_all [] e = tt
write_all (t ∷ ts) e = (some_is (number_written t) (and_parts (is_number t) (all_numbers ts) e).0, write_all ts (and_parts (is_number t) (all_numbers ts) e).1)

pub write_some : (ts : List (List ℕ)) (n : ℕ) (ns : List ℕ) → Write ts (n ∷ ns) → (t : List ℕ) × (rest : List (List ℕ)) × (ts ≡ t ∷ rest) × (number_written t ≡ Some n) × Write rest ns
write_some [] n ns w = absurd w
write_some (t ∷ ts) n ns w = (t, ts, refl, w.0, w.1)

pub write_none : (ts : List (List ℕ)) → Write ts [] → ts ≡ []
write_none [] w = refl
write_none (t ∷ ts) w = absurd w

pub some_number : (t : List ℕ) (n : ℕ) → number_written t ≡ Some n → is_number t ≡ true
some_number t n e = ap is_some e

pub this_number : (t : List ℕ) (n : ℕ) → number_written t ≡ Some n → number_in t ≡ n
this_number t n e = ap (λ o. unwrap_or o 0) e

pub written_long : (ts : List (List ℕ)) (ns : List ℕ) → Write ts ns → length ts ≡ length ns
written_long [] [] w = refl
written_long [] (n ∷ ns) w = absurd w
written_long (t ∷ ts) [] w = absurd w
written_long (t ∷ ts) (n ∷ ns) w = ap suc (written_long ts ns w.1)

pub written_all : (ts : List (List ℕ)) (ns : List ℕ) → Write ts ns → all_numbers ts ≡ true
written_all [] ns w = refl
written_all (t ∷ ts) [] w = absurd w
written_all (t ∷ ts) (n ∷ ns) w = ap (λ b. b && all_numbers ts) (some_number t n w.0) ∙ written_all ts ns w.1

pub written_are : (ts : List (List ℕ)) (ns : List ℕ) → Write ts ns → numbers_in ts ≡ ns
written_are [] [] w = refl
written_are [] (n ∷ ns) w = absurd w
written_are (t ∷ ts) [] w = absurd w
written_are (t ∷ ts) (n ∷ ns) w = ap₂ (λ m ms. m ∷ ms) (this_number t n w.0) (written_are ts ns w.1)
