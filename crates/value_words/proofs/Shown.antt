-- What is written of a value.
use Rattle.std.proofs.Common.{◌≡◌, ℕ, nat_le, ◌≤◌, Bool, true, false, ◌&&◌, List, sym, ap, ◌∙◌}
use Rattle.std.proofs.lemmas.Bool.{cond-true, cond-false, leb-true, le-leb}
use Rattle.list_laws.specs.Lists.{listed}
use Rattle.value_words.specs.Turned.{as_numbers, is_numeric, most_bits, shown_words, turned}

-- a value that is written as numbers has few wires
pub narrow_numbers : (numeric : List Bool) (session width : ℕ) → as_numbers numeric session width ≡ true → width ≤ 64
narrow_numbers numeric session width e = go (is_numeric numeric session) e
  where
    go : (b : Bool) → (b && nat_le width most_bits) ≡ true → width ≤ 64
    go true h = leb-true width 64 h
    go false h = cc

module _ (numeric : List Bool) (session lanes width : ℕ) (word : ℕ → ℕ) where
  -- by what the code finds of the value and of the ring
  pub shown_numbers : (found : ℕ) {ring : ℕ} → as_numbers numeric session width ≡ true → found ≡ ring → ring ≡ lanes → turned width word found ≡ shown_words numeric session lanes width word
  shown_numbers found e is same = ap (turned width word) (is ∙ same) ∙ sym (cond-true (as_numbers numeric session width) (turned width word lanes) (listed width word) e)

  pub shown_wires : as_numbers numeric session width ≡ false → listed width word ≡ shown_words numeric session lanes width word
  shown_wires e = sym (cond-false (as_numbers numeric session width) (turned width word lanes) (listed width word) e)

  -- by the words of the session
  pub shown_in_numeric : is_numeric numeric session ≡ true → width ≤ 64 → shown_words numeric session lanes width word ≡ turned width word lanes
  shown_in_numeric e narrow = cond-true (as_numbers numeric session width) (turned width word lanes) (listed width word) (ap (λ b. b && nat_le width most_bits) e ∙ le-leb width 64 narrow)

  pub shown_in_others : is_numeric numeric session ≡ false → shown_words numeric session lanes width word ≡ listed width word
  shown_in_others e = cond-false (as_numbers numeric session width) (turned width word lanes) (listed width word) (ap (λ b. b && nat_le width most_bits) e)
