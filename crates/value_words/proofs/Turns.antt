-- Tables of bits that are turned.
use Rattle.std.proofs.Common.{◌≡◌, ℕ, zero, suc, ◌+◌, ◌-◌, ◌*◌, ◌^◌, ◌<◌, ◌≤◌, List, length, inl, inr, refl, sym, ◌∙◌, ap, subst, arith}
use Rattle.std.specs.Prelude.{slice_index, sum}
use Rattle.std.specs.Int.{bit_at}
use Rattle.std.proofs.Math.Nat.{pow-suc}
use Rattle.std.proofs.lemmas.Bool.{cases_lt}
use Rattle.std.proofs.lemmas.Nat.{pow_pos}
use Rattle.std.proofs.lemmas.Nat.Bits.{bit_at-lt, bit_at_cat_low, bit_at_cat_high, same_from_bits_below}
use Rattle.list_laws.specs.Lists.{total}
use Rattle.list_laws.proofs.JoinedLists.{length-joined, length-listed, joined_at, listed_at, every_joined, every_listed, every_at}
use Rattle.list_laws.proofs.Totals.{total_eq, total_items}
use Rattle.value_words.specs.Turned.{column, turned, wires_of}

bit_place : (bit power : ℕ) → bit < 2 → bit * power ≤ power
bit_place zero power l = omega arith
bit_place (suc zero) power l = omega arith
bit_place (suc (suc b)) power l = absurd (omega arith)

-- a column has as many bits as there are rows
pub column_below : (rows : ℕ) (row : ℕ → ℕ) (place : ℕ) → column rows row place < 2 ^ rows
column_below zero row place = omega arith
column_below (suc n) row place = omega (arith, column_below n row place, bit_place (bit_at (row n) place) (2 ^ n) (bit_at-lt (row n) place), pow-suc 2 n)

-- bit i of a column is that of row i
pub column_bit : (rows : ℕ) (row : ℕ → ℕ) (place i : ℕ) → i < rows → bit_at (column rows row place) i ≡ bit_at (row i) place
column_bit zero row place i l = absurd (omega arith)
column_bit (suc n) row place i l =
    let b = bit_at (row n) place in
    let turn : column n row place + b * 2 ^ n ≡ b * 2 ^ n + column n row place = omega arith in
    elim (cases_lt i n) [
      | inl lower ↦ ap (λ x. bit_at x i) turn ∙ bit_at_cat_low b n (column n row place) i lower ∙ column_bit n row place i lower
      | inr not_lower ↦
          let last : i ≡ n = omega (arith, l, not_lower) in
          let none : i - n ≡ 0 = omega (arith, last) in
          ap (λ x. bit_at x i) turn ∙ bit_at_cat_high b n (column n row place) i (column_below n row place) not_lower ∙ ap (bit_at b) none ∙ lowest b (bit_at-lt (row n) place) ∙ ap (λ k. bit_at (row k) place) (sym last)
    ]
  where
    lowest : (b : ℕ) → b < 2 → bit_at b 0 ≡ b
    lowest zero l = refl
    lowest (suc zero) l = refl
    lowest (suc (suc b)) l = absurd (omega arith)

-- turned twice, a table is as it was
pub turned_twice : (rows columns : ℕ) (row : ℕ → ℕ) (i : ℕ) → i < rows → row i < 2 ^ columns → column columns (column rows row) i ≡ row i
turned_twice rows columns row i l fits = same_from_bits_below columns (column columns (column rows row) i) (row i) (column_below columns (column rows row) i) fits
    (λ place within. column_bit columns (column rows row) i place within ∙ column_bit rows row place i l)

-- columns of tables with the same rows are the same
pub column_eq : (rows : ℕ) (row other : ℕ → ℕ) (place : ℕ) → ((i : ℕ) → i < rows → row i ≡ other i) → column rows row place ≡ column rows other place
column_eq rows row other place same = total_eq rows (λ i. bit_at (row i) place * 2 ^ i) (λ i. bit_at (other i) place * 2 ^ i) (λ i l. ap (λ x. bit_at x place * 2 ^ i) (same i l))

module _ (lanes : ℕ) (widths numbers : List ℕ) where
  -- the number of a value in a lane
  abbrev number : ℕ → ℕ → ℕ
  number value lane = slice_index numbers (value * lanes + lane)

  abbrev words : ℕ → List ℕ
  words value = turned lanes (number value) (slice_index widths value)

  words_long : (value : ℕ) → length (words value) ≡ slice_index widths value
  words_long value = length-listed (slice_index widths value) (column lanes (number value))

  -- there are as many words as wires
  pub wires_long : length (wires_of lanes widths numbers) ≡ sum widths
  wires_long = length-joined (length widths) words ∙ total_eq (length widths) _ (slice_index widths) (λ value l. words_long value) ∙ total_items widths

  -- and each has a bit for each lane
  pub wires_below : (k : ℕ) → slice_index (wires_of lanes widths numbers) k < 2 ^ lanes
  wires_below k =
      every_at (λ word. word < 2 ^ lanes) (wires_of lanes widths numbers) k (pow_pos lanes)
      (every_joined (λ word. word < 2 ^ lanes) (length widths) words (λ value l. every_listed (λ word. word < 2 ^ lanes) (slice_index widths value) (column lanes (number value))
      (column_below lanes (number value))))

  -- where the words of a value's wires stand
  pub wire_at : (value wire : ℕ) → value < length widths → wire < slice_index widths value → slice_index (wires_of lanes widths numbers) (total value (slice_index widths) + wire) ≡ column lanes (number value) wire
  wire_at value wire l within =
      ap (λ place. slice_index (wires_of lanes widths numbers) (place + wire)) (total_eq value (slice_index widths) (λ v. length (words v)) (λ v m. sym (words_long v)))
      ∙ joined_at (length widths) value words wire l (subst (λ n. wire < n) (sym (words_long value)) within)
      ∙ listed_at (slice_index widths value) (column lanes (number value)) wire 0 within

  -- a number is that which its value's wires have in its lane
  pub number_read : (value lane : ℕ) → value < length widths → lane < lanes → number value lane < 2 ^ slice_index widths value
      → column (slice_index widths value) (λ wire. slice_index (wires_of lanes widths numbers) (total value (slice_index widths) + wire)) lane ≡ number value lane
  number_read value lane l within fits =
      column_eq (slice_index widths value) _ (column lanes (number value)) lane (λ wire m. wire_at value wire l m)
      ∙ turned_twice lanes (slice_index widths value) (number value) lane within fits
