-- Numbers as words of wires. A number's bits go to as many wires, least first, and the word of a wire has a bit of each
-- of the numbers that go side by side, one in each lane. So numbers and words are the rows and the columns of one table
-- of bits: reading and writing are the same step, which turns the table.
use Rattle.std.specs.Prelude.{◌≡◌, ℕ, ◌+◌, ◌*◌, ◌^◌, ◌<◌, Bool, false, List, length, slice_index, slice_index_or, nat_le, ◌&&◌, if◌then◌else◌}
use Rattle.std.specs.Int.{bit_at}
use Rattle.list_laws.specs.Lists.{total, joined, listed}

-- ---- tables of bits

-- the number that has bit `place` of each of so many rows, that of the first lowest
abbrev pub column : ℕ → (ℕ → ℕ) → ℕ → ℕ
column rows row place = total rows (λ i. bit_at (row i) place * 2 ^ i)

-- the first so many columns
abbrev pub turned : ℕ → (ℕ → ℕ) → ℕ → List ℕ
turned rows row columns = listed columns (column rows row)

-- ---- reading

-- the words of the wires of values of these widths, where there is a number for each lane of each value
abbrev pub wires_of : ℕ → List ℕ → List ℕ → List ℕ
wires_of lanes widths numbers =
    joined (length widths)
    (λ value. turned lanes (λ lane. slice_index numbers (value * lanes + lane)) (slice_index widths value))

-- ---- writing

-- the most bits of a number
abbrev pub most_bits : ℕ
most_bits = 64

-- the words of this session are numbers
abbrev pub is_numeric : List Bool → ℕ → Bool
is_numeric numeric session = slice_index_or numeric session false

-- a value of so many wires is written as numbers: the words of its session are, and a number may have so many bits
abbrev pub as_numbers : List Bool → ℕ → ℕ → Bool
as_numbers numeric session width = is_numeric numeric session && nat_le width most_bits

-- what is written of a value of so many wires with these words: the number in each lane, or the word of each wire
abbrev pub shown_words : List Bool → ℕ → ℕ → ℕ → (ℕ → ℕ) → List ℕ
shown_words numeric session lanes width word =
    if as_numbers numeric session width then turned width word lanes else listed width word

-- ---- laws

-- What is read is what is written: the number in each lane, where it has no more bits than the value has wires.
abbrev pub NumbersComeBack : Type 0
NumbersComeBack =
    (lanes width : ℕ) (number : ℕ → ℕ) (lane : ℕ) → lane < lanes → number lane < 2 ^ width
    → column width (column lanes number) lane ≡ number lane

-- And what is written is what is read: the word of each wire.
abbrev pub WordsComeBack : Type 0
WordsComeBack =
    (lanes width : ℕ) (word : ℕ → ℕ) (wire : ℕ) → wire < width → word wire < 2 ^ lanes
    → column lanes (column width word) wire ≡ word wire
