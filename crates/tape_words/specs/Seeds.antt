-- Words of a seed.
use Rattle.std.specs.Prelude.{ℕ, ◌+◌, ◌*◌, ◌%◌, ◌^◌, nat_le, if◌then◌else◌, List}
use Rattle.rand_chacha.specs.ChaCha.{word_at, key_of}

-- a word of at most 32 bits: the one at a place of a stream of ChaCha20 (ten double rounds)
abbrev pub short_word : ℕ → List ℕ → ℕ → ℕ → ℕ
short_word bits key stream place = word_at 10 key stream place % 2 ^ bits

-- a longer word: its low half is the word at a place of the stream, and its high half the next word
abbrev pub long_word : ℕ → List ℕ → ℕ → ℕ → ℕ
long_word bits key stream place = (word_at 10 key stream place + 2 ^ 32 * word_at 10 key stream (place + 1)) % 2 ^ bits

-- word i of a stream, in a ring of `bits` bits: above 32 bits each takes two words of the stream
abbrev pub stream_word : ℕ → List ℕ → ℕ → ℕ → ℕ
stream_word bits key stream i = if nat_le bits 32 then short_word bits key stream i else long_word bits key stream (2 * i)

-- word i of the stream under a seed
abbrev pub seed_word : ℕ → List ℕ → ℕ → ℕ → ℕ
seed_word bits seed = stream_word bits (key_of seed)
