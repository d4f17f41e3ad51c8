-- What stands in a frame.
use Rattle.std.proofs.Common.{◌≡◌, ℕ, zero, suc, ◌+◌, ◌-◌, ◌*◌, ◌/◌, ◌%◌, ◌<◌, ◌≤◌, ◌^◌, List, [], ◌∷◌, ◌++◌, length, take, drop, refl, sym, ap, ap₂, ◌∙◌, subst, arith}
use Rattle.std.specs.Prelude.{slice_index}
use Rattle.std.specs.Int.{w16, w32, w64, byte_at, bytes_high_first, from_be_bytes, to_be_bytes}
use Rattle.std.proofs.lemmas.List.{append-nil, length-take-le, take-append-le, take_all}
use Rattle.std.proofs.Math.Nat.{add-mul, mul_assoc}
use Rattle.std.proofs.Math.Pow.{pow_mono}
use Rattle.std.proofs.lemmas.Nat.{div-mul-add, mod_below, pow-add, shl-shr, shl_whole, be_bytes_2, be_bytes_4, be_bytes_8, from_be_bytes-to_be_bytes_2, from_be_bytes-to_be_bytes_4, from_be_bytes-to_be_bytes_8}
use Rattle.byteorder.specs.Endian.{big_bytes, big_from, big_number}
use Rattle.byteorder.specs.Numbers.{big_from-cons, big_from-lt, big_from-take, big_number-reads_back, length-bytes_high_first}
use Rattle.byteorder.proofs.Bytes.{pow256}
use Rattle.plan_model.specs.declared.key.Key.{Key}
use Rattle.frame_code.specs.declared.framing.FrameForm.{FrameForm}
use Rattle.frame_code.specs.declared.framing.FrameForm.TheVariants.{Named, Short}
use Rattle.frame_code.specs.declared.framing.Framing.{Framing}
use Rattle.list_laws.specs.Lists.{listed}
use Rattle.list_laws.proofs.JoinedLists.{listed_is, every_at}
use Rattle.frame_code.specs.Frames.{hello, named_frame, short_frame, word_bytes, frame_as, frame, bytes_as, frame_bytes, FitsFrame}

-- the bytes from place i on
abbrev two : List ℕ → ℕ → List ℕ
two xs i = slice_index xs i ∷ slice_index xs (i + 1) ∷ []

abbrev four : List ℕ → ℕ → List ℕ
four xs i = slice_index xs i ∷ slice_index xs (i + 1) ∷ slice_index xs (i + 2) ∷ slice_index xs (i + 3) ∷ []

abbrev eight : List ℕ → ℕ → List ℕ
eight xs i =
    slice_index xs i ∷ slice_index xs (i + 1) ∷ slice_index xs (i + 2) ∷ slice_index xs (i + 3) ∷ slice_index xs (i + 4) ∷ slice_index xs (i + 5) ∷ slice_index xs (i + 6) ∷ slice_index xs (i + 7) ∷ []

-- the message that a named_frame names, and the word that it has
unfoldable pub key_in : List ℕ → Key
key_in xs = record { session = from_be_bytes w16 (two xs 1); slot = from_be_bytes w32 (four xs 3); share = slice_index xs 7; sender = slice_index xs 8; receiver = slice_index xs 9 }

unfoldable pub named_word : List ℕ → ℕ
named_word xs = from_be_bytes w64 (eight xs 10)

-- ---- frames that name their message

pub length-named : (key : Key) (word : ℕ) → length (named_frame key word) ≡ 18
unfolding named_frame
length-named key word = refl

pub length-hello : (p q : ℕ) (digest : List ℕ) → length digest ≡ 32 → length (hello p q digest) ≡ 38
unfolding hello
length-hello p q digest long = omega arith

-- a frame that names its message is read back, also where other bytes follow
pub named_back : (key : Key) (word : ℕ) (rest : List ℕ) → word < 2 ^ 64 → named_word (named_frame key word ++ rest) ≡ word
unfolding named_frame named_word
named_back key word rest small = from_be_bytes-to_be_bytes_8 word small

pub key_back : (key : Key) (word : ℕ) → FitsFrame key → key_in (named_frame key word) ≡ key
unfolding named_frame key_in
key_back key word fits =
    let a = from_be_bytes-to_be_bytes_2 key.session fits.session in
    let b = from_be_bytes-to_be_bytes_4 key.slot fits.slot in
    λ z. record { session = a z; slot = b z; share = key.share; sender = key.sender; receiver = key.receiver }

-- what is read from the bytes of such a frame
pub read_back : (xs : List ℕ) (key : Key) (word : ℕ) → FitsFrame key → word < 2 ^ 64 → xs ≡ named_frame key word → (key_in xs ≡ key) × (named_word xs ≡ word)
unfolding named_frame named_word
read_back xs key word fits small same =
    (ap key_in same ∙ key_back key word fits, ap named_word same ∙ from_be_bytes-to_be_bytes_8 word small)

pub one_message : (k l : Key) (v w : ℕ) → FitsFrame k → FitsFrame l → v < 2 ^ 64 → w < 2 ^ 64 → named_frame k v ≡ named_frame l w → (k ≡ l) × (v ≡ w)
one_message k l v w fk fl sv sw same =
    let first = read_back (named_frame k v) k v fk sv refl in
    let second = read_back (named_frame k v) l w fl sw same in
    (sym first.0 ∙ second.0, sym first.1 ∙ second.1)

-- eighteen bytes that begin with 1 are the frame of what is read from them
pub reads : (xs : List ℕ) → length xs ≡ 18 → ((i : ℕ) → slice_index xs i < 256) → slice_index xs 0 ≡ 1 → xs ≡ named_frame (key_in xs) (named_word xs)
unfolding named_frame key_in named_word
reads xs long bytes one =
    let a : to_be_bytes w16 (from_be_bytes w16 (two xs 1)) ≡ two xs 1 = be_bytes_2 (two xs 1) _ refl (λ i. every_at (λ x. x < 256) (two xs 1) i (omega arith) (bytes 1, (bytes 2, tt))) refl in
    let b : to_be_bytes w32 (from_be_bytes w32 (four xs 3)) ≡ four xs 3 = be_bytes_4 (four xs 3) _ refl (λ i. every_at (λ x. x < 256) (four xs 3) i (omega arith) (bytes 3, (bytes 4, (bytes 5, (bytes 6, tt))))) refl in
    let c : to_be_bytes w64 (from_be_bytes w64 (eight xs 10)) ≡ eight xs 10 = be_bytes_8 (eight xs 10) _ refl (λ i. every_at (λ x. x < 256) (eight xs 10) i (omega arith) (bytes 10, (bytes 11, (bytes 12, (bytes 13, (bytes 14, (bytes 15, (bytes 16, (bytes 17, tt))))))))) refl in
    let all : xs ≡ listed 18 (slice_index xs) = sym (listed_is xs) ∙ ap (λ n. listed n (slice_index xs)) long in
    all ∙ (λ z. one z ∷ (sym a z ++ (sym b z ++ (slice_index xs 7 ∷ slice_index xs 8 ∷ slice_index xs 9 ∷ sym c z))))

pub one_meeting : (p q r s : ℕ) (c d : List ℕ) → hello p q c ≡ hello r s d → (p ≡ r) × (q ≡ s) × (c ≡ d)
unfolding hello
one_meeting p q r s c d same =
    (ap (λ xs. slice_index xs 4) same, ap (λ xs. slice_index xs 5) same, ap (drop 6) same)

pub first_is_one : (key : Key) (word : ℕ) → slice_index (named_frame key word) 0 ≡ 1
unfolding named_frame
first_is_one key word = refl

-- ---- frames of a word alone

byte_small : (k x : ℕ) → byte_at k x < 256
byte_small zero x = mod_below x 256 (omega arith)
byte_small (suc k) x = mod_below (x / 256 ^ suc k) 256 (omega arith)

bytes_small : (n x i : ℕ) → slice_index (bytes_high_first n x) i < 256
bytes_small zero x i = omega arith
bytes_small (suc n) x zero = byte_small n x
bytes_small (suc n) x (suc i) = bytes_small n x i

-- as many bytes of one number are the same
same_number : (n : ℕ) (xs ys : List ℕ) → length xs ≡ n → length ys ≡ n → ((i : ℕ) → slice_index xs i < 256) → ((i : ℕ) → slice_index ys i < 256) → big_from 0 n xs ≡ big_from 0 n ys → xs ≡ ys
same_number zero [] [] lx ly sx sy e = refl
same_number zero [] (y ∷ ys) lx ly sx sy e = absurd (omega (arith, ly))
same_number zero (x ∷ xs) ys lx ly sx sy e = absurd (omega (arith, lx))
same_number (suc n) [] ys lx ly sx sy e = absurd (omega (arith, lx))
same_number (suc n) (x ∷ xs) [] lx ly sx sy e = absurd (omega (arith, ly))
same_number (suc n) (x ∷ xs) (y ∷ ys) lx ly sx sy e =
    let whole : x * 256 ^ n + big_from 0 n xs ≡ y * 256 ^ n + big_from 0 n ys =
    ap (λ z. x * 256 ^ n + z) (sym (big_from-cons 0 n x xs)) ∙ e ∙ ap (λ z. y * 256 ^ n + z) (big_from-cons 0 n y ys) in
    let low_x : big_from 0 n xs < 256 ^ n = big_from-lt 0 n xs (λ i. sx (suc i)) in
    let low_y : big_from 0 n ys < 256 ^ n = big_from-lt 0 n ys (λ i. sy (suc i)) in
    let head : x ≡ y = sym (div-mul-add x (256 ^ n) (big_from 0 n xs) low_x) ∙ ap (λ z. z / 256 ^ n) whole ∙ div-mul-add y (256 ^ n) (big_from 0 n ys) low_y in
    let top : x * 256 ^ n ≡ y * 256 ^ n = ap (λ z. z * 256 ^ n) head in
    let tail : big_from 0 n xs ≡ big_from 0 n ys = omega (arith, whole, top) in
    ap₂ (λ a b. a ∷ b) head (same_number n xs ys (omega (arith, lx)) (omega (arith, ly)) (λ i. sx (suc i)) (λ i. sy (suc i)) tail)

number_back : (n v : ℕ) → v < 256 ^ n → big_from 0 n (bytes_high_first n v) ≡ v
number_back n v fits = ap (big_from 0 n) (sym (append-nil (bytes_high_first n v))) ∙ big_number-reads_back n v [] fits

-- bytes are those of the number that is read from them
pub bytes_of_number : (n : ℕ) (xs : List ℕ) → length xs ≡ n → ((i : ℕ) → slice_index xs i < 256) → bytes_high_first n (big_from 0 n xs) ≡ xs
bytes_of_number n xs long small =
    let v : ℕ = big_from 0 n xs in
    same_number n (bytes_high_first n v) xs (length-bytes_high_first n v) long (bytes_small n v) small (number_back n v (big_from-lt 0 n xs small))

-- a word of so many bits fits its bytes
pub word_fits : (bits word : ℕ) → word < 2 ^ bits → word < 256 ^ word_bytes bits
word_fits bits word small =
    let more : 2 ^ bits ≤ 2 ^ (8 * word_bytes bits) = pow_mono {i = bits} {j = 8 * word_bytes bits} (omega arith) in
    let same : 256 ^ word_bytes bits ≡ 2 ^ (8 * word_bytes bits) = pow256 (word_bytes bits) in
    omega (arith, more, same, small)

small_take : (n : ℕ) (xs : List ℕ) → ((i : ℕ) → slice_index xs i < 256) → (i : ℕ) → slice_index (take n xs) i < 256
small_take zero xs small i = omega arith
small_take (suc n) [] small i = omega arith
small_take (suc n) (x ∷ xs) small zero = small 0
small_take (suc n) (x ∷ xs) small (suc i) = small_take n xs (λ j. small (suc j)) i

-- ---- the first of eight bytes

-- the number in some bytes, by that in the first n and that in the m behind them
parts : (i n m k : ℕ) (xs : List ℕ) → k ≡ n + m → big_from i k xs ≡ big_from i n xs * 256 ^ m + big_from (i + n) m xs
parts i zero m k xs e =
    let all : big_from i k xs ≡ big_from (i + 0) m xs = ap₂ (λ j l. big_from j l xs) (omega arith) (omega (arith, e)) in
    omega (arith, all)
parts i (suc n) m zero xs e = absurd (omega (arith, e))
parts i (suc n) m (suc k) xs e =
    let rest = parts (suc i) n m k xs (omega (arith, e)) in
    let place : big_from (suc i + n) m xs ≡ big_from (i + suc n) m xs = ap (λ j. big_from j m xs) (omega arith) in
    let power : 256 ^ k ≡ 256 ^ n * 256 ^ m = ap (λ j. 256 ^ j) (omega (arith, e)) ∙ pow-add 256 n m in
    let high : slice_index xs i * 256 ^ k ≡ slice_index xs i * 256 ^ n * 256 ^ m = ap (λ z. slice_index xs i * z) power ∙ sym (mul_assoc (slice_index xs i) (256 ^ n) (256 ^ m)) in
    let sum = add-mul (slice_index xs i * 256 ^ n) (big_from (suc i) n xs) (256 ^ m) in
    omega (arith, rest, place, high, sum)

-- the bits behind n of eight bytes
bits_behind : (n : ℕ) → n ≤ 8 → 2 ^ (64 - 8 * n) ≡ 256 ^ (8 - n)
bits_behind n few = ap (λ k. 2 ^ k) (omega arith) ∙ sym (pow256 (8 - n))

-- the number in the first n of eight bytes
first_number : (n : ℕ) (xs : List ℕ) → n ≤ 8 → ((i : ℕ) → slice_index xs i < 256) → big_number 8 xs / 2 ^ (64 - 8 * n) ≡ big_number n xs
first_number n xs few small =
    ap₂ (λ a b. a / b) (parts 0 n (8 - n) 8 xs (omega arith)) (bits_behind n few)
    ∙ div-mul-add (big_number n xs) (256 ^ (8 - n)) (big_from (0 + n) (8 - n) xs) (big_from-lt (0 + n) (8 - n) xs small)

-- as it is read by a shift
pub shifted : (bits n whole : ℕ) (xs : List ℕ) → bits ≤ 64 → n ≡ word_bytes bits → whole ≡ big_number 8 xs → ((i : ℕ) → slice_index xs i < 256) → whole / 2 ^ (64 - 8 * n) ≡ big_number n xs
shifted bits n whole xs few count is small = ap (λ v. v / 2 ^ (64 - 8 * n)) is ∙ first_number n xs (omega (arith, count, few)) small

-- a word of n bytes goes before the rest of eight
high_word : (n word : ℕ) → n ≤ 8 → word < 256 ^ n → word * 2 ^ (64 - 8 * n) % 2 ^ 64 ≡ word * 2 ^ (64 - 8 * n)
high_word n word few fits = shl_whole word (8 * n) (64 - 8 * n) 64 (subst (λ z. word < z) (pow256 n) fits) (omega arith)

-- the first bytes of a place that such a word was written to
pub written : (bits n word value : ℕ) (bytes rest : List ℕ) → n ≤ 8 → n ≡ word_bytes bits → word < 2 ^ bits → value ≡ word * 2 ^ (64 - 8 * n) % 2 ^ 64 → bytes ≡ big_bytes 8 value ++ rest
    → take n bytes ≡ short_frame bits word
unfolding short_frame
written bits n word value bytes rest few count small is are =
    let eight : List ℕ = big_bytes 8 value in
    let long : length eight ≡ 8 = length-bytes_high_first 8 value in
    let fits : word < 256 ^ n = subst (λ k. word < 256 ^ k) (sym count) (word_fits bits word small) in
    let whole : value ≡ word * 2 ^ (64 - 8 * n) = is ∙ high_word n word few fits in
    let below : value < 256 ^ 8 = omega (arith, is) in
    let number : big_number n (take n eight) ≡ word =
    big_from-take 0 n n eight (omega arith) ∙ sym (first_number n eight few (bytes_small 8 value))
    ∙ ap (λ v. v / 2 ^ (64 - 8 * n)) (number_back 8 value below ∙ whole) ∙ shl-shr word (64 - 8 * n) in
    ap (take n) are ∙ take-append-le n eight rest (omega (arith, long, few))
    ∙ sym (bytes_of_number n (take n eight) (length-take-le n eight (omega (arith, long, few))) (small_take n eight (bytes_small 8 value)))
    ∙ ap₂ (λ k v. big_bytes k v) count number

-- the number that is read there
pub read_there : (bits n value : ℕ) (bytes : List ℕ) → length bytes ≡ 18 → ((i : ℕ) → slice_index bytes i < 256) → n ≤ 18 → n ≡ word_bytes bits → value ≡ big_number n bytes → take n bytes ≡ short_frame bits value
unfolding short_frame
read_there bits n value bytes long small few count is =
    let first : List ℕ = take n bytes in
    let same : big_from 0 n (take n bytes) ≡ big_from 0 n bytes = big_from-take 0 n n bytes (omega arith) in
    sym (bytes_of_number n (take n bytes) (length-take-le n bytes (omega (arith, long, few))) (small_take n bytes small))
    ∙ ap (λ v. big_bytes n v) (same ∙ sym is)
    ∙ ap (λ k. big_bytes k value) count

-- and it is the word of which this is the frame
pub read_word : (bits n value word : ℕ) (bytes : List ℕ) → n ≡ word_bytes bits → value ≡ big_number n bytes → word < 2 ^ bits → take n bytes ≡ short_frame bits word → value ≡ word
unfolding short_frame
read_word bits n value word bytes count is small same =
    is ∙ sym (big_from-take 0 n n bytes (omega arith)) ∙ ap (big_from 0 n) (same ∙ ap (λ k. big_bytes k word) (sym count))
    ∙ number_back n word (subst (λ k. word < 256 ^ k) (sym count) (word_fits bits word small))

-- all bytes are shown where as many are counted
pub all_shown : (n : ℕ) (bytes : List ℕ) → length bytes ≡ 18 → n ≡ 18 → take n bytes ≡ bytes
all_shown n bytes long many = take_all n bytes (omega (arith, long, many))

-- ---- frames of either form

-- a word of a ring of at most 64 bits fits 64
pub small_64 : (bits word : ℕ) → bits ≤ 64 → word < 2 ^ bits → word < 2 ^ 64
small_64 bits word few small = let more : 2 ^ bits ≤ 2 ^ 64 = pow_mono {i = bits} {j = 64} (omega arith) in omega arith

-- the word that these bytes begin with
abbrev word_as : FrameForm → ℕ → List ℕ → ℕ
word_as Named bits xs = named_word xs
word_as Short bits xs = big_number (word_bytes bits) xs

unfoldable pub word_in : Framing → List ℕ → ℕ
word_in f xs = word_as f.form f.bits xs

pub length-frame : (f : Framing) (key : Key) (word : ℕ) → length (frame f key word) ≡ frame_bytes f
unfolding frame frame_bytes short_frame
length-frame f key word = by_form f.form
  where
    by_form : (form : FrameForm) → length (frame_as form f.bits key word) ≡ bytes_as form f.bits
    by_form Named = length-named key word
    by_form Short = length-bytes_high_first (word_bytes f.bits) word

pub some_bytes : (f : Framing) → 0 < frame_bytes f
unfolding frame_bytes
some_bytes f = by_form f.form
  where
    by_form : (form : FrameForm) → 0 < bytes_as form f.bits
    by_form Named = omega arith
    by_form Short = omega arith

-- a frame is read back, also where other bytes follow
pub word_back : (f : Framing) (key : Key) (word : ℕ) (rest : List ℕ) → f.bits ≤ 64 → word < 2 ^ f.bits → word_in f (frame f key word ++ rest) ≡ word
unfolding frame word_in short_frame
word_back f key word rest few small = by_form f.form
  where
    by_form : (form : FrameForm) → word_as form f.bits (frame_as form f.bits key word ++ rest) ≡ word
    by_form Named = named_back key word rest (small_64 f.bits word few small)
    by_form Short = big_number-reads_back (word_bytes f.bits) word rest (word_fits f.bits word small)

-- different words have different frames
pub one_word : (f : Framing) (key : Key) (v w : ℕ) → f.bits ≤ 64 → v < 2 ^ f.bits → w < 2 ^ f.bits → frame f key v ≡ frame f key w → v ≡ w
one_word f key v w few sv sw same =
    sym (word_back f key v [] few sv) ∙ ap (λ z. word_in f (z ++ [])) same ∙ word_back f key w [] few sw
