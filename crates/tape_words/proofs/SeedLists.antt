-- Lists of the words of a stream.
use Rattle.std.proofs.Common.{arith, nat_le, ◌%◌, ◌*◌, ◌≡◌, ℕ, ◌+◌, ◌-◌, ◌^◌, ◌<◌, ◌≤◌, ◌++◌, All, List, take, ap, ap₂, subst, sym, ◌∙◌}
use Rattle.std.proofs.Math.Nat.{mod-lt, mod-eq_of_lt}
use Rattle.std.proofs.Math.Seq.{take-append_seam}
use Rattle.std.proofs.lemmas.Bool.{cond_both}
use Rattle.std.proofs.lemmas.Nat.{pow_pos}
use Rattle.list_laws.specs.Lists.{listed}
use Rattle.list_laws.proofs.JoinedLists.{length-listed, listed-add, listed_at, listed_eq}
use Rattle.tape_words.specs.Seeds.{short_word, long_word, stream_word}

-- the first k of n values
pub take-listed : {A : Type 0} (k n : ℕ) (f : ℕ → A) → k ≤ n → take k (listed n f) ≡ listed k f
take-listed {A} k n f l =
    let whole : n ≡ k + (n - k) = omega arith in
    ap (λ z. take k (listed {A = A} z f)) whole
    ∙ ap (take k) (listed-add k (n - k) f)
    ∙ ap (λ z. take z (listed k f ++ listed (n - k) (λ i. f (k + i)))) (sym (length-listed k f))
    ∙ take-append_seam (listed k f) (listed (n - k) (λ i. f (k + i)))

-- a values from place m on, and b more
pub listed-joined : (f : ℕ → ℕ) (m a b : ℕ) (front back : List ℕ) → front ≡ listed a (λ i. f (m + i)) → back ≡ listed b (λ i. f (m + a + i))
    → front ++ back ≡ listed (a + b) (λ i. f (m + i))
listed-joined f m a b front back is then =
    ap₂ (λ x y. x ++ y) is (then ∙ listed_eq b _ (λ i. f (m + (a + i))) (λ i l. let same : m + a + i ≡ m + (a + i) = omega arith in ap f same))
    ∙ sym (listed-add a b (λ i. f (m + i)))

-- a word is in the ring
word-inside : (bits : ℕ) (key : List ℕ) (stream i : ℕ) → stream_word bits key stream i < 2 ^ bits
word-inside bits key stream i =
    cond_both (nat_le bits 32) (short_word bits key stream i) (long_word bits key stream (2 * i)) (λ word. word < 2 ^ bits)
    (λ e. mod-lt _ (pow_pos bits)) (λ e. mod-lt _ (pow_pos bits))

-- each word is in the ring
pub stream_words-inside : (n bits : ℕ) (key : List ℕ) (stream : ℕ) → All (λ word. word < 2 ^ bits) (listed n (stream_word bits key stream))
stream_words-inside n bits key stream k d l =
    let f = stream_word bits key stream in
    let place : k < n = omega (arith, l, length-listed n f) in
    subst (λ word. word < 2 ^ bits) (sym (listed_at n f k d place)) (word-inside bits key stream k)

-- the place behind so many buffers
pub buffer_place : (buffers a b : ℕ) → buffers < 2 ^ 32 → a ≡ buffers → b ≡ 64 → a * b % 2 ^ 68 ≡ 64 * buffers
buffer_place buffers a b few ea eb =
    let same : a * b ≡ 64 * buffers = ap₂ (λ x y. x * y) ea eb ∙ omega arith in
    ap (λ z. z % 2 ^ 68) same ∙ mod-eq_of_lt (omega (arith, few))
