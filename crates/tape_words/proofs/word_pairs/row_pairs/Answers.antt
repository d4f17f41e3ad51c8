use Rattle.std.proofs.Common.{◌≡◌, ℕ, ◌+◌, ◌∷◌, List, ap, ap₂, refl, ◌∙◌, arith}
use Rattle.rand_chacha.specs.ChaCha.{ChaCha}
use Rattle.tape_words.specs.Seeds.{long_word}
use Rattle.tape_words.proofs.word_pairs.row_pairs.Goals as goal

-- the generator, so many words on
abbrev moved : ChaCha → ℕ → ChaCha
moved g m = record g { word_pos = g.word_pos + m }

-- two words further on
further : (g old new : ChaCha) (m : ℕ) → old ≡ moved g m → new ≡ moved old 2 → new ≡ moved g (m + 2)
further g old new m e f =
    let place : g.word_pos + m + 2 ≡ g.word_pos + (m + 2) = omega arith in
    f ∙ ap (λ (z : ChaCha). moved z 2) e ∙ ap (λ z. record g { word_pos = z }) place

-- the word that was read there
read : (bits word : ℕ) (g now : ChaCha) (m : ℕ) → now ≡ moved g m → word ≡ long_word bits now.key now.stream now.word_pos
    → word ≡ long_word bits g.key g.stream (g.word_pos + m)
read bits word g now m e is = is ∙ ap (λ (z : ChaCha). long_word bits z.key z.stream z.word_pos) e

-- a word before a list
join : {x y : ℕ} {xs ys : List ℕ} → x ≡ y → xs ≡ ys → x ∷ xs ≡ y ∷ ys
join e f = ap₂ (λ x xs. x ∷ xs) e f

pub returns-clause-words : goal.returns-clause-words
returns-clause-words c =
    let bits = c.args.ring in
    let g = c.args.generator.now in
    let none : g.word_pos ≡ g.word_pos + 0 = omega arith in
    let s0 : g ≡ moved g 0 = ap (λ z. record g { word_pos = z }) none in
    let s1 = further g _ _ 0 s0 c.next_pair.ensures.after in
    let s2 = further g _ _ 2 s1 c.next_pair-2.ensures.after in
    let s3 = further g _ _ 4 s2 c.next_pair-3.ensures.after in
    let s4 = further g _ _ 6 s3 c.next_pair-4.ensures.after in
    let s5 = further g _ _ 8 s4 c.next_pair-5.ensures.after in
    let s6 = further g _ _ 10 s5 c.next_pair-6.ensures.after in
    let s7 = further g _ _ 12 s6 c.next_pair-7.ensures.after in
    join (read bits _ g _ 0 s0 c.next_pair.ensures.word)
    (join (read bits _ g _ 2 s1 c.next_pair-2.ensures.word)
    (join (read bits _ g _ 4 s2 c.next_pair-3.ensures.word)
    (join (read bits _ g _ 6 s3 c.next_pair-4.ensures.word)
    (join (read bits _ g _ 8 s4 c.next_pair-5.ensures.word)
    (join (read bits _ g _ 10 s5 c.next_pair-6.ensures.word)
    (join (read bits _ g _ 12 s6 c.next_pair-7.ensures.word)
    (join (read bits _ g _ 14 (further g _ _ 12 s6 c.next_pair-7.ensures.after) c.next_pair-8.ensures.word) refl)))))))
