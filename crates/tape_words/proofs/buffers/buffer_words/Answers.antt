use Rattle.std.proofs.Common.{arith, ◌≡◌, ℕ, ◌+◌, ◌*◌, List, ap, refl, ◌∙◌}
use Rattle.list_laws.specs.Lists.{listed}
use Rattle.rand_chacha.specs.ChaCha.{ChaCha}
use Rattle.tape_words.specs.Seeds.{short_word}
use Rattle.tape_words.proofs.SeedLists.{listed-joined, buffer_place}
use Rattle.tape_words.proofs.buffers.buffer_words.Goals as goal

-- the generator, moved on by eight words
abbrev moved : ChaCha → ChaCha
moved g = record g { word_pos = g.word_pos + 8 }

-- the generator at a place
abbrev placed : ChaCha → ℕ → ChaCha
placed g place = record g { word_pos = place }

-- eight words of so many bits from a generator
abbrev row_of : ℕ → ChaCha → List ℕ
row_of bits g = listed 8 (λ i. short_word bits g.key g.stream (g.word_pos + i))

-- where it stands before the first row
begun : (c : goal.After-row_words-8) → c.set_word_pos.new.self ≡ placed c.args.generator.now (64 * c.args.buffers)
begun c = c.set_word_pos.ensures ∙ ap (placed c.args.generator.now) (buffer_place c.args.buffers _ _ c.ranges.buffers.fits c.from.ensures c.from-2.ensures)

pub returns-clause-words : goal.returns-clause-words
returns-clause-words c =
    let bits = c.args.ring in
    let g = c.args.generator.now in
    let m = 64 * c.args.buffers in
    let s1 = begun c in
    let s2 = c.row_words.ensures.after ∙ ap moved s1 in
    let s3 = c.row_words-2.ensures.after ∙ ap moved s2 in
    let s4 = c.row_words-3.ensures.after ∙ ap moved s3 in
    let s5 = c.row_words-4.ensures.after ∙ ap moved s4 in
    let s6 = c.row_words-5.ensures.after ∙ ap moved s5 in
    let s7 = c.row_words-6.ensures.after ∙ ap moved s6 in
    let s8 = c.row_words-7.ensures.after ∙ ap moved s7 in
    let f = short_word bits g.key g.stream in
    let joined = listed-joined f in
    joined m 8 56 _ _ (c.row_words.ensures.words ∙ ap (row_of bits) s1)
    (joined (m + 8) 8 48 _ _ (c.row_words-2.ensures.words ∙ ap (row_of bits) s2)
    (joined (m + 8 + 8) 8 40 _ _ (c.row_words-3.ensures.words ∙ ap (row_of bits) s3)
    (joined (m + 8 + 8 + 8) 8 32 _ _ (c.row_words-4.ensures.words ∙ ap (row_of bits) s4)
    (joined (m + 8 + 8 + 8 + 8) 8 24 _ _ (c.row_words-5.ensures.words ∙ ap (row_of bits) s5)
    (joined (m + 8 + 8 + 8 + 8 + 8) 8 16 _ _ (c.row_words-6.ensures.words ∙ ap (row_of bits) s6)
    (joined (m + 8 + 8 + 8 + 8 + 8 + 8) 8 8 _ _ (c.row_words-7.ensures.words ∙ ap (row_of bits) s7)
    (joined (m + 8 + 8 + 8 + 8 + 8 + 8 + 8) 8 0 _ _ (c.row_words-8.ensures.words ∙ ap (row_of bits) s8) refl)))))))

pub returns-clause-after : goal.returns-clause-after
returns-clause-after c =
    let m = 64 * c.args.buffers in
    let s1 = begun c in
    let s2 = c.row_words.ensures.after ∙ ap moved s1 in
    let s3 = c.row_words-2.ensures.after ∙ ap moved s2 in
    let s4 = c.row_words-3.ensures.after ∙ ap moved s3 in
    let s5 = c.row_words-4.ensures.after ∙ ap moved s4 in
    let s6 = c.row_words-5.ensures.after ∙ ap moved s5 in
    let s7 = c.row_words-6.ensures.after ∙ ap moved s6 in
    let s8 = c.row_words-7.ensures.after ∙ ap moved s7 in
    let s9 = c.row_words-8.ensures.after ∙ ap moved s8 in
    let end : m + 8 + 8 + 8 + 8 + 8 + 8 + 8 + 8 ≡ m + 64 = omega arith in
    s9 ∙ ap (placed c.args.generator.now) end
