use Rattle.std.proofs.Common.{arith, ◌≡◌, ℕ, ◌+◌, ◌*◌, ◌++◌, List, ap, ap₂, refl, ◌∙◌}
use Rattle.list_laws.specs.Lists.{listed}
use Rattle.list_laws.proofs.JoinedLists.{listed_eq}
use Rattle.rand_chacha.specs.ChaCha.{ChaCha}
use Rattle.tape_words.specs.Seeds.{long_word}
use Rattle.tape_words.proofs.SeedLists.{buffer_place}
use Rattle.tape_words.proofs.word_pairs.buffer_pairs.Goals as goal

-- the generator at a place
abbrev placed : ChaCha → ℕ → ChaCha
placed g place = record g { word_pos = place }

-- where it stands before the first row
begun : (c : goal.After-row_pairs-4) → c.set_word_pos.new.self ≡ placed c.args.generator.now (64 * c.args.buffers)
begun c = c.set_word_pos.ensures ∙ ap (placed c.args.generator.now) (buffer_place c.args.buffers _ _ c.ranges.buffers.fits c.from.ensures c.from-2.ensures)

-- 16 words further on
further : (g old new : ChaCha) (base m : ℕ) → old ≡ placed g (base + m) → new ≡ placed old (old.word_pos + 16) → new ≡ placed g (base + (m + 16))
further g old new base m e f =
    let place : base + m + 16 ≡ base + (m + 16) = omega arith in
    f ∙ ap (λ (z : ChaCha). placed z (z.word_pos + 16)) e ∙ ap (placed g) place

-- the row that was read there
read : (bits : ℕ) (row : List ℕ) (g now : ChaCha) (base m : ℕ) → now ≡ placed g (base + m)
    → row ≡ listed 8 (λ i. long_word bits now.key now.stream (now.word_pos + 2 * i))
    → row ≡ listed 8 (λ i. long_word bits g.key g.stream (base + (m + 2 * i)))
read bits row g now base m e is =
    let word = long_word bits g.key g.stream in
    is ∙ ap (λ (z : ChaCha). listed 8 (λ i. long_word bits z.key z.stream (z.word_pos + 2 * i))) e
    ∙ listed_eq 8 (λ i. word (base + m + 2 * i)) (λ i. word (base + (m + 2 * i))) (λ i l. let same : base + m + 2 * i ≡ base + (m + 2 * i) = omega arith in ap word same)

-- one row before others
join : {row other rows others : List ℕ} → row ≡ other → rows ≡ others → row ++ rows ≡ other ++ others
join e f = ap₂ (λ x y. x ++ y) e f

module _ (c : goal.After-row_pairs-4) where
  abbrev base : ℕ
  base = 64 * c.args.buffers

  abbrev g : ChaCha
  g = c.args.generator.now

  s0 : c.set_word_pos.new.self ≡ placed g (base + 0)
  s0 = begun c ∙ ap (placed g) (let none : base ≡ base + 0 = omega arith in none)

  s1 : c.row_pairs.new.generator ≡ placed g (base + 16)
  s1 = further g _ _ base 0 s0 c.row_pairs.ensures.after

  s2 : c.row_pairs-2.new.generator ≡ placed g (base + 32)
  s2 = further g _ _ base 16 s1 c.row_pairs-2.ensures.after

  s3 : c.row_pairs-3.new.generator ≡ placed g (base + 48)
  s3 = further g _ _ base 32 s2 c.row_pairs-3.ensures.after

pub returns-clause-words : goal.returns-clause-words
returns-clause-words c =
    let bits = c.args.ring in
    join (read bits _ (g c) _ (base c) 0 (s0 c) c.row_pairs.ensures.words)
    (join (read bits _ (g c) _ (base c) 16 (s1 c) c.row_pairs-2.ensures.words)
    (join (read bits _ (g c) _ (base c) 32 (s2 c) c.row_pairs-3.ensures.words)
    (join (read bits _ (g c) _ (base c) 48 (s3 c) c.row_pairs-4.ensures.words) refl)))

pub returns-clause-after : goal.returns-clause-after
returns-clause-after c = further (g c) _ _ (base c) 48 (s3 c) c.row_pairs-4.ensures.after
