use Rattle.std.proofs.Common.{arith, ◌≡◌, ℕ, ◌+◌, ◌*◌, ◌≤◌, ◌++◌, List, ap, ap₂, subst, sym, take, ◌∙◌}
use Rattle.std.proofs.lemmas.Grind.{div_ceil_times}
use Rattle.list_laws.specs.Lists.{listed}
use Rattle.list_laws.proofs.JoinedLists.{listed-add, listed_eq}
use Rattle.rand_chacha.specs.ChaCha.{ChaCha}
use Rattle.tape_words.specs.Seeds.{long_word}
use Rattle.tape_words.proofs.SeedLists.{take-listed}
use Rattle.tape_words.proofs.word_pairs.long_words.Goals as goal

-- 32 pairs behind b buffers
behind : (f : ℕ → ℕ) (b : ℕ) → listed 32 (λ i. f (64 * b + 2 * i)) ≡ listed 32 (λ i. f (2 * (32 * b + i)))
behind f b = listed_eq 32 (λ i. f (64 * b + 2 * i)) (λ i. f (2 * (32 * b + i))) (λ i l. let same : 64 * b + 2 * i ≡ 2 * (32 * b + i) = omega arith in ap f same)

pub loop-buffer-preserved : goal.loop-buffer-preserved
loop-buffer-preserved c =
    let b = c.loop-buffer.buffer in
    let start = c.args.generator.now in
    let f = long_word c.args.ring start.key start.stream in
    let more : 64 * b + 64 ≡ 64 * (b + 1) = omega arith in
    let many : 32 * b + 32 ≡ 32 * (b + 1) = omega arith in
    let next : List ℕ → ChaCha → Type 0 = λ row g. row ≡ listed 32 (λ i. long_word c.args.ring g.key g.stream (64 * b + 2 * i)) in
    record {
      generator = c.buffer_pairs-rows.ensures.after
          ∙ ap (λ (g : ChaCha). record g { word_pos = 64 * b + 64 }) c.loop-buffer.invariant.generator
          ∙ ap (λ z. record start { word_pos = z }) more;
      words = c.in_ok-extend_from_slice.ensures.items
          ∙ ap₂ (λ x y. x ++ y) c.loop-buffer.invariant.words
          (c.as_flattened.ensures.value ∙ subst (next _) c.loop-buffer.invariant.generator c.buffer_pairs-rows.ensures.words ∙ behind f b)
          ∙ sym (listed-add (32 * b) 32 (λ i. f (2 * i)))
          ∙ ap (λ z. listed z (λ i. f (2 * i))) many;
    }

pub returns : goal.returns
returns c =
    let whole : c.args.count ≤ c.div_ceil-buffers.result * 32 =
    subst (λ buffers. c.args.count ≤ buffers * 32) (sym c.div_ceil-buffers.ensures) (div_ceil_times c.args.count 32 (omega arith)).0 in
    let few : c.args.count ≤ 32 * c.loop-buffer.buffer = omega (arith, whole, c.loop-buffer-test.false) in
    let word = long_word c.args.ring c.args.generator.now.key c.args.generator.now.stream in
    c.truncate.ensures.items
    ∙ ap (take c.args.count) c.loop-buffer.invariant.words
    ∙ take-listed c.args.count (32 * c.loop-buffer.buffer) (λ i. word (2 * i)) few
