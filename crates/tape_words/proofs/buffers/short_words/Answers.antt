use Rattle.std.proofs.Common.{arith, ◌≡◌, ℕ, ◌+◌, ◌*◌, ◌≤◌, ◌++◌, List, ap, ap₂, subst, sym, take, ◌∙◌}
use Rattle.std.proofs.lemmas.Grind.{div_ceil_times}
use Rattle.list_laws.specs.Lists.{listed}
use Rattle.list_laws.proofs.JoinedLists.{listed-add}
use Rattle.rand_chacha.specs.ChaCha.{ChaCha}
use Rattle.tape_words.specs.Seeds.{short_word}
use Rattle.tape_words.proofs.SeedLists.{take-listed}
use Rattle.tape_words.proofs.buffers.short_words.Goals as goal

pub loop-buffer-preserved : goal.loop-buffer-preserved
loop-buffer-preserved c =
    let b = c.loop-buffer.buffer in
    let start = c.args.generator.now in
    let f = short_word c.args.ring start.key start.stream in
    let more : 64 * b + 64 ≡ 64 * (b + 1) = omega arith in
    let next : List ℕ → ChaCha → Type 0 = λ row g. row ≡ listed 64 (λ i. short_word c.args.ring g.key g.stream (64 * b + i)) in
    record {
      generator = c.buffer_words-rows.ensures.after
          ∙ ap (λ (g : ChaCha). record g { word_pos = 64 * b + 64 }) c.loop-buffer.invariant.generator
          ∙ ap (λ z. record start { word_pos = z }) more;
      words = c.in_ok-extend_from_slice.ensures.items
          ∙ ap₂ (λ x y. x ++ y) c.loop-buffer.invariant.words
          (c.as_flattened.ensures.value ∙ subst (next _) c.loop-buffer.invariant.generator c.buffer_words-rows.ensures.words)
          ∙ sym (listed-add (64 * b) 64 f)
          ∙ ap (λ z. listed z f) more;
    }

pub returns : goal.returns
returns c =
    let whole : c.args.count ≤ c.div_ceil-buffers.result * 64 =
    subst (λ buffers. c.args.count ≤ buffers * 64) (sym c.div_ceil-buffers.ensures) (div_ceil_times c.args.count 64 (omega arith)).0 in
    let few : c.args.count ≤ 64 * c.loop-buffer.buffer = omega (arith, whole, c.loop-buffer-test.false) in
    c.truncate.ensures.items
    ∙ ap (take c.args.count) c.loop-buffer.invariant.words
    ∙ take-listed c.args.count (64 * c.loop-buffer.buffer) (short_word c.args.ring c.args.generator.now.key c.args.generator.now.stream) few
