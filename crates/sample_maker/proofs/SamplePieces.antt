-- The pieces of a sample's tapes are those of its desks.
use Rattle.std.proofs.Common.{◌≡◌, ℕ, zero, suc, ◌+◌, ◌^◌, ◌<◌, [], All, length, refl, ap, ◌∙◌, arith}
use Rattle.std.specs.Prelude.{slice_index_or}
use Rattle.std.proofs.lemmas.List.Elements.{All-from_recursion}
use Rattle.list_laws.proofs.JoinedLists.{length-listed, listed_at, every_listed}
use Rattle.plan_model.specs.Plans.{words}
use Rattle.tape_words.specs.Seeds.{seed_word}
use Rattle.tape_words.proofs.SeedLists.{stream_words-inside}
use Rattle.desk_laws.specs.Pieces.{ArePieces, piece_at}
use Rattle.sample_maker.specs.Samples.{sample_piece, sample_pieces, sample_plan, sample_seed}

-- there are three, as long as the parties draw, and each word is a remainder
pub pieces_fit : (n : ℕ) → ArePieces (sample_plan n) (sample_pieces n)
pieces_fit n = record {
  count = refl;
  lengths = lengths;
  below = All-from_recursion (All (λ word. word < 2 ^ 32)) (sample_pieces n) (every_listed (All (λ word. word < 2 ^ 32)) 3 (sample_piece (sample_plan n)) below);
}
  where
    lengths : (p s : ℕ) → p < 3 → s < 1 → length (piece_at (sample_plan n) (sample_pieces n) p s) ≡ words (sample_plan n) p s
    lengths p zero lp ls =
        let place : 0 + p ≡ p = omega arith in
        ap (λ k. length (slice_index_or (sample_pieces n) k [])) place
        ∙ ap length (listed_at 3 (sample_piece (sample_plan n)) p [] lp)
        ∙ length-listed (words (sample_plan n) p 0) (seed_word 32 (sample_seed p) 0)
    lengths p (suc s) lp ls = absurd (omega arith)

    below : (p : ℕ) → All (λ word. word < 2 ^ 32) (sample_piece (sample_plan n) p)
    below p = stream_words-inside (words (sample_plan n) p 0) 32 _ 0
