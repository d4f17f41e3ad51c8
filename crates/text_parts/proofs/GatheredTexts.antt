-- Texts that are gathered in a loop.
use Rattle.std.proofs.Common.{◌≡◌, ℕ, ◌+◌, List, ◌++◌, sym, ap, ◌∙◌, subst}
use Rattle.list_laws.specs.Lists.{joined}
use Rattle.list_laws.proofs.JoinedLists.{joined_more}
use Rattle.outer_io.specs.Blocks.{Gathering, Adds}
use Rattle.outer_io.proofs.GatheredTexts.{adds_then}

-- the same piece, told otherwise
pub adds_same : (piece told : List ℕ) (before after : Gathering) → piece ≡ told → Adds piece before after → Adds told before after
adds_same piece told before after same adds = subst (λ t. Adds t before after) same adds

-- one more piece of those of a loop
pub adds_more : (n : ℕ) (f : ℕ → List ℕ) (piece : List ℕ) (before mid after : Gathering) → piece ≡ f n → Adds (joined n f) before mid → Adds piece mid after → Adds (joined (n + 1) f) before after
adds_more n f piece before mid after same first second =
    adds_same (joined n f ++ piece) (joined (n + 1) f) before after (ap (λ t. joined n f ++ t) same ∙ sym (joined_more n f)) (adds_then (joined n f) piece before mid after first second)
