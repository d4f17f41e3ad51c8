use Rattle.std.proofs.Common.{ℕ, suc, ◌<◌, ◌^◌, List, length, get_or, subst, arith}
use Rattle.deal_step.proofs.next_word.Goals as goal

pub returns-clause-words : goal.returns-clause-words
returns-clause-words c k d l =
    let cut = rw c.unwrap.ensures at c.draw.ensures in
    subst (λ (words : List ℕ). suc k < length words → get_or words (suc k) d < 2 ^ c.args.ring) cut (c.requires.words (suc k) d) (omega arith)
