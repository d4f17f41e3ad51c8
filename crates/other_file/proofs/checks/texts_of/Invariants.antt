use Rattle.std.proofs.Common.{◌≡◌, ℕ, List, map, take, Bor}
use Rattle.other_file.proofs.checks.texts_of.Given as goal

abbrev pub invariant-loop-party : goal.invariant-loop-party
invariant-loop-party l = map (λ (name : Bor (List ℕ)). name.now) l.texts.items ≡ take l.party l.names
