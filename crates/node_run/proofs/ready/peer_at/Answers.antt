use Rattle.std.proofs.Common.{◌≡◌, ℕ, ◌+◌, ◌<◌, ◌≤◌, arith}
use Rattle.std.proofs.lemmas.Bool.Decides.{nat_tests}
use Rattle.node_run.specs.Remains.{party_at}
use Rattle.node_run.proofs.ready.peer_at.Goals as goal

below : (me place : ℕ) → place < me → place ≡ party_at me place
below me place h = grind (arith, nat_tests)

above : (me place : ℕ) → me ≤ place → place + 1 ≡ party_at me place
above me place h = grind (arith, nat_tests)

pub returns-then-place-me : goal.returns-then-place-me
returns-then-place-me c = below c.args.me c.args.place c.if-place-me.true

pub returns-else-place-me : goal.returns-else-place-me
returns-else-place-me c = above c.args.me c.args.place c.if-place-me.false
