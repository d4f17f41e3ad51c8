use Rattle.std.proofs.Common.{◌≡◌, ℕ, ◌%◌, ◌^◌, ◌<◌, All, drop}
use Rattle.std.specs.Prelude.{slice_index}
use Rattle.list_laws.specs.Lists.{total}
use Rattle.deal_step.proofs.deal_each.Given as goal

-- the places so far have the words so far
abbrev pub invariant-loop-place : goal.invariant-loop-place
invariant-loop-place l = record {
  tape : l.tape ≡ drop l.place-index l.fn.tape;
  words : All (λ word. word < 2 ^ l.ring) l.tape;
  sum : l.sum ≡ total l.place-index (slice_index l.fn.tape) % 2 ^ l.ring;
  small : l.sum < 2 ^ l.ring;
  front : (k : ℕ) → k < l.place-index → slice_index l.place-items k ≡ slice_index l.fn.tape k;
}
