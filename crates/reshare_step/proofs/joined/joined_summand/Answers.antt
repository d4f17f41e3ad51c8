use Rattle.std.proofs.Common.{ℕ, ◌+◌, ◌*◌, ◌%◌, ◌^◌, if◌then◌else◌, sym, ap, ◌∙◌, arith}
use Rattle.std.proofs.Math.Nat.{mod-mod}
use Rattle.reshare_step.proofs.JoinedWords.{joined_is}
use Rattle.reshare_step.proofs.joined.joined_summand.Goals as goal
use Rattle.reshare_step.proofs.joined.joined_summand.Goals.{then-first, else-first}

pub returns-clause-is : goal.returns-clause-is
returns-clause-is c i first =
    let a = c.args in
    let few = c.recall.ensures.few in
    let sums = λ (both de : ℕ). joined_is 64 a.ring (omega arith) a.c (a.d * a.b) (a.e * a.a) both de in
    elim c.if-first.branch [
      | then-first w ↦
          c.reduce.ensures.is ∙ sums c.if-first.both (a.d * a.e) (ap (λ n. n % 2 ^ 64) w.both-is ∙ mod-mod (a.d * a.e) (2 ^ 64))
          ∙ ap (λ b. (a.c + a.d * a.b + a.e * a.a + (if b then a.d * a.e else 0)) % 2 ^ a.ring) (sym w.if-first.true ∙ first)
      | else-first w ↦
          c.reduce.ensures.is ∙ sums c.if-first.both 0 (ap (λ n. n % 2 ^ 64) w.both-is)
          ∙ ap (λ b. (a.c + a.d * a.b + a.e * a.a + (if b then a.d * a.e else 0)) % 2 ^ a.ring) (sym w.if-first.false ∙ first)
    ]
