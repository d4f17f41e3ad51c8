use Rattle.std.proofs.Common.{◌≡◌, ℕ, ◌+◌, ◌%◌, ◌^◌, sym, ap, ◌∙◌, refl, arith}
use Rattle.std.specs.Prelude.{slice_index}
use Rattle.std.proofs.lemmas.List.{get_or-drop}
use Rattle.std.proofs.lemmas.Nat.{pow_pos}
use Rattle.std.proofs.Math.Nat.{mod-eq_of_lt}
use Rattle.list_laws.specs.Lists.{total}
use Rattle.mpc_ring.specs.Differences.{difference}
use Rattle.secret_sharing.proofs.RingTotals.{total_step}
use Rattle.deal_step.proofs.DealtSummands.{missing, three_dealt}
use Rattle.deal_step.proofs.deal_three.Goals as goal

pub returns-clause-dealt : goal.returns-clause-dealt
returns-clause-dealt c s modulus shares =
    let q : ℕ = 2 ^ c.args.ring in
    let words = slice_index c.args.tape.now in
    let a = c.next_word-first.result in
    let first : a ≡ words 0 = c.next_word-first.ensures.is in
    let second : c.next_word-second.result ≡ words 1 =
    c.next_word-second.ensures.is ∙ ap (λ t. slice_index t 0) c.next_word-first.ensures.tape ∙ get_or-drop 1 c.args.tape.now 0 0 in
    let alone : words 0 ≡ 0 + words 0 = omega arith in
    let one : a ≡ total 1 words % q = sym (mod-eq_of_lt c.next_word-first.ensures.below) ∙ ap (λ z. z % q) (first ∙ alone) in
    let two = c.add.ensures.is ∙ total_step q 1 words a c.next_word-second.result one second in
    three_dealt s c.args.value a c.next_word-second.result c.sub.result words c.args.out.now shares c.requires.three first second
    (missing q c.args.value 2 2 c.add.result c.sub.result words (pow_pos c.args.ring) refl two c.sub.ensures.is ∙ ap (λ z. difference z c.args.value (total 2 words)) (sym modulus))
