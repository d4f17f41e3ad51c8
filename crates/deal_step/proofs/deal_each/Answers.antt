use Rattle.std.proofs.Common.{◌≡◌, ℕ, suc, ◌+◌, ◌-◌, ◌^◌, ◌<◌, ◌++◌, length, drop, sym, ap, ◌∙◌, subst, arith, rules, below_more, get_or-set_other, get_or-set_same}
use Rattle.std.specs.Prelude.{slice_index}
use Rattle.std.proofs.lemmas.List.{get_or-drop, at_drop_more, length-take-le, length-append, length-set, length-drop}
use Rattle.std.proofs.lemmas.Nat.{pow_pos}
use Rattle.list_laws.specs.Lists.{total}
use Rattle.mpc_ring.specs.Differences.{difference}
use Rattle.secret_sharing.proofs.RingTotals.{total_step}
use Rattle.deal_step.proofs.DealtSummands.{missing, filled_below, filled_dealt}
use Rattle.deal_step.proofs.deal_each.Goals as goal

pub loop-place-preserved : goal.loop-place-preserved
loop-place-preserved c =
    let i = c.loop-place.place-index in
    let words = slice_index c.args.tape.now in
    let h = c.loop-place.invariant in
    let front = length-take-le (length c.args.out.now - 1) c.args.out.now (omega arith) in
    let none : i + 0 ≡ i = omega arith in
    let word : c.next_word-word.result ≡ words i = c.next_word-word.ensures.is ∙ ap (λ t. slice_index t 0) h.tape ∙ get_or-drop i c.args.tape.now 0 0 ∙ ap words none in record {
      tape = c.next_word-word.ensures.tape ∙ ap (drop 1) h.tape ∙ at_drop_more (drop 1) c.args.tape.now i 0 (omega arith);
      words = search rules;
      sum = c.add-sum.ensures.is ∙ total_step (2 ^ c.args.ring) i words c.loop-place.sum _ h.sum word;
      small = search rules;
      front = below_more _ _
          (λ k l. let ne : k ≡ i → ⊥ = omega arith in rw get_or-set_other (h.front k l))
          (let l : i < length c.loop-place.place-items = omega arith in rw get_or-set_same word);
    }

pub returns-clause-dealt : goal.returns-clause-dealt
returns-clause-dealt c s modulus shares =
    let n : ℕ = length c.args.out.now - 1 in
    let q : ℕ = 2 ^ c.args.ring in
    let words = slice_index c.args.tape.now in
    let front = c.loop-place.place-items in
    let rest = drop n c.args.out.now in
    let h = c.loop-place.invariant in
    let whole : length front ≡ n = omega (arith, length-take-le n c.args.out.now (omega arith)) in
    let one : length rest ≡ 1 = omega (arith, length-drop n c.args.out.now) in
    let many : s.shares ≡ suc n = shares ∙ length-set (front ++ rest) n c.sub.result ∙ omega (arith, length-append front rest) in
    let done : c.loop-place.place-index ≡ n = omega arith in
    filled_dealt s c.args.value n c.sub.result words front rest many whole one
    (λ k l. h.front k (omega arith))
    (missing q c.args.value n c.loop-place.place-index c.loop-place.sum c.sub.result words (pow_pos c.args.ring) done h.sum c.sub.ensures.is ∙ ap (λ z. difference z c.args.value (total n words)) (sym modulus))

pub returns-clause-below : goal.returns-clause-below
returns-clause-below c =
    let n : ℕ = length c.args.out.now - 1 in
    let front = c.loop-place.place-items in
    let rest = drop n c.args.out.now in
    let h = c.loop-place.invariant in
    let whole : length front ≡ n = omega (arith, length-take-le n c.args.out.now (omega arith)) in
    let one : length rest ≡ 1 = omega (arith, length-drop n c.args.out.now) in
    filled_below (2 ^ c.args.ring) n c.sub.result front rest whole one
    (λ k l. subst (λ z. z < 2 ^ c.args.ring) (sym (h.front k (omega arith))) (c.requires.words k 0 (omega arith)))
    c.sub.ensures.below
