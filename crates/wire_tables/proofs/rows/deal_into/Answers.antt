use Rattle.std.proofs.Common.{◌≡◌, ℕ, ◌-◌, ◌%◌, ◌^◌, ◌<◌, List, [], ◌∷◌, ◌++◌, length, take, drop, sum, sym, ap, ap₂, ◌∙◌, arith, pow_pos}
use Rattle.std.specs.Prelude.{slice_index, slice_index_or}
use Rattle.std.specs.Global.{Vec}
use Rattle.std.proofs.lemmas.List.{length-map}
use Rattle.list_laws.specs.Lists.{total}
use Rattle.list_laws.proofs.Totals.{total_items}
use Rattle.mpc_ring.specs.Differences.{difference}
use Rattle.plan_model.specs.Plans.{scheme}
use Rattle.plan_model.specs.InputWords.{session_words}
use Rattle.wire_tables.proofs.ListedRows.{row_read}
use Rattle.wire_tables.proofs.DealtRows.{dealt_list}
use Rattle.wire_tables.proofs.rows.deal_into.Goals as goal

pub returns : goal.returns
returns c =
    let plan = c.args.world.now.plan.now in
    let n : ℕ = length plan.groups - 1 in
    let at : ℕ = slice_index c.args.places.now c.args.p in
    let tape : List ℕ = slice_index_or (session_words c.args.world.now.tapes.now) c.args.p [] in
    let there : c.args.p < length c.args.world.now.tapes.now = omega (arith, length-map c.args.world.now.tapes.now (λ (t : Vec ℕ). t.items), c.requires.words.tape) in
    let tape_is : c.deref.result.now ≡ tape = c.deref.ensures.value ∙ row_read c.args.world.now.tapes.now c.args.p c.index-tapes-p.result there c.index-tapes-p.is in
    let count : c.shares.result - 1 ≡ n = omega (arith, c.shares.ensures.is) in
    let words_are : c.words_at-words.result.now ≡ take n (drop at tape) = c.words_at-words.ensures ∙ ap₂ (λ k t. take k (drop at t)) count tape_is in
    let missing : c.sub.result ≡ difference (2 ^ plan.bits) c.args.value (total (length (take n (drop at tape))) (slice_index (take n (drop at tape))) % 2 ^ plan.bits) =
    c.sub.ensures.is
    ∙ ap (difference (2 ^ c.ring-ring.result) c.args.value) (c.sum.ensures.is ∙ ap (λ ws. sum ws % 2 ^ c.ring-ring.result) words_are ∙ ap (λ z. z % 2 ^ c.ring-ring.result) (sym (total_items (take n (drop at tape)))))
    ∙ ap (λ b. difference (2 ^ b) c.args.value (total (length (take n (drop at tape))) (slice_index (take n (drop at tape))) % 2 ^ b)) c.ring-ring.ensures.is in
    c.in_ok-push.ensures.items
    ∙ ap (λ xs. xs ++ c.sub.result ∷ []) (c.in_ok-extend_from_slice.ensures.items ∙ ap₂ (λ xs ys. xs ++ ys) c.clear.ensures.items words_are)
    ∙ dealt_list (scheme plan) c.args.value at n c.sub.result tape (pow_pos plan.bits) (omega (arith, c.shares.ensures.sound.some_groups)) c.requires.words.enough missing
