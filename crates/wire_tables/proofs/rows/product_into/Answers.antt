use Rattle.std.proofs.Common.{◌≡◌, ℕ, ◌+◌, ◌%◌, ◌^◌, ◌<◌, All, true, false, if◌then◌else◌, [], length, sym, ap, ap₂, ◌∙◌, subst, arith, pow_pos}
use Rattle.std.specs.Prelude.{slice_index, slice_index_or}
use Rattle.std.specs.Global.{Vec}
use Rattle.std.proofs.lemmas.List.{with_items_is}
use Rattle.std.proofs.lemmas.Bool.{cond-true}
use Rattle.list_laws.specs.Lists.{total, listed}
use Rattle.list_laws.proofs.JoinedLists.{length-listed, listed_at}
use Rattle.secret_sharing.proofs.RingTotals.{total_step}
use Rattle.secret_sharing.specs.Schemes.{has_pair, own_product}
use Rattle.secret_sharing.proofs.SummandSums.{dealt_small}
use Rattle.party_set.specs.Parties.{Structure}
use Rattle.secret_sharing.specs.Duties.{scheme_of}
use Rattle.plan_model.specs.Plans.{scheme}
use Rattle.plan_model.specs.InputWords.{session_words}
use Rattle.wire_tables.specs.Places.{dealt_at}
use Rattle.wire_tables.specs.WireTables.{world_of}
use Rattle.wire_tables.proofs.ListedRows.{listed_of}
use Rattle.wire_tables.proofs.DealtRows.{all_listed, total_passed}
use Rattle.wire_tables.proofs.rows.product_into.Goals as goal
use Rattle.wire_tables.proofs.rows.product_into.Goals.{then-multiplies+in_ok-deal_into, else-multiplies}

pub add_row-requires-clause-long : goal.add_row-requires-clause-long
add_row-requires-clause-long c =
    ap length (c.deref.ensures.value ∙ c.in_ok-deal_into.ensures) ∙ length-listed _ _ ∙ sym (ap length c.deref_mut.ensures.value ∙ c.loop-p.invariant.long)

pub add_row-requires-clause-words : goal.add_row-requires-clause-words
add_row-requires-clause-words c =
    let plan = c.args.world.now.plan.now in
    let p = c.loop-p.p in
    let has = c.requires.tapes p (omega arith) (sym c.multiplies.ensures ∙ c.if-multiplies.true) in
    let own = c.own_products-own.result in
    let word : ℕ → ℕ = λ i. slice_index (slice_index_or (session_words c.args.world.now.tapes.now) p []) (slice_index c.args.places.now p + i) in
    subst (λ xs. All (λ word. word < 2 ^ c.ring-ring.result) xs) (sym (c.deref.ensures.value ∙ c.in_ok-deal_into.ensures))
    (subst (λ b. All (λ word. word < 2 ^ b) (listed (length plan.groups) (dealt_at (world_of c.args.world.now) c.args.places.now p own))) (sym c.ring-ring.ensures.is)
    (all_listed (length plan.groups) (2 ^ plan.bits) (dealt_at (world_of c.args.world.now) c.args.places.now p own) (λ i l. dealt_small (scheme plan) own word i (pow_pos plan.bits) (λ j. has.below (slice_index c.args.places.now p + j)))))

pub loop-p-preserved : goal.loop-p-preserved
loop-p-preserved c =
    let plan = c.args.world.now.plan.now in
    let p = c.loop-p.p in
    let m : ℕ = length plan.groups in
    let own : ℕ → ℕ = λ p. own_product (scheme plan) p (slice_index c.args.x.now) (slice_index c.args.y.now) in
    let dealt : ℕ → ℕ → ℕ = λ p. dealt_at (world_of c.args.world.now) c.args.places.now p (own p) in
    elim c.if-multiplies.branch [
      | then-multiplies+in_ok-deal_into w ↦
          let long : length w.add_row.new.sums ≡ m = w.add_row.ensures.long ∙ ap length w.deref_mut.ensures.value ∙ c.loop-p.invariant.long in
          let is : c.if-multiplies.sums.items ≡ w.add_row.new.sums = ap (λ (v : Vec ℕ). v.items) w.sums-is ∙ with_items_is c.loop-p.sums w.add_row.new.sums (omega (arith, w.add_row.ensures.long, w.deref_mut.ensures.len)) in
          let pair : has_pair (scheme plan) p ≡ true = sym c.multiplies.ensures ∙ w.if-multiplies.true in
          let own_is : w.own_products-own.result ≡ own p =
          w.own_products-own.ensures.is ∙ ap₂ (λ (bits : ℕ) (structure : Structure). own_product (scheme_of bits structure) p (slice_index c.args.x.now) (slice_index c.args.y.now)) c.ring-ring.ensures.is w.duty.ensures in
          let row_is : w.deref.result.now ≡ listed m (dealt p) = w.deref.ensures.value ∙ w.in_ok-deal_into.ensures ∙ ap (λ v. listed m (dealt_at (world_of c.args.world.now) c.args.places.now p v)) own_is in record {
            long = ap length is ∙ long;
            small = subst (λ xs. All (λ word. word < 2 ^ plan.bits) xs) (sym is) (subst (λ b. All (λ word. word < 2 ^ b) w.add_row.new.sums) c.ring-ring.ensures.is w.add_row.ensures.sums);
            sums = λ i li.
                let before : slice_index w.deref_mut.result.now i ≡ total p (λ p. if has_pair (scheme plan) p then dealt p i else 0) % 2 ^ plan.bits = ap (λ xs. slice_index xs i) w.deref_mut.ensures.value ∙ c.loop-p.invariant.sums i li in
                let here : slice_index w.deref.result.now i ≡ (if has_pair (scheme plan) p then dealt p i else 0) = ap (λ xs. slice_index xs i) row_is ∙ listed_at m (dealt p) i 0 li ∙ sym (cond-true (has_pair (scheme plan) p) (dealt p i) 0 pair) in
                ap (λ xs. slice_index xs i) is
                ∙ w.add_row.ensures.added i (omega (arith, long, w.add_row.ensures.long))
                ∙ ap (λ b. (slice_index w.deref_mut.result.now i + slice_index w.deref.result.now i) % 2 ^ b) c.ring-ring.ensures.is
                ∙ total_step (2 ^ plan.bits) p (λ p. if has_pair (scheme plan) p then dealt p i else 0) (slice_index w.deref_mut.result.now i) (slice_index w.deref.result.now i) before here;
          }
      | else-multiplies w ↦
          let is : c.if-multiplies.sums.items ≡ c.loop-p.sums.items = ap (λ (v : Vec ℕ). v.items) w.sums-is in
          let none : has_pair (scheme plan) p ≡ false = sym c.multiplies.ensures ∙ w.if-multiplies.false in record {
            long = ap length is ∙ c.loop-p.invariant.long;
            small = subst (λ xs. All (λ word. word < 2 ^ plan.bits) xs) (sym is) c.loop-p.invariant.small;
            sums = λ i li. ap (λ xs. slice_index xs i) is ∙ c.loop-p.invariant.sums i li ∙ ap (λ z. z % 2 ^ plan.bits) (sym (total_passed p (has_pair (scheme plan)) (λ p. dealt p i) none));
          }
    ]

pub returns : goal.returns
returns c =
    let plan = c.args.world.now.plan.now in
    let ended : c.loop-p.p ≡ plan.parties = omega arith in
    listed_of 0 (length plan.groups) _ c.loop-p.sums.items c.loop-p.invariant.long (λ i l. c.loop-p.invariant.sums i l
    ∙ ap (λ n. total n (λ p. if has_pair (scheme plan) p then dealt_at (world_of c.args.world.now) c.args.places.now p (own_product (scheme plan) p (slice_index c.args.x.now) (slice_index c.args.y.now)) i else 0) % 2 ^ plan.bits) ended)
