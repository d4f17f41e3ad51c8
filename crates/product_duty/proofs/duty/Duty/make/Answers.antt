use Rattle.std.proofs.Common.{◌≡◌, ◌+◌, ◌∷◌, [], ℕ, ap, ◌∙◌, arith, length, length-append, map}
use Rattle.std.specs.Global.{Vec}
use Rattle.std.proofs.lemmas.List.{map-append, length-map}
use Rattle.product_duty.specs.Duties.{pairs_of}
use Rattle.product_duty.proofs.JoinedLists.{table_more}
use Rattle.product_duty.proofs.PairDuties.{list_is, table_of}
use Rattle.product_duty.proofs.duty.Duty.make.Goals as goal

pub loop-p-preserved : goal.loop-p-preserved
loop-p-preserved c =
    let list : c.in_ok-list_of.field-0.items ≡ pairs_of c.args.groups.now c.loop-p.p =
    list_is c.args.groups.now c.in_ok-duties.duties.items c.deref.result.now c.len.result c.loop-p.p c.in_ok-list_of.field-0.items c.len.ensures.is c.deref.ensures.value c.in_ok-duties.ensures.duties c.in_ok-list_of.ensures in
    let count : length (map (λ (l : Vec (ℕ × ℕ)). l.items) c.loop-p.pairs.items) ≡ c.loop-p.p = length-map c.loop-p.pairs.items (λ (l : Vec (ℕ × ℕ)). l.items) ∙ c.loop-p.invariant.count in
    record {
      count = ap length c.in_ok-push.ensures.items ∙ length-append c.loop-p.pairs.items (c.in_ok-list_of.field-0 ∷ []) ∙ ap (λ n. n + 1) c.loop-p.invariant.count;
      lists = λ q l.
          rw (c.in_ok-push.ensures.items, map-append)
          (table_more [] (pairs_of c.args.groups.now) (map (λ (l : Vec (ℕ × ℕ)). l.items) c.loop-p.pairs.items) c.loop-p.p c.in_ok-list_of.field-0.items count c.loop-p.invariant.lists list q l);
    }

pub invariant_of-result : goal.invariant_of-result
invariant_of-result c =
    let all : c.loop-p.p ≡ c.args.groups.now.parties = omega (arith, c.parties-parties.ensures.is) in
    table_of c.args.groups.now c.parties-parties.result c.in_ok-masks.masks.items c.in_ok-duties.duties.items _ c.parties-parties.ensures.is c.in_ok-masks.ensures
    (record {
      antichain = c.parties-parties.ensures.antichain;
      q2 = c.requires;
      size = c.in_ok-duties.ensures.size;
      duties = c.in_ok-duties.ensures.duties;
      count = length-map c.loop-p.pairs.items (λ (l : Vec (ℕ × ℕ)). l.items) ∙ c.loop-p.invariant.count ∙ all;
      lists = λ p l. c.loop-p.invariant.lists p (omega (arith, all));
    })
