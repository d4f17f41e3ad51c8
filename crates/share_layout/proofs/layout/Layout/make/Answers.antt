use Rattle.std.proofs.Common.{◌≡◌, ◌+◌, ◌<◌, ◌∷◌, ◌++◌, [], length, ap, sym, ◌∙◌, arith, take, length-append}
use Rattle.std.specs.Prelude.{slice_index}
use Rattle.std.proofs.lemmas.List.{take_more}
use Rattle.party_set.specs.Parties.{Members}
use Rattle.share_layout.specs.Layouts.{least_holder}
use Rattle.share_layout.proofs.Holders.{table_more, outside_is, some_outside}
use Rattle.share_layout.proofs.layout.Layout.make.Goals as goal

pub loop-i-preserved : goal.loop-i-preserved
loop-i-preserved c =
    let within : c.loop-i.i < length c.args.groups.now.groups = omega (arith, c.len-i-end.ensures.is) in
    let mask : c.mask.result ≡ slice_index c.args.groups.now.groups c.loop-i.i = c.mask.ensures.is ∙ ap (λ (m : Members). m.mask) c.get-group.ensures in
    record {
      groups =
          c.in_ok-push.ensures.items ∙ ap (λ xs. xs ++ c.mask.result ∷ []) c.loop-i.invariant.groups ∙ ap (λ m. take c.loop-i.i c.args.groups.now.groups ++ m ∷ []) mask
          ∙ sym (take_more c.args.groups.now.groups c.loop-i.i 0 within);
      count = ap length c.in_ok-push-2.ensures.items ∙ length-append c.loop-i.least_holders.items (c.unwrap.result ∷ []) ∙ ap (λ n. n + 1) c.loop-i.invariant.count;
      holders =
          rw c.in_ok-push-2.ensures.items
          (table_more (least_holder c.args.groups.now) c.loop-i.least_holders.items c.loop-i.i c.unwrap.result c.loop-i.invariant.count c.loop-i.invariant.holders
          (outside_is c.args.groups.now c.loop-i.i c.unwrap.result c.get-group.result c.least_outside.result c.get-group.ensures c.least_outside.ensures c.unwrap.ensures));
    }

pub unwrap-requires : goal.unwrap-requires
unwrap-requires c =
    some_outside c.args.groups.now c.loop-i.i c.get-group.result c.least_outside.result c.requires (omega (arith, c.len-i-end.ensures.is)) c.get-group.ensures c.least_outside.ensures
