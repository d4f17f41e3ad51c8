use Rattle.std.proofs.Common.{nat_eq, if◌then◌else◌, ◌∷◌, [], length, ap, ◌∙◌, arith, length-append}
use Rattle.std.specs.Prelude.{slice_index_or}
use Rattle.plan_model.specs.InputWords.{session_words}
use Rattle.wire_tables.proofs.ListedRows.{row_behind, row_set}
use Rattle.wire_tables.proofs.carried.put_row.Goals as goal

pub loop-missing-preserved : goal.loop-missing-preserved
loop-missing-preserved c = record {
  long = ap length c.in_ok-push.ensures.items ∙ length-append c.loop-missing.rows.items (c.new.result ∷ []) ∙ omega (arith, c.loop-missing.invariant.long);
  same = λ v. ap (λ rs. slice_index_or (session_words rs) v []) c.in_ok-push.ensures.items ∙ row_behind c.loop-missing.rows.items c.new.result c.new.ensures.items v ∙ c.loop-missing.invariant.same v;
}

pub index_mut-requires : goal.index_mut-requires
index_mut-requires c = omega (arith, c.loop-missing-test.false, c.loop-missing.invariant.long)

pub returns : goal.returns
returns c v =
    row_set c.loop-missing.rows.items c.args.place c.args.row (omega (arith, c.loop-missing-test.false, c.loop-missing.invariant.long)) v
    ∙ ap (λ r. if nat_eq v c.args.place then c.args.row.items else r) (c.loop-missing.invariant.same v)
