use Rattle.std.proofs.Common.{◌≡◌, ◌∙◌, ℕ, List, ap, sym, map, length, subst, arith}
use Rattle.std.specs.Prelude.{All}
use Rattle.std.proofs.lemmas.Grind.{common_steps}
use Rattle.std.proofs.lemmas.List.Elements.{All-push}
use Rattle.party_set.specs.Parties.{Members}
use Rattle.toml.specs.View.{view}
use Rattle.toml.specs.declared.value.Value.{Value}
use Rattle.toml_fields.specs.Fields.{text_of, texts_of}
use Rattle.toml_fields.proofs.Lists.{map_twice}
use Rattle.job_file.specs.Forms.{mask_of}
use Rattle.job_file.proofs.GrownLists.{grown}
use Rattle.job_file.proofs.values.groups_of.Goals as goal

pub loop-readers-preserved : goal.loop-readers-preserved
unfolding texts_of
loop-readers-preserved c =
    let names : List (List ℕ) = c.args.names.now in
    let here : c.group_of.result.mask ≡ mask_of names (texts_of (view c.readers-item.result)) =
    ap (λ (group : Members). group.mask) c.group_of.ensures ∙ ap (λ ds. mask_of names (map text_of ds)) c.items_of.ensures in
    record {
      is =
          ap (map (λ (group : Members). group.mask)) c.in_ok-push.ensures.items
          ∙ grown (λ (group : Members). group.mask) (λ v. mask_of names (texts_of (view v))) c.args.values.now c.loop-readers.readers-index c.readers-item.result
          c.loop-readers.groups.items c.group_of.result c.loop-readers-test.true c.readers-item.is c.loop-readers.invariant.is here;
      parties =
          (let P : List Members → Type 0 = λ groups. All (λ (group : Members). group.parties ≡ length names) groups in
          subst P (sym c.in_ok-push.ensures.items)
          (All-push (λ (group : Members). group.parties ≡ length names) c.loop-readers.groups.items c.group_of.result c.loop-readers.invariant.parties (ap (λ (group : Members). group.parties) c.group_of.ensures)));
    }

pub returns-clause-is : goal.returns-clause-is
returns-clause-is c =
    let names : List (List ℕ) = c.args.names.now in
    let whole : map (λ (group : Members). group.mask) c.loop-readers.groups.items ≡ map (λ (v : Value). mask_of names (texts_of (view v))) c.args.values.now = grind (arith, common_steps, c.loop-readers.invariant.is) in
    whole ∙ sym (ap (map (mask_of names)) (map_twice texts_of view c.args.values.now) ∙ map_twice (mask_of names) (λ v. texts_of (view v)) c.args.values.now)
