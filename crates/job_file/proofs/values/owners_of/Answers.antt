use Rattle.std.proofs.Common.{◌≡◌, ◌∙◌, ℕ, List, ap, sym, map, length, subst, arith}
use Rattle.std.specs.Prelude.{All}
use Rattle.std.proofs.lemmas.Grind.{common_steps}
use Rattle.std.proofs.lemmas.List.Elements.{All-push}
use Rattle.toml.specs.View.{view}
use Rattle.toml.specs.declared.value.Value.{Value}
use Rattle.toml_fields.specs.Fields.{text_of}
use Rattle.toml_fields.proofs.Lists.{map_twice}
use Rattle.job_file.specs.declared.owner.JobOwner.{JobOwner}
use Rattle.job_file.specs.Owners.{IsOwner}
use Rattle.job_file.specs.Forms.{owner_of}
use Rattle.job_file.proofs.Readers.{text_in}
use Rattle.job_file.proofs.values.owners_of.Goals as goal

pub returns-clause-is : goal.returns-clause-is
returns-clause-is c =
    let give : List ℕ → JobOwner = owner_of c.args.version_two c.args.names.now c.args.session in
    let whole : c.loop-owner.told.items ≡ map (λ (v : Value). give (text_in v)) c.args.owners.now = grind (arith, common_steps, c.loop-owner.invariant.is) in
    whole ∙ sym (ap (map give) (map_twice text_of view c.args.owners.now) ∙ map_twice give text_in c.args.owners.now)

pub returns-clause-within : goal.returns-clause-within
returns-clause-within c = c.loop-owner.invariant.within

pub loop-owner-preserved : goal.loop-owner-preserved
loop-owner-preserved c = record {
  is = grind (arith, common_steps, c.loop-owner.invariant.is, c.in_ok-push.ensures.items, c.owner_of.ensures.is, c.text_of.ensures);
  within =
      (let P : List JobOwner → Type 0 = All (IsOwner (length c.args.names.now) c.args.session) in
      subst P (sym c.in_ok-push.ensures.items) (All-push (IsOwner (length c.args.names.now) c.args.session) c.loop-owner.told.items c.owner_of.result c.loop-owner.invariant.within c.owner_of.ensures.within));
}
