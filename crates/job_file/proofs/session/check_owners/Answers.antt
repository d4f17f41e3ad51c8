use Rattle.std.proofs.Common.{◌≡◌, ◌∙◌, ◌+◌, ap, sym, map, drop, ℕ, List, Option}
use Rattle.std.proofs.lemmas.List.{drop_all}
use Rattle.std.proofs.lemmas.Result.{err_from_is_err_and}
use Rattle.std.specs.Option.{option_or}
use Rattle.toml.specs.View.{view}
use Rattle.toml.specs.declared.value.Value.{Value}
use Rattle.toml_fields.specs.Fields.{text_of}
use Rattle.toml_fields.proofs.Lists.{map_twice}
use Rattle.job_file.specs.declared.fault.JobFault.{JobFault}
use Rattle.job_file.specs.Faults.{owner_fault, owners_fault}
use Rattle.job_file.proofs.Readers.{text_in, owners_turn}
use Rattle.job_file.proofs.session.check_owners.Goals as goal

pub loop-at-init : goal.loop-at-init
loop-at-init c = ap (owners_fault c.args.version_two c.args.names.now c.args.session 0) (map_twice text_of view c.args.owners.now)

pub returns-in_err-check_owner : goal.returns-in_err-check_owner
returns-in_err-check_owner c =
    let names : List (List ℕ) = c.args.names.now in
    let vs : List Value = c.args.owners.now in
    let at : ℕ = c.loop-at.at in
    let rest : Option JobFault = owners_fault c.args.version_two names c.args.session (at + 1) (map text_in (drop (at + 1) vs)) in
    let turn = owners_turn c.args.version_two names c.args.session vs at c.index-owners-at.result c.loop-at-test.true c.index-owners-at.is in
    let here : owner_fault c.args.version_two names c.args.session at (text_in c.index-owners-at.result) ≡ owner_fault c.args.version_two names c.args.session at c.text_of.result.now =
    ap (owner_fault c.args.version_two names c.args.session at) (sym c.text_of.ensures) in
    let p = err_from_is_err_and c.from_residual.result c.from_residual.ensures.1 in
    rw (p.1, p.2) (c.loop-at.invariant ∙ turn ∙ ap (λ o. option_or o rest) (here ∙ c.in_err-check_owner.ensures))

pub loop-at-preserved : goal.loop-at-preserved
loop-at-preserved c =
    let names : List (List ℕ) = c.args.names.now in
    let vs : List Value = c.args.owners.now in
    let at : ℕ = c.loop-at.at in
    let rest : Option JobFault = owners_fault c.args.version_two names c.args.session (at + 1) (map text_in (drop (at + 1) vs)) in
    let turn = owners_turn c.args.version_two names c.args.session vs at c.index-owners-at.result c.loop-at-test.true c.index-owners-at.is in
    let here : owner_fault c.args.version_two names c.args.session at (text_in c.index-owners-at.result) ≡ owner_fault c.args.version_two names c.args.session at c.text_of.result.now =
    ap (owner_fault c.args.version_two names c.args.session at) (sym c.text_of.ensures) in
    c.loop-at.invariant ∙ turn ∙ ap (λ o. option_or o rest) (here ∙ c.in_ok-check_owner.ensures)

pub returns : goal.returns
unfolding owners_fault
returns c =
    c.loop-at.invariant ∙ ap (λ xs. owners_fault c.args.version_two c.args.names.now c.args.session c.loop-at.at (map text_in xs)) (drop_all c.loop-at.at c.args.owners.now c.loop-at-test.false)
