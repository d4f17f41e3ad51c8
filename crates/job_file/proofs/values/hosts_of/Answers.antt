use Rattle.std.proofs.Common.{◌≡◌, ◌∙◌, sym, ap, map, arith}
use Rattle.std.specs.String.{string_bytes}
use Rattle.std.proofs.lemmas.Grind.{common_steps}
use Rattle.toml.specs.View.{view}
use Rattle.toml.specs.declared.value.Value.{Value}
use Rattle.toml_fields.specs.Fields.{text_of}
use Rattle.toml_fields.proofs.Lists.{map_twice}
use Rattle.job_file.proofs.GrownLists.{grown}
use Rattle.job_file.proofs.values.hosts_of.Goals as goal

pub loop-host-preserved : goal.loop-host-preserved
loop-host-preserved c =
    ap (map string_bytes) c.in_ok-push.ensures.items
    ∙ grown string_bytes (λ v. text_of (view v)) c.args.hosts.now c.loop-host.host-index c.host-item.result
    c.loop-host.texts.items c.in_ok-text.text c.loop-host-test.true c.host-item.is c.loop-host.invariant (c.in_ok-text.ensures.ok ∙ c.text_of.ensures)

pub returns : goal.returns
returns c =
    let whole : map string_bytes c.loop-host.texts.items ≡ map (λ (v : Value). text_of (view v)) c.args.hosts.now = grind (arith, common_steps, c.loop-host.invariant) in
    c.of.ensures ∙ whole ∙ sym (map_twice text_of view c.args.hosts.now)
