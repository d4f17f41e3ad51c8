use Rattle.group_text.specs.GroupTexts.{parts_of}
use Rattle.group_text.proofs.NamedGroups.{parties_are}
use Rattle.group_text.proofs.groups.read_group.Goals as goal

pub returns-clause-parties : goal.returns-clause-parties
returns-clause-parties c = parties_are c.args.names.now (parts_of c.args.text.now) c.named_group.result c.named_group.ensures
