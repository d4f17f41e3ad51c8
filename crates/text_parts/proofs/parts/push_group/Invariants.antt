use Rattle.std.proofs.Common.{◌≡◌, ◌++◌}
use Rattle.list_laws.specs.Lists.{joined}
use Rattle.text_parts.specs.Parts.{member_text}
use Rattle.text_parts.proofs.parts.push_group.Given as goal

abbrev pub invariant-loop-party : goal.invariant-loop-party
invariant-loop-party l = l.text.items ≡ l.initial.text.items ++ joined l.party (member_text l.names l.group.mask)
