use Rattle.std.proofs.Common.{List, ℕ}
use Rattle.group_text.specs.GroupTexts.{parts_of}
use Rattle.group_text.proofs.NamedGroups.{Reads}
use Rattle.group_text.proofs.groups.named_group.Given as goal

abbrev pub invariant-loop-part : goal.invariant-loop-part
invariant-loop-part l = (before : List (List ℕ)) × Reads l.names (parts_of l.fn.text) before l.part-iterator l.at l.mask
