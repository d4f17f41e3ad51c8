-- Words that ask for no node.
use Rattle.std.proofs.Common.{◌≡◌, Option, None, Some, sym, ◌∙◌}
use Rattle.command_words.specs.Commands.{CommandForm, run, check, pair, node, sample, audit}
use Rattle.mpc_top.specs.Due.{AsksForNode, IsAlone}

pub not_node : (form : CommandForm) (asked : Option CommandForm) → IsAlone form → asked ≡ Some form → AsksForNode asked → ⊥
not_node (node dir name) asked alone is asks = alone
not_node (run dir workers seen) asked alone is (d, n, e) = let same : Some (run dir workers seen) ≡ Some (node d n) = sym is ∙ e in cc
not_node (check dir) asked alone is (d, n, e) = let same : Some (check dir) ≡ Some (node d n) = sym is ∙ e in cc
not_node (pair dir group) asked alone is (d, n, e) = let same : Some (pair dir group) ≡ Some (node d n) = sym is ∙ e in cc
not_node (sample count) asked alone is (d, n, e) = let same : Some (sample count) ≡ Some (node d n) = sym is ∙ e in cc
not_node (audit dir) asked alone is (d, n, e) = let same : Some (audit dir) ≡ Some (node d n) = sym is ∙ e in cc

-- words that are refused ask for none
pub none_is_no_node : (asked : Option CommandForm) → asked ≡ None → AsksForNode asked → ⊥
none_is_no_node asked is (d, n, e) = let same : Some (node d n) ≡ None = sym e ∙ is in cc
