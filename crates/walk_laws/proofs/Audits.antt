-- A text is judged in one way.
use Rattle.std.proofs.Common.{◌≡◌, ℕ, List, Result, Ok, Err, sym, ap, ap₂, ◌∙◌}
use Rattle.party_names.specs.Names.{AreNames}
use Rattle.plan_model.specs.declared.key.Key.{Key}
use Rattle.view_check.specs.declared.fault.CheckFault.{CheckFault}
use Rattle.view_check.specs.Views.{verdict}
use Rattle.view_check.specs.Laws.{AreTold, IsView}
use Rattle.view_check.proofs.OneAnswer.{one_count, not_both, yes}
use Rattle.refusal_text.specs.Lines.{view_line}
use Rattle.job_walk.specs.Verdict.{accepted, missing, refused, EndsOnce}
use Rattle.mpc_top.specs.Audits.{Judged}

one_fault : {c d : CheckFault} {r : Result ℕ CheckFault} → r ≡ Err c → r ≡ Err d → c ≡ d
one_fault e f = cc

module _ (names : List (List ℕ)) (see : ℕ → List (Key × ℕ)) (text : List ℕ) (are : AreNames names) (told : AreTold names see) where
  abbrev is_yes : (count : ℕ) → IsView names see text count → verdict names see text ≡ Ok count
  is_yes = yes names see text are told

  pub judged_once : EndsOnce (Judged names see text)
  judged_once (accepted c) (accepted d) v w = ap accepted (one_count (is_yes c v) (is_yes d w))
  judged_once (accepted c) (missing name) v w = absurd w
  judged_once (accepted c) (refused s line) v w = not_both (is_yes c v) w.1.is_fault
  judged_once (missing name) w v h = absurd v
  judged_once (refused s line) (accepted c) v w = not_both (is_yes c w) v.1.is_fault
  judged_once (refused s line) (missing name) v w = absurd w
  judged_once (refused s line) (refused s' line') v w =
      ap₂ refused (v.0 ∙ sym w.0) (v.1.line_is ∙ ap view_line (one_fault v.1.is_fault w.1.is_fault) ∙ sym w.1.line_is)
