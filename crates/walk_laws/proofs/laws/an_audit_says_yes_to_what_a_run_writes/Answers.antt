use Rattle.walk_laws.proofs.WrittenViews.{written_views_are_audited}
use Rattle.walk_laws.proofs.laws.an_audit_says_yes_to_what_a_run_writes.Goals as goal

pub returns : goal.returns
returns c = written_views_are_audited
