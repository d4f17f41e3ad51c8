use Rattle.view_counts.proofs.EvenViews.{is_private, views_are_even, test_is_equal}
use Rattle.view_counts.proofs.views_are_even.Goals as goal

pub returns-clause-tests : goal.returns-clause-tests
returns-clause-tests c = is_private

pub returns-clause-views : goal.returns-clause-views
returns-clause-views c = views_are_even

pub returns-clause-equal : goal.returns-clause-equal
returns-clause-equal c = test_is_equal
