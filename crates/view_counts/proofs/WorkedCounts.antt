-- The worked job's counts, by computation.
use Rattle.std.proofs.Common.{refl}
use Rattle.session_slots.specs.Sessions.{slot_list}
use Rattle.view_counts.specs.Multiply.{ChoicesForA, WaysForA, WaysForC, WaysForBoth, KnownToA, KnownToC}

pub choices_for_a : ChoicesForA
unfolding slot_list
choices_for_a = refl

pub ways_for_a : WaysForA
unfolding slot_list
ways_for_a = (refl, refl, refl)

pub ways_for_c : WaysForC
unfolding slot_list
ways_for_c = (refl, refl, refl)

pub ways_for_both : WaysForBoth
unfolding slot_list
ways_for_both = (refl, refl, refl)

pub known_to_a : KnownToA
known_to_a = refl

pub known_to_c : KnownToC
known_to_c = refl
