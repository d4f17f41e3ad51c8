-- The small samples, by computation.
use Rattle.std.proofs.Common.{refl}
use Rattle.session_slots.specs.Sessions.{slot_list}
use Rattle.session_slots.specs.KeptWires.{is_kept, kept, live}
use Rattle.sample_maker.specs.Worked.{FiveIsWorked, OneIsWorked}

pub one_is : OneIsWorked
unfolding live kept is_kept slot_list
one_is = record { multiplies = refl; sends = refl; draws = refl; keeps = refl; finds = λ pieces. refl }

pub five_is : FiveIsWorked
unfolding live kept is_kept slot_list
five_is = record { multiplies = refl; sends = refl; draws = refl; keeps = refl; finds = λ pieces. refl }
