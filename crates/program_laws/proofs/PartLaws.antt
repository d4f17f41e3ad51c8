-- What one party of a world has suits the plan, whatever words it got.
use Rattle.std.proofs.Common.{ℕ, ◌+◌, ◌<◌, ◌≤◌, [], drop, length, arith}
use Rattle.std.specs.Prelude.{slice_index_or}
use Rattle.std.proofs.lemmas.List.{length-drop, length-take-le}
use Rattle.list_laws.specs.Lists.{total}
use Rattle.list_laws.proofs.JoinedLists.{total_within}
use Rattle.plan_model.specs.Plans.{IsPlan, words, slot_number, place}
use Rattle.plan_model.specs.declared.key.Key.{Key}
use Rattle.plan_model.proofs.PlanSchemes.{plan_is}
use Rattle.share_world.specs.Worlds.{World}
use Rattle.share_world.specs.Laws.{IsWhole}
use Rattle.program_model.specs.GivenData.{Suits}
use Rattle.program_laws.specs.Meets.{local_given, SmallTape}
use Rattle.program_laws.specs.Parts.{IsPart}

-- each party of a whole world has its part
pub part_of : (w : World) → IsWhole w → (p : ℕ) → p < w.plan.parties → IsPart w p
part_of w whole p lp = record {
  sound = whole.sound;
  party = lp;
  inputs = λ s ls. whole.inputs.counts p s lp ls;
  tape = whole.tapes.lengths p lp;
  small_inputs = λ s i. whole.inputs.below p s i;
  small_tape = λ i. whole.tapes.below p i;
}

module _ (w : World) (p : ℕ) (part : IsPart w p) where
  pub part_plan : IsPlan w.plan
  part_plan = plan_is w.plan part.sound

  pub part_words : (s : ℕ) → SmallTape w s p
  part_words s z i = part.small_tape (place w.plan p s (slot_number w.plan s z) + i)

  pub part_suits : (got : Key → ℕ) (s : ℕ) → s < length w.plan.sessions → Suits (local_given w got s p)
  part_suits got s ls =
      let tape = slice_index_or w.tapes p [] in
      let within : total s (words w.plan p) + words w.plan p s ≤ total (length w.plan.sessions) (words w.plan p) = total_within (length w.plan.sessions) s (words w.plan p) ls in
      let all = part.tape in
      record {
        sound = part.sound;
        party = part.party;
        session = ls;
        inputs = part.inputs s ls;
        tape = length-take-le (words w.plan p s) (drop (place w.plan p s 0) tape) (omega (arith, length-drop (place w.plan p s 0) tape, within, all));
      }
