-- Every world within the limits is lawful.
use Rattle.std.proofs.Common.{◌≡◌, ℕ, ◌<◌, length, sym, ap, ◌∙◌}
use Rattle.plan_model.specs.Plans.{slot}
use Rattle.plan_model.specs.Numbers.{message}
use Rattle.share_world.specs.Worlds.{World, word}
use Rattle.share_world.specs.Locals.{local_word}
use Rattle.share_world.specs.Laws.{IsWhole}
use Rattle.share_world.proofs.SentWords.{sent_are_words}
use Rattle.share_world.proofs.SmallWords.{is_plan, small_words, small_word}
use Rattle.program_model.specs.declared.instruction.Instruction.{Instruction}
use Rattle.program_model.specs.declared.instruction.Instruction.TheVariants.{Post, Deliver, End}
use Rattle.program_model.specs.Programs.{program, at}
use Rattle.program_model.specs.States.{Given, state, slot_of, posted, output_in_slot}
use Rattle.program_model.specs.GivenData.{Suits}
use Rattle.program_laws.specs.Meets.{OpensRight, Goes}
use Rattle.program_laws.specs.Lawful.{given_in, Lawful}
use Rattle.program_laws.proofs.Lengths.{program_is_short}
use Rattle.program_laws.proofs.OpenedOutputs.{goes}
use Rattle.program_laws.proofs.PartLaws.{part_of, part_suits}
use Rattle.program_laws.proofs.ProperPrograms.{is_proper, can_draw, can_deal}

-- what a world gives to a party suits its plan
pub suits_in : (w : World) → IsWhole w → (s p : ℕ) → s < length w.plan.sessions → p < w.plan.parties → Suits (given_in w s p)
suits_in w whole s p ls lp = part_suits w p (part_of w whole p lp) (word w) s ls

module _ (w : World) (whole : IsWhole w) (s p : ℕ) (ls : s < length w.plan.sessions) (lp : p < w.plan.parties) where
  abbrev l : Given
  l = given_in w s p

  goes_here : (q : ℕ) (e : Instruction) → at (program w.plan p s) q ≡ e → (e ≡ End → ⊥) → Goes w (word w) s p e (state l q)
  goes_here = goes w whole.sound (word w) s p ls lp (λ k i. small_words w whole s p k i)

  posts_right : (q n i : ℕ) → at (program w.plan p s) q ≡ Post n i → posted w.plan s (slot_of w.plan n) i (state l q) ≡ word w (message w.plan n)
  posts_right q n i e =
      let g = goes_here q (Post n i) e (λ f. cc) in
      g.1.1 ∙ ap (λ z. local_word w (word w) z (message w.plan n)) (sym g.1.0) ∙ sent_are_words w (is_plan w whole) n g.0.number

  opens_right : (q k : ℕ) → at (program w.plan p s) q ≡ Deliver k → OpensRight w (word w) s p (output_in_slot (slot w.plan s k)) (state l q)
  opens_right q k e = (goes_here q (Deliver k) e (λ f. cc)).1

pub lawful : (w : World) → IsWhole w → Lawful w
lawful w whole = record {
  sound = whole.sound;
  proper = λ s p q ls lp. is_proper (given_in w s p) (suits_in w whole s p ls lp) q;
  right = λ s p q n i ls lp. posts_right w whole s p ls lp q n i;
  draws = λ s p q k ls lp. can_draw (given_in w s p) (suits_in w whole s p ls lp) q k;
  deals = λ s p q k d ls lp. can_deal (given_in w s p) (suits_in w whole s p ls lp) q k d;
  opens = λ s p q k ls lp. opens_right w whole s p ls lp q k;
  short = λ p s. program_is_short w.plan whole.sound p s;
  small = λ n ln. small_word w whole (message w.plan n);
}
