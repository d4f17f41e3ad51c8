-- What a party posts is the world's, where what it took before is.
use Rattle.std.proofs.Common.{◌≡◌, ℕ, ◌<◌, length, sym, ap, ◌∙◌}
use Rattle.plan_model.specs.declared.key.Key.{Key}
use Rattle.plan_model.specs.Numbers.{message}
use Rattle.share_world.specs.Worlds.{World, word}
use Rattle.share_world.specs.Locals.{local_word}
use Rattle.share_world.specs.Laws.{IsWhole}
use Rattle.share_world.proofs.SmallWords.{small_words}
use Rattle.program_model.specs.declared.instruction.Instruction.TheVariants.{Post, Take}
use Rattle.program_model.specs.Programs.{program, at}
use Rattle.program_model.specs.States.{slot_of, posted}
use Rattle.program_model.proofs.StateReads.{state_same}
use Rattle.program_laws.specs.Meets.{local_given}
use Rattle.program_laws.proofs.LawfulWorlds.{lawful}
use Rattle.program_laws.proofs.OpenedOutputs.{goes}

module _ (w : World) (whole : IsWhole w) (s p : ℕ) (ls : s < length w.plan.sessions) (lp : p < w.plan.parties) (got : Key → ℕ) (m i position : ℕ) (stands : at (program w.plan p s) position ≡ Post m i)
    (before : (r n j : ℕ) → r < position → at (program w.plan p s) r ≡ Take n j → got (message w.plan n) ≡ word w (message w.plan n)) where
  pub posts_world : local_word w got p (message w.plan m) ≡ word w (message w.plan m)
  posts_world =
      let mine = goes w whole.sound got s p ls lp (λ k j. small_words w whole s p k j) position (Post m i) stands (λ f. cc) in
      sym mine.1.1
      ∙ ap (posted w.plan s (slot_of w.plan m) i) (state_same (local_given w got s p) (λ n. word w (message w.plan n)) position before)
      ∙ (lawful w whole).right s p position m i ls lp stands
