-- What a desk of a world delivers and draws.
use Rattle.std.proofs.Common.{◌≡◌, ℕ, zero, suc, ◌-◌, ◌<◌, ◌≤◌, [], ◌∷◌, drop, List, length, refl, sym, ap, ◌∙◌, subst, arith}
use Rattle.std.specs.Prelude.{false, Option, Some, None}
use Rattle.std.proofs.lemmas.List.{length-drop, get_or_past}
use Rattle.std.proofs.lemmas.Bool.{both_ways, cases_lt}
use mathlib.Core.Logic.{inl, inr}
use Rattle.session_slots.specs.Sessions.{readers}
use Rattle.session_slots.proofs.SessionSlots.{slots_are_numbered}
use Rattle.plan_model.specs.Plans.{session, reads, words, words_before}
use Rattle.share_world.specs.Worlds.{World, word}
use Rattle.share_world.specs.Laws.{IsWhole}
use Rattle.share_world.proofs.SentWords.{opened_are_plain}
use Rattle.share_world.proofs.SmallWords.{is_world, small_words}
use Rattle.program_model.specs.Programs.{program}
use Rattle.program_model.specs.States.{new_state, state}
use Rattle.program_model.proofs.InstructionLists.{state_is, run_all}
use Rattle.program_laws.specs.Lawful.{given_in}
use Rattle.program_laws.proofs.LocalPrograms.{met}
use Rattle.program_laws.proofs.OpenedOutputs.{opens_right}
use Rattle.program_laws.proofs.LawfulWorlds.{suits_in}
use Rattle.party_desk.specs.declared.desk.Desk.{Desk}
use Rattle.party_desk.specs.Desks.{IsDesk, drawn_of, output_at}
use Rattle.desk_laws.specs.InWorld.{IsRight, IsDeskDone, piece_of}

-- ---- the tape

pub drawn_at_end : (w : World) → IsWhole w → (s p : ℕ) → s < length w.plan.sessions → p < w.plan.parties → (state (given_in w s p) (length (program w.plan p s))).drawn ≡ words w.plan p s
drawn_at_end w whole s p ls lp =
    let l = given_in w s p in
    let es = program w.plan p s in
    ap (λ σ. σ.drawn) (state_is l (length es) ∙ run_all l es new_state)
    ∙ (met w whole.sound (word w) s p ls lp (λ k i. small_words w whole s p k i)).1.ready.drawn
    ∙ ap (words_before w.plan p s) (sym (slots_are_numbered (session w.plan s)).count)

piece_is : (w : World) → IsWhole w → (s p : ℕ) → s < length w.plan.sessions → p < w.plan.parties → length (piece_of w p s) ≡ words w.plan p s
piece_is w whole s p ls lp = (suits_in w whole s p ls lp).tape

-- dropping no more than there is
drop_again : (n : ℕ) (xs : List ℕ) → drop n xs ≡ drop (length xs - (length xs - n)) xs
drop_again zero xs = let none : 0 ≡ length xs - (length xs - 0) = omega arith in ap (λ z. drop z xs) none
drop_again (suc n) [] = let none : 0 ≡ 0 - (0 - suc n) = omega arith in ap (λ z. drop {A = ℕ} z []) none
drop_again (suc n) (x ∷ xs) = let more : suc (length xs - (length xs - n)) ≡ suc (length xs) - (suc (length xs) - suc n) = omega arith in drop_again n xs ∙ ap (λ z. drop z (x ∷ xs)) more

-- dropping all that there is
drop_all : (n : ℕ) (xs : List ℕ) → length xs ≤ n → drop n xs ≡ []
drop_all zero [] l = refl
drop_all zero (x ∷ xs) l = absurd (omega arith)
drop_all (suc n) [] l = refl
drop_all (suc n) (x ∷ xs) l = drop_all n xs (omega arith)

-- ---- one desk

module _ (w : World) (s p : ℕ) (d : Desk) (whole : IsWhole w) (h : IsDesk (given_in w s p) d) where
  abbrev past : ℕ
  past = (state (given_in w s p) d.position).drawn

  drawn_past : drawn_of d ≡ words w.plan p s - (words w.plan p s - past)
  drawn_past =
      let long = piece_is w whole s p h.suits.session h.suits.party in
      let piece = h.piece in
      let rest = ap length h.tape ∙ length-drop past (piece_of w p s) in
      omega (arith, long, piece, rest)

  -- an output that is there is one of the session's
  output_within : (o v : ℕ) → output_at d o ≡ Some v → o < length (readers (session w.plan s))
  output_within o v e = elim (cases_lt o (length d.memory.outputs.items)) [
    | inl less ↦ subst (λ z. o < z) h.fits.outputs less
    | inr past ↦ absurd (let none : None ≡ Some v = sym (get_or_past d.memory.outputs.items o None past) ∙ e in cc)
  ]

  pub right_now : IsRight w s p d
  right_now = record {
    delivered = λ o v e.
        let a = opens_right w whole.sound (word w) s p h.suits.session h.suits.party (λ k i. small_words w whole s p k i) d.position o v (sym (h.memory.outputs o) ∙ e) in
        (a.0, a.1 ∙ opened_are_plain w (is_world w whole) p s o (output_within o v e));
    drawn = (let a = drawn_past in omega arith);
    left = h.tape ∙ drop_again past (piece_of w p s) ∙ ap (λ z. drop (z - (z - past)) (piece_of w p s)) (piece_is w whole s p h.suits.session h.suits.party) ∙ ap (λ z. drop z (piece_of w p s)) (sym drawn_past);
  }

  module _ (ended : d.position ≡ length (program w.plan p s)) where
    spent : past ≡ words w.plan p s
    spent = ap (λ q. (state (given_in w s p) q).drawn) ended ∙ drawn_at_end w whole s p h.suits.session h.suits.party

    tape_is : d.memory.tape ≡ []
    tape_is = h.tape ∙ drop_all past (piece_of w p s) (let a = piece_is w whole s p h.suits.session h.suits.party in let b = spent in omega arith)

    pub done_at_end : IsDeskDone w s p d
    done_at_end = record {
      delivered = λ o lo reads.
          h.memory.outputs o
          ∙ ap (λ q. (state (given_in w s p) q).outputs o) ended
          ∙ ap (λ σ. σ.outputs o) (state_is (given_in w s p) (length (program w.plan p s)) ∙ run_all (given_in w s p) (program w.plan p s) new_state)
          ∙ (met w whole.sound (word w) s p h.suits.session h.suits.party (λ k i. small_words w whole s p k i)).1.outputs o lo reads
          ∙ ap Some (opened_are_plain w (is_world w whole) p s o lo);
      nothing_else = λ o not_read. none_there (output_at d o) o refl not_read;
      drawn = (let a = ap length tape_is in let long = piece_is w whole s p h.suits.session h.suits.party in let piece = h.piece in omega (arith, a, long, piece));
      none_left = tape_is;
    }
      where
        none_there : (found : Option ℕ) (o : ℕ) → output_at d o ≡ found → reads w.plan p s o ≡ false → found ≡ None
        none_there None o is not_read = refl
        none_there (Some v) o is not_read = absurd (both_ways (reads w.plan p s o) not_read (right_now.delivered o v is).0)
