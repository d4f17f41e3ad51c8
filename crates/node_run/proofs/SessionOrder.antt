-- One session after another.
use Rattle.std.proofs.Common.{◌≡◌, ◌≢◌, ℕ, suc, ◌+◌, ◌<◌, List, length, get_or, set, sym, ap, ◌∙◌, subst, arith, Some}
use Rattle.std.specs.List.{slice_get}
use Rattle.std.proofs.lemmas.Bool.{cases_eq}
use Rattle.std.proofs.lemmas.List.{get_or-set_same, get_or-set_other}
use Rattle.std.proofs.lemmas.Option.{slice_get-get_or, slice_get_within, get_or_from_slice_get}
use Rattle.std.proofs.Math.ListN.{length-set}
use mathlib.Core.Logic.{inl, inr}
use Rattle.message_board.specs.Plain.{plain_cell}
use Rattle.program_model.specs.Programs.{program}
use Rattle.party_desk.specs.declared.desk.Desk.{Desk}
use Rattle.party_desk.specs.Desks.{IsDesk}
use Rattle.program_laws.specs.Meets.{local_given}
use Rattle.node_talk.specs.Talks.{Node}
use Rattle.node_talk.proofs.ActPlaces.{next_session}
use Rattle.node_run.specs.Mail.{Mail}
use Rattle.node_run.specs.Progress.{Begin, Going, InSession, InOrder, before_session}

module _ (n : Node) (s : ℕ) (start : Begin) (ds : List Desk) (c : Mail) (h : InOrder n s start ds c) (ls : s < length ds) where
  pub in_session : (d : Desk) → InSession n s start (get_or ds s d) c
  in_session d = record {
    session = (let a = h.many in omega arith);
    desk = λ got ag. h.new got s (get_or ds s d) (omega arith) (slice_get-get_or ds s d ls);
    going = subst (λ z. Going n z start c) (let a : (get_or ds s d).position ≡ 0 = h.still s (get_or ds s d) (omega arith) (slice_get-get_or ds s d ls) in omega arith) h.going;
  }

  pub next_order : (e : Desk) (c' : Mail) → InSession n s start e c' → e.position ≡ length (program n.world.plan n.me s) → ((m v : ℕ) → plain_cell c.words.cells m ≡ Some v → plain_cell c'.words.cells m ≡ Some v)
      → InOrder n (s + 1) start (set ds s e) c'
  next_order e c' i end keeps = record {
    many = length-set ds s e ∙ h.many;
    done = λ got ag t d l is. elim (cases_eq t s) [
      | inl same ↦ subst (λ z. IsDesk (local_given n.world got z n.me) d) (sym same) (subst (IsDesk (local_given n.world got s n.me)) (set_is t d is same) (i.desk got ag))
      | inr ne ↦ h.done got (λ m v to f. ag m v to (keeps m v f)) t d (omega arith) (other_is t d is ne)
    ];
    ended = λ t d l is. elim (cases_eq t s) [
      | inl same ↦ ap (λ (z : Desk). z.position) (sym (set_is t d is same)) ∙ end ∙ ap (λ z. length (program n.world.plan n.me z)) (sym same)
      | inr ne ↦ h.ended t d (omega arith) (other_is t d is ne)
    ];
    new = λ got t d l is. h.new got t d (omega arith) (other_is t d is (λ z. absurd (omega arith)));
    still = λ t d l is. h.still t d (omega arith) (other_is t d is (λ z. absurd (omega arith)));
    going = subst (λ z. Going n z start c') next_place i.going;
  }
    where
      set_is : (t : ℕ) (d : Desk) → slice_get (set ds s e) t ≡ Some d → t ≡ s → e ≡ d
      set_is t d is same = sym (get_or-set_same ds s e d ls) ∙ ap (λ z. get_or (set ds s e) z d) (sym same) ∙ get_or_from_slice_get (set ds s e) t d d is

      other_is : (t : ℕ) (d : Desk) → slice_get (set ds s e) t ≡ Some d → t ≢ s → slice_get ds t ≡ Some d
      other_is t d is ne =
          let there : t < length (set ds s e) = slice_get_within (set ds s e) t d is in
          let a = length-set ds s e in
          slice_get-get_or ds t d (omega (arith, there, a)) ∙ ap Some (sym (get_or-set_other ds s t e d ne) ∙ get_or_from_slice_get (set ds s e) t d d is)

      next_place : before_session n s + e.position ≡ before_session n (s + 1)
      next_place =
          let a = next_session n s in
          let one : before_session n s + e.position ≡ before_session n (suc s) = omega arith in
          let more : suc s ≡ s + 1 = omega arith in
          one ∙ ap (before_session n) more

pub order_at : (n : Node) (s s' : ℕ) (start : Begin) (ds : List Desk) (c : Mail) → s ≡ s' → InOrder n s start ds c → InOrder n s' start ds c
order_at n s s' start ds c same h = subst (λ z. InOrder n z start ds c) same h
