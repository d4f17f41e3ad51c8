use Rattle.std.proofs.Common.{◌≡◌, ℕ, zero, suc, ◌+◌, ◌<◌, ◌≤◌, List, [], ◌∷◌, All, drop, length, map, refl, sym, ap, ◌∙◌, subst, arith}
use Rattle.std.specs.Prelude.{slice_index_or}
use Rattle.std.specs.Global.{Vec}
use Rattle.std.proofs.lemmas.List.{length_push}
use Rattle.std.proofs.lemmas.List.Elements.{All-push}
use mathlib.Core.Logic.{inl, inr}
use Rattle.list_laws.specs.Lists.{listed}
use Rattle.list_laws.proofs.JoinedLists.{joined_step, length-listed, listed_at}
use Rattle.session_slots.specs.declared.values.KeptWire.{KeptWire}
use Rattle.session_slots.specs.Sessions.{Session, no_session, session_at}
use Rattle.session_slots.specs.Carries.{kept_from, AllFit}
use Rattle.session_slots.specs.SoundSessions.{AreKept, IsSoundSession}
use Rattle.session_slots.proofs.KeptSessions.{are_kept}
use Rattle.job_session.proofs.keeping.keep_carried.Goals as goal

-- what is left after n, if some is
record IsLeft {A : Type 0} (xs : List A) (n : ℕ) (x : A) (more : List A) : Type 0 where
  within : n < length xs
  is : (d : A) → slice_index_or xs n d ≡ x
  rest : more ≡ drop (n + 1) xs

left : {A : Type 0} (xs : List A) (n : ℕ) (x : A) (rest : List A) → x ∷ rest ≡ drop n xs → IsLeft xs n x rest
left [] zero x rest e = cc
left [] (suc n) x rest e = cc
left (y ∷ ys) zero x rest e = record { within = omega arith; is = λ d. cc; rest = cc }
left (y ∷ ys) (suc n) x rest e =
    let h = left ys n x rest e in
    let more : suc n + 1 ≡ suc (n + 1) = omega arith in
    record { within = omega (arith, h.within); is = h.is; rest = h.rest ∙ ap (λ m. drop m (y ∷ ys)) (sym more) }

none_left : {A : Type 0} (xs : List A) (n : ℕ) → [] ≡ drop n xs → length xs ≤ n
none_left [] n e = omega arith
none_left (y ∷ ys) zero e = cc
none_left (y ∷ ys) (suc n) e = omega (arith, none_left ys n e)

none : {A : Type 0} (xs : List A) → length xs ≡ 0 → xs ≡ []
none [] e = refl
none (y ∷ ys) e = absurd (omega (arith, e))

-- session n and what is carried from it
abbrev kept_at : List Session → ℕ → Session
kept_at sessions s = record (session_at sessions s) { kept = kept_from s sessions }

wires_are : (sessions : List Session) (n : ℕ) (wires : List KeptWire) (rest : List (List KeptWire)) → n < length sessions
    → wires ∷ rest ≡ drop n (listed (length sessions) (λ s. kept_from s sessions)) → wires ≡ kept_from n sessions
wires_are sessions n wires rest l e =
    let all = listed (length sessions) (λ s. kept_from s sessions) in
    sym ((left all n wires rest e).is []) ∙ listed_at (length sessions) (λ s. kept_from s sessions) n [] l

pub carried_wires-requires-clause-fit : goal.carried_wires-requires-clause-fit
carried_wires-requires-clause-fit c = subst AllFit (sym c.deref.ensures.value) c.requires.fit

pub keep-requires : goal.keep-requires
keep-requires c =
    let sessions = c.args.parts.items in
    let n = length c.loop-part.list.items in
    let at = left sessions n c.in-Some.part _ (sym c.in-Some.ensures.steps.0.0 ∙ c.loop-part.invariant.parts) in
    let wires = wires_are sessions n c.in-Some.wires.items _ at.within (ap (map (λ (wires : Vec KeptWire). wires.items)) (sym c.in-Some.ensures.steps.1.0) ∙ c.loop-part.invariant.wires) in
    subst (λ x. AreKept x c.in-Some.wires.items) (at.is no_session) (subst (AreKept (session_at sessions n)) (sym wires) (are_kept sessions c.requires.fit n c.requires.few c.requires.wired))

pub loop-part-preserved : goal.loop-part-preserved
loop-part-preserved c =
    let sessions = c.args.parts.items in
    let old = c.loop-part.list.items in
    let n = length old in
    let items = λ (wires : Vec KeptWire). wires.items in
    let parts = sym c.in-Some.ensures.steps.0.0 ∙ c.loop-part.invariant.parts in
    let lists = ap (map items) (sym c.in-Some.ensures.steps.1.0) ∙ c.loop-part.invariant.wires in
    let at = left sessions n c.in-Some.part _ parts in
    let wires = wires_are sessions n c.in-Some.wires.items _ at.within lists in
    let made : c.in_ok-keep.field-0 ≡ kept_at sessions n =
    c.in_ok-keep.ensures.made ∙ ap (λ (x : Session). record x { kept = c.in-Some.wires.items }) (sym (at.is no_session)) ∙ ap (λ kept. record (session_at sessions n) { kept = kept }) wires in
    let more : length c.push.new.self.items ≡ n + 1 = ap length c.in_ok-push.ensures.items ∙ length_push old c.in_ok-keep.field-0 in
    record {
      parts_left = omega (arith, c.loop-part.invariant.parts_left, c.in-Some.ensures.steps.0.1, ap length c.in-Some.ensures.steps.0.0);
      wires_left = omega (arith, c.loop-part.invariant.wires_left, c.in-Some.ensures.steps.1.1, ap length c.in-Some.ensures.steps.1.0);
      within = omega (arith, more, at.within);
      kept = c.in_ok-push.ensures.items ∙ joined_step n (λ s. kept_at sessions s ∷ []) [] old (c.in_ok-keep.field-0 ∷ []) c.loop-part.invariant.kept (ap (λ x. x ∷ []) made) ∙ ap (λ m. listed m (kept_at sessions)) (sym more);
      parts = at.rest ∙ ap (λ m. drop m sessions) (sym more);
      wires = (left (listed (length sessions) (λ s. kept_from s sessions)) n c.in-Some.wires.items _ lists).rest ∙ ap (λ m. drop m (listed (length sessions) (λ s. kept_from s sessions))) (sym more);
      sound = λ parties h. subst (All (IsSoundSession parties)) (sym c.in_ok-push.ensures.items) (All-push (IsSoundSession parties) old c.in_ok-keep.field-0 (c.loop-part.invariant.sound parties h)
          (c.in_ok-keep.ensures.sound parties (subst (IsSoundSession parties) (at.is no_session) (h n no_session at.within))));
    }

pub returns-clause-made : goal.returns-clause-made
returns-clause-made c =
    let sessions = c.args.parts.items in
    let n = length c.loop-part.list.items in
    let items = λ (wires : Vec KeptWire). wires.items in
    let all : length sessions ≤ n = elim c.in-None.ensures.steps [
      | inl h ↦ none_left sessions n (sym (none c.loop-part.part-iterator.a.rest.items (omega (arith, c.loop-part.invariant.parts_left, h.1.0))) ∙ c.loop-part.invariant.parts)
      | inr h ↦
          let lists = listed (length sessions) (λ s. kept_from s sessions) in
          let past = none_left lists n (sym (ap (map items) (none c.loop-part.part-iterator.b.rest.items (omega (arith, c.loop-part.invariant.wires_left, h.1.0)))) ∙ c.loop-part.invariant.wires) in
          omega (arith, past, length-listed (length sessions) (λ s. kept_from s sessions))
    ] in
    let same : n ≡ length sessions = omega (arith, all, c.loop-part.invariant.within) in
    c.loop-part.invariant.kept ∙ ap (λ m. listed m (kept_at sessions)) same
