-- Calls in a row.
use Rattle.std.proofs.Common.{◌≡◌, ℕ, ◌+◌, ◌≤◌, inl, inr, List, length, Option, None, Some, Ok, refl, sym, ap, subst, ◌∙◌, arith}
use Rattle.std.specs.Prelude.{IsTrue}
use Rattle.outer_io.specs.Sink.{SinkReading, Writes}
use Rattle.command_words.specs.Commands.{CommandForm, command_of, run, check, pair, node, sample, audit}
use Rattle.job_walk.specs.declared.stop.Stop.{Stop}
use Rattle.job_walk.specs.declared.stop.Stop.TheVariants.{Memory, Words, Out, Net, Peer, Files, Refused, Covering}
use Rattle.job_walk.specs.Verdict.{Verdict, accepted, missing, refused, Then}
use Rattle.job_walk.specs.JobOf.{Contents}
use Rattle.job_walk.specs.NodeOf.{NodeForm}
use Rattle.mpc_top.specs.Outside.{Outside}
use Rattle.mpc_top.specs.Due.{Due, text, talk, DueOf, IsDue}
use Rattle.mpc_top.specs.Outcomes.{HasCause}
use Rattle.mpc_top.specs.Command.{AnyRose, IsSteady, IsQuiet, HasRoom, Lets, IsGiven, Answers}
use Rattle.walk_laws.specs.InARow.{text_due, sink_due, InARow, AreDueTogether}
use Rattle.walk_laws.proofs.Jobs.{due_once}
use Rattle.walk_laws.proofs.Statuses.{zero_or_not}

module _ (words : List (List ℕ)) (before after : Outside) (status : ℕ) (a : Answers words before after status) where
  -- what was steady stays so
  steady_after : IsSteady before → IsSteady after
  steady_after s = record { files = a.keeps.files.keeps_steady s.files; out = a.keeps.out.keeps_steady s.out; err = a.keeps.err.keeps_steady s.err }

  module _ (files : Contents) (verdict : Verdict Due) (told : before.files.told ≡ Some files) (is : IsDue (command_of words) (Some files) verdict) where
    -- no other verdict is due
    alone : (other : Verdict Due) → IsDue (command_of words) before.files.told other → other ≡ verdict
    alone other due = due_once (command_of words) files other verdict (subst (λ t. IsDue (command_of words) t other) told due) is

    given : Lets before after verdict → ¬ (status ≡ 6) → IsGiven before after status verdict
    given lets memory = subst (λ v. Lets before after v → IsGiven before after status v) (alone a.due.0 a.due.1) (a.due.2 memory) lets

    out_left : ((due : Due) → verdict ≡ accepted due → ⊥) → (stop : Stop) → HasCause (command_of words) before after stop → after.out ≡ before.out
    out_left not Memory cause = cause.1.out
    out_left not Words cause = cause.2.0
    out_left not Out cause = absurd (not cause.0 (sym (alone (accepted cause.0) cause.1.0)))
    out_left not Net cause = cause.3
    out_left not (Peer names fault) cause = cause.4
    out_left not (Files name) cause = cause.1.0
    out_left not (Refused line) cause = cause.1.0
    out_left not (Covering line) cause = cause.1.0

    out_alone : ((due : Due) → verdict ≡ accepted due → ⊥) → after.out ≡ before.out
    out_alone not = elim (zero_or_not status) [
      | inl zero ↦ absurd (not (a.done zero).0.0 (sym (alone (accepted (a.done zero).0.0) (a.done zero).0.1.0)))
      | inr some ↦ out_left not (a.stopped some).0 (a.stopped some).1
    ]

-- ---- room for the second text

same_length : (a b : List ℕ) → Some a ≡ Some b → length a ≡ length b
same_length a b e = let same : a ≡ b = cc in ap length same

no_text : {P : Type 0} (due : List ℕ) → None ≡ Some due → P
no_text due e = cc

-- both texts go to one sink
fits_after : (a b due next : List ℕ) (sink sink' : SinkReading) → Some a ≡ Some due → Some b ≡ Some next → IsTrue sink.steady → Writes a sink sink' (Ok tt)
    → length due + length next ≤ sink.room → length b ≤ sink'.room
fits_after a b due next sink sink' e f steady w both =
    let left = w.room_left steady in
    let first = same_length a due e in
    let second = same_length b next f in
    omega arith

-- the second goes to a sink that the first call left
fits_beside : (b due next : List ℕ) (sink sink' : SinkReading) → Some b ≡ Some next → sink' ≡ sink → length due + length next ≤ sink.room → length b ≤ sink'.room
fits_beside b due next sink sink' f same both =
    let room = ap (λ s. s.room) same in
    let second = same_length b next f in
    omega arith

missing_is_none : (name : List ℕ) (due : Due) → missing name ≡ accepted due → ⊥
missing_is_none name due e = cc

refused_is_none : (status : ℕ) (line : List ℕ) (due : Due) → refused status line ≡ accepted due → ⊥
refused_is_none status line due e = cc

module _ (words : List (List ℕ)) (start middle : Outside) (status : ℕ) (a : Answers words start middle status) (files : Contents) (told : start.files.told ≡ Some files) (s : IsSteady start) where
  next_room : (verdict next : Verdict Due) (due next_due : List ℕ) → text_due verdict ≡ Some due → text_due next ≡ Some next_due
      → IsDue (command_of words) (Some files) verdict → IsGiven start middle status verdict
      → length due + length next_due ≤ (sink_due next start).room → HasRoom middle next
  next_room (accepted (talk job)) next due next_due e f is g both = no_text due e
  next_room (accepted (text t)) (accepted (talk job)) due next_due e f is g both = no_text next_due f
  next_room (accepted (text t)) (accepted (text u)) due next_due e f is g both = fits_after t u due next_due start.out middle.out e f s.out g.1.0 both
  next_room (accepted (text t)) (missing name) due next_due e f is g both = fits_beside _ due next_due start.err middle.err f (a.done g.0).1 both
  next_room (accepted (text t)) (refused n line) due next_due e f is g both = fits_beside line due next_due start.err middle.err f (a.done g.0).1 both
  next_room (missing name) (accepted (talk job)) due next_due e f is g both = no_text next_due f
  next_room (missing name) (accepted (text u)) due next_due e f is g both =
      fits_beside u due next_due start.out middle.out f (out_alone words start middle status a files (missing name) told is (missing_is_none name)) both
  next_room (missing name) (missing next) due next_due e f is g both = fits_after _ _ due next_due start.err middle.err e f s.err g.1 both
  next_room (missing name) (refused n line) due next_due e f is g both = fits_after _ line due next_due start.err middle.err e f s.err g.1 both
  next_room (refused n line) (accepted (talk job)) due next_due e f is g both = no_text next_due f
  next_room (refused n line) (accepted (text u)) due next_due e f is g both =
      fits_beside u due next_due start.out middle.out f (out_alone words start middle status a files (refused n line) told is (refused_is_none n line)) both
  next_room (refused n line) (missing name) due next_due e f is g both = fits_after line _ due next_due start.err middle.err e f s.err g.1 both
  next_room (refused n line) (refused m next) due next_due e f is g both = fits_after line next due next_due start.err middle.err e f s.err g.1 both

-- ---- both calls

pub both_given : (words next_words : List (List ℕ)) (start middle end : Outside) (status next_status : ℕ) (files : Contents) (verdict next_verdict : Verdict Due) (due next_due : List ℕ)
    → InARow words next_words start middle end status next_status → AreDueTogether words next_words start files verdict next_verdict due next_due → IsSteady start
    → IsGiven start middle status verdict × IsGiven middle end next_status next_verdict
both_given words next_words start middle end status next_status files verdict next_verdict due next_due r d s =
    let g : IsGiven start middle status verdict = given words start middle status r.call files verdict d.told d.is_due (inr (s, d.room)) r.memory in (
      g,
      given next_words middle end next_status r.next_call files next_verdict (r.call.keeps.files.same_told ∙ d.told) d.next_is_due
          (inr (steady_after words start middle status r.call s, next_room words start middle status r.call files d.told s verdict next_verdict due next_due d.text d.next_text d.is_due g d.room_for_both)) r.next_memory,
    )

-- ---- the same words again

not_both : (job : NodeForm) (t : List ℕ) → accepted (talk job) ≡ accepted (text t) → ⊥
not_both job t e = cc

no_refusal : (job : NodeForm) (status : ℕ) (line : List ℕ) → accepted (talk job) ≡ refused status line → ⊥
no_refusal job status line e = cc

-- no words but those of a node are due a talk
no_talk : (command : Option CommandForm) (files : Contents) (job : NodeForm) → ((dir name : List ℕ) → ¬ (command ≡ Some (node dir name))) → IsDue command (Some files) (accepted (talk job)) → ⊥
unfolding DueOf Then
no_talk None files job not is = no_refusal job _ _ is
no_talk (Some (run dir workers view)) files job not is = not_both job _ is.2
no_talk (Some (check dir)) files job not is = not_both job _ is.2
no_talk (Some (pair dir group)) files job not is = not_both job _ is.2
no_talk (Some (node dir name)) files job not is = not dir name refl
no_talk (Some (sample count)) files job not is = not_both job _ is
no_talk (Some (audit dir)) files job not is = not_both job _ is.2

-- so that nothing else is asked of the outside
quiet_alone : (command : Option CommandForm) (files : Contents) (before after : Outside) (verdict : Verdict Due) → ((dir name : List ℕ) → ¬ (command ≡ Some (node dir name)))
    → IsDue command (Some files) verdict → IsQuiet before after verdict
quiet_alone command files before after (accepted (talk job)) not is = absurd (no_talk command files job not is)
quiet_alone command files before after (accepted (text due)) not is = tt
quiet_alone command files before after (missing name) not is = tt
quiet_alone command files before after (refused status line) not is = tt

given_alike : (start middle end : Outside) (status next_status : ℕ) (verdict : Verdict Due) → IsGiven start middle status verdict → IsGiven middle end next_status verdict → next_status ≡ status
given_alike start middle end status next_status (accepted due) g h = h.0 ∙ sym g.0
given_alike start middle end status next_status (missing name) g h = h.0 ∙ sym g.0
given_alike start middle end status next_status (refused n line) g h = h.0 ∙ sym g.0

pub one_status : (words : List (List ℕ)) (start middle end : Outside) (status next_status : ℕ) (files : Contents)
    → InARow words words start middle end status next_status → ((dir name : List ℕ) → ¬ (command_of words ≡ Some (node dir name))) → start.files.told ≡ Some files
    → ¬ AnyRose start middle → ¬ AnyRose middle end → next_status ≡ status
one_status words start middle end status next_status files r not told none next_none =
    let g = r.call.due in
    let due : IsDue (command_of words) (Some files) g.0 = subst (λ t. IsDue (command_of words) t g.0) told g.1 in
    let again : IsGiven middle end next_status g.0 =
    given words middle end next_status r.next_call files g.0 (r.call.keeps.files.same_told ∙ told) due (inl (next_none, quiet_alone (command_of words) files middle end g.0 not due)) r.next_memory in
    given_alike start middle end status next_status g.0 (g.2 r.memory (inl (none, quiet_alone (command_of words) files start middle g.0 not due))) again
