-- What the statuses say, cause by cause.
use Rattle.std.proofs.Common.{◌≡◌, ℕ, zero, suc, ◌⊎◌, inl, inr, List, [], ◌∷◌, Option, None, Some, Ok, refl, sym, ap, subst, ◌∙◌, lit<, arith}
use Rattle.std.specs.Prelude.{Contains, IsSome}
use Rattle.outer_io.specs.Count.{Rose}
use Rattle.outer_io.specs.Files.{Told}
use Rattle.outer_io.specs.Sink.{Writes}
use Rattle.command_words.specs.Commands.{CommandForm, command_of}
use Rattle.job_walk.specs.declared.stop.Stop.{Stop}
use Rattle.job_walk.specs.declared.stop.Stop.TheVariants.{Memory, Words, Out, Net, Peer, Files, Refused, Covering}
use Rattle.mpc_top.specs.Texts.{usage_text}
use Rattle.job_walk.specs.Verdict.{refused}
use Rattle.mpc_top.specs.Outside.{Outside}
use Rattle.mpc_top.specs.Due.{Due, text, talk, IsDue}
use Rattle.mpc_top.specs.Outcomes.{Fulfils, CutShort, HasCause, Tells}
use Rattle.mpc_top.specs.Command.{AnyRose, Lets, IsGiven, Answers}
use Rattle.walk_laws.specs.Statuses.{SameCounts, FailsToTalk, StatusSays}

pub zero_or_not : (n : ℕ) → (n ≡ 0) ⊎ ¬ (n ≡ 0)
zero_or_not zero = inl refl
zero_or_not (suc n) = inr (λ is. absurd (omega arith))

-- words that are due another refusal than that of words ask for something
refusal_asks : (command : Option CommandForm) (told : Told) (status : ℕ) (line : List ℕ) → ¬ (status ≡ 2) → IsDue command told (refused status line) → IsSome command
refusal_asks None told status line not is = let same : status ≡ 2 = cc in absurd (not same)
refusal_asks (Some command) told status line not is = refl

module _ (words : List (List ℕ)) (before after : Outside) (status : ℕ) where
  abbrev Caused : Stop → Type 0
  Caused = HasCause (command_of words) before after

  abbrev Told_of : Stop → Type 0
  Told_of cause = Tells before.err after.err cause status

  abbrev IsListed : ℕ → Type 0
  IsListed n = Contains (0 ∷ 2 ∷ 3 ∷ 4 ∷ 5 ∷ 6 ∷ []) n

  listed : (n : ℕ) → IsListed n → status ≡ n → IsListed status
  listed n is same = subst IsListed (sym same) is

  stop_listed : (stop : Stop) → Told_of stop → IsListed status
  stop_listed Memory tells = listed 6 (5, lit< tt, refl) tells.0
  stop_listed Words (inl w) = listed 2 (1, lit< tt, refl) w.0
  stop_listed Words (inr w) = listed 5 (4, lit< tt, refl) w.0
  stop_listed Out (inl w) = listed 5 (4, lit< tt, refl) w.0
  stop_listed Out (inr w) = listed 5 (4, lit< tt, refl) w.0
  stop_listed Net (inl w) = listed 5 (4, lit< tt, refl) w.0
  stop_listed Net (inr w) = listed 5 (4, lit< tt, refl) w.0
  stop_listed (Peer names how) (inl w) = listed 5 (4, lit< tt, refl) w.0
  stop_listed (Peer names how) (inr w) = listed 5 (4, lit< tt, refl) w.0
  stop_listed (Files name) (inl w) = listed 5 (4, lit< tt, refl) w.0
  stop_listed (Files name) (inr w) = listed 5 (4, lit< tt, refl) w.0
  stop_listed (Refused line) (inl w) = listed 3 (2, lit< tt, refl) w.0
  stop_listed (Refused line) (inr w) = listed 5 (4, lit< tt, refl) w.0
  stop_listed (Covering line) (inl w) = listed 4 (3, lit< tt, refl) w.0
  stop_listed (Covering line) (inr w) = listed 5 (4, lit< tt, refl) w.0

  -- a text that was told, or could not be, at another status
  elsewhere : {R A B : Type 0} (due n : ℕ) → ((status ≡ due) × A) ⊎ ((status ≡ 5) × B) → status ≡ n → ¬ (due ≡ n) → ¬ (5 ≡ n) → R
  elsewhere due n (inl w) is other not = absurd (other (sym w.0 ∙ is))
  elsewhere due n (inr w) is other not = absurd (not (sym w.0 ∙ is))

  -- ---- 2

  abbrev Usage : Type 0
  Usage = (command_of words ≡ None) × (after.out ≡ before.out) × Writes usage_text before.err after.err (Ok tt)

  usage : (stop : Stop) → Caused stop → Told_of stop → status ≡ 2 → Usage
  usage Memory cause tells is = absurd (omega (arith, tells.0, is))
  usage Words cause (inl w) is = (cause.0, cause.2.0, w.1)
  usage Words cause (inr w) is = absurd (omega (arith, w.0, is))
  usage Out cause tells is = elsewhere 5 2 tells is (λ e. absurd (omega arith)) (λ e. absurd (omega arith))
  usage Net cause tells is = elsewhere 5 2 tells is (λ e. absurd (omega arith)) (λ e. absurd (omega arith))
  usage (Peer names how) cause tells is = elsewhere 5 2 tells is (λ e. absurd (omega arith)) (λ e. absurd (omega arith))
  usage (Files name) cause tells is = elsewhere 5 2 tells is (λ e. absurd (omega arith)) (λ e. absurd (omega arith))
  usage (Refused line) cause tells is = elsewhere 3 2 tells is (λ e. absurd (omega arith)) (λ e. absurd (omega arith))
  usage (Covering line) cause tells is = elsewhere 4 2 tells is (λ e. absurd (omega arith)) (λ e. absurd (omega arith))

  -- ---- 3 and 4

  abbrev Refusal : Type 0
  Refusal =
      (line : List ℕ) × IsSome (command_of words) × IsDue (command_of words) before.files.told (refused status line)
      × (after.out ≡ before.out) × Writes line before.err after.err (Ok tt)

  refusal_of : (n : ℕ) (line : List ℕ) → ¬ (n ≡ 2) → status ≡ n → IsDue (command_of words) before.files.told (refused n line) → after.out ≡ before.out → Writes line before.err after.err (Ok tt) → Refusal
  refusal_of n line not is due same w =
      (line, refusal_asks (command_of words) before.files.told n line not due, subst (λ s. IsDue (command_of words) before.files.told (refused s line)) (sym is) due, same, w)

  not_else : {R A B : Type 0} (due : ℕ) → ((status ≡ due) × A) ⊎ ((status ≡ 5) × B) → (status ≡ 3) ⊎ (status ≡ 4) → ¬ (due ≡ 3) → ¬ (due ≡ 4) → R
  not_else due tells (inl is) not also = elsewhere due 3 tells is not (λ e. absurd (omega arith))
  not_else due tells (inr is) not also = elsewhere due 4 tells is also (λ e. absurd (omega arith))

  no_five : {R : Type 0} → status ≡ 5 → (status ≡ 3) ⊎ (status ≡ 4) → R
  no_five five (inl is) = absurd (omega (arith, five, is))
  no_five five (inr is) = absurd (omega (arith, five, is))

  no_six : {R : Type 0} → status ≡ 6 → (status ≡ 3) ⊎ (status ≡ 4) → R
  no_six six (inl is) = absurd (omega (arith, six, is))
  no_six six (inr is) = absurd (omega (arith, six, is))

  refusal : (stop : Stop) → Caused stop → Told_of stop → (status ≡ 3) ⊎ (status ≡ 4) → Refusal
  refusal Memory cause tells is = no_six tells.0 is
  refusal Words cause tells is = not_else 2 tells is (λ e. absurd (omega arith)) (λ e. absurd (omega arith))
  refusal Out cause tells is = not_else 5 tells is (λ e. absurd (omega arith)) (λ e. absurd (omega arith))
  refusal Net cause tells is = not_else 5 tells is (λ e. absurd (omega arith)) (λ e. absurd (omega arith))
  refusal (Peer names how) cause tells is = not_else 5 tells is (λ e. absurd (omega arith)) (λ e. absurd (omega arith))
  refusal (Files name) cause tells is = not_else 5 tells is (λ e. absurd (omega arith)) (λ e. absurd (omega arith))
  refusal (Refused line) cause (inl w) is = refusal_of 3 line.items (λ e. absurd (omega arith)) w.0 cause.0.0 cause.1.0 w.1
  refusal (Refused line) cause (inr w) is = no_five w.0 is
  refusal (Covering line) cause (inl w) is = refusal_of 4 line.items (λ e. absurd (omega arith)) w.0 cause.0.0 cause.1.0 w.1
  refusal (Covering line) cause (inr w) is = no_five w.0 is

  -- ---- 5

  -- `out` failed to take the text of what is due
  cut_rose : (due : Due) → CutShort due before after → Rose before.out.faults after.out.faults
  cut_rose (text due) cut = cut.0.1.failed
  cut_rose (talk job) cut = cut.2.1.failed

  fault : (stop : Stop) → Caused stop → Told_of stop → status ≡ 5 → AnyRose before after ⊎ FailsToTalk (command_of words) before after
  fault Memory cause tells is = absurd (omega (arith, tells.0, is))
  fault Words cause (inl w) is = absurd (omega (arith, w.0, is))
  fault Words cause (inr w) is = inl (inr (inr w.1.1.failed))
  fault Out cause tells is = inl (inr (inl (cut_rose cause.0 cause.2)))
  fault Net cause tells is = inr (cause.0, cause.1.0, cause.1.1, inr cause.2)
  fault (Peer names how) cause tells is = inr (cause.0, cause.1.0, cause.1.1, inl (how, cause.3))
  fault (Files name) cause tells is = inl (inl cause.0.rose)
  fault (Refused line) cause (inl w) is = absurd (omega (arith, w.0, is))
  fault (Refused line) cause (inr w) is = inl (inr (inr w.1.1.failed))
  fault (Covering line) cause (inl w) is = absurd (omega (arith, w.0, is))
  fault (Covering line) cause (inr w) is = inl (inr (inr w.1.1.failed))

  -- ---- 6

  abbrev Nothing : Type 0
  Nothing = (after.out ≡ before.out) × (after.err ≡ before.err)

  memory : (stop : Stop) → Caused stop → Told_of stop → status ≡ 6 → Nothing
  memory Memory cause tells is = (cause.1.out, tells.1)
  memory Words cause tells is = elsewhere 2 6 tells is (λ e. absurd (omega arith)) (λ e. absurd (omega arith))
  memory Out cause tells is = elsewhere 5 6 tells is (λ e. absurd (omega arith)) (λ e. absurd (omega arith))
  memory Net cause tells is = elsewhere 5 6 tells is (λ e. absurd (omega arith)) (λ e. absurd (omega arith))
  memory (Peer names how) cause tells is = elsewhere 5 6 tells is (λ e. absurd (omega arith)) (λ e. absurd (omega arith))
  memory (Files name) cause tells is = elsewhere 5 6 tells is (λ e. absurd (omega arith)) (λ e. absurd (omega arith))
  memory (Refused line) cause tells is = elsewhere 3 6 tells is (λ e. absurd (omega arith)) (λ e. absurd (omega arith))
  memory (Covering line) cause tells is = elsewhere 4 6 tells is (λ e. absurd (omega arith)) (λ e. absurd (omega arith))

  -- ---- any but 5

  counts : after.files.faults ≡ before.files.faults → after.out ≡ before.out → after.err.faults ≡ before.err.faults → SameCounts before after
  counts files same err = record { files = files; out = ap (λ o. o.faults) same; err = err }

  quiet : (stop : Stop) → Caused stop → Told_of stop → ¬ (status ≡ 5) → SameCounts before after
  quiet Memory cause tells not = counts cause.1.files cause.1.out (ap (λ e. e.faults) tells.1)
  quiet Words cause (inl w) not = counts (ap (λ f. f.faults) cause.1) cause.2.0 w.1.quiet
  quiet Words cause (inr w) not = absurd (not w.0)
  quiet Out cause (inl w) not = absurd (not w.0)
  quiet Out cause (inr w) not = absurd (not w.0)
  quiet Net cause (inl w) not = absurd (not w.0)
  quiet Net cause (inr w) not = absurd (not w.0)
  quiet (Peer names how) cause (inl w) not = absurd (not w.0)
  quiet (Peer names how) cause (inr w) not = absurd (not w.0)
  quiet (Files name) cause (inl w) not = absurd (not w.0)
  quiet (Files name) cause (inr w) not = absurd (not w.0)
  quiet (Refused line) cause (inl w) not = counts cause.0.2 cause.1.0 w.1.quiet
  quiet (Refused line) cause (inr w) not = absurd (not w.0)
  quiet (Covering line) cause (inl w) not = counts cause.0.2 cause.1.0 w.1.quiet
  quiet (Covering line) cause (inr w) not = absurd (not w.0)

  -- ---- all

  words_refused : Answers words before after status → command_of words ≡ None → ¬ AnyRose before after → ¬ (status ≡ 6) → status ≡ 2
  words_refused a is none memory =
      let verdict : a.due.0 ≡ refused 2 usage_text = subst (λ c. IsDue c before.files.told a.due.0) is a.due.1 in
      let given : Lets before after (refused 2 usage_text) → IsGiven before after status (refused 2 usage_text) =
      subst (λ v. Lets before after v → IsGiven before after status v) verdict (a.due.2 memory) in
      (given (inl (none, tt))).0

  -- `out` took the text of what is due
  quiet_out : (due : Due) → Fulfils due before after → after.out.faults ≡ before.out.faults
  quiet_out (text due) given = given.0.quiet
  quiet_out (talk job) given = given.2.quiet

  at_zero : Answers words before after status → status ≡ 0 → StatusSays words before after status
  at_zero a is = record {
    refused_words = words_refused a;
    one_of = listed 0 (0, lit< tt, refl) is;
    usage = λ two. absurd (omega (arith, is, two));
    refusal = λ some. elim some [ inl e ↦ absurd (omega (arith, is, e)) | inr e ↦ absurd (omega (arith, is, e)) ];
    fault = λ five. absurd (omega (arith, is, five));
    memory = λ six. absurd (omega (arith, is, six));
    quiet = λ not. record {
      files = (a.done is).0.1.2;
      out = quiet_out (a.done is).0.0 (a.done is).0.2;
      err = ap (λ e. e.faults) (a.done is).1;
    };
  }

  at_stop : Answers words before after status → (stop : Stop) → Caused stop → Told_of stop → StatusSays words before after status
  at_stop a stop cause tells = record {
    refused_words = words_refused a;
    one_of = stop_listed stop tells;
    usage = usage stop cause tells;
    refusal = refusal stop cause tells;
    fault = fault stop cause tells;
    memory = memory stop cause tells;
    quiet = quiet stop cause tells;
  }

  pub status_says : Answers words before after status → StatusSays words before after status
  status_says a = elim (zero_or_not status) [
    | inl is ↦ at_zero a is
    | inr not ↦ at_stop a (a.stopped not).0 (a.stopped not).1 (a.stopped not).2
  ]
