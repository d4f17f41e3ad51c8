-- Inlets that have nothing left, or enough.
use Rattle.std.proofs.Common.{◌≡◌, ℕ, ◌≤◌, List, [], ◌++◌, length, take, Option, None, Some, true, false, refl, ap, sym, subst, ◌∙◌, arith, length-append}
use Rattle.std.specs.Prelude.{IsTrue, ◌↔◌, unwrap_or}
use Rattle.std.specs.Option.{option_map_or}
use Rattle.std.proofs.lemmas.Bool.{false≢true}
use Rattle.std.proofs.lemmas.List.{length-take-le}
use Rattle.outer_io.specs.Inlet.{InletReading, ReadsInto, Fills, IsAtEnd, ahead}
use Rattle.outer_io.specs.declared.inlet.Got.{Got}
use Rattle.outer_io.specs.declared.inlet.Got.TheVariants.{Bytes, End, Failed}
use Rattle.outer_io.specs.declared.inlet.Filled.{Filled}
use Rattle.outer_io.specs.declared.inlet.Filled.TheVariants.{Full, Short, Faulty}

-- how many bytes were told before these came
told_length : (bytes front : List ℕ) (told : Option (List ℕ)) → Some bytes ≡ ahead front told → length front ≤ length bytes
told_length bytes front None same = absurd (false≢true (sym (ap (λ o. option_map_or (λ b. true) o false) same)))
told_length bytes front (Some left) same =
    let whole : bytes ≡ front ++ left = ap (λ o. unwrap_or o bytes) same in
    omega (arith, ap length whole, length-append front left)

-- and if none are left
whole_length : (bytes front : List ℕ) (told : Option (List ℕ)) → Some bytes ≡ ahead front told → IsAtEnd told → length bytes ≡ length front
whole_length bytes front None same end = absurd (false≢true (sym (ap (λ o. option_map_or (λ b. true) o false) same)))
whole_length bytes front (Some left) same end =
    let whole : bytes ≡ front ++ left = ap (λ o. unwrap_or o bytes) same in
    omega (arith, ap length whole, length-append front left, ap length end)

no_bytes : (bytes : List ℕ) → bytes ≡ [] → length bytes ≡ 0
no_bytes bytes none = ap length none

pub empty_ends : (into bytes : List ℕ) (before after : InletReading) (result : Got) → ReadsInto into before after result → before.told ≡ Some bytes → (result ≡ Failed → ⊥) → (result ≡ End) ↔ (bytes ≡ [])
empty_ends into bytes before after (Bytes count) reads told good =
    let came = reads.answers in
    let some = told_length bytes (take count into) after.told (sym told ∙ came.bytes) in
    let long = length-take-le count into came.within in
    (λ same. cc, λ none. absurd (omega (arith, no_bytes bytes none, some, long, came.some)))
empty_ends into bytes before after End reads told good =
    (λ same. let Ends : Option (List ℕ) → Type 0 = IsAtEnd in subst Ends told reads.answers.1, λ none. refl)
empty_ends into bytes before after Failed reads told good = absurd (good refl)

pub steady_fills : (into bytes : List ℕ) (before after : InletReading) (result : Filled) → Fills into before after result → IsTrue before.steady → before.told ≡ Some bytes
    → (result ≡ Full) ↔ (length into ≤ length bytes)
steady_fills into bytes before after Full fills steady told =
    (λ same. told_length bytes into after.told (sym told ∙ fills.filled.0), λ fits. refl)
steady_fills into bytes before after (Short count) fills steady told =
    let all = whole_length bytes (take count into) after.told (sym told ∙ fills.filled.1) fills.filled.2 in
    let long = length-take-le count into (omega (arith, fills.filled.0)) in
    (λ same. cc, λ fits. absurd (omega (arith, all, long, fits, fills.filled.0)))
steady_fills into bytes before after Faulty fills steady told = absurd (fills.filled.2 steady)
