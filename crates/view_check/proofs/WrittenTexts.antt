-- A message's line as it is written, part by part.
use Rattle.std.proofs.Common.{◌≡◌, ℕ, ◌+◌, List, [], ◌∷◌, ◌++◌, Option, None, Some, IfSome, sym, ap, ◌∙◌, arith, append_assoc}
use Rattle.std.specs.Prelude.{decimal}
use Rattle.std.specs.Option.{option_or}
use Rattle.party_names.specs.Names.{name_at}
use Rattle.plan_model.specs.declared.key.Key.{Key}
use Rattle.view_text.specs.ViewText.{message_line}
use Rattle.view_check.specs.MessageLines.{StandsFirst}
use Rattle.view_check.specs.Views.{Place, lines_fault, Passes}

pub if_some : {A : Type 0} (P Q : A → Type 0) (result : Option A) → ((x : A) → P x → Q x) → IfSome result P → IfSome result Q
if_some P Q None h p = tt
if_some P Q (Some x) h p = h x p

module _ (names : List (List ℕ)) (key : Key) (word : ℕ) where
  -- a text that has the parts of the line begins with the line
  pub parts_then : (text a b c d e rest : List ℕ)
      → text ≡ decimal key.session ++ 32 ∷ a → a ≡ decimal key.slot ++ 32 ∷ b → b ≡ decimal key.share ++ 32 ∷ c
      → c ≡ name_at names key.sender ++ 32 ∷ d → d ≡ name_at names key.receiver ++ 32 ∷ e → e ≡ decimal word ++ 10 ∷ rest
      → text ≡ message_line names key word ++ rest
  parts_then text a b c d e rest session slot share sender receiver last =
      session ∙ ap (λ t. decimal key.session ++ 32 ∷ t) (slot
      ∙ ap (λ t. decimal key.slot ++ 32 ∷ t) (share
      ∙ ap (λ t. decimal key.share ++ 32 ∷ t) (sender
      ∙ ap (λ t. name_at names key.sender ++ 32 ∷ t) (receiver
      ∙ ap (λ t. name_at names key.receiver ++ 32 ∷ t) last))))
      ∙ flat
    where
      flat : decimal key.session ++ 32 ∷ (decimal key.slot ++ 32 ∷ (decimal key.share ++ 32 ∷ (name_at names key.sender ++ 32 ∷ (name_at names key.receiver ++ 32 ∷ (decimal word ++ 10 ∷ rest))))) ≡ message_line names key word ++ rest
      flat = simp append_assoc

  -- a line that stands first is passed
  pub first_passes : (before after : Place) → StandsFirst names key word before.lines after.lines → after.found ≡ before.found + 1
      → Passes names ((key, word) ∷ []) before after
  first_passes before after stands count = record {
    passes = λ rest.
        ap (λ ls. lines_fault names before.found ls ((key, word) ∷ rest)) stands.first
        ∙ ap (λ fault. option_or fault (lines_fault names (before.found + 1) after.lines rest)) (stands.right (before.found + 2))
        ∙ ap (λ n. lines_fault names n after.lines rest) (sym count);
    count = omega (arith, count);
  }
