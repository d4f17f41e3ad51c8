-- The lines of a view's text.
use Rattle.std.proofs.Common.{◌≡◌, ℕ, zero, suc, ◌%◌, ◌^◌, ◌<◌, nat_eq, Bool, true, false, not, ◌&&◌, List, [], ◌∷◌, ◌++◌, map, length, inl, inr, refl, ap, ap₂, ◌∙◌, arith, append_assoc}
use Rattle.std.specs.Prelude.{codes}
use Rattle.std.specs.List.{list_all, AllByRecursion}
use Rattle.std.proofs.lemmas.Bool.{cases_Bool, cond-true, cond-false}
use Rattle.std.proofs.lemmas.List.Folds.{list_all-append}
use Rattle.list_laws.specs.Lists.{joined, only_if}
use Rattle.party_set.specs.Parties.{has_party}
use Rattle.party_names.specs.Names.{is_name_byte, name_at, AreNames}
use Rattle.text_parts.specs.Parts.{member_text, group_text}
use Rattle.plan_model.specs.declared.key.Key.{Key}
use Rattle.view_check.specs.Lines.{lines_of}
use Rattle.view_check.specs.Heads.{head_line}
use Rattle.view_check.specs.Laws.{IsTold}
use Rattle.view_text.specs.ViewText.{message_lines, view_head, view_text}
use Rattle.view_check.proofs.TextLines.{lines-none}
use Rattle.view_check.proofs.GroupNames.{all_bytes}
use Rattle.view_check.proofs.LineBytes.{weaker, is_inner, line_before}
use Rattle.view_check.proofs.MessageTexts.{message_text, line_of_text, message_is_inner, name_is_inner}

-- the lines of these messages
abbrev pub texts : List (List ℕ) → List (Key × ℕ) → List (List ℕ)
texts names seen = map (λ (m : Key × ℕ). message_text names m.0 m.1) seen

module _ (names : List (List ℕ)) (are : AreNames names) where
  pub lines_of_messages : (seen : List (Key × ℕ)) → AllByRecursion (IsTold names) seen → lines_of (message_lines names seen) ≡ texts names seen
  lines_of_messages [] told = lines-none [] refl
  lines_of_messages (m ∷ seen) told =
      ap lines_of (line_of_text names m.0 m.1 (message_lines names seen))
      ∙ line_before (message_text names m.0 m.1) (message_lines names seen) (message_is_inner names are m.0 m.1 told.0)
      ∙ ap (λ ls. message_text names m.0 m.1 ∷ ls) (lines_of_messages seen told.1)

  -- ---- the first line

  module _ (group : ℕ) where
    member_inner : (p : ℕ) → p < length names → list_all is_inner (member_text names group p) ≡ true
    member_inner p l = go (has_party group p) (not (nat_eq (group % 2 ^ p) 0))
      where
        name : list_all is_inner (name_at names p) ≡ true
        name = weaker is_name_byte is_inner (name_at names p) name_is_inner (all_bytes (name_at names p) (are.names p l))

        go : (has plus : Bool) → list_all is_inner (only_if has (only_if plus (codes "+") ++ name_at names p)) ≡ true
        go false plus = refl
        go true true = name
        go true false = name

    members_inner : (k : ℕ) → ((p : ℕ) → p < k → p < length names) → list_all is_inner (joined k (member_text names group)) ≡ true
    members_inner zero h = refl
    members_inner (suc k) h =
        list_all-append is_inner (joined k (member_text names group)) (member_text names group k)
        ∙ ap₂ (λ a b. a && b) (members_inner k (λ p l. h p (omega arith))) (member_inner k (h k (omega arith)))

    group_inner : list_all is_inner (group_text names group) ≡ true
    group_inner = elim (cases_Bool (nat_eq group 0)) [
      | inl none ↦ ap (list_all is_inner) (cond-true (nat_eq group 0) (codes "0") (joined (length names) (member_text names group)) none)
      | inr some ↦ ap (list_all is_inner) (cond-false (nat_eq group 0) (codes "0") (joined (length names) (member_text names group)) some) ∙ members_inner (length names) (λ p l. l)
    ]

    -- the lines of a view: its first, and those of the messages
    pub lines_of_view : (seen : List (Key × ℕ)) → AllByRecursion (IsTold names) seen → lines_of (view_text names group seen) ≡ head_line names group ∷ texts names seen
    unfolding view_text
    lines_of_view seen told =
        ap lines_of flat
        ∙ line_before (head_line names group) (message_lines names seen) group_inner
        ∙ ap (λ ls. head_line names group ∷ ls) (lines_of_messages seen told)
      where
        flat : view_head names group ++ message_lines names seen ≡ head_line names group ++ 10 ∷ message_lines names seen
        flat = simp append_assoc
