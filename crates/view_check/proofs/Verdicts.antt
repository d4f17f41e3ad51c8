-- The verdict on a text, as it is found.
use Rattle.std.proofs.Common.{◌≡◌, ◌==◌, ℕ, ◌+◌, ◌≤◌, List, [], ◌∷◌, filter, length, Some, None, Ok, Err, sym, ap, ◌∙◌, arith, append-nil}
use Rattle.std.proofs.lemmas.List.{length-map}
use Rattle.std.proofs.lemmas.List.Sums.{length-filter, count_by-le-length}
use Rattle.std.proofs.lemmas.List.Splits.{length-slice_split}
use Rattle.list_laws.specs.Checks.{or_fault}
use Rattle.plan_model.specs.declared.key.Key.{Key}
use Rattle.share_world.specs.Worlds.{World, touches, word}
use Rattle.view_check.specs.declared.fault.CheckFault.{CheckFault}
use Rattle.view_check.specs.declared.fault.CheckFault.TheVariants.{BadHead}
use Rattle.view_check.specs.Lines.{parts_at, lines_from, lines_in, lines_of}
use Rattle.view_check.specs.Heads.{head_mask}
use Rattle.view_text.specs.Seen.{seen_of}
use Rattle.view_check.specs.Views.{Place, fault_from, verdict_for, verdict_in, verdict, Passes, Stops}

module _ (names : List (List ℕ)) (see : ℕ → List (Key × ℕ)) (text : List ℕ) (all : List (List ℕ)) (all_are : all ≡ lines_of text) where
  pub no_line : all ≡ [] → verdict names see text ≡ Err BadHead
  unfolding verdict
  no_line e = ap (verdict_in names see) (sym all_are ∙ e)

  module _ (head : List ℕ) (lines : List (List ℕ)) (is : all ≡ head ∷ lines) where
    pub no_head : None ≡ head_mask names head → verdict names see text ≡ Err BadHead
    unfolding verdict
    no_head e = ap (verdict_in names see) (sym all_are ∙ is) ∙ ap (verdict_for names see lines) (sym e)

    module _ (mask : ℕ) (named : Some mask ≡ head_mask names head) (place : Place) (place_is : place ≡ record { lines = lines; found = 0 }) where
      judged : verdict names see text ≡ or_fault (fault_from names place (see mask)) (length (see mask))
      unfolding verdict
      judged =
          ap (verdict_in names see) (sym all_are ∙ is)
          ∙ ap (verdict_for names see lines) (sym named)
          ∙ ap (λ (p : Place). or_fault (fault_from names p (see mask)) (length (see mask))) (sym place_is)

      -- a fault among the messages
      pub stopped : (fault : CheckFault) → Stops names (see mask) place fault → verdict names see text ≡ Err fault
      stopped fault h =
          judged
          ∙ ap (λ o. or_fault o (length (see mask))) (ap (fault_from names place) (sym (append-nil (see mask))) ∙ h.stops [])

      module _ (after : Place) (passes : Passes names (see mask) place after) where
        rest_is : fault_from names place (see mask) ≡ fault_from names after []
        rest_is = ap (fault_from names place) (sym (append-nil (see mask))) ∙ passes.passes []

        -- a fault behind them
        pub passed_by : (fault : CheckFault) → fault_from names after [] ≡ Some fault → verdict names see text ≡ Err fault
        passed_by fault e = judged ∙ ap (λ o. or_fault o (length (see mask))) (rest_is ∙ e)

        pub count_is : after.found ≡ length (see mask)
        count_is = let none = ap (λ (p : Place). p.found) place_is in omega (arith, passes.count)

        -- no fault
        pub all_passed : (count : ℕ) → fault_from names after [] ≡ None → count ≡ after.found → verdict names see text ≡ Ok count
        all_passed count e found = judged ∙ ap (λ o. or_fault o (length (see mask))) (rest_is ∙ e) ∙ ap Ok (sym (found ∙ count_is))

-- ---- few lines

from_few : (part : List ℕ) (parts : List (List ℕ)) → length (lines_from part parts) ≤ length parts + 1
from_few [] [] = omega arith
from_few (c ∷ part) [] = omega arith
from_few part (next ∷ parts) = let rest = from_few next parts in omega arith

in_few : (parts : List (List ℕ)) → length (lines_in parts) ≤ length parts
in_few [] = omega arith
in_few (part ∷ parts) = let rest = from_few part parts in omega arith

pub few_lines : (text : List ℕ) → length (lines_of text) ≤ length text + 1
unfolding lines_of
few_lines text =
    let lines = in_few (parts_at 10 text) in
    let parts = length-slice_split (λ b. b == 10) text in
    let count = count_by-le-length (λ b. b == 10) text in
    omega arith

-- a group sees no more messages than there are
pub few_seen : (w : World) (group : ℕ) (keys : List Key) → length (seen_of w group keys) ≤ length keys
few_seen w group keys =
    let seen : length (seen_of w group keys) ≡ length (filter (touches group) keys) = length-map (filter (touches group) keys) (λ (key : Key). (key, word w key)) in
    let kept = length-filter (touches group) keys in
    let few = count_by-le-length (touches group) keys in
    omega arith
