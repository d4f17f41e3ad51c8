-- Verdicts over the words of a world.
use Rattle.std.proofs.Common.{◌≡◌, ℕ, ◌+◌, ◌*◌, ◌/◌, ◌%◌, ◌^◌, ◌<◌, ◌⊎◌, inl, inr, Bool, true, false, ◌||◌, List, length, Result, Ok, Err, refl, sym, ap, ◌∙◌, subst, arith}
use Rattle.std.proofs.lemmas.Bool.{eq-eqb}
use Rattle.std.proofs.lemmas.Nat.{div-mul-add, pow_pos}
use Rattle.party_set.specs.Parties.{has_party}
use Rattle.plan_model.specs.Numbers.{message}
use Rattle.std.specs.Prelude.{MatchResult, IfOk, IfErr}
use Rattle.party_names.specs.Names.{AreNames}
use Rattle.plan_model.specs.declared.key.Key.{Key}
use Rattle.share_world.specs.Worlds.{view}
use Rattle.view_check.specs.declared.fault.CheckFault.{CheckFault}
use Rattle.view_check.specs.declared.fault.CheckFault.TheVariants.{Memory, WrongWord}
use Rattle.view_check.specs.Views.{verdict}
use Rattle.view_text.specs.ViewText.{view_text}
use Rattle.view_check.specs.Laws.{AreTold, IsView, IsWrongWord}
use Rattle.view_check.specs.WorldLaws.{WrittenViewsAreAccepted, AllSeeAll, OwnViewsHaveAll}
use Rattle.view_check.proofs.ViewLaws.{view_is, is_view, is_wrong}
use Rattle.view_check.proofs.ToldViews.{told_views, all_seen}

pub written_views : WrittenViewsAreAccepted
written_views w names group whole are same small =
    is_view names (view w) are (told_views w whole names same) (view_text names group (view w group)) (length (view w group)) (record {
      group = group;
      parties = subst (λ n. group < 2 ^ n) (sym same) small;
      lines = refl;
      counted = refl;
    })

pub all_see_all : AllSeeAll
all_see_all w whole = all_seen w whole

-- ---- the answer of a check

module _ (names : List (List ℕ)) (see : ℕ → List (Key × ℕ)) (text : List ℕ) (are : AreNames names) (told : AreTold names see) where
  abbrev Judged : Result ℕ CheckFault → Type 0
  Judged r = MatchResult r (λ count. verdict names see text ≡ Ok count) (λ fault. (fault ≡ Memory) ⊎ (verdict names see text ≡ Err fault))

  pub yes_is : (r : Result ℕ CheckFault) → Judged r → IfOk r (IsView names see text)
  yes_is (Ok count) h = view_is names see are told text count h
  yes_is (Err fault) h = tt

  pub yes_comes : (r : Result ℕ CheckFault) → Judged r → (count : ℕ) → IsView names see text count → MatchResult r (λ found. found ≡ count) (λ fault. fault ≡ Memory)
  yes_comes (Ok found) h count v = let both : Ok found ≡ Ok count = sym h ∙ is_view names see are told text count v in cc
  yes_comes (Err fault) (inl memory) count v = memory
  yes_comes (Err fault) (inr h) count v = absurd (let both : Err fault ≡ Ok count = sym h ∙ is_view names see are told text count v in cc)

  pub wrong_is : (r : Result ℕ CheckFault) → Judged r → IfErr r (λ fault. (line wanted found : ℕ) → fault ≡ WrongWord line wanted found → IsWrongWord names see text line wanted found)
  wrong_is (Ok count) h = tt
  wrong_is (Err fault) (inl memory) = λ line wanted found e. absurd (let bad : Memory ≡ WrongWord line wanted found = sym memory ∙ e in cc)
  wrong_is (Err fault) (inr h) = λ line wanted found e. is_wrong names see are told line wanted found text (h ∙ ap Err e)

-- ---- the view of one party

own_bit : (p : ℕ) → has_party (2 ^ p) p ≡ true
own_bit p =
    let one : 2 ^ p ≡ 1 * 2 ^ p + 0 = omega arith in
    eq-eqb _ 1 (ap (λ n. n / 2 ^ p % 2) one ∙ ap (λ q. q % 2) (div-mul-add 1 (2 ^ p) 0 (pow_pos p)))

or_right : (a b : Bool) → b ≡ true → (a || b) ≡ true
or_right true b e = refl
or_right false b e = e

pub own_views : OwnViewsHaveAll
own_views w n whole l =
    let key = message w.plan n in
    (ap (λ b. b || has_party (2 ^ key.sender) key.receiver) (own_bit key.sender), or_right (has_party (2 ^ key.receiver) key.sender) (has_party (2 ^ key.receiver) key.receiver) (own_bit key.receiver))
