-- Numbers that digits write.
use Rattle.std.proofs.Common.{◌≡◌, ℕ, ◌+◌, ◌-◌, ◌*◌, ◌^◌, ◌≤◌, ◌<◌, Bool, true, false, cond, ◌&&◌, nat_le, List, [], ◌∷◌, ◌++◌, length, take, drop, get_or, Some, None, refl, sym, ◌∙◌, ap, arith}
use Rattle.std.specs.List.{prefix_len, take_while}
use Rattle.std.specs.Char.{is_ascii_digit}
use Rattle.std.proofs.lemmas.Bool.{lt-leb}
use Rattle.std.proofs.lemmas.List.{take_more, take-append-drop, get_or-take}
use Rattle.std.proofs.lemmas.List.Sums.{prefix_len_passes}
use Rattle.std.proofs.lemmas.List.Folds.{length-prefix_len}
use Rattle.group_formula.specs.Formulas.{decimal_after, decimal}

pub decimal-append : (n : ℕ) (xs ys : List ℕ) → decimal_after n (xs ++ ys) ≡ decimal_after (decimal_after n xs) ys
decimal-append n [] ys = refl
decimal-append n (x ∷ xs) ys = decimal-append (10 * n + (x - 48)) xs ys

pub decimal_more : (ds : List ℕ) (i : ℕ) → i < length ds → decimal (take (i + 1) ds) ≡ 10 * decimal (take i ds) + (get_or ds i 0 - 48)
decimal_more ds i l = ap decimal (take_more ds i 0 l) ∙ decimal-append 0 (take i ds) (get_or ds i 0 ∷ [])

decimal_grows : (n : ℕ) (ds : List ℕ) → n ≤ decimal_after n ds
decimal_grows n [] = omega arith
decimal_grows n (d ∷ ds) = omega (arith, decimal_grows (10 * n + (d - 48)) ds)

decimal_le : (ds : List ℕ) (i : ℕ) → decimal (take i ds) ≤ decimal ds
decimal_le ds i = omega (arith, decimal_grows (decimal (take i ds)) (drop i ds), sym (decimal-append 0 (take i ds) (drop i ds)) ∙ ap decimal (take-append-drop i ds))

-- each of the digits is one
pub digit_at : (xs ds : List ℕ) (i : ℕ) → ds ≡ take_while is_ascii_digit xs → i < length ds → is_ascii_digit (get_or ds i 0) ≡ true
digit_at xs ds i e l =
    let within : i < prefix_len is_ascii_digit xs = omega (arith, ap length e, length-prefix_len is_ascii_digit xs) in
    ap (λ ys. is_ascii_digit (get_or ys i 0)) e ∙ ap is_ascii_digit (get_or-take (prefix_len is_ascii_digit xs) xs i 0 within) ∙ prefix_len_passes is_ascii_digit xs i 0 within

-- a number that does not fit, and one that does
pub refused_digit : (n d most : ℕ) → (n * 10 + d < most → ⊥) → most ≤ 10 * n + d
refused_digit n d most over = omega arith

pub taken_digit : (n d m : ℕ) → m ≡ n * 10 + d → m ≡ 10 * n + d
taken_digit n d m is = omega arith

no_count : (a : Bool) (v parts : ℕ) → nat_le v parts ≡ false → cond (a && nat_le v parts) (Some v) None ≡ None
no_count true v parts e = ap (λ b. cond b (Some v) None) e
no_count false v parts e = refl

-- a number that does not fit is more than the parts
pub too_large : (ds : List ℕ) (i parts : ℕ) → i < length ds → 2 ^ 64 ≤ 10 * decimal (take i ds) + (get_or ds i 0 - 48) → parts < 2 ^ 64 → cond (nat_le 1 (decimal ds) && nat_le (decimal ds) parts) (Some (decimal ds)) None ≡ None
too_large ds i parts l large fits = no_count (nat_le 1 (decimal ds)) (decimal ds) parts (lt-leb (decimal ds) parts (omega (arith, decimal_le ds (i + 1), decimal_more ds i l, large, fits)))
