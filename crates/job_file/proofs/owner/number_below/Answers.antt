use Rattle.std.proofs.Common.{◌∙◌, ap, sym, cond, Some, None, arith}
use Rattle.std.proofs.lemmas.Bool.{lt-ltb, le-ltb}
use Rattle.job_file.proofs.Owners.{number_told}
use Rattle.job_file.proofs.owner.number_below.Goals as goal

pub returns-in-Some : goal.returns-in-Some
returns-in-Some c =
    let told = number_told c.args.bound c.args.text.now (omega (arith, c.ranges.bound.fits)) (sym c.is_decimal.ensures ∙ c.if-not-is_decimal.false) (Some c.in-Some.value) c.in-Some.ensures in
    sym (told ∙ ap (λ b. cond b (Some c.in-Some.value) None) (lt-ltb c.in-Some.value c.args.bound (omega (arith, c.from.ensures, c.if-value-from.true))))

pub returns-in_default : goal.returns-in_default
returns-in_default c =
    let told = number_told c.args.bound c.args.text.now (omega (arith, c.ranges.bound.fits)) (sym c.is_decimal.ensures ∙ c.if-not-is_decimal.false) (Some c.in-Some.value) c.in-Some.ensures in
    sym (told ∙ ap (λ b. cond b (Some c.in-Some.value) None) (le-ltb c.in-Some.value c.args.bound (omega (arith, c.from.ensures, c.if-value-from.false))))

pub returns-in_default-2 : goal.returns-in_default-2
returns-in_default-2 c = sym (number_told c.args.bound c.args.text.now (omega (arith, c.ranges.bound.fits)) (sym c.is_decimal.ensures ∙ c.if-not-is_decimal.false) None c.in_default.ensures)
