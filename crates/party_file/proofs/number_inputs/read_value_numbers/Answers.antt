use Rattle.std.proofs.Common.{rules, ◌≡◌, ◌*◌, length, ap, ap₂, ◌∙◌, sym}
use Rattle.std.specs.Prelude.{vec_len}
use Rattle.list_laws.proofs.FirstFaults.{stops_at, stops_by, or_fault-ok}
use Rattle.party_file.specs.Table.{number_widths}
use Rattle.value_words.specs.Turned.{wires_of}
use Rattle.party_file.specs.declared.fault.PartyFault.TheVariants.{Memory}
use Rattle.party_file.proofs.NumberChecks.{at_words, at_numbers, at_count, all_numbers, numbers_pass}
use Rattle.party_file.proofs.number_inputs.read_value_numbers.Goals as goal

pub returns-in_err-numbers-clause-fault : goal.returns-in_err-numbers-clause-fault
returns-in_err-numbers-clause-fault c =
    stops_by Memory c.from_residual.result _ _ _ c.from_residual.ensures.1 (λ h. at_words c.args.ring c.args.widths.now c.args.session c.args.text.now _ h) c.in_err-numbers.ensures.fault

pub returns-in_err-check_numbers-clause-fault : goal.returns-in_err-check_numbers-clause-fault
returns-in_err-check_numbers-clause-fault c =
    let found = c.deref-2.ensures.value ∙ c.in_ok-numbers.ensures.passed.1 in
    let allowed = c.deref.ensures.value ∙ c.in_ok-allowed.ensures ∙ ap (λ n. number_widths n c.args.widths.now) c.bits.ensures.is in
    stops_at Memory c.from_residual-in_err-check_numbers.result _ _ _ c.from_residual-in_err-check_numbers.ensures.1
    (λ h. at_numbers c.args.ring c.args.widths.now c.args.session c.args.text.now _ _ found allowed c.in_ok-numbers.ensures.passed.0 _ h) c.in_err-check_numbers.ensures

pub returns-in_err-check_count-clause-fault : goal.returns-in_err-check_count-clause-fault
returns-in_err-check_count-clause-fault c =
    let many : vec_len c.in_ok-allowed.allowed ≡ length c.in_ok-allowed.allowed.items = search rules in
    let are = c.in_ok-allowed.ensures ∙ ap (λ n. number_widths n c.args.widths.now) c.bits.ensures.is in
    let good = c.in_ok-numbers.ensures.passed in
    let before = numbers_pass c.args.ring c.args.widths.now c.args.session c.args.text.now _ _ (c.deref-2.ensures.value ∙ good.1) (c.deref.ensures.value ∙ are) (or_fault-ok _ _ _ c.in_ok-check_numbers.ensures).0 in
    stops_at Memory c.from_residual-in_err-check_count.result _ _ _ c.from_residual-in_err-check_count.ensures.1
    (λ h. at_count c.args.ring c.args.widths.now c.args.session c.args.text.now _ _ (c.deref-3.ensures.value ∙ good.1) are good.0 _ _ (c.len.ensures ∙ many) before h) c.in_err-check_count.ensures

pub wires_of-requires-clause-all : goal.wires_of-requires-clause-all
wires_of-requires-clause-all c =
    let many : vec_len c.in_ok-allowed.allowed ≡ length c.in_ok-allowed.allowed.items = search rules in
    let are = c.in_ok-allowed.ensures ∙ ap (λ n. number_widths n c.args.widths.now) c.bits.ensures.is in
    let good = c.in_ok-numbers.ensures.passed in
    ap length (c.deref-4.ensures.value ∙ sym c.deref-3.ensures.value)
    ∙ all_numbers c.args.ring c.args.widths.now c.args.session c.args.text.now _ _ (c.deref-3.ensures.value ∙ good.1) are _ (c.len.ensures ∙ many) (or_fault-ok _ _ _ c.in_ok-check_count.ensures).0
    ∙ ap (λ n. length c.args.widths.now * n) (sym c.bits-2.ensures.is)

pub returns-clause-passed : goal.returns-clause-passed
returns-clause-passed c =
    let many : vec_len c.in_ok-allowed.allowed ≡ length c.in_ok-allowed.allowed.items = search rules in
    let are = c.in_ok-allowed.ensures ∙ ap (λ n. number_widths n c.args.widths.now) c.bits.ensures.is in
    let good = c.in_ok-numbers.ensures.passed in
    let before = numbers_pass c.args.ring c.args.widths.now c.args.session c.args.text.now _ _ (c.deref-2.ensures.value ∙ good.1) (c.deref.ensures.value ∙ are) (or_fault-ok _ _ _ c.in_ok-check_numbers.ensures).0 in (
      at_count c.args.ring c.args.widths.now c.args.session c.args.text.now _ _ (c.deref-3.ensures.value ∙ good.1) are good.0 _ _ (c.len.ensures ∙ many) before (or_fault-ok _ _ _ c.in_ok-check_count.ensures).0,
      c.in_ok-wires_of.ensures ∙ ap₂ (λ n xs. wires_of n c.args.widths.now xs) c.bits-2.ensures.is (c.deref-4.ensures.value ∙ good.1),
    )
