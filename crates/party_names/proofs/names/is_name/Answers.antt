use Rattle.std.proofs.Common.{arith, ap, ◌∙◌, sym, ◌≡◌, true, ◌<◌, length}
use Rattle.std.specs.Prelude.{slice_index}
use Rattle.std.specs.List.{list_all}
use Rattle.std.specs.Char.{is_ascii_alphabetic}
use Rattle.party_names.specs.Names.{is_name_byte}
use Rattle.party_names.proofs.NameFaults.{name_is, not_empty}
use Rattle.party_names.proofs.names.is_name.Goals as goal

pub returns-then-has_name_bytes : goal.returns-then-has_name_bytes
returns-then-has_name_bytes c =
    let same : c.as_bytes-bytes.result.now ≡ c.args.name.now = c.as_bytes-bytes.ensures.value in
    let some : 0 < length c.args.name.now = omega (arith, ap length same, not_empty (length c.as_bytes-bytes.result.now) c.if-is_empty.ensures) in
    let letter : is_ascii_alphabetic (slice_index c.as_bytes-bytes.result.now 0) ≡ true = sym c.if-not-is_ascii_alphabetic.ensures.value in
    let bytes : list_all is_name_byte c.as_bytes-bytes.result.now ≡ true = sym c.if-has_name_bytes.ensures in
    name_is c.args.name.now c.ne.result some (omega (arith, ap length same)) (ap (λ xs. is_ascii_alphabetic (slice_index xs 0)) (sym same) ∙ letter) (ap (list_all is_name_byte) (sym same) ∙ bytes) c.ne.ensures
