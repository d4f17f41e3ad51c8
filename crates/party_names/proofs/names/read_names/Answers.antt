use Rattle.std.proofs.Common.{◌≡◌, ◌<◌, ◌++◌, ◌∷◌, [], ℕ, List, inr, Some, None, false, ap, sym, ◌∙◌, arith, length, map, take, subst}
use Rattle.std.specs.List.{list_any}
use Rattle.std.specs.Str.{bytes_eq}
use Rattle.std.specs.String.{string_bytes}
use Rattle.std.proofs.lemmas.Grind.{common_steps}
use Rattle.std.proofs.lemmas.List.{take_more, get_or-map, length-map}
use Rattle.std.proofs.Math.Seq.{take-length}
use Rattle.std.proofs.lemmas.Result.{err_from_is_err_and}
use Rattle.party_names.specs.Names.{is_name, name_at, name_fault, first_of, first_name_fault, AreNames}
use Rattle.party_names.proofs.NameFaults.{fault_is, first_more, inserted_last, passes, sound, not_empty}
use Rattle.party_names.proofs.names.read_names.Goals as goal

pub returns-in_err-check_name : goal.returns-in_err-check_name
returns-in_err-check_name c =
    let names : List (List ℕ) = map string_bytes c.args.texts.now in
    let within : c.loop-at.at < length c.args.texts.now = omega arith in
    let count : length names ≡ length c.args.texts.now = length-map c.args.texts.now string_bytes in
    let text : c.as_str.result.now ≡ name_at names c.loop-at.at =
    c.as_str.ensures.value ∙ ap string_bytes c.index-texts-at.is ∙ sym (get_or-map string_bytes c.args.texts.now c.loop-at.at c.index-texts-at.result [] within) in
    let here : name_fault (take c.loop-at.at names) (name_at names c.loop-at.at) c.loop-at.at ≡ Some c.in_err-check_name.field-0.0 =
    ap (λ n. name_fault (take c.loop-at.at names) n c.loop-at.at) (sym text) ∙ ap (λ xs. name_fault xs c.as_str.result.now c.loop-at.at) (sym c.loop-at.invariant.read) ∙ c.in_err-check_name.ensures in
    let p = err_from_is_err_and c.from_residual.result c.from_residual.ensures.1 in
    rw (p.1, p.2) (inr (fault_is names c.loop-at.at c.in_err-check_name.field-0.0 (omega (arith, count)) (omega (arith, count)) c.loop-at.invariant.sound here))

pub loop-at-preserved : goal.loop-at-preserved
loop-at-preserved c =
    let names : List (List ℕ) = map string_bytes c.args.texts.now in
    let within : c.loop-at.at < length c.args.texts.now = omega arith in
    let count : length names ≡ length c.args.texts.now = length-map c.args.texts.now string_bytes in
    let text : c.as_str.result.now ≡ name_at names c.loop-at.at =
    c.as_str.ensures.value ∙ ap string_bytes c.index-texts-at.is ∙ sym (get_or-map string_bytes c.args.texts.now c.loop-at.at c.index-texts-at.result [] within) in
    let copy : c.of.result ≡ name_at names c.loop-at.at = c.of.ensures ∙ c.in_ok-clone.ensures.cases ∙ sym c.as_str.ensures.value ∙ text in
    let absent : list_any (λ other. bytes_eq other c.of.result) c.loop-at.names.keys ≡ false =
    rw (copy ∙ sym text) ((passes (is_name c.as_str.result.now) (list_any (λ other. bytes_eq other c.as_str.result.now) c.loop-at.names.keys) c.loop-at.at c.in_ok-check_name.ensures).1) in
    let pushed : c.insert.new.self.keys ≡ c.loop-at.names.keys ++ c.of.result ∷ [] = grind (arith, common_steps, c.insert.ensures.keys, c.if-is_err.ensures, inserted_last c.loop-at.names.keys c.of.result absent) in
    record {
      read = pushed ∙ ap (λ xs. xs ++ c.of.result ∷ []) c.loop-at.invariant.read ∙ ap (λ x. take c.loop-at.at names ++ x ∷ []) copy ∙ sym (take_more names c.loop-at.at [] (omega (arith, count)));
      sound =
          first_more names c.loop-at.at ∙ ap (λ f. first_of f (name_fault (take c.loop-at.at names) (name_at names c.loop-at.at) c.loop-at.at)) c.loop-at.invariant.sound
          ∙ ap (λ n. name_fault (take c.loop-at.at names) n c.loop-at.at) (sym text) ∙ ap (λ xs. name_fault xs c.as_str.result.now c.loop-at.at) (sym c.loop-at.invariant.read) ∙ c.in_ok-check_name.ensures;
    }

pub invariant_of-result : goal.invariant_of-result
invariant_of-result c =
    let names : List (List ℕ) = map string_bytes c.args.texts.now in
    let count : length names ≡ length c.args.texts.now = length-map c.args.texts.now string_bytes in
    let all : c.loop-at.at ≡ length names = omega (arith, count) in
    let same : c.loop-at.names.keys ≡ names = c.loop-at.invariant.read ∙ ap (λ n. take n names) all ∙ take-length names in
    let none : first_name_fault names (length names) ≡ None = ap (first_name_fault names) (sym all) ∙ c.loop-at.invariant.sound in
    subst AreNames (sym same) (sound names (omega (arith, count, not_empty (length c.args.texts.now) c.if-is_empty.ensures)) (omega (arith, count)) none)
