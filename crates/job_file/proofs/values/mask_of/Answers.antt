use Rattle.std.proofs.Common.{◌≡◌, ◌∙◌, ◌<◌, ◌^◌, ◌+◌, ◌∷◌, ℕ, List, ap, sym, drop, length, subst}
use Rattle.std.specs.Prelude.{bit_or, fold}
use Rattle.std.proofs.lemmas.List.{drop_more}
use Rattle.std.proofs.lemmas.Nat.{or_lt, pow_pos}
use Rattle.std.proofs.Math.Pow.{pow-lt}
use Rattle.toml.specs.View.{view}
use Rattle.toml.specs.declared.value.Value.{Value}
use Rattle.toml_fields.specs.Fields.{text_of}
use Rattle.toml_fields.proofs.Lists.{map_twice}
use Rattle.job_file.specs.Forms.{party_of, mask_of}
use Rattle.job_file.proofs.GrownLists.{fold-map}
use Rattle.job_file.proofs.values.mask_of.Goals as goal

pub loop-reader-init : goal.loop-reader-init
unfolding mask_of
loop-reader-init c =
    let names : List (List ℕ) = c.args.names.now in
    record {
      is =
          ap (fold (λ mask reader. bit_or mask (2 ^ party_of names reader)) 0) (map_twice text_of view c.args.readers.now)
          ∙ fold-map (λ mask reader. bit_or mask (2 ^ party_of names reader)) (λ v. text_of (view v)) 0 c.args.readers.now;
      below = pow_pos (length names);
    }

pub loop-reader-preserved : goal.loop-reader-preserved
loop-reader-preserved c =
    let names : List (List ℕ) = c.args.names.now in
    let vs : List Value = c.args.readers.now in
    let i : ℕ = c.loop-reader.reader-index in
    let v : Value = c.reader-item.result in
    let cut : drop i vs ≡ v ∷ drop (i + 1) vs = drop_more vs i v c.loop-reader-test.true ∙ ap (λ x. x ∷ drop (i + 1) vs) (sym c.reader-item.is) in
    let party : c.party_of.result ≡ party_of names (text_of (view v)) = c.party_of.ensures.is ∙ ap (party_of names) c.text_of.ensures in
    let mask : bit_or c.loop-reader.mask (2 ^ party_of names (text_of (view v))) ≡ c.with_party-mask.result = sym (c.with_party-mask.ensures ∙ ap (λ p. bit_or c.loop-reader.mask (2 ^ p)) party) in
    let P : ℕ → Type 0 = λ m. m < 2 ^ length names in
    record {
      is =
          c.loop-reader.invariant.is ∙ ap (fold (λ m (reader : Value). bit_or m (2 ^ party_of names (text_of (view reader)))) c.loop-reader.mask) cut
          ∙ ap (λ m. fold (λ m' (reader : Value). bit_or m' (2 ^ party_of names (text_of (view reader)))) m (drop (i + 1) vs)) mask;
      below = subst P (sym c.with_party-mask.ensures) (or_lt (length names) c.loop-reader.mask (2 ^ c.party_of.result) c.loop-reader.invariant.below (pow-lt c.party_of.ensures.within));
    }
