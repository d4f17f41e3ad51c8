use Rattle.std.proofs.Common.{◌≡◌, ℕ, ◌<◌, List, [], ◌++◌, length, ap, ap₂, sym, ◌∙◌, arith}
use Rattle.std.specs.Prelude.{codes, slice_index_or}
use Rattle.std.specs.Global.{Vec}
use Rattle.std.proofs.lemmas.Option.{get_or_from_slice_get}
use Rattle.std.proofs.lemmas.List.{get_or-map}
use Rattle.outer_io.proofs.GatheredTexts.{adds_then}
use Rattle.text_parts.specs.Parts.{words_text}
use Rattle.text_parts.proofs.GatheredTexts.{adds_same}
use Rattle.plan_model.specs.InputWords.{session_words}
use Rattle.output_text.proofs.pair.gather_tape.Goals as goal

-- the words of tape p
words_of : (tapes : List (Vec ℕ)) (p : ℕ) (tape : Vec ℕ) → p < length tapes → tape ≡ slice_index_or tapes p tape → tape.items ≡ slice_index_or (session_words tapes) p []
words_of tapes p tape there is = ap (λ (x : Vec ℕ). x.items) is ∙ sym (get_or-map (λ (x : Vec ℕ). x.items) tapes p tape [] there)

pub returns : goal.returns
returns g c =
    adds_same _ _ _ _
    (ap₂ (λ name words. codes "tape " ++ (name ++ (words_text words ++ codes "\n")))
    (c.as_bytes.ensures.value ∙ sym (get_or_from_slice_get c.args.names.now c.args.p c.name.result.now [] c.name.ensures))
    (c.deref.ensures.value ∙ words_of c.args.tapes.now c.args.p c.index-tapes-p.result (omega (arith, c.requires.tapes, c.requires.party)) c.index-tapes-p.is))
    (adds_then _ _ _ _ _ c.push.ensures (adds_then _ _ _ _ _ c.push-2.ensures (adds_then _ _ _ _ _ c.gather_words.ensures c.push-3.ensures)))
