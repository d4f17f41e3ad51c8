use Rattle.std.proofs.Common.{◌≡◌, ◌+◌, ◌∷◌, ◌++◌, [], take, get_or, sym, ap, ◌∙◌, arith, append-nil}
use Rattle.std.proofs.lemmas.Grind.{flat_map-append}
use Rattle.std.proofs.lemmas.List.{take_all, take_more}
use Rattle.outer_io.proofs.GatheredTexts.{adds_nothing, adds_then}
use Rattle.text_parts.proofs.GatheredTexts.{adds_same}
use Rattle.node_text.specs.FaultLines.{hex_byte, hex_text}
use Rattle.node_text.proofs.hex.gather_hex.Goals as goal

pub loop-byte-init : goal.loop-byte-init
loop-byte-init g c = adds_nothing _

pub loop-byte-preserved : goal.loop-byte-preserved
loop-byte-preserved g c =
    let bytes = c.args.bytes.now in
    let i = c.loop-byte.byte-index in
    let byte = get_or bytes i _ in
    let more : take (i + 1) bytes ≡ take i bytes ++ byte ∷ [] = take_more bytes i _ c.loop-byte-test.true in
    let text = sym (ap hex_text more ∙ flat_map-append hex_byte (take i bytes) (byte ∷ []) ∙ ap (λ t. hex_text (take i bytes) ++ t) (append-nil (hex_byte byte))) in
    adds_same _ _ _ _ text (adds_then _ _ _ _ _ c.loop-byte.invariant c.gather_byte.ensures)

pub returns : goal.returns
returns g c = adds_same _ _ _ _ (ap hex_text (take_all c.loop-byte.byte-index c.args.bytes.now (omega arith))) c.loop-byte.invariant
