use Rattle.std.proofs.Common.{◌∷◌, [], sym, subst}
use Rattle.std.specs.Prelude.{codes}
use Rattle.std.specs.List.{concat}
use Rattle.outer_io.specs.Sink.{Writes}
use Rattle.mpc_top.specs.Outcomes.{text_of}
use Rattle.mpc_top.specs.Texts.{files_fault_line, usage_text}
use Rattle.mpc_top.proofs.stop_text.write_stop.Goals as goal

pub returns-in-Words-clause-text : goal.returns-in-Words-clause-text
unfolding usage_text
returns-in-Words-clause-text g c =
    subst (λ s. Writes (text_of s) (g.S.Sink.reading c.args.sink.now) (g.S.Sink.reading c.write.new.self) c.write.result) (sym c.in-Words.is) c.write.ensures

pub returns-in-Files-clause-text : goal.returns-in-Files-clause-text
unfolding files_fault_line
returns-in-Files-clause-text g c =
    subst (λ s. Writes (text_of s) (g.S.Sink.reading c.args.sink.now) (g.S.Sink.reading c.write_pieces.new.sink) c.write_pieces.result) (sym c.in-Files.is)
    (subst (λ n. Writes (concat (codes "fault files file=" ∷ n ∷ codes "\n" ∷ [])) (g.S.Sink.reading c.args.sink.now) (g.S.Sink.reading c.write_pieces.new.sink) c.write_pieces.result) c.as_slice.ensures.value c.write_pieces.ensures)
