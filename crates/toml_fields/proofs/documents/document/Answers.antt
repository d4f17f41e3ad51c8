use Rattle.std.proofs.Common.{subst}
use Rattle.std.proofs.lemmas.Bool.{false≢true}
use Rattle.std.specs.Prelude.{IsTrue}
use Rattle.toml_fields.proofs.DocumentLaws.{document_ok, document_refused}
use Rattle.toml_fields.proofs.documents.document.Goals as goal

pub returns-in-Ok : goal.returns-in-Ok
returns-in-Ok c = document_ok _ _ c.in-Ok.ensures.ok.0 c.in-Ok.ensures.ok.1

pub returns-else-is_memory : goal.returns-else-is_memory
returns-else-is_memory c = document_refused _ (c.in-Err.ensures.refused (λ memory. absurd (false≢true (subst IsTrue c.if-is_memory.false (c.is_memory.ensures.1 memory)))))
