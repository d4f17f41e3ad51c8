-- The document of some bytes.
use Rattle.std.proofs.Common.{◌≡◌, ℕ, List, None, Some, Bool, true, false, refl, sym}
use Rattle.std.specs.Prelude.{if◌then◌else◌}
use Rattle.std.specs.Str.{IsUtf8, is_utf8}
use Rattle.std.proofs.lemmas.Str.{IsUtf8-from_is_utf8, is_utf8-from_IsUtf8}
use Rattle.toml.specs.Data.{Members}
use Rattle.toml.specs.Parse.{parse_document}
use Rattle.toml_fields.specs.Documents.{document_of}

pub document_ok : (bytes : List ℕ) (found : Members) → IsUtf8 bytes → parse_document bytes ≡ Some found → Some found ≡ document_of bytes
unfolding document_of
document_ok bytes found text is = rw (is_utf8-from_IsUtf8 bytes text) (sym is)

refused_at : (bytes : List ℕ) (b : Bool) → is_utf8 bytes ≡ b → (IsUtf8 bytes → parse_document bytes ≡ None) → None ≡ (if b then parse_document bytes else None)
refused_at bytes true is none = sym (none (IsUtf8-from_is_utf8 bytes is))
refused_at bytes false is none = refl

pub document_refused : (bytes : List ℕ) → (IsUtf8 bytes → parse_document bytes ≡ None) → None ≡ document_of bytes
unfolding document_of
document_refused bytes none = refused_at bytes (is_utf8 bytes) refl none
