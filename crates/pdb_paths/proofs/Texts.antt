-- Bytes that are UTF-8, by a test and by a fact.
use Rattle.std.proofs.Common.{◌≡◌, ℕ, List, Bool, true, false, refl, sym}
use Rattle.std.specs.Prelude.{IsUtf8}
use Rattle.std.specs.Str.{is_utf8}
use Rattle.std.proofs.lemmas.Str.{IsUtf8-from_is_utf8, is_utf8-from_IsUtf8}

no_text : (bytes : List ℕ) (b : Bool) → is_utf8 bytes ≡ b → (IsUtf8 bytes → ⊥) → b ≡ false
no_text bytes true e broken = absurd (broken (IsUtf8-from_is_utf8 bytes e))
no_text bytes false e broken = refl

-- what was read as a text is one
pub is_text : (bytes : List ℕ) → IsUtf8 bytes → true ≡ is_utf8 bytes
is_text bytes t = sym (is_utf8-from_IsUtf8 bytes t)

pub is_none : (bytes : List ℕ) → (IsUtf8 bytes → ⊥) → false ≡ is_utf8 bytes
is_none bytes broken = sym (no_text bytes (is_utf8 bytes) refl broken)
