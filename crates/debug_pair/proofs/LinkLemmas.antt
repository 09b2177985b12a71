-- Whether the path of a link is valid UTF-8.
use Rattle.std.proofs.Common.{◌≡◌, ℕ, Bool, true, false, List, refl}
use Rattle.std.proofs.lemmas.Str.{IsUtf8-from_is_utf8, is_utf8-from_IsUtf8}
use Rattle.std.specs.Str.{IsUtf8, is_utf8}

pub text_path : (path : List ℕ) → IsUtf8 path → is_utf8 path ≡ true
text_path path is = is_utf8-from_IsUtf8 path is

not_utf8 : (path : List ℕ) (b : Bool) → is_utf8 path ≡ b → (IsUtf8 path → ⊥) → is_utf8 path ≡ false
not_utf8 path true is none = absurd (none (IsUtf8-from_is_utf8 path is))
not_utf8 path false is none = is

pub no_text : (path : List ℕ) → (IsUtf8 path → ⊥) → is_utf8 path ≡ false
no_text path none = not_utf8 path (is_utf8 path) refl none
