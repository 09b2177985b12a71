-- The readable form of a name in one of Rust's two manglings: that of older compilers (`Legacy`), or that of current ones (`V0Names`).
use Rattle.std.specs.Prelude.{◌≡◌, ◌⊎◌, ℕ, List, Some}
use Rattle.rust_names.specs.Legacy.{IsLegacy}
use Rattle.rust_names.specs.V0Names.{v0_text}

-- the text is what the name shows
abbrev pub IsShown : List ℕ → List ℕ → Type 0
IsShown name text = IsLegacy name text ⊎ (v0_text name ≡ Some text)

-- the name has no readable form
abbrev pub IsPlainName : List ℕ → Type 0
IsPlainName name = (text : List ℕ) → IsShown name text → ⊥
