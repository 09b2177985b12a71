-- What follows the last slash of a text, given the part of the text that is not searched yet.
use Rattle.std.specs.Prelude.{ℕ, ◌==◌, Bool, List, if◌then◌else◌}
use Rattle.std.specs.List.{list_any}
use Rattle.core_file.specs.Modules.{behind_slash}

abbrev pub has_slash : List ℕ → Bool
has_slash text = list_any (λ c. c == 47) text

-- what follows the last slash of the rest, or `name` if the rest has no slash
unfoldable pub behind_or : List ℕ → List ℕ → List ℕ
behind_or left name = if has_slash left then behind_slash left else name
