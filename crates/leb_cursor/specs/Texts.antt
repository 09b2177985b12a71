-- Zero-terminated texts, as in the sections of DWARF and the string tables of ELF (DWARF 5, 7.5.5, DW_FORM_string).
use Rattle.std.specs.Prelude.{ℕ, ◌==◌, List, take, position, Option}
use Rattle.std.specs.Option.{option_map}

-- the text at the start: the bytes before the first zero byte; no text if there is no zero byte
unfoldable pub front_text : List ℕ → Option (List ℕ)
front_text bytes = option_map (λ n. take n bytes) (position (λ byte. byte == 0) bytes)
