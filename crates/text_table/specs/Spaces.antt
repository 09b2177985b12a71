-- How much of a text is held. A name or a path is shown without its leading spaces, and cut off after 65,536 bytes. So of a text, also one that is put
-- behind or before others, more than 65,536 leading spaces are never shown, and nothing behind 131,072 bytes (`laws::held_texts_are_shown_alike`).
use Rattle.std.specs.Prelude.{ℕ, ◌-◌, List, take, drop, unwrap_or}
use Rattle.std.specs.List.{prefix_len}
use Rattle.clean_names.specs.Names.{is_space}
use Rattle.leb_cursor.specs.Texts.{front_text}

-- the bytes with at most 65,536 of their leading spaces
unfoldable pub fewer_spaces : List ℕ → List ℕ
fewer_spaces bytes = drop (prefix_len is_space bytes - 65536) bytes

-- what is held of a text
unfoldable pub held_text : List ℕ → List ℕ
held_text bytes = take 131072 (fewer_spaces bytes)

-- what is held from a place on: the bytes up to the first zero byte, or else to the end
unfoldable pub held_front : List ℕ → List ℕ
held_front bytes = take 131072 (unwrap_or (front_text bytes) bytes)
